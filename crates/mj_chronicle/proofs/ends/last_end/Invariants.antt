use Rattle.std.proofs.Common.{◌≡◌, take}
use Rattle.mj_chronicle.specs.Ends.{last_end}
use Rattle.mj_chronicle.proofs.ends.last_end.Given as goal

abbrev pub invariant-loop-entry : goal.invariant-loop-entry
invariant-loop-entry l = l.last ≡ last_end l.client l.tid (take l.entry-index l.entries)
