use Rattle.std.proofs.Common.{◌≡◌, take}
use Rattle.mj_chronicle.proofs.chronicle.copy_all.Given as goal

abbrev pub invariant-loop-entry : goal.invariant-loop-entry
invariant-loop-entry l = l.same ≡ take l.entry-index l.entries
