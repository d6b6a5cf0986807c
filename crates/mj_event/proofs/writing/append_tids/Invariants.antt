use Rattle.std.proofs.Common.{◌≡◌, ◌++◌, take}
use Rattle.std.specs.List.{flat_map}
use Rattle.mj_base.specs.Reading.{eight}
use Rattle.mj_event.proofs.writing.append_tids.Given as goal

abbrev pub invariant-loop-tid : goal.invariant-loop-tid
invariant-loop-tid l = l.out.items ≡ l.initial.out.items ++ flat_map eight (take l.tid-index l.tids)
