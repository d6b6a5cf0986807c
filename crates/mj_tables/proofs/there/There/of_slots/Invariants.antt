use Rattle.std.proofs.Common.{true, false, ◌++◌}
use Rattle.mj_tables.specs.There.{HasKind}
use Rattle.mj_tables.proofs.Found.{AreFound}
use Rattle.mj_tables.proofs.there.There.of_slots.Given as goal

abbrev pub invariant-loop-key : goal.invariant-loop-key
invariant-loop-key l = AreFound l.slots.entries l.key-iterator (record { keys = l.dirs.items ++ l.others.items }) × HasKind true (record { keys = l.dirs.items }) × HasKind false (record { keys = l.others.items })
