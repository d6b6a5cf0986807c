use Rattle.std.proofs.Common.{length}
use Rattle.mj_tables.specs.Slots.{slots_of}
use Rattle.mj_tables.proofs.Laid.{AreSettling}
use Rattle.mj_tables.proofs.settling.settle_ended.Given as goal

abbrev pub invariant-loop-group : goal.invariant-loop-group
invariant-loop-group l = AreSettling l.upto (slots_of l.initial.slots) l.initial.groups.items (slots_of l.slots) l.groups.items

abbrev pub decreases-loop-group : goal.decreases-loop-group
decreases-loop-group l = length l.groups.items
