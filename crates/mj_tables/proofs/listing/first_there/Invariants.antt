use Rattle.std.proofs.Common.{◌≡◌}
use Rattle.mj_cells.specs.Next.{first_of}
use Rattle.mj_tables.specs.Slots.{slots_of}
use Rattle.mj_tables.specs.Listed.{there_along}
use Rattle.mj_tables.proofs.listing.first_there.Given as goal

abbrev pub invariant-loop-key : goal.invariant-loop-key
invariant-loop-key l = first_of (there_along (slots_of l.slots) l.key-iterator) ≡ first_of (there_along (slots_of l.slots) l.initial.key-iterator)
