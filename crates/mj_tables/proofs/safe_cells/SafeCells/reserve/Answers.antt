use Rattle.std.proofs.Common.{sym, ap, subst, ◌∙◌}
use Rattle.mj_tables.specs.Slots.{safe_cells}
use Rattle.mj_tables.specs.Inside.{AllSafe}
use Rattle.mj_tables.proofs.SlotHashes.{same_hashed}
use Rattle.mj_tables.proofs.safe_cells.SafeCells.reserve.Goals as goal

pub invariant_of-self : goal.invariant_of-self
invariant_of-self c = subst AllSafe (sym (same_hashed c.self.inside.slots.entries c.reserve.new.self.entries c.reserve.ensures.entries.2)) c.self.invariant

pub returns : goal.returns
returns c = record { same = ap safe_cells (same_hashed c.self.inside.slots.entries c.reserve.new.self.entries c.reserve.ensures.entries.2) ∙ c.self.view_is }
