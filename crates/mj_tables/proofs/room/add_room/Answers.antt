use Rattle.std.proofs.Common.{ap, subst, ◌∙◌}
use Rattle.mj_maps.specs.Map.{insert}
use Rattle.mj_cells.specs.declared.cell.CellKey.{CellKey}
use Rattle.mj_tables.specs.Slots.{slots_of, empty_slot}
use Rattle.mj_tables.specs.Listed.{Adds}
use Rattle.mj_tables.proofs.SlotHashes.{one_hashed}
use Rattle.mj_tables.proofs.room.add_room.Goals as goal

pub returns-clause-ok : goal.returns-clause-ok
returns-clause-ok c =
    one_hashed c.args.slots.now.entries c.insert-2.new.self.entries c.in_ok-own.own empty_slot c.in_ok-insert-2.ensures.updates.0
    ∙ ap (λ (k : CellKey). insert (slots_of c.args.slots.now) k empty_slot) c.in_ok-own.ensures

pub returns-clause-added : goal.returns-clause-added
returns-clause-added c = subst (λ (k : CellKey). Adds c.args.there.now k c.insert.new.self) c.in_ok-listed.ensures c.in_ok-insert.ensures.ok
