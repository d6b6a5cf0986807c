use Rattle.std.proofs.Common.{sym, ap, subst, ◌∙◌}
use Rattle.mj_maps.specs.Map.{insert}
use Rattle.mj_tables.specs.Slots.{slots_of, safe_cells, safe_slot}
use Rattle.mj_tables.specs.Inside.{AllSafe}
use Rattle.mj_tables.proofs.AllSafe.{safe-written, safe_put}
use Rattle.mj_tables.proofs.SlotHashes.{one_hashed}
use Rattle.mj_tables.proofs.safe_cells.SafeCells.put.Goals as goal

pub returns-clause-ok : goal.returns-clause-ok
returns-clause-ok c =
    ap safe_cells (one_hashed c.self.inside.slots.entries c.insert.new.self.entries c.args.w.key (safe_slot c.args.w.value) c.in_ok-insert.ensures.updates.0)
    ∙ safe-written (slots_of c.self.inside.slots) c.args.w.key c.args.w.value
    ∙ ap (λ m. insert m c.args.w.key c.args.w.value) c.self.view_is

pub invariant_of-self-2 : goal.invariant_of-self-2
invariant_of-self-2 c =
    subst AllSafe (sym (one_hashed c.self.inside.slots.entries c.insert.new.self.entries c.args.w.key (safe_slot c.args.w.value) c.in_ok-insert.ensures.updates.0))
    (safe_put (slots_of c.self.inside.slots) c.args.w.key c.args.w.value c.self.invariant c.requires)
