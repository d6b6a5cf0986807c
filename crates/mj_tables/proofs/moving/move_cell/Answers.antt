use Rattle.std.proofs.Common.{true, refl, ap, subst, ◌∙◌}
use Rattle.mj_maps.specs.Map.{insert, remove}
use Rattle.mj_tables.specs.Slots.{slots_of, safe_slot, Moved}
use Rattle.mj_tables.proofs.SlotHashes.{one_hashed}
use Rattle.mj_tables.proofs.moving.move_cell.Goals as goal

pub returns : goal.returns
returns c =
    let slots = slots_of c.args.slots.now in
    subst (λ o. Moved c.args.table.now slots c.drop_key.new.self (slots_of c.insert.new.self) o true) c.in-Some.ensures (
      refl,
      c.drop_key.ensures ∙ ap (remove c.args.table.now) c.in_ok-key.ensures,
      one_hashed c.args.slots.now.entries c.insert.new.self.entries c.in_ok-key.key (safe_slot c.in_ok-value.value) c.in_ok-insert.ensures.updates.0
          ∙ (λ i. insert slots (c.in_ok-key.ensures i) (safe_slot (c.in_ok-value.ensures i))),
    )
