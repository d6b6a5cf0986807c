use Rattle.std.proofs.Common.{Some, None, sym, ap, ◌∙◌}
use Rattle.std.specs.Prelude.{is_some}
use Rattle.mj_tables.specs.declared.slot.Slot.{Slot}
use Rattle.mj_tables.specs.Slots.{slots_of, projecting}
use Rattle.mj_tables.proofs.SlotHashes.{one_hashed, found_slot, altered_is}
use Rattle.mj_tables.proofs.slot.project.Goals as goal

pub returns-in-Some : goal.returns-in-Some
returns-in-Some c =
    let new : Slot = projecting c.args.value c.args.ends c.in-Some.slot.now in
    let wrote = (c.get_mut.follows.holds new).3 (ap is_some (sym c.in-Some.ensures.value)) in
    one_hashed c.args.slots.now.entries (c.get_mut.follows.lender new).entries c.args.key.now new wrote.0
    ∙ sym (altered_is (slots_of c.args.slots.now) c.args.key.now (projecting c.args.value c.args.ends) (Some c.in-Some.slot.now) (found_slot c.args.slots.now.entries c.args.key.now _ c.in-Some.ensures.value))

pub returns-in_default : goal.returns-in_default
returns-in_default c = ap slots_of c.get_mut.follows.holds-at-none ∙ sym (altered_is (slots_of c.args.slots.now) c.args.key.now (projecting c.args.value c.args.ends) None (found_slot c.args.slots.now.entries c.args.key.now _ c.in_default.ensures.value))
