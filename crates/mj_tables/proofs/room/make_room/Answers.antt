use Rattle.std.proofs.Common.{◌≡◌, not, OnOk, sym, ap, subst, ◌∙◌}
use Rattle.std.specs.Prelude.{is_some}
use Rattle.std.specs.Option.{option_and_then}
use Rattle.mj_tables.specs.Slots.{Slots, slots_of, there_in}
use Rattle.mj_tables.proofs.Writes.{some_map}
use Rattle.mj_tables.proofs.SlotMaps.{room_already, room_added}
use Rattle.mj_tables.proofs.SlotHashes.{found_slot}
use Rattle.mj_tables.proofs.KeySets.{added_already}
use Rattle.mj_tables.proofs.room.make_room.Goals as goal

pub returns-in_ok-add_key-in-Some-clause-ok : goal.returns-in_ok-add_key-in-Some-clause-ok
returns-in_ok-add_key-in-Some-clause-ok c = room_already (slots_of c.args.slots.now) c.args.key.now c.in-Some.slot.now (found_slot c.args.slots.now.entries c.args.key.now _ c.in-Some.ensures.value)

pub returns-else-is_none-clause-ok : goal.returns-else-is_none-clause-ok
returns-else-is_none-clause-ok c = room_already (slots_of c.args.slots.now) c.args.key.now c.in-Some.slot.now (found_slot c.args.slots.now.entries c.args.key.now _ c.in-Some.ensures.value)

pub returns-else-is_none-clause-added : goal.returns-else-is_none-clause-added
returns-else-is_none-clause-added c = added_already c.args.there.now c.args.key.now (c.requires c.args.key.now (
    ap (λ o. is_some (option_and_then there_in o)) (found_slot c.args.slots.now.entries c.args.key.now _ c.in-Some.ensures.value)
    ∙ sym (ap is_some c.there.ensures) ∙ some_map _ c.there.result ∙ c.is_none.ensures ∙ ap not c.if-is_none.false
    ))

pub returns-in-None-clause-ok : goal.returns-in-None-clause-ok
returns-in-None-clause-ok c =
    subst (λ (m : Slots). OnOk c.add_room.result (slots_of c.add_room.new.slots ≡ m)) (room_added (slots_of c.args.slots.now) c.args.key.now (found_slot c.args.slots.now.entries c.args.key.now _ c.in-None.ensures.value)) c.add_room.ensures.ok
