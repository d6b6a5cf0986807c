use Rattle.std.proofs.Common.{◌≡◌, ℕ, true, false, cond, Option, Some, None, sym, ap, ◌∙◌, refl}
use Rattle.std.specs.Prelude.{is_some}
use Rattle.mj_maps.specs.Map.{insert}
use Rattle.mj_tables.specs.declared.slot.Ahead.{Ahead}
use Rattle.mj_tables.specs.declared.slot.Slot.{Slot}
use Rattle.mj_tables.specs.Slots.{slots_of, settling, ahead_after, is_last}
use Rattle.mj_tables.proofs.SlotHashes.{one_hashed, found_slot, altered_is}
use Rattle.mj_tables.proofs.slot.settle.Goals as goal

last_goes : (ends : ℕ) (o : Option Ahead) → is_last ends o ≡ true → ahead_after ends o ≡ None
last_goes ends None h = refl
last_goes ends (Some a) h = ap (λ b. cond b None (Some a)) h

later_stays : (ends : ℕ) (o : Option Ahead) → is_last ends o ≡ false → ahead_after ends o ≡ o
later_stays ends None h = refl
later_stays ends (Some a) h = ap (λ b. cond b None (Some a)) h

pub returns-then-is_last : goal.returns-then-is_last
returns-then-is_last c =
    let new : Slot = record { safe = Some c.args.value; ahead = None } in
    let wrote = (c.get_mut.follows.holds new).3 (ap is_some (sym c.in-Some.ensures.value)) in
    let is : ◌≡◌ {A = Slot} new (settling c.args.value c.args.ends c.in-Some.slot.now) =
    λ i. record { safe = Some c.args.value; ahead = sym (last_goes c.args.ends c.in-Some.slot.now.ahead (sym c.is_last-is_last.ensures ∙ c.if-is_last.true)) i } in
    one_hashed c.args.slots.now.entries (c.get_mut.follows.lender new).entries c.args.key.now new wrote.0
    ∙ ap (insert (slots_of c.args.slots.now) c.args.key.now) is
    ∙ sym (altered_is (slots_of c.args.slots.now) c.args.key.now (settling c.args.value c.args.ends) (Some c.in-Some.slot.now) (found_slot c.args.slots.now.entries c.args.key.now _ c.in-Some.ensures.value))

pub returns-else-is_last : goal.returns-else-is_last
returns-else-is_last c =
    let new : Slot = record { safe = Some c.args.value; ahead = c.in-Some.slot.now.ahead } in
    let wrote = (c.get_mut.follows.holds new).3 (ap is_some (sym c.in-Some.ensures.value)) in
    let is : ◌≡◌ {A = Slot} new (settling c.args.value c.args.ends c.in-Some.slot.now) =
    λ i. record { safe = Some c.args.value; ahead = sym (later_stays c.args.ends c.in-Some.slot.now.ahead (sym c.is_last-is_last.ensures ∙ c.if-is_last.false)) i } in
    one_hashed c.args.slots.now.entries (c.get_mut.follows.lender new).entries c.args.key.now new wrote.0
    ∙ ap (insert (slots_of c.args.slots.now) c.args.key.now) is
    ∙ sym (altered_is (slots_of c.args.slots.now) c.args.key.now (settling c.args.value c.args.ends) (Some c.in-Some.slot.now) (found_slot c.args.slots.now.entries c.args.key.now _ c.in-Some.ensures.value))

pub returns-in_default : goal.returns-in_default
returns-in_default c = ap slots_of c.get_mut.follows.holds-at-none ∙ sym (altered_is (slots_of c.args.slots.now) c.args.key.now (settling c.args.value c.args.ends) None (found_slot c.args.slots.now.entries c.args.key.now _ c.in_default.ensures.value))
