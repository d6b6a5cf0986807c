use Rattle.std.proofs.Common.{◌≡◌, ◌∙◌, [], ◌∷◌, ◌++◌, List, sym, subst, arith}
use Rattle.std.proofs.lemmas.Bool.{not-true, not-false}
use Rattle.mj_journaler.specs.Ring.{numbers, Ascends, BeginsOut, EndsOut}
use Rattle.mj_journaler.specs.declared.sent.Slot.{Slot}
use Rattle.mj_journaler.proofs.Rings.{out_dropped, ascends_front, begins_front, ends_pushed}
use Rattle.mj_journaler.proofs.ring.drop_done_behind.Goals as goal

pub done-preserved : goal.done-preserved
done-preserved c =
    let more : List Slot = c.pop_back.new.self.items in
    let parts : c.done.slots.items ≡ more ++ c.in-Some.slot ∷ [] = c.in-Some.ensures.items in
    record {
      out = out_dropped more c.done.slots.items c.in-Some.slot parts (not-false c.in-Some.slot.done c.if-not-slot.false) ∙ c.done.invariant.out;
      ascends = ascends_front more (c.in-Some.slot ∷ []) (subst (λ (m : List Slot). Ascends (numbers m)) parts c.done.invariant.ascends);
      begins = begins_front more (c.in-Some.slot ∷ []) (subst (λ (m : List Slot). BeginsOut m) parts c.done.invariant.begins);
      room = omega (arith, c.in-Some.ensures.cases, c.in-Some.ensures.capacity, c.done.invariant.room);
    }

pub returns-then-not-slot-clause-ends : goal.returns-then-not-slot-clause-ends
returns-then-not-slot-clause-ends c =
    subst (λ (m : List Slot). EndsOut m) (sym c.push_back_reserved.ensures.items) (ends_pushed c.pop_back.new.self.items c.in-Some.slot (not-true c.in-Some.slot.done c.if-not-slot.true))
