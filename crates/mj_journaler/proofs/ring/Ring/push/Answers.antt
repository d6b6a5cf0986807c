use Rattle.std.proofs.Common.{◌≡◌, ◌∙◌, [], ◌∷◌, ◌++◌, false, List, sym, subst, ap, refl}
use Rattle.mj_store.specs.Causes.{In}
use Rattle.mj_journaler.specs.Ring.{Ringed, numbers, out_of, Ascends, BeginsOut, EndsOut}
use Rattle.mj_journaler.specs.declared.sent.Sent.{Sent}
use Rattle.mj_journaler.specs.declared.sent.Slot.{Slot}
use Rattle.mj_journaler.proofs.Rings.{out_pushed, ascends_pushed, begins_pushed, ends_pushed}
use Rattle.mj_journaler.proofs.ring.Ring.push.Goals as goal

pub invariant_of-self : goal.invariant_of-self
invariant_of-self c =
    let before : List Slot = c.self.inside.slots.items in
    let slot : Slot = record { sent = c.args.sent; done = false } in
    let is : out_of before ≡ c.args.self.now.sent = ap (λ (r : Ringed). r.sent) c.self.view_is in (
      subst (λ (m : List Slot). Ascends (numbers m)) (sym c.push_back_reserved.ensures.items)
          (ascends_pushed before slot c.self.invariant.0 c.self.invariant.2 (λ w i. c.requires.newest w (subst (λ (m : List Sent). In w m) is i))),
      subst (λ (m : List Slot). BeginsOut m) (sym c.push_back_reserved.ensures.items) (begins_pushed before slot c.self.invariant.1 refl),
      subst (λ (m : List Slot). EndsOut m) (sym c.push_back_reserved.ensures.items) (ends_pushed before slot refl),
    )

pub returns : goal.returns
returns c =
    let slot : Slot = record { sent = c.args.sent; done = false } in
    out_pushed c.self.inside.slots.items c.push_back_reserved.new.self.items slot c.push_back_reserved.ensures.items refl
    ∙ ap (λ (m : List Sent). m ++ c.args.sent ∷ []) (ap (λ (r : Ringed). r.sent) c.self.view_is)
