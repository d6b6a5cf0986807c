use Rattle.std.proofs.Common.{◌∙◌, ◌<◌, true, None, Some, cond, List, ℕ, length, sym, subst, ap, refl, arith}
use Rattle.mj_journaler.specs.Ring.{Ascends}
use Rattle.mj_journaler.specs.declared.sent.Slot.{Slot}
use Rattle.mj_journaler.proofs.Rings.{absent, marked, found_at, numbers_set}
use Rattle.mj_journaler.proofs.ring.mark_done.Goals as goal

pub returns-in-None-clause-was : goal.returns-in-None-clause-was
returns-in-None-clause-was c =
    let q = c.args.slots.now in
    sym (absent q.items c.args.op (λ k l. c.in-None.ensures k (omega (arith, l, q.ok.0)))).1

pub returns-in-None-clause-rest : goal.returns-in-None-clause-rest
returns-in-None-clause-rest c =
    let q = c.args.slots.now in
    sym (absent q.items c.args.op (λ k l. c.in-None.ensures k (omega (arith, l, q.ok.0)))).0

pub returns-then-slot-clause-was : goal.returns-then-slot-clause-was
returns-then-slot-clause-was c =
    let q = c.args.slots.now in
    let slot : Slot = c.index_mut-slot.result.now in
    let within : c.in-Some.i < length q.items = omega (arith, q.ok.0, c.in-Some.ensures.0) in
    sym (found_at q.items c.in-Some.i c.args.op slot c.requires within c.in-Some.ensures.1 c.index_mut-slot.ensures.value ∙ ap (λ b. cond b None (Some slot.sent)) c.if-slot.true)

pub returns-then-slot-clause-rest : goal.returns-then-slot-clause-rest
returns-then-slot-clause-rest c =
    let q = c.args.slots.now in
    let slot : Slot = c.index_mut-slot.result.now in
    let within : c.in-Some.i < length q.items = omega (arith, q.ok.0, c.in-Some.ensures.0) in
    marked q.items c.in-Some.i c.args.op slot c.requires within c.in-Some.ensures.1 c.if-slot.true

pub returns-else-slot-clause-was : goal.returns-else-slot-clause-was
returns-else-slot-clause-was c =
    let q = c.args.slots.now in
    let slot : Slot = c.index_mut-slot.result.now in
    let within : c.in-Some.i < length q.items = omega (arith, q.ok.0, c.in-Some.ensures.0) in
    sym (found_at q.items c.in-Some.i c.args.op slot c.requires within c.in-Some.ensures.1 c.index_mut-slot.ensures.value ∙ ap (λ b. cond b None (Some slot.sent)) c.if-slot.false)

pub returns-else-slot-clause-rest : goal.returns-else-slot-clause-rest
returns-else-slot-clause-rest c =
    let q = c.args.slots.now in
    let slot : Slot = record { sent = c.index_mut-slot.result.now.sent; done = true } in
    let within : c.in-Some.i < length q.items = omega (arith, q.ok.0, c.in-Some.ensures.0) in
    marked q.items c.in-Some.i c.args.op slot c.requires within c.in-Some.ensures.1 refl

pub returns-else-slot-clause-ascends : goal.returns-else-slot-clause-ascends
returns-else-slot-clause-ascends c =
    let q = c.args.slots.now in
    let slot : Slot = record { sent = c.index_mut-slot.result.now.sent; done = true } in
    let within : c.in-Some.i < length q.items = omega (arith, q.ok.0, c.in-Some.ensures.0) in
    subst (λ (m : List ℕ). Ascends m) (sym (numbers_set q.items c.in-Some.i slot c.index_mut-slot.result.now within c.index_mut-slot.ensures.value refl)) c.requires
