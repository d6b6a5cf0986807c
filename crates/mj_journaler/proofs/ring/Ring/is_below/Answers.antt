use Rattle.std.proofs.Common.{◌≡◌, ◌<◌, ◌≤◌, ◌+◌, ◌-◌, List, length, ap, sym, subst, arith}
use Rattle.std.specs.VecDeque.{deque_len}
use Rattle.std.proofs.lemmas.Bool.{ltb-true, ltb-false}
use Rattle.mj_store.specs.Causes.{In}
use Rattle.mj_journaler.specs.Ring.{Ringed, out_of}
use Rattle.mj_journaler.specs.declared.sent.Sent.{Sent}
use Rattle.mj_journaler.specs.declared.sent.Slot.{Slot}
use Rattle.mj_journaler.proofs.Rings.{last_most, last_out}
use Rattle.mj_journaler.proofs.ring.Ring.is_below.Goals as goal

pub returns-in-Some-clause-yes : goal.returns-in-Some-clause-yes
returns-in-Some-clause-yes c = λ yes w i.
    let q = c.self.inside.slots in
    let is : out_of q.items ≡ c.args.self.now.sent = ap (λ (r : Ringed). r.sent) c.self.view_is in
    let within : deque_len q - 1 < length q.items = omega (arith, c.in-Some.ensures.item.3.0, q.ok.0) in
    omega (
      arith,
      ltb-true c.in-Some.slot.now.sent.op c.args.op yes,
      last_most q.items c.in-Some.slot.now (deque_len q - 1) within (omega (arith, q.ok.0)) c.in-Some.ensures.lookup c.self.invariant.0 w (subst (λ (m : List Sent). In w m) (sym is) i),
    )

pub returns-in-Some-clause-no : goal.returns-in-Some-clause-no
returns-in-Some-clause-no c = λ no each.
    let q = c.self.inside.slots in
    let is : out_of q.items ≡ c.args.self.now.sent = ap (λ (r : Ringed). r.sent) c.self.view_is in
    let within : deque_len q - 1 < length q.items = omega (arith, c.in-Some.ensures.item.3.0, q.ok.0) in
    omega (
      arith,
      ltb-false c.in-Some.slot.now.sent.op c.args.op no,
      each c.in-Some.slot.now.sent (subst (λ (m : List Sent). In c.in-Some.slot.now.sent m) is (last_out q.items c.in-Some.slot.now (deque_len q - 1) within (omega (arith, q.ok.0)) c.in-Some.ensures.lookup c.self.invariant.2)),
    )
