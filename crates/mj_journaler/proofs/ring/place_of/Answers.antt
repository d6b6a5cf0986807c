use Rattle.std.proofs.Common.{◌≡◌, ◌+◌, ◌-◌, ◌/◌, ◌<◌, length, get_or, arith}
use Rattle.mj_journaler.specs.Ring.{numbers}
use Rattle.mj_journaler.proofs.Rings.{number_at, ascends_up, ascends_down}
use Rattle.mj_journaler.proofs.ring.place_of.Goals as goal

pub halves-preserved-then-number-op-2 : goal.halves-preserved-then-number-op-2
halves-preserved-then-number-op-2 c =
    let q = c.args.slots.now in
    let m = c.halves.low + (c.halves.high - c.halves.low) / 2 in
    let within : m < length q.items = omega (arith, q.ok.0, c.halves.invariant.within) in
    let here : get_or (numbers q.items) m 0 ≡ c.index.result.now.sent.op = number_at q.items m c.index.result.now within c.index.ensures in
    record {
      within = omega arith;
      below = λ k h. ascends_up q.items m k c.args.op c.requires within (omega (arith, here)) (omega arith);
      above = c.halves.invariant.above;
    }

pub halves-preserved : goal.halves-preserved
halves-preserved c =
    let q = c.args.slots.now in
    let m = c.halves.low + (c.halves.high - c.halves.low) / 2 in
    let within : m < length q.items = omega (arith, q.ok.0, c.halves.invariant.within) in
    let here : get_or (numbers q.items) m 0 ≡ c.index.result.now.sent.op = number_at q.items m c.index.result.now within c.index.ensures in
    record {
      within = omega arith;
      below = c.halves.invariant.below;
      above = λ k h l. ascends_down q.items m k c.args.op c.requires (omega arith) (omega (arith, here)) (omega arith);
    }
