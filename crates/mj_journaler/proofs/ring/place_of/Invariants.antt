use Rattle.std.proofs.Common.{ℕ, ◌<◌, ◌≤◌, ◌-◌, get_or}
use Rattle.std.specs.VecDeque.{deque_len}
use Rattle.mj_journaler.specs.Ring.{numbers}
use Rattle.mj_journaler.proofs.ring.place_of.Given as goal

abbrev pub invariant-halves : goal.invariant-halves
invariant-halves l = record {
  within : l.high ≤ deque_len l.slots;
  below : (k : ℕ) → k < l.low → get_or (numbers l.slots.items) k 0 < l.op;
  above : (k : ℕ) → l.high ≤ k → k < deque_len l.slots → l.op < get_or (numbers l.slots.items) k 0;
}

abbrev pub decreases-halves : goal.decreases-halves
decreases-halves l = l.high - l.low
