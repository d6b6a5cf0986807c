use Rattle.std.proofs.Common.{◌≡◌, ◌≤◌}
use Rattle.std.specs.VecDeque.{deque_len}
use Rattle.mj_journaler.specs.Ring.{numbers, out_of, spare, Ascends}
use Rattle.mj_journaler.proofs.ring.drop_done_ahead.Given as goal

abbrev pub invariant-done : goal.invariant-done
invariant-done l = record {
  out : out_of l.slots.items ≡ out_of l.initial.slots.items;
  ascends : Ascends (numbers l.slots.items);
  room : spare l.initial.slots ≤ spare l.slots;
}

abbrev pub decreases-done : goal.decreases-done
decreases-done l = deque_len l.slots
