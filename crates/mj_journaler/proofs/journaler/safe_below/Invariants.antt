use Rattle.std.proofs.Common.{◌≡◌, ◌≤◌}
use Rattle.std.specs.VecDeque.{deque_len}
use Rattle.mj_journaler.specs.Outstanding.{last_end, ends_above}
use Rattle.mj_journaler.specs.Ring.{spare}
use Rattle.mj_journaler.proofs.journaler.safe_below.Given as goal

abbrev pub invariant-done : goal.invariant-done
invariant-done l = record {
  safe : last_end l.last l.ends.items l.at ≡ last_end l.before l.initial.ends.items l.at;
  ends : ends_above l.ends.items l.at ≡ ends_above l.initial.ends.items l.at;
  room : spare l.initial.ends ≤ spare l.ends;
}

abbrev pub decreases-done : goal.decreases-done
decreases-done l = deque_len l.ends
