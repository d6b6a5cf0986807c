use Rattle.std.proofs.Common.{◌≡◌, ◌+◌, ◌≤◌, ◌++◌, length, drop}
use Rattle.std.specs.VecDeque.{deque_len}
use Rattle.mj_journaler.specs.Buffered.{joined, first_block}
use Rattle.mj_journaler.proofs.buffer.released.Given as goal

abbrev pub invariant-blocks-2 : goal.invariant-blocks-2
invariant-blocks-2 l = record {
  inside : l.start ≤ length (first_block l.full.items l.last);
  enough : l.start + l.left ≤ length (joined l.full.items ++ l.last);
  behind : drop (l.start + l.left) (joined l.full.items ++ l.last) ≡ drop (l.taken + l.n) (joined l.initial.full.items ++ l.last);
}

abbrev pub decreases-blocks-2 : goal.decreases-blocks-2
decreases-blocks-2 l = deque_len l.full
