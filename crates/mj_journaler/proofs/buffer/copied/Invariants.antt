use Rattle.std.proofs.Common.{◌≡◌, ◌+◌, ◌-◌, ◌≤◌, ◌++◌, length, take, drop}
use Rattle.std.specs.VecDeque.{deque_len}
use Rattle.mj_journaler.specs.Buffered.{joined, first_block}
use Rattle.mj_journaler.proofs.buffer.copied.Given as goal

abbrev pub invariant-blocks-2 : goal.invariant-blocks-2
invariant-blocks-2 l = record {
  there : l.i ≤ deque_len l.full;
  inside : l.start ≤ length (first_block (drop l.i l.full.items) l.last);
  enough : l.start + l.left ≤ length (joined (drop l.i l.full.items) ++ l.last);
  front : l.bytes.items ++ take l.left (drop l.start (joined (drop l.i l.full.items) ++ l.last)) ≡ take l.n (drop l.taken (joined l.full.items ++ l.last));
}

abbrev pub decreases-blocks-2 : goal.decreases-blocks-2
decreases-blocks-2 l = deque_len l.full - l.i
