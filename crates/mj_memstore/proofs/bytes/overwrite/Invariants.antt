use Rattle.std.proofs.Common.{◌≡◌, ◌≤◌, ◌+◌, ◌++◌, take, drop, length, vec_capacity}
use Rattle.mj_memstore.proofs.bytes.overwrite.Given as goal

abbrev pub invariant-loop-i : goal.invariant-loop-i
invariant-loop-i l = record {
  items : l.bytes.items ≡ take l.at l.fn.bytes.items ++ take l.i l.new ++ drop (l.at + l.i) l.fn.bytes.items;
  same : length l.bytes.items ≡ length l.fn.bytes.items;
  capacity : vec_capacity l.fn.bytes ≤ vec_capacity l.bytes;
}
