use Rattle.std.proofs.Common.{◌≡◌, ◌≤◌, ◌+◌, T, length, vec_len, vec_capacity}
use Rattle.std.specs.FinMap.Entries.{is_sorted}
use Rattle.mj_maps.specs.Orders.{bytes_cmp}
use Rattle.mj_store.specs.Object.{all_set}
use Rattle.mj_memstore.specs.Pairs.{entries_of}
use Rattle.mj_memstore.specs.Content.{map_of}
use Rattle.mj_memstore.proofs.apply.set_all.Given as goal

abbrev pub invariant-loop-pair : goal.invariant-loop-pair
invariant-loop-pair l = record {
  pairs : map_of l.pairs.items ≡ all_set l.yielded (map_of l.fn.pairs.items);
  sorted : T (is_sorted bytes_cmp (entries_of l.pairs.items));
  len : vec_len l.pairs ≤ vec_len l.fn.pairs + length l.yielded;
  capacity : vec_capacity l.fn.pairs ≤ vec_capacity l.pairs;
}
