use Rattle.std.proofs.Common.{◌≡◌, ◌≤◌, T, take, vec_len, vec_capacity}
use Rattle.std.specs.FinMap.Entries.{is_sorted}
use Rattle.mj_maps.specs.Orders.{bytes_cmp}
use Rattle.mj_store.specs.Object.{dropped}
use Rattle.mj_memstore.specs.Pairs.{entries_of}
use Rattle.mj_memstore.specs.Content.{map_of}
use Rattle.mj_memstore.proofs.apply.drop_all.Given as goal

abbrev pub invariant-loop-key : goal.invariant-loop-key
invariant-loop-key l = record {
  pairs : map_of l.pairs.items ≡ dropped (take l.key-index l.keys) (map_of l.fn.pairs.items);
  sorted : T (is_sorted bytes_cmp (entries_of l.pairs.items));
  len : vec_len l.pairs ≤ vec_len l.fn.pairs;
  capacity : vec_capacity l.fn.pairs ≤ vec_capacity l.pairs;
}
