use Rattle.std.proofs.Common.{◌≡◌, drop}
use Rattle.std.specs.FinMap.Entries.{below_all}
use Rattle.mj_maps.specs.Orders.{bytes_cmp}
use Rattle.mj_recovery.specs.Objects.{pair_entries}
use Rattle.mj_recovery_tests.proofs.objects.is_below.Given as goal

abbrev pub invariant-loop-pair : goal.invariant-loop-pair
invariant-loop-pair l = below_all bytes_cmp l.key (pair_entries (drop l.pair-index l.pairs)) ≡ below_all bytes_cmp l.key (pair_entries l.pairs)
