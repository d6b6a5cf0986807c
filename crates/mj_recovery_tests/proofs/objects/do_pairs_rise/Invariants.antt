use Rattle.std.proofs.Common.{◌≡◌, drop}
use Rattle.std.specs.FinMap.Entries.{is_sorted}
use Rattle.mj_maps.specs.Orders.{bytes_cmp}
use Rattle.mj_recovery.specs.Objects.{pair_entries}
use Rattle.mj_recovery_tests.proofs.objects.do_pairs_rise.Given as goal

abbrev pub invariant-loop-i : goal.invariant-loop-i
invariant-loop-i l = is_sorted bytes_cmp (pair_entries (drop l.i l.pairs)) ≡ is_sorted bytes_cmp (pair_entries l.pairs)
