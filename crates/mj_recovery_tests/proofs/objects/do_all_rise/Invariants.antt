use Rattle.std.proofs.Common.{◌≡◌, drop}
use Rattle.std.specs.List.{list_all}
use Rattle.std.specs.FinMap.Entries.{is_sorted}
use Rattle.mj_maps.specs.Orders.{bytes_cmp}
use Rattle.mj_store.specs.declared.held.HeldObject.{HeldObject}
use Rattle.mj_recovery.specs.Objects.{pair_entries}
use Rattle.mj_recovery_tests.proofs.objects.do_all_rise.Given as goal

abbrev pub invariant-loop-object : goal.invariant-loop-object
invariant-loop-object l = list_all (λ (h : HeldObject). is_sorted bytes_cmp (pair_entries h.pairs)) (drop l.object-index l.objects) ≡ list_all (λ (h : HeldObject). is_sorted bytes_cmp (pair_entries h.pairs)) l.objects
