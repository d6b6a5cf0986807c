use Rattle.std.proofs.Common.{◌≡◌, ◌++◌}
use Rattle.mj_memstore.specs.Holding.{entries_holding}
use Rattle.mj_memstore.proofs.objects.hold_all.Given as goal

abbrev pub invariant-loop-object : goal.invariant-loop-object
invariant-loop-object l = record {
  held : l.held.entries ≡ entries_holding l.yielded;
  rest : l.yielded ++ l.object-iterator.rest.items ≡ l.fn.objects.items;
}
