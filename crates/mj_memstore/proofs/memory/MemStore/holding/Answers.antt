use Rattle.std.proofs.Common.{List, ap, sym, subst, ◌∙◌}
use Rattle.std.specs.VecDeque.{deque_capacity}
use Rattle.mj_store.specs.Causes.{Listed}
use Rattle.mj_memstore.specs.Memory.{IsMemory, list_of, held_objects}
use Rattle.mj_memstore.proofs.HoldingLemmas.{memory_new, holding_state, holding_objects}
use Rattle.mj_memstore.proofs.memory.MemStore.holding.Goals as goal

pub invariant_of-result : goal.invariant_of-result
invariant_of-result c = record {
  sound = subst (λ (list : List Listed). IsMemory c.in_ok-hold_all.field-0.entries c.new.result.items list 0 c.in_ok-new.field-0.faults (deque_capacity c.new.result)) (sym (ap list_of c.new-2.ensures.empty))
      (memory_new c.args.objects.items c.in_ok-hold_all.field-0.entries c.new.result.items c.in_ok-new.field-0.faults (deque_capacity c.new.result) c.requires c.in_ok-hold_all.ensures c.new.ensures.items);
}

pub returns : goal.returns
returns c = record {
  state = holding_state c.args.objects.items c.in_ok-hold_all.field-0.entries c.new.result.items c.in_ok-hold_all.ensures c.new.ensures.items;
  list = ap list_of c.new-2.ensures.empty;
  plan = c.in_ok-new.ensures;
  held = ap held_objects c.in_ok-hold_all.ensures ∙ holding_objects c.args.objects.items;
}
