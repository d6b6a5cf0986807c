use Rattle.std.proofs.Common.{List, subst, sym, ap, ◌∙◌}
use Rattle.std.specs.VecDeque.{deque_capacity}
use Rattle.std.specs.Map.{remove_entry}
use Rattle.std.specs.Ordering.{nat_cmp}
use Rattle.std.specs.BTreeMap.{is_at}
use Rattle.mj_store.specs.declared.answer.Ack.{Ack}
use Rattle.mj_store.specs.Causes.{Listed, Reports}
use Rattle.mj_memstore.specs.Memory.{IsMemory, list_of}
use Rattle.mj_memstore.proofs.ListedLemmas.{listed_remove}
use Rattle.mj_memstore.proofs.MemoryLemmas.{memory_reaped, memory_reports, memory_room}
use Rattle.mj_memstore.proofs.store.MemStoreObjectStore.reap.Goals as goal

pub invariant_of-self-2 : goal.invariant_of-self-2
invariant_of-self-2 c =
    let ack = c.in_ok-ack.ack in
    let before = c.args.self.now.listed.entries in
    let taken = c.remove.ensures.entries ∙ ap (λ (a : Ack). remove_entry (is_at (nat_cmp a.op)) before) c.ack.view_is in
    let m = memory_reaped _ ack _ _ _ _ _ _ c.in_ok-ack.ensures.items c.args.self.now.sound in
    record {
      sound = subst (λ (list : List Listed). IsMemory c.args.self.now.objects.entries c.pop_front.new.self.items list c.args.self.now.last c.args.self.now.plan.faults (deque_capacity c.pop_front.new.self))
          (sym (listed_remove ack.op before c.remove.new.self.entries taken))
          (memory_room _ _ _ _ _ _ _ c.in_ok-ack.ensures.capacity m);
    }

pub returns-clause-reported : goal.returns-clause-reported
returns-clause-reported c =
    let ack = c.in_ok-ack.ack in
    let before = c.args.self.now.listed.entries in
    let taken = c.remove.ensures.entries ∙ ap (λ (a : Ack). remove_entry (is_at (nat_cmp a.op)) before) c.ack.view_is in
    subst (λ (list : List Listed). Reports ack c.args.self.now.plan.faults (list_of before) list)
    (sym (listed_remove ack.op before c.remove.new.self.entries taken))
    (memory_reports _ ack _ _ _ _ _ _ c.in_ok-ack.ensures.items c.args.self.now.sound)
