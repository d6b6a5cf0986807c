use Rattle.std.proofs.Common.{List, sym, subst}
use Rattle.std.specs.VecDeque.{deque_capacity}
use Rattle.mj_store.specs.declared.answer.Ack.{Ack}
use Rattle.mj_memstore.specs.Memory.{IsMemory, list_of}
use Rattle.mj_memstore.proofs.MemoryLemmas.{memory_placed}
use Rattle.mj_memstore.proofs.submit.make_room.Goals as goal

pub returns-clause-memory : goal.returns-clause-memory
returns-clause-memory c last faults m =
    subst (λ (acks : List Ack). IsMemory c.make_place.new.objects.entries acks (list_of c.args.listed.now.entries) last faults (deque_capacity c.reserve.new.self)) (sym c.reserve.ensures.items)
    (memory_placed c.args.name _ _ _ _ last faults _ _ c.in_ok-make_place.ensures.ok c.reserve.ensures.capacity m)
