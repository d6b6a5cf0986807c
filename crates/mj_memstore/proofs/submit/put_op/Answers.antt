use Rattle.std.proofs.Common.{◌+◌, List, sym, subst, ap, ◌∙◌}
use Rattle.std.specs.VecDeque.{deque_capacity}
use Rattle.mj_store.specs.Causes.{Listed}
use Rattle.mj_memstore.specs.Memory.{Entries, IsMemory, list_of}
use Rattle.mj_memstore.proofs.ObjectsLemmas.{on_ok_at, on_err_at}
use Rattle.mj_memstore.proofs.ListedLemmas.{listed_insert, listed_again}
use Rattle.mj_memstore.proofs.MemoryLemmas.{memory_submitted, submitted_state}
use Rattle.mj_memstore.proofs.submit.put_op.Goals as goal

pub returns-then-is_err-clause-err_memory : goal.returns-then-is_err-clause-err_memory
returns-then-is_err-clause-err_memory c = c.make_room.ensures.memory c.args.last c.args.faults c.requires.memory

pub returns-then-is_err-2-clause-err_memory : goal.returns-then-is_err-2-clause-err_memory
returns-then-is_err-2-clause-err_memory c =
    let same = on_err_at c.insert.result _ (sym c.is_err-2.ensures.value ∙ c.if-is_err-2.true) c.insert.ensures.err in
    subst (λ (list : List Listed). IsMemory c.make_room.new.objects.entries c.make_room.new.completed.items list c.args.last c.args.faults (deque_capacity c.make_room.new.completed)) (sym (ap list_of same))
    (c.make_room.ensures.memory c.args.last c.args.faults c.requires.memory)

pub returns-in-Ok-clause-memory : goal.returns-in-Ok-clause-memory
returns-in-Ok-clause-memory c =
    let last = c.args.last in
    let list = list_of c.args.listed.now.entries in
    let entries = on_ok_at c.insert.result _ (sym c.is_err-2.ensures.value ∙ c.if-is_err-2.false) c.insert.ensures.entries in
    let listed = listed_insert (last + 1) c.args.faults c.args.listed.now.entries c.insert.new.self.entries c.requires.memory.below entries in
    let room = on_ok_at c.make_room.result _ (sym c.is_err.ensures.value ∙ c.if-is_err.false) c.make_room.ensures.room in
    let changed = c.in-Ok.ensures.ok in
    subst (λ (xs : List Listed). IsMemory c.add_op.new.objects.entries c.make_room.new.completed.items xs (last + 1) c.args.faults (deque_capacity c.make_room.new.completed)) (sym listed)
    (memory_submitted c.args.op.name changed.0 c.args.op.act c.make_room.new.objects.entries c.add_op.new.objects.entries c.make_room.new.completed.items list last c.args.faults (deque_capacity c.make_room.new.completed) changed.1 room
    (c.make_room.ensures.memory last c.args.faults c.requires.memory))

pub returns-in-Ok-clause-state : goal.returns-in-Ok-clause-state
returns-in-Ok-clause-state c =
    let changed = c.in-Ok.ensures.ok in
    submitted_state c.args.op.name changed.0 c.args.op.act c.args.objects.now.entries c.make_room.new.objects.entries c.add_op.new.objects.entries c.args.completed.now.items c.make_room.new.completed.items c.args.last changed.1 c.make_room.ensures.objects c.make_room.ensures.completed

pub returns-in-Ok-clause-listed : goal.returns-in-Ok-clause-listed
returns-in-Ok-clause-listed c =
    listed_insert (c.args.last + 1) c.args.faults c.args.listed.now.entries c.insert.new.self.entries c.requires.memory.below
    (on_ok_at c.insert.result _ (sym c.is_err-2.ensures.value ∙ c.if-is_err-2.false) c.insert.ensures.entries)

pub returns-in-Err-clause-err_listed : goal.returns-in-Err-clause-err_listed
returns-in-Err-clause-err_listed c =
    listed_again (c.args.last + 1) c.args.faults c.args.listed.now.entries c.insert.new.self.entries c.remove.new.self.entries c.requires.memory.below
    (on_ok_at c.insert.result _ (sym c.is_err-2.ensures.value ∙ c.if-is_err-2.false) c.insert.ensures.entries) c.remove.ensures.entries

pub returns-in-Err-clause-err_memory : goal.returns-in-Err-clause-err_memory
returns-in-Err-clause-err_memory c =
    let listed = listed_again (c.args.last + 1) c.args.faults c.args.listed.now.entries c.insert.new.self.entries c.remove.new.self.entries c.requires.memory.below
    (on_ok_at c.insert.result _ (sym c.is_err-2.ensures.value ∙ c.if-is_err-2.false) c.insert.ensures.entries) c.remove.ensures.entries in
    subst (λ (xs : List Listed). IsMemory c.add_op.new.objects.entries c.make_room.new.completed.items xs c.args.last c.args.faults (deque_capacity c.make_room.new.completed)) (sym listed)
    (subst (λ (es : Entries). IsMemory es c.make_room.new.completed.items (list_of c.args.listed.now.entries) c.args.last c.args.faults (deque_capacity c.make_room.new.completed)) (sym c.in-Err.ensures.err)
    (c.make_room.ensures.memory c.args.last c.args.faults c.requires.memory))
