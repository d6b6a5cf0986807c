use Rattle.std.proofs.Common.{List, true, false, sym, subst, ap, ◌∙◌}
use Rattle.std.specs.Prelude.{Some}
use Rattle.std.specs.VecDeque.{deque_capacity}
use Rattle.mj_store.specs.declared.answer.Ack.{Ack}
use Rattle.mj_store.specs.Moves.{Steps}
use Rattle.mj_memstore.specs.Memory.{Entries, IsMemory, list_of, state_of}
use Rattle.mj_memstore.proofs.MemoryLemmas.{memory_counted, memory_room, memory_tried, tried_room}
use Rattle.mj_memstore.proofs.StepLemmas.{rose_all, done_by, tried_state, failed_state, steps}
use Rattle.mj_memstore.proofs.store.MemStoreObjectStore.step.Goals as goal

pub push_report-requires : goal.push_report-requires
push_report-requires c =
    let t = c.in-Some.ensures.some in
    tried_room c.args.name.now t.0 t.1 c.in-Some.ack c.args.self.now.objects.entries c.try_first.new.objects.entries _ _ _ _ _ t.2 t.3 c.args.self.now.sound

pub invariant_of-self : goal.invariant_of-self
invariant_of-self c =
    let s = c.args.self.now in
    let counted = memory_counted _ _ _ _ _ _ _ c.next_fails-fails.ensures.later s.sound in
    record { sound = subst (λ (es : Entries). IsMemory es s.completed.items (list_of s.listed.entries) s.last c.next_fails-fails.new.self.faults (deque_capacity s.completed)) (sym c.in_default.ensures.same) counted }

pub invariant_of-self-2 : goal.invariant_of-self-2
invariant_of-self-2 c =
    let t = c.in-Some.ensures.some in
    let ack = c.in-Some.ack in
    let s = c.args.self.now in
    let faults = c.next_fails-fails.new.self.faults in
    let counted = memory_counted _ _ _ _ _ faults _ c.next_fails-fails.ensures.later s.sound in
    let tried = memory_tried c.args.name.now t.0 t.1 ack s.objects.entries c.try_first.new.objects.entries _ _ _ _ _ t.2 t.3 (rose_all c.next_fails-fails.result ack.done s.plan.faults faults (list_of s.listed.entries) c.in-Some.ensures.answer c.next_fails-fails.ensures.cause s.sound.counts) counted in
    record {
      sound = memory_room _ _ _ _ _ _ _ c.push_report.ensures.capacity
          (subst (λ (acks : List Ack). IsMemory c.try_first.new.objects.entries acks (list_of s.listed.entries) s.last faults (deque_capacity s.completed)) (sym c.push_report.ensures.items) tried);
    }

pub returns-clause-ok : goal.returns-clause-ok
returns-clause-ok c =
    let t = c.in-Some.ensures.some in
    let s = c.args.self.now in
    let es = c.try_first.new.objects.entries in
    subst (λ (acks : List Ack). Steps c.args.name.now (Some c.in-Some.ack.op) (Some (state_of s.objects.entries s.completed.items s.last)) (Some (state_of es acks s.last)))
    (sym c.push_report.ensures.items) (steps c.args.name.now t.0 t.1 c.in-Some.ack s.objects.entries es s.completed.items s.last t.2 t.3)

pub returns-clause-fails : goal.returns-clause-fails
returns-clause-fails c planned =
    let t = c.in-Some.ensures.some in
    let s = c.args.self.now in
    let es = c.try_first.new.objects.entries in
    ap (λ (acks : List Ack). state_of es acks s.last) c.push_report.ensures.items
    ∙ failed_state c.args.name.now t.0 t.1 c.in-Some.ack s.objects.entries es s.completed.items s.last t.2 t.3 (done_by _ _ _ true c.next_fails-fails.ensures.answer c.in-Some.ensures.answer planned)

pub returns-clause-tries : goal.returns-clause-tries
returns-clause-tries c planned =
    let t = c.in-Some.ensures.some in
    let s = c.args.self.now in
    let es = c.try_first.new.objects.entries in
    ap (λ (acks : List Ack). state_of es acks s.last) c.push_report.ensures.items
    ∙ tried_state c.args.name.now t.0 t.1 c.in-Some.ack s.objects.entries es s.completed.items s.last t.2 t.3 (done_by _ _ _ false c.next_fails-fails.ensures.answer c.in-Some.ensures.answer planned)
