use Rattle.std.proofs.Common.{◌≡◌, ◌++◌}
use Rattle.mj_format.proofs.Sent.{Sends}
use Rattle.mj_format.proofs.sending.perform_all.Given as goal

abbrev pub invariant-loop-op : goal.invariant-loop-op
invariant-loop-op g l =
    let told = g.S.ObjectStore.state in
    let faults = g.S.ObjectStore.faults in
    let list = g.S.ObjectStore.unreported in
    record {
      sends : Sends l.yielded (told l.fn.store) (told l.store) (faults l.fn.store) (faults l.store) (list l.fn.store) (list l.store);
      rest : l.yielded ++ l.op-iterator.rest.items ≡ l.fn.ops.items;
    }
