use Rattle.mj_rank.proofs.Cuts.{LookedTo}
use Rattle.mj_rank.proofs.cutting.look.Given as goal

abbrev pub invariant-loop-index : goal.invariant-loop-index
invariant-loop-index g l =
    let told = g.S.ObjectStore.state in
    let faults = g.S.ObjectStore.faults in
    let list = g.S.ObjectStore.unreported in
    LookedTo l.number l.layout l.tail l.from l.index (faults l.fn.store) (faults l.store) (list l.fn.store) (list l.store) (told l.fn.store) (told l.store)
