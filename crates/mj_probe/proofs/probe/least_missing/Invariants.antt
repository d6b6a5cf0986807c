use Rattle.std.proofs.Common.{◌≡◌, ◌*◌, ◌/◌, ◌^◌, Some}
use Rattle.mj_store.specs.State.{StoreState, contents}
use Rattle.mj_store.specs.Moves.{Still}
use Rattle.mj_layout.specs.Striping.{period}
use Rattle.mj_probe.specs.Looks.{Looks}
use Rattle.mj_probe.specs.Missing.{IsLeastMissing}
use Rattle.mj_probe.proofs.probe.least_missing.Given as goal

abbrev pub invariant-loop-set : goal.invariant-loop-set
invariant-loop-set g l =
    let told = g.S.ObjectStore.state in
    let list = g.S.ObjectStore.unreported in
    let faults = g.S.ObjectStore.faults in
    record {
      looks : Looks (told l.fn.store) (told l.store) (list l.fn.store) (list l.store) (faults l.fn.store) (faults l.store);
      found : (s : StoreState) → told l.fn.store ≡ Some s → Still s → IsLeastMissing (contents s) l.rank l.layout l.from (l.from / period l.layout * l.layout.sc) (l.set * l.layout.sc) (2 ^ 62);
    }
