use Rattle.std.proofs.Common.{◌≡◌, ◌*◌, ◌^◌, ◌≤◌, Some}
use Rattle.mj_store.specs.State.{StoreState, contents}
use Rattle.mj_store.specs.Moves.{Still}
use Rattle.mj_probe.specs.Looks.{Looks}
use Rattle.mj_probe.specs.Missing.{IsLeastMissing}
use Rattle.mj_probe.proofs.probe.least_in_set.Given as goal

abbrev pub invariant-loop-index : goal.invariant-loop-index
invariant-loop-index g l =
    let told = g.S.ObjectStore.state in
    let list = g.S.ObjectStore.unreported in
    let faults = g.S.ObjectStore.faults in
    record {
      looks : Looks (told l.fn.store) (told l.store) (list l.fn.store) (list l.store) (faults l.fn.store) (faults l.store);
      above : l.from ≤ l.least;
      at_most : l.least ≤ 2 ^ 62;
      found : (s : StoreState) → told l.fn.store ≡ Some s → Still s → IsLeastMissing (contents s) l.rank l.layout l.from (l.set * l.layout.sc) l.index l.least;
    }
