use Rattle.std.proofs.Common.{◌≡◌, ◌+◌, ◌-◌, ◌≤◌, Some, length}
use Rattle.mj_store.specs.State.{StoreState, contents}
use Rattle.mj_store.specs.Moves.{Still}
use Rattle.mj_probe.specs.Looks.{Looks}
use Rattle.mj_probe.proofs.Units.{Stand}
use Rattle.mj_probe.proofs.range.read_range.Given as goal

abbrev pub invariant-units : goal.invariant-units
invariant-units g l =
    let told = g.S.ObjectStore.state in
    let list = g.S.ObjectStore.unreported in
    let faults = g.S.ObjectStore.faults in
    record {
      looks : Looks (told l.fn.store) (told l.store) (list l.fn.store) (list l.store) (faults l.fn.store) (faults l.store);
      at_most : l.at ≤ l.to;
      long : l.at ≡ l.from + length l.bytes.items;
      found : (s : StoreState) → told l.fn.store ≡ Some s → Still s → Stand (contents s) l.rank l.layout l.from l.bytes.items;
    }

abbrev pub decreases-units : goal.decreases-units
decreases-units g l = l.to - l.at
