use Rattle.std.proofs.Common.{◌≡◌, ◌-◌, ◌≤◌, Some}
use Rattle.mj_store.specs.State.{StoreState, contents}
use Rattle.mj_store.specs.Moves.{Still}
use Rattle.mj_probe.specs.Looks.{Looks}
use Rattle.mj_recovery.specs.Stream.{stream, probed_end}
use Rattle.mj_replay.specs.Pieces.{behind, entries_from, InGrammar}
use Rattle.mj_replay.proofs.entries.read_entries.Given as goal

abbrev pub invariant-pieces : goal.invariant-pieces
invariant-pieces g l =
    let told = g.S.ObjectStore.state in
    let list = g.S.ObjectStore.unreported in
    let faults = g.S.ObjectStore.faults in
    record {
      looks : Looks (told l.fn.store) (told l.store) (list l.fn.store) (list l.store) (faults l.fn.store) (faults l.store);
      above : l.from ≤ l.here;
      at_most : l.here ≤ l.end;
      grammar : InGrammar l.events.items;
      found : (s : StoreState) → told l.fn.store ≡ Some s → Still s → l.end ≡ probed_end (contents s) l.rank l.layout l.from
          → behind l.events.items (entries_from (stream (contents s) l.rank l.layout l.here) l.here l.write) ≡ entries_from (stream (contents s) l.rank l.layout l.from) l.from l.write;
    }

abbrev pub decreases-pieces : goal.decreases-pieces
decreases-pieces g l = l.end - l.here
