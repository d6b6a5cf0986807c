use Rattle.std.proofs.Common.{◌≡◌, ℕ}
use Rattle.mj_cells.specs.Table.{table_of, overlay}
use Rattle.mj_recovery.specs.Journal.{journal_writes}
use Rattle.mj_delta.specs.Fresh.{fresh_table}
use Rattle.mj_replay.specs.Lumps.{none_strange, lumps_known}
use Rattle.mj_replay.proofs.overlaid.lay_events.Given as goal

abbrev pub invariant-loop-e : goal.invariant-loop-e
invariant-loop-e l =
    (goal.iterator-loop-e).can_next l.e-iterator × (goal.iterator-loop-e).is_finite l.e-iterator × (table_of l.found.cells ≡ overlay (fresh_table l.rank) (journal_writes l.yielded))
    × ((next : ℕ) → none_strange next l.found.lumps ≡ lumps_known l.rank next (journal_writes l.yielded))
