use Rattle.std.proofs.Common.{◌≡◌}
use Rattle.mj_cells.specs.Table.{put_all}
use Rattle.mj_tables.proofs.safe_cells.SafeCells.put_all.Given as goal

abbrev pub invariant-loop-w : goal.invariant-loop-w
invariant-loop-w l = (goal.iterator-loop-w).can_next l.w-iterator × (goal.iterator-loop-w).is_finite l.w-iterator × (l.self ≡ put_all l.initial.self l.yielded)
