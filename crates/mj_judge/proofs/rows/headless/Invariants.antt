use Rattle.std.proofs.Common.{◌≡◌, ◌++◌}
use Rattle.mj_recovery.specs.Damage.{headless}
use Rattle.mj_tables.specs.Layered.{early_cells}
use Rattle.mj_judge.specs.Rows.{version_at}
use Rattle.mj_judge.proofs.rows.headless.Given as goal

abbrev pub invariant-loop-dir : goal.invariant-loop-dir
invariant-loop-dir l = l.found.items ++ headless (version_at (early_cells l.layers)) l.dir-iterator ≡ l.initial.found.items ++ headless (version_at (early_cells l.layers)) l.initial.dir-iterator
