use Rattle.std.proofs.Common.{◌≡◌, ◌++◌, drop}
use Rattle.mj_recovery.specs.Damage.{bad_opens}
use Rattle.mj_tables.specs.Layered.{early_cells}
use Rattle.mj_judge.specs.Rows.{oldest_at, is_counted}
use Rattle.mj_judge.proofs.rows.bad_opens.Given as goal

abbrev pub invariant-loop-open : goal.invariant-loop-open
invariant-loop-open l = l.found.items ++ bad_opens (oldest_at (early_cells l.layers)) (is_counted l.files) (drop l.open-index l.opens) ≡ bad_opens (oldest_at (early_cells l.layers)) (is_counted l.files) l.opens
