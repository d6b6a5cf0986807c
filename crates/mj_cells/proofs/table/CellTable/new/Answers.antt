use Rattle.std.proofs.Common.{sym, ap, subst}
use Rattle.mj_maps.specs.Map.{from_entries}
use Rattle.mj_cells.specs.Cell.{AllFit, key_cmp}
use Rattle.mj_cells.proofs.Fitting.{fit-empty}
use Rattle.mj_cells.proofs.table.CellTable.new.Goals as goal

pub invariant_of-result : goal.invariant_of-result
invariant_of-result c = subst AllFit (sym (ap (from_entries {R = key_cmp}) c.new.ensures.empty)) fit-empty
