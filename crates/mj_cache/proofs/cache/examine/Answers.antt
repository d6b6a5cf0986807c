use Rattle.std.proofs.Common.{map, ap, subst, ◌∙◌}
use Rattle.std.specs.List.{AllByRecursion}
use Rattle.mj_cells.specs.Next.{cell_of}
use Rattle.mj_cache.specs.Ranges.{CellInRange}
use Rattle.mj_cache.proofs.RangesKept.{range-entries}
use Rattle.mj_cache.proofs.cache.examine.Goals as goal

pub returns-clause-range : goal.returns-clause-range
returns-clause-range c = range-entries _ (subst (AllByRecursion CellInRange) (ap (map cell_of) c.deref-3.ensures.value ∙ c.in_ok-cells.ensures) c.cells_in_range.ensures)
