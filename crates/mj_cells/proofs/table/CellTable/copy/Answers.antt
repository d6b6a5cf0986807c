use Rattle.std.proofs.Common.{◌≡◌, map, sym, ap, subst, ◌∙◌}
use Rattle.mj_maps.specs.Map.{from_entries}
use Rattle.mj_cells.specs.Cell.{AllFit, key_cmp}
use Rattle.mj_cells.specs.Table.{as_write, put_all}
use Rattle.mj_cells.proofs.SameCells.{put_all-entries}
use Rattle.mj_cells.proofs.table.CellTable.copy.Goals as goal
use Rattle.mj_cells.proofs.table.CellTable.copy.Goals.{In_ok-copy_cells}

copied : (c : In_ok-copy_cells) → from_entries {R = key_cmp} c.copy_cells.new.to.entries ≡ from_entries c.self.inside.kept.entries
copied c =
    c.in_ok-copy_cells.ensures.ok ∙ ap (λ m. put_all m (map as_write c.self.inside.kept.entries)) (ap (from_entries {R = key_cmp}) c.new-kept.ensures.empty)
    ∙ put_all-entries c.self.inside.kept.entries c.in_ok-copy_cells.ensures.in_order

pub invariant_of-result : goal.invariant_of-result
invariant_of-result c = subst AllFit (sym (copied c)) c.self.invariant

pub returns : goal.returns
returns c = copied c ∙ c.self.view_is
