use Rattle.std.proofs.Common.{ℕ, ap, ◌∙◌}
use Rattle.mj_maps.specs.Map.{insert, empty}
use Rattle.mj_tree.specs.State.{root}
use Rattle.mj_cells.specs.declared.cell.CellKey.TheVariants.{DirHead, NextIno}
use Rattle.mj_cells.specs.declared.cell.CellValue.TheVariants.{Number}
use Rattle.mj_cells.specs.Table.{table_of}
use Rattle.mj_cache.proofs.NewCells.{new_table}
use Rattle.mj_cache.proofs.fresh.new_cells.Goals as goal

pub returns : goal.returns
returns c =
    let one = c.in_ok-put.ensures.ok ∙ (λ i. insert (c.new-cells.ensures i) (c.head.ensures i).key (c.head.ensures i).value) in
    let two = c.in_ok-put-2.ensures.ok ∙ (λ i. insert (one i) (c.head-2.ensures i).key (c.head-2.ensures i).value)
    ∙ ap (λ (d : ℕ). insert (insert empty (DirHead root) (Number 1)) (DirHead d) (Number 1)) c.stray_ino.ensures in
    let next = c.put-3.view_is ∙ c.first_ino.ensures in
    let three = c.in_ok-put-3.ensures.ok ∙ (λ i. insert (two i) NextIno (Number (next i))) in
    ap table_of three ∙ new_table c.args.rank
