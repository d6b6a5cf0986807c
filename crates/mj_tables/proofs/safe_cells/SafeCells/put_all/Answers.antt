use Rattle.std.proofs.Common.{sym, ap, ◌∙◌}
use Rattle.mj_maps.specs.Map.{Map, insert}
use Rattle.mj_cells.specs.declared.cell.CellValue.{CellValue}
use Rattle.mj_cells.specs.Cell.{key_cmp}
use Rattle.mj_cells.proofs.CellMaps.{put_all-push}
use Rattle.mj_tables.proofs.safe_cells.SafeCells.put_all.Goals as goal

pub loop-w-preserved : goal.loop-w-preserved
loop-w-preserved c =
    let w = c.in-Some.w in (
      tt,
      tt,
      c.in_ok-put.ensures.ok ∙ ap (λ (m : Map key_cmp CellValue). insert m w.key w.value) c.loop-w.invariant.2 ∙ sym (put_all-push c.args.self.now c.loop-w.yielded w),
    )
