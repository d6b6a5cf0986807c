use Rattle.std.proofs.Common.{map, refl, ap, ◌∙◌}
use Rattle.std.specs.FinMap.Entries.{put}
use Rattle.mj_cells.specs.Cell.{key_cmp}
use Rattle.mj_cells.specs.Next.{cell_of}
use Rattle.mj_cells.specs.Table.{put_all}
use Rattle.mj_tables.specs.Layered.{early_cells}
use Rattle.mj_judge.proofs.Counted.{if_ok}
use Rattle.mj_index.proofs.Placing.{one_write, midway_ends}
use Rattle.mj_index.proofs.whole.next_index.Goals as goal

pub loop-w-init : goal.loop-w-init
loop-w-init c = (early_cells c.args.layers.now, (c.in_ok-cells.ensures, refl))

pub loop-w-preserved : goal.loop-w-preserved
loop-w-preserved c =
    one_write c.loop-w.cells.items c.in_ok-cells-2.cells.items (put_all (early_cells c.args.layers.now) c.args.ws.now) c.args.ws.now c.loop-w.w-index c.w-item.result c.loop-w-test.true c.w-item.is
    (c.in_ok-cells-2.ensures ∙ ap (λ cells. put key_cmp c.w-item.result.key c.w-item.result.value (map cell_of cells)) c.deref.ensures.value)
    c.loop-w.invariant

pub returns : goal.returns
returns c =
    let m = put_all (early_cells c.args.layers.now) c.args.ws.now in
    let cells = midway_ends c.loop-w.cells.items m c.args.ws.now c.loop-w.w-index c.loop-w-test.false c.loop-w.invariant in
    if_ok c.index_of.result _ _ (λ x is. is m (ap (map cell_of) c.deref-3.ensures.value ∙ cells) (c.in_ok-dirs.ensures m (ap (map cell_of) c.deref-2.ensures.value ∙ cells)) c.requires) c.index_of.ensures
