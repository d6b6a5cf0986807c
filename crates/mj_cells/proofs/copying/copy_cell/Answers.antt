use Rattle.std.proofs.Common.{◌∙◌}
use Rattle.mj_maps.specs.Map.{insert}
use Rattle.mj_cells.specs.Table.{cells}
use Rattle.mj_cells.proofs.Kept.{one_given}
use Rattle.mj_cells.proofs.copying.copy_cell.Goals as goal

pub returns : goal.returns
returns c =
    one_given c.args.to.now.entries c.insert.new.self.entries c.in_ok-key.key c.in_ok-value.value c.in_ok-insert.ensures.updates.0
    ∙ (λ i. insert (cells c.args.to.now) (c.in_ok-key.ensures i) (c.in_ok-value.ensures i))
