use Rattle.std.proofs.Common.{sym, ap, ◌∙◌}
use Rattle.mj_maps.specs.Map.{get}
use Rattle.mj_cells.proofs.Kept.{get_kept}
use Rattle.mj_cells.proofs.table.CellTable.get.Goals as goal

pub returns : goal.returns
returns c = c.get.ensures.value ∙ sym (get_kept c.self.inside.kept.entries c.args.key.now) ∙ ap (λ m. get m c.args.key.now) c.self.view_is
