use Rattle.std.proofs.Common.{sym, ap, subst, ◌∙◌}
use Rattle.mj_maps.specs.Map.{remove}
use Rattle.mj_cells.specs.Cell.{AllFit}
use Rattle.mj_cells.proofs.Kept.{one_taken}
use Rattle.mj_cells.proofs.Fitting.{fit-remove}
use Rattle.mj_cells.proofs.table.CellTable.drop_key.Goals as goal

pub returns : goal.returns
returns c = one_taken c.self.inside.kept.entries c.remove.new.self.entries c.args.key.now c.remove.ensures.updates.0 ∙ ap (λ m. remove m c.args.key.now) c.self.view_is

pub invariant_of-self : goal.invariant_of-self
invariant_of-self c =
    subst AllFit (sym (one_taken c.self.inside.kept.entries c.remove.new.self.entries c.args.key.now c.remove.ensures.updates.0))
    (fit-remove _ c.args.key.now c.self.invariant)
