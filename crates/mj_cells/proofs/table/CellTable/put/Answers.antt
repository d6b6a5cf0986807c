use Rattle.std.proofs.Common.{sym, ap, subst, ◌∙◌}
use Rattle.mj_maps.specs.Map.{insert}
use Rattle.mj_cells.specs.Cell.{AllFit}
use Rattle.mj_cells.proofs.Kept.{one_given}
use Rattle.mj_cells.proofs.Fitting.{fit-insert}
use Rattle.mj_cells.proofs.table.CellTable.put.Goals as goal

pub returns-clause-ok : goal.returns-clause-ok
returns-clause-ok c = one_given c.self.inside.kept.entries c.insert.new.self.entries c.args.w.key c.args.w.value c.in_ok-insert.ensures.updates.0 ∙ ap (λ m. insert m c.args.w.key c.args.w.value) c.self.view_is

pub invariant_of-self-2 : goal.invariant_of-self-2
invariant_of-self-2 c =
    subst AllFit (sym (one_given c.self.inside.kept.entries c.insert.new.self.entries c.args.w.key c.args.w.value c.in_ok-insert.ensures.updates.0))
    (fit-insert _ c.args.w.key c.args.w.value c.self.invariant c.requires)
