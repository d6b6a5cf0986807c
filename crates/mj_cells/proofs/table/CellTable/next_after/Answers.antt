use Rattle.std.proofs.Common.{sym, ap, ◌∙◌}
use Rattle.std.specs.Option.{option_copied, option_map}
use Rattle.mj_cells.specs.Next.{first_of, next_cell, cell_of}
use Rattle.mj_cells.proofs.Kept.{next_kept}
use Rattle.mj_cells.proofs.table.CellTable.next_after.Goals as goal

pub returns : goal.returns
returns c =
    ap first_of (sym c.in_ok-key.ensures.steps)
    ∙ next_kept c.self.inside.kept.entries c.range-above.result (option_copied c.args.after) _ c.range-above.ensures.ordered c.start_above.ensures (c.range-above.ensures.between tt)
    ∙ ap (λ m. next_cell m (option_copied c.args.after)) c.self.view_is

pub returns-in_err-key : goal.returns-in_err-key
returns-in_err-key c =
    ap (option_map cell_of) c.from_residual.ensures ∙ ap first_of (sym c.in_err-key.ensures.steps.0)
    ∙ next_kept c.self.inside.kept.entries c.range-above.result (option_copied c.args.after) _ c.range-above.ensures.ordered c.start_above.ensures (c.range-above.ensures.between tt)
    ∙ ap (λ m. next_cell m (option_copied c.args.after)) c.self.view_is
