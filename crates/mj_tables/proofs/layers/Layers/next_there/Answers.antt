use Rattle.std.proofs.Common.{ap, ◌∙◌}
use Rattle.std.specs.List.{filter}
use Rattle.std.specs.Option.{option_copied}
use Rattle.mj_cells.specs.Next.{is_above, first_of}
use Rattle.mj_tables.specs.Layered.{early_cells, early_of, next_there}
use Rattle.mj_tables.specs.Slots.{slots_of, safe_cells}
use Rattle.mj_tables.proofs.NextThere.{along_is, next_is}
use Rattle.mj_tables.proofs.Sound.{there_is}
use Rattle.mj_tables.proofs.layers.Layers.next_there.Goals as goal

pub returns : goal.returns
returns c =
    let m = slots_of c.self.inside.slots in
    let cells = early_of (safe_cells m) c.self.inside.groups.items in
    c.next_cell.ensures.cell
    ∙ ap first_of (along_is m cells (there_is m c.self.inside.groups.items c.self.invariant.laid) (filter (is_above (option_copied c.args.after)) c.self.inside.there.keys))
    ∙ next_is cells c.self.inside.there (option_copied c.args.after) c.next_cell.ensures.rises c.self.invariant.there
    ∙ ap (λ l. next_there (early_cells l) (option_copied c.args.after)) c.self.view_is
