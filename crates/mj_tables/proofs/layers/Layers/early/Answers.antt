use Rattle.std.proofs.Common.{sym, ap, ◌∙◌}
use Rattle.std.specs.Option.{option_and_then}
use Rattle.mj_maps.specs.Map.{get}
use Rattle.mj_tables.specs.Layered.{early_cells}
use Rattle.mj_tables.specs.Slots.{slots_of, early_in}
use Rattle.mj_tables.proofs.SlotHashes.{found_slot}
use Rattle.mj_tables.proofs.Laid.{early_at}
use Rattle.mj_tables.proofs.layers.Layers.early.Goals as goal

pub returns-in-Some : goal.returns-in-Some
returns-in-Some c =
    c.early.ensures
    ∙ sym (early_at (slots_of c.self.inside.slots) c.self.inside.groups.items c.self.invariant.laid c.args.key.now ∙ ap (option_and_then early_in) (found_slot c.self.inside.slots.entries c.args.key.now _ c.in-Some.ensures.value))
    ∙ ap (λ l. get (early_cells l) c.args.key.now) c.self.view_is

pub returns-in-None : goal.returns-in-None
returns-in-None c =
    sym (early_at (slots_of c.self.inside.slots) c.self.inside.groups.items c.self.invariant.laid c.args.key.now ∙ ap (option_and_then early_in) (found_slot c.self.inside.slots.entries c.args.key.now _ c.in-None.ensures.value))
    ∙ ap (λ l. get (early_cells l) c.args.key.now) c.self.view_is
