use Rattle.std.proofs.Common.{sym, ap, ◌∙◌}
use Rattle.std.specs.Option.{option_and_then}
use Rattle.mj_maps.specs.Map.{get}
use Rattle.mj_maps.proofs.MapLaws.{get-collect}
use Rattle.mj_cells.proofs.Keys.{exact_key}
use Rattle.mj_tables.specs.declared.slot.Slot.{Slot}
use Rattle.mj_tables.specs.Slots.{slots_of}
use Rattle.mj_tables.proofs.SlotHashes.{found_slot}
use Rattle.mj_tables.proofs.layers.Layers.safe.Goals as goal

pub returns-in-Some : goal.returns-in-Some
returns-in-Some c =
    c.as_ref.ensures.value
    ∙ sym (get-collect exact_key (λ k (s : Slot). s.safe) (slots_of c.self.inside.slots) c.args.key.now ∙ ap (option_and_then (λ (s : Slot). s.safe)) (found_slot c.self.inside.slots.entries c.args.key.now _ c.in-Some.ensures.value))
    ∙ ap (λ l. get l.safe c.args.key.now) c.self.view_is

pub returns-in-None : goal.returns-in-None
returns-in-None c =
    sym (get-collect exact_key (λ k (s : Slot). s.safe) (slots_of c.self.inside.slots) c.args.key.now ∙ ap (option_and_then (λ (s : Slot). s.safe)) (found_slot c.self.inside.slots.entries c.args.key.now _ c.in-None.ensures.value))
    ∙ ap (λ l. get l.safe c.args.key.now) c.self.view_is
