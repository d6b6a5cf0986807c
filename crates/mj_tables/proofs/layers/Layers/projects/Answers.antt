use Rattle.std.proofs.Common.{sym, ap, ◌∙◌}
use Rattle.std.specs.Prelude.{is_some}
use Rattle.std.specs.Option.{option_and_then}
use Rattle.mj_tables.specs.declared.slot.Slot.{Slot}
use Rattle.mj_tables.specs.Layered.{all_writes, writes_key}
use Rattle.mj_tables.specs.Slots.{slots_of}
use Rattle.mj_tables.proofs.SlotHashes.{found_slot}
use Rattle.mj_tables.proofs.Laid.{writes_at}
use Rattle.mj_tables.proofs.layers.Layers.projects.Goals as goal

pub returns-in-Some : goal.returns-in-Some
returns-in-Some c =
    c.is_some.ensures
    ∙ ap (λ o. is_some (option_and_then (λ (s : Slot). s.ahead) o)) (sym (found_slot c.self.inside.slots.entries c.args.key.now _ c.in-Some.ensures.value))
    ∙ writes_at (slots_of c.self.inside.slots) c.self.inside.groups.items c.self.invariant.laid c.args.key.now
    ∙ ap (λ l. writes_key c.args.key.now (all_writes l.groups)) c.self.view_is

pub returns-in-None : goal.returns-in-None
returns-in-None c =
    ap (λ o. is_some (option_and_then (λ (s : Slot). s.ahead) o)) (sym (found_slot c.self.inside.slots.entries c.args.key.now _ c.in-None.ensures.value))
    ∙ writes_at (slots_of c.self.inside.slots) c.self.inside.groups.items c.self.invariant.laid c.args.key.now
    ∙ ap (λ l. writes_key c.args.key.now (all_writes l.groups)) c.self.view_is
