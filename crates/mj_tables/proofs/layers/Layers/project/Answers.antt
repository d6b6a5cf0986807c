use Rattle.std.proofs.Common.{◌≡◌, ◌++◌, ◌∷◌, [], List, sym, ap, subst, ◌∙◌}
use Rattle.mj_cells.specs.declared.cell.CellWrite.{CellWrite}
use Rattle.mj_tables.specs.declared.group.Group.{Group}
use Rattle.mj_tables.specs.Layered.{HasRoom, EndBelow}
use Rattle.mj_tables.specs.Slots.{Slots, slots_of, safe_cells, rooms, all_projected}
use Rattle.mj_tables.specs.Listed.{KeepsThere, AreSound}
use Rattle.mj_tables.proofs.KeySets.{room_of_slots}
use Rattle.mj_tables.proofs.Laid.{safe-all_projected}
use Rattle.mj_tables.proofs.Sound.{sound_projected}
use Rattle.mj_tables.proofs.layers.Layers.project.Goals as goal
use Rattle.mj_tables.proofs.layers.Layers.project.Goals.{After-push_back_reserved}

pub project_group-requires-clause-room : goal.project_group-requires-clause-room
project_group-requires-clause-room c =
    subst (λ (ws : List CellWrite). HasRoom (rooms (slots_of c.self.inside.slots)) ws) (sym c.deref.ensures.value)
    (room_of_slots (slots_of c.self.inside.slots) c.self.inside.there c.args.ws.items (subst (λ l. HasRoom l.room c.args.ws.items) (sym c.self.view_is) c.requires.room))

writes_are : (c : After-push_back_reserved) → c.deref.result.now ≡ c.args.ws.items
writes_are c = c.deref.ensures.value

slots_are : (c : After-push_back_reserved) → slots_of c.project_group.new.slots ≡ all_projected c.args.ends (slots_of c.self.inside.slots) c.args.ws.items
slots_are c = c.project_group.ensures.slots ∙ ap (λ (ws : List CellWrite). all_projected c.args.ends (slots_of c.self.inside.slots) ws) (writes_are c)

pub invariant_of-self : goal.invariant_of-self
invariant_of-self c =
    let g : Group = record { ends = c.args.ends; writes = c.args.ws.items } in
    let groups : c.push_back_reserved.new.self.items ≡ c.self.inside.groups.items ++ g ∷ [] =
    c.push_back_reserved.ensures.items ∙ ap (λ (ws : List CellWrite). c.self.inside.groups.items ++ record { ends = c.args.ends; writes = ws } ∷ []) c.from_vec.ensures in
    subst (λ (p : Slots × List Group). AreSound p.0 c.project_group.new.there p.1) (λ i. (sym (slots_are c) i, sym groups i))
    (sound_projected (slots_of c.self.inside.slots) c.self.inside.there c.self.inside.groups.items g c.project_group.new.there c.self.invariant
    (subst (λ l. EndBelow c.args.ends l.groups) (sym c.self.view_is) c.requires.above)
    (subst (λ l. HasRoom l.room c.args.ws.items) (sym c.self.view_is) c.requires.room)
    (subst (λ (m : Slots). KeepsThere m c.self.inside.there c.args.ws.items c.project_group.new.there) (slots_are c)
    (subst (λ (ws : List CellWrite). KeepsThere (slots_of c.project_group.new.slots) c.self.inside.there ws c.project_group.new.there) (writes_are c) c.project_group.ensures.there)))

pub returns-clause-safe : goal.returns-clause-safe
returns-clause-safe c = ap safe_cells (slots_are c) ∙ safe-all_projected c.args.ends (slots_of c.self.inside.slots) c.args.ws.items ∙ ap (λ l. l.safe) c.self.view_is
