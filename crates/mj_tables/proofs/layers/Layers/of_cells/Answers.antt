use Rattle.std.proofs.Common.{List, sym, subst}
use Rattle.mj_tables.specs.declared.group.Group.{Group}
use Rattle.mj_tables.specs.Slots.{slots_of, AreLaid}
use Rattle.mj_tables.proofs.Sound.{sound_start}
use Rattle.mj_tables.proofs.layers.Layers.of_cells.Goals as goal

pub invariant_of-result : goal.invariant_of-result
invariant_of-result c =
    sound_start (slots_of c.into_slots-slots.result) c.in_ok-there.there c.new.result.items
    (subst (λ (gs : List Group). AreLaid (slots_of c.into_slots-slots.result) gs) (sym c.new.ensures.items) c.into_slots-slots.ensures.laid)
    c.in_ok-there.ensures
