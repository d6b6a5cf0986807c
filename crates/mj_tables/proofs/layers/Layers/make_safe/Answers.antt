use Rattle.std.proofs.Common.{◌≡◌, ◌∙◌, ap}
use Rattle.mj_tables.specs.Layered.{early_cells, early_of}
use Rattle.mj_tables.specs.Slots.{slots_of, safe_cells}
use Rattle.mj_tables.proofs.Laid.{early_stays}
use Rattle.mj_tables.proofs.Sound.{sound_same}
use Rattle.mj_tables.proofs.layers.Layers.make_safe.Goals as goal
use Rattle.mj_tables.proofs.layers.Layers.make_safe.Goals.{After-settle_ended}

stays : (c : After-settle_ended) → early_of (safe_cells (slots_of c.settle_ended.new.slots)) c.settle_ended.new.groups.items ≡ early_of (safe_cells (slots_of c.self.inside.slots)) c.self.inside.groups.items
stays c =
    (λ i. early_of (c.settle_ended.ensures.safe i) (c.settle_ended.ensures.groups i)) ∙ early_stays (safe_cells (slots_of c.self.inside.slots)) c.args.upto c.self.inside.groups.items c.self.invariant.laid.rise

pub invariant_of-self : goal.invariant_of-self
invariant_of-self c =
    sound_same (slots_of c.self.inside.slots) c.self.inside.there c.self.inside.groups.items (slots_of c.settle_ended.new.slots) c.self.inside.there c.settle_ended.new.groups.items c.self.invariant c.settle_ended.ensures.laid (λ q has. has) (stays c)

pub returns-clause-early : goal.returns-clause-early
returns-clause-early c = stays c ∙ ap early_cells c.self.view_is
