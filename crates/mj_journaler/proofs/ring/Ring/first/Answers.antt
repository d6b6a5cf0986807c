use Rattle.std.proofs.Common.{◌∙◌, ap}
use Rattle.mj_journaler.specs.Outstanding.{oldest}
use Rattle.mj_journaler.specs.Ring.{Ringed}
use Rattle.mj_journaler.proofs.Rings.{first_oldest}
use Rattle.mj_journaler.proofs.ring.Ring.first.Goals as goal

pub returns-in-Some : goal.returns-in-Some
returns-in-Some c =
    first_oldest c.self.inside.slots.items c.in-Some.slot.now c.in-Some.ensures.item.3.0 c.in-Some.ensures.lookup c.self.invariant.0 c.self.invariant.1
    ∙ ap (λ (r : Ringed). oldest r.sent) c.self.view_is
