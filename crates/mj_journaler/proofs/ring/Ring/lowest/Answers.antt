use Rattle.std.proofs.Common.{◌∙◌, ap, sym, subst}
use Rattle.mj_journaler.specs.Outstanding.{lowest, Follow}
use Rattle.mj_journaler.specs.Ring.{Ringed}
use Rattle.mj_journaler.proofs.Rings.{first_out}
use Rattle.mj_journaler.proofs.ring.Ring.lowest.Goals as goal

pub returns-in-Some : goal.returns-in-Some
returns-in-Some c =
    first_out c.self.inside.slots.items c.in-Some.slot.now c.args.end c.in-Some.ensures.item.3.0 c.in-Some.ensures.lookup c.self.invariant.1
    (subst (λ (r : Ringed). Follow 0 r.sent c.args.end) (sym c.self.view_is) c.requires)
    ∙ ap (λ (r : Ringed). lowest r.sent c.args.end) c.self.view_is
