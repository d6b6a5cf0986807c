use Rattle.std.proofs.Common.{◌≡◌, ◌∙◌, ◌-◌, Some, length, length-drop, ap, sym, subst, arith}
use Rattle.mj_journaler.specs.Journal.{Journal, IsNew}
use Rattle.mj_journaler.specs.Inside.{journal_in}
use Rattle.mj_journaler.specs.declared.sent.Offer.TheVariants.{Flush}
use Rattle.mj_journaler.proofs.Kept.{flushed_as, flush_within}
use Rattle.mj_journaler.proofs.journaler.Journaler.flush_sent.Goals as goal

pub push-requires-clause-newest : goal.push-requires-clause-newest
push-requires-clause-newest c = (subst (λ (j : Journal). IsNew c.args.op j) (sym c.self.view_is) c.requires.newest).sent

pub invariant_of-self : goal.invariant_of-self
invariant_of-self c =
    let j = journal_in c.self.inside in
    let given : j.offer ≡ Some (Flush c.args.to) = ap (λ (k : Journal). k.offer) c.self.view_is ∙ c.requires.given in
    let within = flush_within j c.args.to c.self.invariant.journal given in
    record {
      journal = flushed_as j c.args.op c.args.to c.release.new.self.bytes c.push.new.self.sent c.self.invariant.journal given c.release.ensures.bytes c.push.ensures;
      end = omega (arith, ap length c.release.ensures.bytes, length-drop (c.args.to - j.flushed) j.buffer, within.0, within.1, c.self.invariant.end);
      bytes = omega (arith, c.release.ensures.room, c.self.invariant.bytes);
      entries = c.self.invariant.entries;
      given = tt;
    }
