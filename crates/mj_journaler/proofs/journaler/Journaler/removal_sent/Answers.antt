use Rattle.std.proofs.Common.{◌≡◌, ◌∙◌, Some, ap, sym, subst, arith}
use Rattle.mj_journaler.specs.Journal.{Journal, IsNew}
use Rattle.mj_journaler.specs.Inside.{journal_in}
use Rattle.mj_journaler.specs.declared.sent.Offer.TheVariants.{Removal}
use Rattle.mj_journaler.proofs.Kept.{removed_as, removal_within}
use Rattle.mj_journaler.proofs.journaler.Journaler.removal_sent.Goals as goal

pub overflow_add-index : goal.overflow_add-index
overflow_add-index c =
    let j = journal_in c.self.inside in
    let given : j.offer ≡ Some (Removal c.args.index) = ap (λ (k : Journal). k.offer) c.self.view_is ∙ c.requires.given in
    omega (arith, removal_within j c.args.index c.self.invariant.journal given)

pub overflow_add-self : goal.overflow_add-self
overflow_add-self c =
    let j = journal_in c.self.inside in
    let given : j.offer ≡ Some (Removal c.args.index) = ap (λ (k : Journal). k.offer) c.self.view_is ∙ c.requires.given in
    omega (arith, removal_within j c.args.index c.self.invariant.journal given)

pub push-requires-clause-newest : goal.push-requires-clause-newest
push-requires-clause-newest c = (subst (λ (j : Journal). IsNew c.args.op j) (sym c.self.view_is) c.requires.newest).removals

pub invariant_of-self : goal.invariant_of-self
invariant_of-self c =
    let j = journal_in c.self.inside in
    record {
      journal = removed_as j c.args.op c.args.index c.push.new.self.sent c.self.invariant.journal (ap (λ (k : Journal). k.offer) c.self.view_is ∙ c.requires.given) c.push.ensures;
      end = c.self.invariant.end;
      bytes = c.self.invariant.bytes;
      entries = c.self.invariant.entries;
      given = tt;
    }
