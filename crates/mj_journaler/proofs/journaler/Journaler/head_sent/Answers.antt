use Rattle.std.proofs.Common.{◌∙◌, ap, sym, subst}
use Rattle.mj_journaler.specs.Journal.{Journal, IsNew}
use Rattle.mj_journaler.specs.Inside.{journal_in}
use Rattle.mj_journaler.proofs.Kept.{headed_as}
use Rattle.mj_journaler.proofs.journaler.Journaler.head_sent.Goals as goal

pub push-requires-clause-newest : goal.push-requires-clause-newest
push-requires-clause-newest c = (subst (λ (j : Journal). IsNew c.args.op j) (sym c.self.view_is) c.requires.newest).heads

pub invariant_of-self : goal.invariant_of-self
invariant_of-self c =
    let j = journal_in c.self.inside in
    record {
      journal = headed_as j c.args.op c.args.header c.push.new.self.sent c.self.invariant.journal (ap (λ (k : Journal). k.offer) c.self.view_is ∙ c.requires.given) c.push.ensures;
      end = c.self.invariant.end;
      bytes = c.self.invariant.bytes;
      entries = c.self.invariant.entries;
      given = tt;
    }
