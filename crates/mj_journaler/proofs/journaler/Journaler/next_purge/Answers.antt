use Rattle.std.proofs.Common.{List, Some, refl, sym, subst}
use Rattle.mj_journaler.specs.Inside.{journal_in}
use Rattle.mj_journaler.specs.Keeps.{IsJournal}
use Rattle.mj_journaler.specs.Calls.{offered}
use Rattle.mj_journaler.specs.declared.sent.Sent.{Sent}
use Rattle.mj_journaler.specs.declared.sent.Offer.TheVariants.{Removal}
use Rattle.mj_journaler.proofs.Kept.{offered_is, purge_small}
use Rattle.mj_journaler.proofs.journaler.Journaler.next_purge.Goals as goal

pub invariant_of-self-2 : goal.invariant_of-self-2
invariant_of-self-2 c =
    let j = journal_in c.self.inside in
    record {
      journal = subst (λ (m : List Sent). IsJournal (record (offered (Some (Removal j.removing)) j) { removals = m })) (sym c.in_ok-reserve.ensures.sent)
          (offered_is j (Some (Removal j.removing)) c.self.invariant.journal (refl, purge_small j c.sc.result c.period.result c.self.invariant.journal c.sc.ensures c.period.ensures c.if-self-set_end.false));
      end = c.self.invariant.end;
      bytes = c.self.invariant.bytes;
      entries = c.self.invariant.entries;
      given = c.in_ok-reserve.ensures.room;
    }
