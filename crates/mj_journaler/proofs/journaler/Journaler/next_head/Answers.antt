use Rattle.std.proofs.Common.{◌≡◌, ℕ, ◌≤◌, ◌<◌, ◌^◌, List, Some, refl, ap, sym, subst, arith}
use Rattle.mj_layout.specs.Header.{IsHeader}
use Rattle.mj_layout.specs.declared.Header.{Header}
use Rattle.mj_journaler.specs.Journal.{Journal, trimmed_of}
use Rattle.mj_journaler.specs.Inside.{journal_in}
use Rattle.mj_journaler.specs.Keeps.{IsJournal}
use Rattle.mj_journaler.specs.Calls.{header_now, offered}
use Rattle.mj_journaler.specs.declared.sent.Sent.{Sent}
use Rattle.mj_journaler.specs.declared.sent.Offer.TheVariants.{Head}
use Rattle.mj_journaler.proofs.Kept.{header_sound, offered_is}
use Rattle.mj_journaler.proofs.journaler.Journaler.next_head.Goals as goal

sound : (j k : Journal) (expire : ℕ) → j ≡ k → IsJournal j → trimmed_of k ≤ expire → expire ≤ k.safe → k.safe < 2 ^ 62 → IsHeader (header_now k expire)
sound j k expire e h t s below = header_sound k expire (subst (λ (m : Journal). IsJournal m) e h) t s below

pub returns-then-self-clause-sound : goal.returns-then-self-clause-sound
returns-then-self-clause-sound c = sound (journal_in c.self.inside) c.args.self.now c.args.expire c.self.view_is c.self.invariant.journal c.requires.trimmed c.requires.safe

pub returns-in_err-bytes-clause-sound : goal.returns-in_err-bytes-clause-sound
returns-in_err-bytes-clause-sound c = sound (journal_in c.self.inside) c.args.self.now c.args.expire c.self.view_is c.self.invariant.journal c.requires.trimmed c.requires.safe

pub returns-in_err-reserve-clause-sound : goal.returns-in_err-reserve-clause-sound
returns-in_err-reserve-clause-sound c = sound (journal_in c.self.inside) c.args.self.now c.args.expire c.self.view_is c.self.invariant.journal c.requires.trimmed c.requires.safe

pub returns-clause-sound : goal.returns-clause-sound
returns-clause-sound c = sound (journal_in c.self.inside) c.args.self.now c.args.expire c.self.view_is c.self.invariant.journal c.requires.trimmed c.requires.safe

pub invariant_of-self-2 : goal.invariant_of-self-2
invariant_of-self-2 c =
    let j = journal_in c.self.inside in
    let header : Header = record c.self.inside.header { trimmed = c.trimmed.result; expire = c.args.expire; write = c.self.inside.safe } in
    record {
      journal = subst (λ (m : List Sent). IsJournal (record (offered (Some (Head header)) j) { heads = m })) (sym c.in_ok-reserve.ensures.sent)
          (offered_is j (Some (Head header)) c.self.invariant.journal (record { layout = refl; format = refl; epoch = refl; expire = omega (arith, c.requires.safe, ap (λ (k : Journal). k.safe) c.self.view_is) }));
      end = c.self.invariant.end;
      bytes = c.self.invariant.bytes;
      entries = c.self.invariant.entries;
      given = c.in_ok-reserve.ensures.room;
    }
