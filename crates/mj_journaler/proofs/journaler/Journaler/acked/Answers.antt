use Rattle.std.proofs.Common.{◌≡◌, ◌∙◌, ◌≤◌, List, ap, sym, subst, arith}
use Rattle.mj_journaler.specs.Outstanding.{Follow}
use Rattle.mj_journaler.specs.Journal.{Journal}
use Rattle.mj_journaler.specs.Inside.{journal_in}
use Rattle.mj_journaler.specs.Keeps.{IsJournal, IsDone, IsLast}
use Rattle.mj_journaler.specs.Calls.{acked_to, expire_of, acknowledged}
use Rattle.mj_journaler.specs.declared.sent.Sent.{Sent}
use Rattle.mj_journaler.proofs.Out.{last_end_rises}
use Rattle.mj_journaler.proofs.Kept.{follow_later, follow_without, acked_as, acked_done, acknowledged_is, is_last}
use Rattle.mj_journaler.proofs.Room.{more}
use Rattle.mj_journaler.proofs.journaler.Journaler.acked.Goals as goal

pub lowest-done-requires : goal.lowest-done-requires
lowest-done-requires c =
    let j = journal_in c.self.inside in
    let op = c.op.inside.0 in
    subst (λ (m : List Sent). Follow 0 m j.flushed) (sym c.settle.ensures.rest)
    (follow_without op 0 j.sent j.flushed (follow_later j.safe 0 j.sent j.flushed (omega arith) c.self.invariant.journal.sent))

now : goal.After-self-2-1 → Journal
now c = record (journal_in c.self.inside) {
  safe = c.safe_below-self-inside.result;
  ends = c.safe_below-self-inside.new.ends.items;
  sent = c.settle.new.self.sent;
  heads = c.settle-2.new.self.sent;
  live = c.expire_after-self-inside.result;
  removals = c.settle-3.new.self.sent;
}

same : (c : goal.After-self-2-1) → acknowledged c.op.inside.0 (journal_in c.self.inside) ≡ now c
unfolding now
same c =
    acked_as (journal_in c.self.inside) c.op.inside.0 c.expire_after-self-inside.result c.safe_below-self-inside.result c.lowest-done.result c.safe_below-self-inside.new.ends.items c.settle.new.self.sent c.settle-2.new.self.sent c.settle-3.new.self.sent
    c.settle.ensures.rest c.settle-2.ensures.rest c.settle-3.ensures.rest
    (c.expire_after-self-inside.ensures ∙ ap (λ o. expire_of o c.self.inside.live) c.settle-2.ensures.was)
    c.lowest-done.ensures c.safe_below-self-inside.ensures.safe c.safe_below-self-inside.ensures.ends

pub invariant_of-self : goal.invariant_of-self
unfolding now
invariant_of-self c = record {
  journal = subst (λ (j : Journal). IsJournal j) (same c) (acknowledged_is (journal_in c.self.inside) c.op.inside.0 c.self.invariant.journal);
  end = c.self.invariant.end;
  bytes = c.self.invariant.bytes;
  entries = omega (arith, c.self.invariant.entries, c.safe_below-self-inside.ensures.room);
  given = more c.self.inside.offer c.settle.ensures.room c.settle-2.ensures.room c.settle-3.ensures.room c.self.invariant.given;
}

pub returns-clause-done : goal.returns-clause-done
returns-clause-done c =
    subst (λ n. IsDone c.args.self.now n (acked_to c.args.self.now n)) c.op.view_is
    (subst (λ (j : Journal). IsDone j c.op.inside.0 (acked_to j c.op.inside.0)) c.self.view_is (acked_done (journal_in c.self.inside) c.op.inside.0 c.self.invariant.journal))

pub returns-clause-rises : goal.returns-clause-rises
unfolding now
returns-clause-rises c =
    let j = journal_in c.self.inside in
    subst (λ (k : Journal). k.safe ≤ c.safe_below-self-inside.result) c.self.view_is
    (subst (λ (k : Journal). j.safe ≤ k.safe) (same c) (last_end_rises j.safe j.ends (acked_to j c.op.inside.0) c.self.invariant.journal.rising))

pub returns-clause-last : goal.returns-clause-last
unfolding now
returns-clause-last c =
    let j = journal_in c.self.inside in
    let op = c.op.inside.0 in
    let at = acked_to j op in
    let done : IsDone j op at = acked_done j op c.self.invariant.journal in
    let end = c.safe_below-self-inside.result in
    subst (λ n. IsLast c.args.self.now.safe c.args.self.now.ends (acked_to c.args.self.now n) end) c.op.view_is
    (subst (λ (k : Journal). IsLast k.safe k.ends (acked_to k op) end) c.self.view_is
    (subst (λ (k : Journal). IsLast j.safe j.ends at k.safe) (same c) (is_last j.safe j.ends at done.above c.self.invariant.journal.rising)))
