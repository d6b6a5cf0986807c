use Rattle.std.proofs.Common.{◌+◌, sym, subst}
use Rattle.mj_journaler.specs.Journal.{Journal, IsNew}
use Rattle.mj_journaler.specs.Calls.{flush_of}
use Rattle.mj_journaler.proofs.Newer.{new_offered, new_sent, if_ok}
use Rattle.mj_journal_tests.proofs.journaler.flush.Goals as goal

pub sent-requires-clause-newest : goal.sent-requires-clause-newest
sent-requires-clause-newest c = subst (λ (k : Journal). IsNew c.args.op k) (sym c.in_ok-write.ensures.offer) (new_offered c.args.op (flush_of c.args.j.now) c.args.j.now c.requires)

pub returns-in-Some : goal.returns-in-Some
returns-in-Some c =
    let before = c.next_flush.new.self in
    if_ok c.parts.result (IsNew (c.args.op + 1) c.sent.new.self)
    (subst (λ (k : Journal). IsNew (c.args.op + 1) k) (sym c.sent.ensures)
    (new_sent c.args.op before.offer before (subst (λ (k : Journal). IsNew c.args.op k) (sym c.in_ok-write.ensures.offer) (new_offered c.args.op (flush_of c.args.j.now) c.args.j.now c.requires))))
