use Rattle.std.proofs.Common.{refl, inr}
use Rattle.mj_store.proofs.Counts.{cause_reported}
use Rattle.mj_rank.proofs.MountCuts.{looks_none, taken}
use Rattle.mj_rank.proofs.MountSteps.{since_acked}
use Rattle.mj_rank.proofs.SinceLemmas.{mount_since_same, mount_since_not_done, reaps_done, reported_sent}
use Rattle.mj_rank.proofs.mounting.Mounting.await_done.Goals as goal

pub returns-in-None-clause-steps : goal.returns-in-None-clause-steps
returns-in-None-clause-steps g c = record {
  told = g.S.ObjectStore.state c.args.self.now.store;
  looks = looks_none g.S.ObjectStore.state c.args.self.now;
  looked = c.requires.looked;
  awaited = c.requires.sent;
  value = refl;
  reaps = c.in-None.ensures.told;
}

pub returns-in-None-clause-since : goal.returns-in-None-clause-since
returns-in-None-clause-since g c = λ base h. mount_since_same base c.args.self.now _ c.reap.ensures.later h.out h c.in-None.ensures.same_list refl refl

pub returns-then-not-done-clause-cause : goal.returns-then-not-done-clause-cause
returns-then-not-done-clause-cause g c = λ base h _. cause_reported _ c.in-Some.ensures.reported h.counted c.if-not-done.true

pub returns-then-not-done-clause-since : goal.returns-then-not-done-clause-since
returns-then-not-done-clause-since g c = λ base h. mount_since_not_done base c.args.self.now _ c.reap.ensures.later h.out h _ _ c.in-Some.ensures.reported c.if-not-done.true refl

pub returns-then-not-done-clause-steps : goal.returns-then-not-done-clause-steps
returns-then-not-done-clause-steps g c = record {
  told = g.S.ObjectStore.state c.args.self.now.store;
  looks = looks_none g.S.ObjectStore.state c.args.self.now;
  value = refl;
  rest = inr (record { ack = _; not = c.if-not-done.true; reaps = c.in-Some.ensures.told; kept = refl });
}

pub returns-else-not-done-clause-reaped : goal.returns-else-not-done-clause-reaped
returns-else-not-done-clause-reaped g c = λ base h. reported_sent base _ c.args.self.now _ _ c.requires.up c.in-Some.ensures.reported h

pub returns-else-not-done-clause-steps : goal.returns-else-not-done-clause-steps
returns-else-not-done-clause-steps g c = taken g.S.ObjectStore.state c.args.self.now c.acked.new.self c.reap.new.self _ c.acked.ensures.store c.acked.ensures.value
    (reaps_done _ (g.S.ObjectStore.state c.args.self.now.store) (g.S.ObjectStore.state c.reap.new.self) c.if-not-done.false c.in-Some.ensures.told) c.requires.sent c.requires.looked

pub returns-else-not-done-clause-since : goal.returns-else-not-done-clause-since
returns-else-not-done-clause-since g c = λ base h.
    since_acked base c.args.self.now c.acked.new.self c.reap.new.self c.acked.ensures.store c.reap.ensures.later h _ c.requires.up c.requires.sent c.acked.ensures.value c.in-Some.ensures.reported
