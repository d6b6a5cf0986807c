use Rattle.std.proofs.Common.{subst, sym, arith}
use Rattle.mj_store.specs.State.{contents}
use Rattle.mj_recovery.specs.Stream.{stream}
use Rattle.mj_replay.specs.Replays.{Gives}
use Rattle.mj_probe.proofs.Looking.{still_after, looks_then}
use Rattle.mj_replay.proofs.Lives.{live_ok, live_fails}
use Rattle.mj_replay.proofs.Passed.{is_passed}
use Rattle.mj_replay.proofs.entries.read_live.Goals as goal

pub returns-in_err-found-clause-looks : goal.returns-in_err-found-clause-looks
returns-in_err-found-clause-looks g c = looks_then (record { stays = c.in-Ok.ensures.stays; same_list = c.in-Ok.ensures.same_list; later = c.in-Ok.ensures.later }) c.in_err-found.ensures.looks

pub returns-clause-looks : goal.returns-clause-looks
returns-clause-looks g c = looks_then (record { stays = c.in-Ok.ensures.stays; same_list = c.in-Ok.ensures.same_list; later = c.in-Ok.ensures.later }) c.in_ok-found.ensures.looks

pub returns-clause-cause : goal.returns-clause-cause
returns-clause-cause g c = c.judge_first.ensures.cause _ _

pub returns-in_err-found-clause-told : goal.returns-in_err-found-clause-told
returns-in_err-found-clause-told g c = λ s is still.
    let told = g.S.ObjectStore.state in
    let h = c.args.header.now in
    let now = still_after s (told c.args.store.now) (told c.probe_end.new.store) is still c.in-Ok.ensures.stays in
    let e = c.in-Ok.ensures.told s is still in
    rw (is_passed c.in_err-found.field-0.0 c.from_residual.result c.from_residual.ensures.1)
    (live_fails c.in_err-found.field-0.0 (stream (contents s) c.args.rank h.layout h.expire) h.expire h.write (omega (arith, e, c.if-end-header.false)) (c.in_err-found.ensures.told s now still e))

pub returns-clause-told : goal.returns-clause-told
returns-clause-told g c = λ s is still.
    let told = g.S.ObjectStore.state in
    let h = c.args.header.now in
    let now = still_after s (told c.args.store.now) (told c.probe_end.new.store) is still c.in-Ok.ensures.stays in
    let e = c.in-Ok.ensures.told s is still in
    subst (Gives c.judge_first.result) (sym (live_ok (stream (contents s) c.args.rank h.layout h.expire) h.expire h.write c.in_ok-found.found (omega (arith, e, c.if-end-header.false)) (c.in_ok-found.ensures.told s now still e))) c.judge_first.ensures.told
