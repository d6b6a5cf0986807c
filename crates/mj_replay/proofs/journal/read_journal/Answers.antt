use Rattle.std.proofs.Common.{refl}
use Rattle.mj_store.specs.State.{contents}
use Rattle.mj_recovery.specs.Stream.{stream}
use Rattle.mj_recovery.proofs.Steps.{journal_ok}
use Rattle.mj_probe.proofs.Looking.{still_after, looks_then}
use Rattle.mj_replay.proofs.Lives.{journal_fails}
use Rattle.mj_replay.proofs.Passed.{is_passed}
use Rattle.mj_replay.proofs.journal.read_journal.Goals as goal

pub returns-in_err-found-clause-stays : goal.returns-in_err-found-clause-stays
returns-in_err-found-clause-stays g c = (looks_then c.in_ok-header.ensures.looks c.in_err-found.ensures.looks).stays

pub returns-clause-stays : goal.returns-clause-stays
returns-clause-stays g c = (looks_then c.in_ok-header.ensures.looks c.in_ok-found.ensures.looks).stays

pub returns-in_err-found-clause-told : goal.returns-in_err-found-clause-told
returns-in_err-found-clause-told g c = λ s is still.
    let told = g.S.ObjectStore.state in
    let now = still_after s (told c.args.store.now) (told c.read_header.new.store) is still c.in_ok-header.ensures.looks.stays in
    rw (is_passed c.in_err-found.field-0.0 c.from_residual-in_err-found.result c.from_residual-in_err-found.ensures.1)
    (journal_fails c.in_err-found.field-0.0 (contents s) c.args.rank c.in_ok-header.header (c.in_ok-header.ensures.told s is still) (c.in_err-found.ensures.told s now still))

pub returns-clause-told : goal.returns-clause-told
returns-clause-told g c = λ s is still.
    let told = g.S.ObjectStore.state in
    let h = c.in_ok-header.header in
    let now = still_after s (told c.args.store.now) (told c.read_header.new.store) is still c.in_ok-header.ensures.looks.stays in
    journal_ok (contents s) c.args.rank h (stream (contents s) c.args.rank h.layout h.expire) c.in_ok-found.found (c.in_ok-header.ensures.told s is still) refl (c.in_ok-found.ensures.told s now still)
