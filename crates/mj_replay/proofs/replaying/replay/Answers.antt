use Rattle.std.proofs.Common.{sym, subst}
use Rattle.mj_store.specs.State.{contents}
use Rattle.mj_replay.specs.Replayed.{Replays}
use Rattle.mj_replay.proofs.Rebuilt.{journal_replayed, journal_refused}
use Rattle.mj_replay.proofs.Passed.{is_passed}
use Rattle.mj_replay.proofs.replaying.replay.Goals as goal

pub returns-in_err-journal-clause-told : goal.returns-in_err-journal-clause-told
returns-in_err-journal-clause-told g c = λ s is still. rw (is_passed c.in_err-journal.field-0.0 c.from_residual.result c.from_residual.ensures.1) (journal_refused c.in_err-journal.field-0.0 c.args.rank (contents s) (c.in_err-journal.ensures.told s is still))

pub returns-clause-told : goal.returns-clause-told
returns-clause-told g c = λ s is still.
    subst (Replays c.args.rank c.replay_journal.result) (sym (journal_replayed c.args.rank (contents s) c.in_ok-journal.journal (c.in_ok-journal.ensures.told s is still))) c.replay_journal.ensures.told

pub returns-clause-cause : goal.returns-clause-cause
returns-clause-cause g c = c.replay_journal.ensures.cause _ _
