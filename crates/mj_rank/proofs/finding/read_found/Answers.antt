use Rattle.mj_store.specs.State.{contents}
use Rattle.mj_replay.specs.Replayed.{replayed_in}
use Rattle.mj_rank.proofs.PastEnd.{past_end}
use Rattle.mj_rank.proofs.finding.read_found.Goals as goal

pub returns-else-tail-lt-POSITIONS_END-clause-told : goal.returns-else-tail-lt-POSITIONS_END-clause-told
returns-else-tail-lt-POSITIONS_END-clause-told g c = λ s state still.
    past_end c.args.number c.in_ok-header.field-0 (replayed_in c.args.number (contents s)) (c.in_ok-header.ensures.told s state still) c.if-tail-lt-POSITIONS_END.false
