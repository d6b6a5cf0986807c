use Rattle.mj_replay.proofs.Rebuilt.{history_replayed}
use Rattle.mj_replay.proofs.laws.a_history_is_replayed.Goals as goal

pub returns : goal.returns
returns c = history_replayed
