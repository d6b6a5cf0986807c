use Rattle.mj_recovery.proofs.Reaching.{reached_sound, reached_complete}
use Rattle.mj_recovery.proofs.laws.reachable_are_listed.Goals as goal

pub returns : goal.returns
returns c = λ t d. (reached_complete t d, reached_sound t d)
