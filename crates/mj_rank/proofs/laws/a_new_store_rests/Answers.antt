use Rattle.mj_rank.proofs.FormattedRests.{formatted_rested}
use Rattle.mj_rank.proofs.laws.a_new_store_rests.Goals as goal

pub returns : goal.returns
returns c rank layout s small sound quiet holds = formatted_rested rank small layout sound s quiet holds
