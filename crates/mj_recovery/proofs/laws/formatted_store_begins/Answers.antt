use Rattle.mj_recovery.proofs.Formatting.{held, formatted_is}
use Rattle.mj_recovery.proofs.laws.formatted_store_begins.Goals as goal

pub returns : goal.returns
returns c = record { objects = λ rank layout small sound. held rank small layout sound; tree = λ rank layout image small sound holds. formatted_is rank small layout sound image holds }
