use Rattle.std.proofs.Common.{Ok, ap, ◌∙◌}
use Rattle.mj_base.specs.Reading.{◌>>=◌}
use Rattle.mj_maps.specs.Map.{get}
use Rattle.mj_recovery.specs.Journal.{header_in, journal_from}
use Rattle.mj_recovery.specs.Recovered.{recovered, merged_damage, merged_with, or_damage}
use Rattle.mj_recovery.proofs.Formatting.{formatted_is}
use Rattle.mj_format.specs.Formatting.{header_object}
use Rattle.mj_format.proofs.Laid.{made, holds}
use Rattle.mj_format.proofs.laws.a_formatted_store_is_new.Goals as goal

pub returns-clause-made : goal.returns-clause-made
returns-clause-made c rank layout before image name object f e none = made rank layout before image name object f e none

pub returns-clause-holds : goal.returns-clause-holds
returns-clause-holds c rank layout before image none f = holds rank layout before image none f

pub returns-clause-tree : goal.returns-clause-tree
returns-clause-tree c rank layout before image small sound none f = formatted_is rank small layout sound image (holds rank layout before image none f)

pub returns-clause-lacks : goal.returns-clause-lacks
unfolding recovered
returns-clause-lacks c rank image objects same lacks =
    ap (λ h. ((h >>= λ x. journal_from (get objects) rank x) >>= λ j. Ok (merged_with rank objects j)) >>= λ r. or_damage (merged_damage rank objects r.journal r.table) r)
    (ap header_in (same (header_object rank)) ∙ lacks)
