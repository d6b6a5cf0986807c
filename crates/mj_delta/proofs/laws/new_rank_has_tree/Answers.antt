use Rattle.mj_delta.proofs.Fresh.{fresh_tree, formatted_fresh}
use Rattle.mj_delta.proofs.laws.new_rank_has_tree.Goals as goal

pub returns : goal.returns
returns c = record { tree = fresh_tree; formatted = λ rank layout small sound. formatted_fresh rank small layout sound }
