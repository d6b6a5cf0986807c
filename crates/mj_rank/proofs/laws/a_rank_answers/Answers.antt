use Rattle.mj_rank.proofs.Asking.{tree_lives, lives_answered, lives_journalled, lives_mapped}
use Rattle.mj_rank.proofs.laws.a_rank_answers.Goals as goal

pub returns-clause-same : goal.returns-clause-same
returns-clause-same c rank l cells m s r ends same k = lives_answered rank l cells m s k r ends same

pub returns-clause-changed : goal.returns-clause-changed
returns-clause-changed c rank l cells m s r e k change gives payload room = lives_journalled rank l cells m s k r e change gives payload room

pub returns-clause-segment : goal.returns-clause-segment
returns-clause-segment c rank l cells m s k room = lives_mapped rank l cells m s k room

pub returns-clause-tree : goal.returns-clause-tree
returns-clause-tree c = tree_lives
