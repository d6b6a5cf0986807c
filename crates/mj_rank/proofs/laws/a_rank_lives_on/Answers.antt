use Rattle.mj_rank.proofs.Serving.{lives_tried, lives_failed, lives_reported, lives_wrote}
use Rattle.mj_rank.proofs.Reaping.{lives_acked}
use Rattle.mj_rank.proofs.laws.a_rank_lives_on.Goals as goal

pub returns-clause-tried : goal.returns-clause-tried
returns-clause-tried c rank l cells m s name k = lives_tried rank l cells m s k name

pub returns-clause-not_done : goal.returns-clause-not_done
returns-clause-not_done c rank l cells m s name k = lives_failed rank l cells m s k name

pub returns-clause-told : goal.returns-clause-told
returns-clause-told c rank l cells m s k = lives_reported rank l cells m s k

pub returns-clause-write : goal.returns-clause-write
returns-clause-write c rank l cells m s op next more k = lives_wrote rank l cells m s op next more k

pub returns-clause-write_done : goal.returns-clause-write_done
returns-clause-write_done c rank l cells m s a first done k = lives_acked rank l cells m s a k first done
