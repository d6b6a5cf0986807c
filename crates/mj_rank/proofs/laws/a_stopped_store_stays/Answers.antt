use Rattle.mj_rank.proofs.Stopping.{rested_tried, rested_failed, rested_stopped}
use Rattle.mj_rank.proofs.laws.a_stopped_store_stays.Goals as goal

pub returns-clause-tried : goal.returns-clause-tried
returns-clause-tried c rank m s name k = rested_tried rank m s k name

pub returns-clause-not_done : goal.returns-clause-not_done
returns-clause-not_done c rank m s name k = rested_failed rank m s k name

pub returns-clause-stopped : goal.returns-clause-stopped
returns-clause-stopped c rank m s image im k = rested_stopped rank m s k image im
