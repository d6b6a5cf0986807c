use Rattle.mj_rank.proofs.MountLives.{mounted_tried, mounted_failed, mounted_reported, mounted_stopped}
use Rattle.mj_rank.proofs.laws.a_mount_lives_on.Goals as goal

pub returns-clause-tried : goal.returns-clause-tried
returns-clause-tried c v m s name k = mounted_tried v m s k name

pub returns-clause-not_done : goal.returns-clause-not_done
returns-clause-not_done c v m s name k = mounted_failed v m s k name

pub returns-clause-told : goal.returns-clause-told
returns-clause-told c v m s k = mounted_reported v m s k

pub returns-clause-stopped : goal.returns-clause-stopped
returns-clause-stopped c v m s image im k = mounted_stopped v m s k image im
