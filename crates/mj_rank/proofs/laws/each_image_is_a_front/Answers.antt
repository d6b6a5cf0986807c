use Rattle.mj_rank.proofs.Crashes.{lives_leave}
use Rattle.mj_rank.proofs.Stopping.{rested_leaves}
use Rattle.mj_rank.proofs.MountLives.{mounted_leaves}
use Rattle.mj_rank.proofs.laws.each_image_is_a_front.Goals as goal

pub returns-clause-serving : goal.returns-clause-serving
returns-clause-serving c = lives_leave

pub returns-clause-stopped : goal.returns-clause-stopped
returns-clause-stopped c = rested_leaves

pub returns-clause-mounting : goal.returns-clause-mounting
returns-clause-mounting c = mounted_leaves
