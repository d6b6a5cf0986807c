use Rattle.mj_store.proofs.Covers.{each_moment_lem}
use Rattle.mj_store.proofs.store.each_moment.Goals as goal

pub returns : goal.returns
returns c k events s image w im = each_moment_lem k events s image w im
