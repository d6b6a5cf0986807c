use Rattle.mj_store.specs.State.{reported}
use Rattle.mj_facts.proofs.WhileMounting.{mounts_fronts, mounts_tried, mounts_failed, mounts_reported, mounts_done, mounts_headed, mounts_settled, mounts_cut, mounts_cut_done, mounts_passed, mounts_elsewhere}
use Rattle.mj_facts.proofs.mounting.a_mount_goes_on.Goals as goal

pub returns-clause-tried : goal.returns-clause-tried
returns-clause-tried c = mounts_tried

pub returns-clause-not_done : goal.returns-clause-not_done
returns-clause-not_done c = mounts_failed

pub returns-clause-told : goal.returns-clause-told
returns-clause-told c = mounts_reported

pub returns-clause-header : goal.returns-clause-header
returns-clause-header c = mounts_headed

pub returns-clause-header_done : goal.returns-clause-header_done
returns-clause-header_done c k s a stood after mt e done set = mounts_settled k (reported s) a.op stood after (mounts_reported k s mt) (mounts_done k s a mt e done) set

pub returns-clause-truncation : goal.returns-clause-truncation
returns-clause-truncation c = mounts_cut

pub returns-clause-truncation_done : goal.returns-clause-truncation_done
returns-clause-truncation_done c k s a out mt e done less = mounts_cut_done k (reported s) a.op out (mounts_reported k s mt) (mounts_done k s a mt e done) less

pub returns-clause-elsewhere : goal.returns-clause-elsewhere
returns-clause-elsewhere c = mounts_elsewhere

pub returns-clause-passed : goal.returns-clause-passed
returns-clause-passed c = mounts_passed

pub returns-clause-fronts : goal.returns-clause-fronts
returns-clause-fronts c = mounts_fronts
