use Rattle.mj_store.specs.State.{reported}
use Rattle.mj_facts.proofs.WhileServing.{serves_fronts, serves_tried, serves_failed, serves_reported, serves_done, serves_made_safe, serves_settled, serves_appended}
use Rattle.mj_facts.proofs.serving.a_rank_goes_on.Goals as goal

pub returns-clause-tried : goal.returns-clause-tried
returns-clause-tried c = serves_tried

pub returns-clause-not_done : goal.returns-clause-not_done
returns-clause-not_done c = serves_failed

pub returns-clause-told : goal.returns-clause-told
returns-clause-told c = serves_reported

pub returns-clause-write_done : goal.returns-clause-write_done
returns-clause-write_done c r s a count sent sv e done may = serves_made_safe r (reported s) a.op count sent (serves_reported r s sv) (serves_done r s a sv e done) may

pub returns-clause-header_done : goal.returns-clause-header_done
returns-clause-header_done c r s a stood after sv e done set = serves_settled r (reported s) a.op stood after (serves_reported r s sv) (serves_done r s a sv e done) set

pub returns-clause-appended : goal.returns-clause-appended
returns-clause-appended c = serves_appended

pub returns-clause-fronts : goal.returns-clause-fronts
returns-clause-fronts c = serves_fronts
