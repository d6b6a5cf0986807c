use Rattle.mj_chronicle.proofs.LastEnds.{index_more, index_same}
use Rattle.mj_chronicle.proofs.ends.take_up.Goals as goal

pub returns-in_ok-insert-in-Some-clause-ok : goal.returns-in_ok-insert-in-Some-clause-ok
returns-in_ok-insert-in-Some-clause-ok c = λ es index. index_more es c.args.entry.now c.args.ends.now c.insert.new.self c.pair_of.result c.in-Some.end c.pair_of.ensures c.in-Some.is index c.in_ok-insert-in-Some.ensures.updates.0

pub returns-in-None-clause-ok : goal.returns-in-None-clause-ok
returns-in-None-clause-ok c = λ es index. index_same es c.args.entry.now c.args.ends.now c.in-None.is index
