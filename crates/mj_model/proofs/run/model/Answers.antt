use Rattle.mj_tree.specs.Meaning.{state_of}
use Rattle.mj_model.specs.Took.{sink_state}
use Rattle.mj_model.proofs.ModelLemmas.{up_to_none, line_at, one_more, run_ends, all_done}
use Rattle.mj_model.proofs.run.model.Goals as goal

pub loop-i-init : goal.loop-i-init
loop-i-init g c = up_to_none _ _ _ _ c.new-tree.ensures

pub loop-i-preserved : goal.loop-i-preserved
loop-i-preserved g c =
    let line = line_at c.args.lines.now c.loop-i.i c.index-lines-i.result c.loop-i-test.true c.index-lines-i.is in
    let says = c.in-Ok.ensures.says in
    one_more _ _ _ _ _ _ _ c.loop-i.invariant c.index-lines-i.result line _ says.0 says.1 says.2 c.answer_line.ensures.later

pub returns-in-Err-clause-says : goal.returns-in-Err-clause-says
returns-in-Err-clause-says g c =
    let line = line_at c.args.lines.now c.loop-i.i c.index-lines-i.result c.loop-i-test.true c.index-lines-i.is in
    run_ends _ _ _ _ _ _ (sink_state g.K.Sink.taken g.K.Sink.faults c.answer_line.new.out) c.loop-i.invariant c.index-lines-i.result line (state_of c.answer_line.new.tree) c.in-Err.end c.in-Err.ensures.says

pub returns-clause-says : goal.returns-clause-says
returns-clause-says g c = all_done _ _ _ _ _ _ (sink_state g.K.Sink.taken g.K.Sink.faults c.loop-i.out) c.loop-i.invariant c.loop-i-test.false
