use Rattle.mj_tree.specs.Meaning.{state_of}
use Rattle.mj_tree.specs.State.{new_state}
use Rattle.mj_model.specs.Took.{sink_state}
use Rattle.mj_model.proofs.ModelLemmas.{UpTo}
use Rattle.mj_model.proofs.run.model.Given as goal

abbrev pub invariant-loop-i : goal.invariant-loop-i
invariant-loop-i g l = UpTo l.i l.lines (new_state l.fn.rank) (state_of l.tree) (sink_state g.K.Sink.taken g.K.Sink.faults l.fn.out) (sink_state g.K.Sink.taken g.K.Sink.faults l.out)
