use Rattle.mj_model.specs.Took.{sink_state}
use Rattle.mj_app.proofs.RunLemmas.{UpTo}
use Rattle.mj_app.proofs.play.play_restarted.Given as goal

abbrev pub invariant-loop-i : goal.invariant-loop-i
invariant-loop-i g l = UpTo g.S.ObjectStore.state g.S.ObjectStore.faults g.S.ObjectStore.unreported l.i l.lines (sink_state g.K.Sink.taken g.K.Sink.faults l.fn.out) (sink_state g.K.Sink.taken g.K.Sink.faults l.out) l.initial.world l.world
