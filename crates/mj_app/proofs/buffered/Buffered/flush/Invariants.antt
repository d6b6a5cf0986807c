use Rattle.std.proofs.Common.{◌≡◌, ◌≤◌, length}
use Rattle.mj_app.specs.Buffered.{told_to}
use Rattle.mj_app.proofs.buffered.Buffered.flush.Given as goal

abbrev pub invariant-loop-self : goal.invariant-loop-self
invariant-loop-self g l = record {
  told : told_to g.K.Sink.taken l.self ≡ told_to g.K.Sink.taken l.initial.self;
  later : g.K.Sink.faults l.initial.self.inner ≤ g.K.Sink.faults l.self.inner;
}

abbrev pub decreases-loop-self : goal.decreases-loop-self
decreases-loop-self g l = length l.self.held.items
