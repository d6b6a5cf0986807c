use Rattle.std.proofs.Common.{refl}
use Rattle.mj_tree.specs.Answer.{by_effect}
use Rattle.mj_tree.proofs.Stopping.{stop_given}
use Rattle.mj_tree.proofs.deciding.by_effect.Goals as goal

pub returns-in-Err : goal.returns-in-Err
returns-in-Err c = λ e s. stop_given by_effect (λ _. refl) c.in-Err.stop c.stopped.result e c.stopped.ensures (rw c.in-Err.is at s)
