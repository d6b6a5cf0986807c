use Rattle.std.proofs.Common.{refl}
use Rattle.mj_tree.specs.Answer.{looked}
use Rattle.mj_tree.proofs.Stopping.{stop_given}
use Rattle.mj_tree.proofs.deciding.looked.Goals as goal

pub returns-in-Err : goal.returns-in-Err
returns-in-Err c = λ a s. stop_given looked (λ _. refl) c.in-Err.stop c.stopped.result a c.stopped.ensures (rw c.in-Err.is at s)
