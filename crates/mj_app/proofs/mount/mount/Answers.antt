use Rattle.mj_app.proofs.WorldsLemmas.{answered}
use Rattle.mj_app.proofs.mount.mount.Goals as goal

pub returns-in-Err : goal.returns-in-Err
returns-in-Err g c = rw (answered _ c.answer_to.result c.answer_to.ensures.told c.answer_to.ensures.memory) at c.in-Err.ensures
