use Rattle.mj_app.proofs.WorldsLemmas.{answered, one_told, one_refused}
use Rattle.mj_app.proofs.line.one_step.Goals as goal

pub returns-in-Ok : goal.returns-in-Ok
returns-in-Ok g c = one_told g.S.ObjectStore.state g.S.ObjectStore.faults g.S.ObjectStore.unreported c.args.step.now c.in-Ok.said c.answer_of.result c.requires c.in-Ok.ensures.made c.answer_of.ensures

pub returns-in-Err : goal.returns-in-Err
returns-in-Err g c = one_refused g.S.ObjectStore.state g.S.ObjectStore.faults g.S.ObjectStore.unreported c.args.step.now c.in-Err.refusal _ c.requires c.in-Err.ensures.made (answered _ c.answer_to.result c.answer_to.ensures.told c.answer_to.ensures.memory)
