use Rattle.std.proofs.Common.{inl, inr, refl}
use Rattle.mj_model.specs.Chronicle.{chronicle_of}
use Rattle.mj_app.specs.Call.{files_state}
use Rattle.mj_app.proofs.CallLemmas.{read_exact, refused, refusal_exact}
use Rattle.mj_app.proofs.chronicle.answer_chronicle.Goals as goal

pub returns-in-Ok-clause-says : goal.returns-in-Ok-clause-says
returns-in-Ok-clause-says g c = inr (_, c.in-Ok.ensures.lines, rw c.deref.ensures.value at c.answer_lines.ensures)

pub returns-in-Ok-clause-exact : goal.returns-in-Ok-clause-exact
returns-in-Ok-clause-exact g c = read_exact chronicle_of _ _ _ _ _ c.in-Ok.ensures.lines

pub returns-in-Err-clause-says : goal.returns-in-Err-clause-says
returns-in-Err-clause-says g c = inl (refused chronicle_of _ _ (files_state g.F.Files.told g.F.Files.faults c.read_chronicle_lines.new.files) _ _ _ c.in-Err.refusal c.in-Err.ensures.refused c.refuse-status.ensures.says, refl)

pub returns-in-Err-clause-exact : goal.returns-in-Err-clause-exact
returns-in-Err-clause-exact g c = refusal_exact chronicle_of _ _ _ c.refuse-status.result c.in-Err.refusal _ _ c.in-Err.ensures.refused c.refuse-status.ensures.says
