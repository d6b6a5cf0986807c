use Rattle.mj_texts.specs.Script.{script_of}
use Rattle.mj_app.specs.Call.{files_state}
use Rattle.mj_app.proofs.CallLemmas.{played, read_exact, refused, refused_play, refusal_exact}
use Rattle.mj_app.proofs.call.play_script.Goals as goal

pub returns-in-Ok-clause-says : goal.returns-in-Ok-clause-says
returns-in-Ok-clause-says g c = played g.S.ObjectStore.state g.S.ObjectStore.faults g.S.ObjectStore.unreported _ _ _ (files_state g.F.Files.told g.F.Files.faults c.read_lines.new.files) _ _ _ _ _ _ c.in-Ok.ensures.lines (rw c.deref.ensures.value at c.play.ensures)

pub returns-in-Ok-clause-exact : goal.returns-in-Ok-clause-exact
returns-in-Ok-clause-exact g c = read_exact script_of _ _ _ _ _ c.in-Ok.ensures.lines

pub returns-in-Err-clause-says : goal.returns-in-Err-clause-says
returns-in-Err-clause-says g c = refused_play g.S.ObjectStore.state g.S.ObjectStore.faults g.S.ObjectStore.unreported _ _ _ (files_state g.F.Files.told g.F.Files.faults c.read_lines.new.files) _ _ _ _ (refused script_of _ _ (files_state g.F.Files.told g.F.Files.faults c.read_lines.new.files) _ _ _ c.in-Err.refusal c.in-Err.ensures.refused c.refuse-status.ensures.says)

pub returns-in-Err-clause-exact : goal.returns-in-Err-clause-exact
returns-in-Err-clause-exact g c = refusal_exact script_of _ _ _ c.refuse-status.result c.in-Err.refusal _ _ c.in-Err.ensures.refused c.refuse-status.ensures.says
