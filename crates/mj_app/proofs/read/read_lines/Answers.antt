use Rattle.mj_texts.specs.Script.{script_of}
use Rattle.mj_app.proofs.CallLemmas.{keeps_from_lines}
use Rattle.mj_app.proofs.read.read_lines.Goals as goal

pub returns-in-Err-clause-refused : goal.returns-in-Err-clause-refused
returns-in-Err-clause-refused g c = keeps_from_lines script_of _ _ _ _ c.in-Err.refusal c.in-Err.ensures.refused
