use Rattle.mj_layout.proofs.HeaderLaw.{header_takes, is_header, header_back}
use Rattle.mj_layout.proofs.spelling.header_has_one_spelling.Goals as goal

pub returns-clause-spelled : goal.returns-clause-spelled
returns-clause-spelled c bytes h fits e = let t = header_takes bytes h fits e in (t.0, is_header h t.1 t.2)

pub returns-clause-again : goal.returns-clause-again
returns-clause-again c = header_back
