use Rattle.mj_base.proofs.EscapeLaws.{unescaped-escaped, escaped-unescaped}
use Rattle.mj_base.proofs.law.escapes_are_read_again.Goals as goal

pub returns : goal.returns
returns c = record { again = unescaped-escaped; takes = escaped-unescaped }
