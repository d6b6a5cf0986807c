use Rattle.std.proofs.Common.{◌∙◌, ap, arith}
use Rattle.mj_entry.specs.Entry.EntryCase.{Whole}
use Rattle.mj_entry.proofs.Envelope.{entry_whole, entry_front, entry_made}
use Rattle.mj_entry.proofs.entry_has_one_spelling.Goals as goal

pub returns-clause-again : goal.returns-clause-again
returns-clause-again c at payload rest fits below = entry_whole at payload rest fits below ∙ ap (Whole payload) (omega arith)

pub returns-clause-front : goal.returns-clause-front
returns-clause-front c at k payload fits less = entry_front at k payload fits less

pub returns-clause-spelled : goal.returns-clause-spelled
returns-clause-spelled c bytes payload at ends fits e = entry_made bytes payload at ends fits e
