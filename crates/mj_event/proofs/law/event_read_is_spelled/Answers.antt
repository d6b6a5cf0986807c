use Rattle.mj_event.proofs.EventLaw.{read_is_spelled}
use Rattle.mj_event.proofs.law.event_read_is_spelled.Goals as goal

pub returns : goal.returns
returns c = λ payload e bounds is. read_is_spelled payload e bounds is
