use Rattle.mj_delta.proofs.EventIs.{event_there, event_gives, event_exact}
use Rattle.mj_delta.proofs.EventFits.{event_fits}
use Rattle.mj_delta.proofs.events.event_is_exact.Goals as goal

pub returns : goal.returns
returns c = record { there = event_there; tree = event_gives; exact = event_exact; fits = event_fits }
