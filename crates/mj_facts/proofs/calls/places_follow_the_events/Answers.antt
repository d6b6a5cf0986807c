use Rattle.mj_facts.proofs.Entries.{place_rises, place_back, place_last}
use Rattle.mj_facts.proofs.calls.places_follow_the_events.Goals as goal

pub returns-clause-rises : goal.returns-clause-rises
returns-clause-rises c = place_rises

pub returns-clause-back : goal.returns-clause-back
returns-clause-back c = place_back

pub returns-clause-last : goal.returns-clause-last
returns-clause-last c = place_last
