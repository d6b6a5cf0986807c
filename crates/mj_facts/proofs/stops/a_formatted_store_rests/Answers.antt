use Rattle.mj_facts.proofs.Laws.{blank_journalled, formatted_rests, formatted_in_order}
use Rattle.mj_facts.proofs.stops.a_formatted_store_rests.Goals as goal

pub returns-clause-journalled : goal.returns-clause-journalled
returns-clause-journalled c rank h image f = blank_journalled rank h f.sound

pub returns-clause-rests : goal.returns-clause-rests
returns-clause-rests c = formatted_rests

pub returns-clause-in_order : goal.returns-clause-in_order
returns-clause-in_order c = formatted_in_order
