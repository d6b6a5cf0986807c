use Rattle.mj_facts.proofs.Computed.{may_make_safe, count_place, count_most, last_end_is}
use Rattle.mj_facts.proofs.calls.what_is_done_is_safe.Goals as goal

pub returns-clause-may : goal.returns-clause-may
returns-clause-may c = may_make_safe

pub returns-clause-place : goal.returns-clause-place
returns-clause-place c = count_place

pub returns-clause-most : goal.returns-clause-most
returns-clause-most c = count_most

pub returns-clause-last : goal.returns-clause-last
returns-clause-last c = last_end_is
