use Rattle.mj_store.proofs.Always.{always_tried, always_failed, always_reported}
use Rattle.mj_facts.specs.Few.{IsAbsentBut}
use Rattle.mj_facts.proofs.Few.{few_rest, few_submitted, few_image}
use Rattle.mj_facts.proofs.Quiet.{always_quiet}
use Rattle.mj_facts.proofs.few_objects.few_objects_are_held.Goals as goal

pub returns-clause-begins : goal.returns-clause-begins
returns-clause-begins c = few_rest

pub returns-clause-quiet : goal.returns-clause-quiet
returns-clause-quiet c names s q h = always_quiet (IsAbsentBut names) s q h

pub returns-clause-tried : goal.returns-clause-tried
returns-clause-tried c names s name h = always_tried (IsAbsentBut names) s name h

pub returns-clause-not_done : goal.returns-clause-not_done
returns-clause-not_done c names s name h = always_failed (IsAbsentBut names) s name h

pub returns-clause-told : goal.returns-clause-told
returns-clause-told c names s h = always_reported (IsAbsentBut names) s h

pub returns-clause-submitted : goal.returns-clause-submitted
returns-clause-submitted c = few_submitted

pub returns-clause-image : goal.returns-clause-image
returns-clause-image c = few_image
