use Rattle.mj_store.proofs.Always.{always_tried, always_failed, always_reported}
use Rattle.mj_facts.specs.Elsewhere.{IsUncommitted}
use Rattle.mj_facts.proofs.Uncommitted.{uncommitted_begins, uncommitted_header, uncommitted_journal}
use Rattle.mj_facts.proofs.Quiet.{always_quiet}
use Rattle.mj_facts.proofs.committed.what_is_not_committed_stays.Goals as goal

pub returns-clause-begins : goal.returns-clause-begins
returns-clause-begins c = uncommitted_begins

pub returns-clause-tried : goal.returns-clause-tried
returns-clause-tried c rank base s name u = always_tried (IsUncommitted rank base) s name u

pub returns-clause-not_done : goal.returns-clause-not_done
returns-clause-not_done c rank base s name u = always_failed (IsUncommitted rank base) s name u

pub returns-clause-told : goal.returns-clause-told
returns-clause-told c rank base s u = always_reported (IsUncommitted rank base) s u

pub returns-clause-header : goal.returns-clause-header
returns-clause-header c = uncommitted_header

pub returns-clause-journal : goal.returns-clause-journal
returns-clause-journal c = uncommitted_journal

pub returns-clause-quiet : goal.returns-clause-quiet
returns-clause-quiet c rank base s q u = always_quiet (IsUncommitted rank base) s q u
