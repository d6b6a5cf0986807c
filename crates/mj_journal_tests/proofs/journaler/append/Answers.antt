use Rattle.mj_journaler.proofs.Newer.{new_appended}
use Rattle.mj_journal_tests.proofs.journaler.append.Goals as goal

pub returns : goal.returns
returns c = λ n h. new_appended n c.args.j.now c.append.new.self c.deref.result.now c.append.result c.append.ensures.refused c.append.ensures.taken c.append.ensures.same h
