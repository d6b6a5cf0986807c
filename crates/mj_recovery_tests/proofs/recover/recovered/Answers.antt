use Rattle.std.proofs.Common.{sym, ◌∙◌}
use Rattle.mj_recovery_tests.specs.View.{recovery_of}
use Rattle.mj_recovery_tests.proofs.Whole.{journal_fails, undamaged, damaged}
use Rattle.mj_recovery_tests.proofs.recover.recovered.Goals as goal

pub returns-in-Err : goal.returns-in-Err
returns-in-Err c = journal_fails c.args.rank c.args.objects.now c.in-Err.why c.in-Err.ensures.told

pub returns-in-Some : goal.returns-in-Some
returns-in-Some c = damaged c.args.rank c.args.objects.now c.in-Ok.journal (recovery_of c.in_ok-found.found) c.in-Some.damage c.in-Ok.ensures.told c.in_ok-found.ensures (sym c.in-Some.is ∙ c.in_ok-damage.ensures)

pub returns-in-None : goal.returns-in-None
returns-in-None c = undamaged c.args.rank c.args.objects.now c.in-Ok.journal (recovery_of c.in_ok-found.found) c.in-Ok.ensures.told c.in_ok-found.ensures (sym c.in-None.is ∙ c.in_ok-damage.ensures)
