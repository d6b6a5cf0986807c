use Rattle.std.proofs.Common.{sym, subst}
use Rattle.mj_journaler.specs.Journal.{Journal, IsNew}
use Rattle.mj_journaler.proofs.Newer.{new_acked}
use Rattle.mj_journal_tests.proofs.journaler.ack.Goals as goal

pub returns : goal.returns
returns c = λ n h. subst (λ (k : Journal). IsNew n k) (sym c.acked.ensures.is) (new_acked n c.args.op c.args.j.now h)
