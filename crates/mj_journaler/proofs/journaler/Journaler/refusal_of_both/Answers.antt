use Rattle.std.proofs.Common.{arith}
use Rattle.mj_journaler.specs.Inside.{journal_in}
use Rattle.mj_journaler.proofs.Kept.{safe_within}
use Rattle.mj_journaler.proofs.journaler.Journaler.refusal_of_both.Goals as goal

pub overflow_sub-self-inside : goal.overflow_sub-self-inside
overflow_sub-self-inside c = omega (arith, safe_within (journal_in c.self.inside) c.self.invariant.journal, c.self.invariant.end)
