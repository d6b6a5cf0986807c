use Rattle.std.proofs.Common.{arith}
use Rattle.mj_journaler.specs.Inside.{journal_in}
use Rattle.mj_journaler.proofs.Kept.{safe_within}
use Rattle.mj_journaler.proofs.journaler.Journaler.unsafe_bytes.Goals as goal

pub overflow_sub-result : goal.overflow_sub-result
overflow_sub-result c = omega (arith, safe_within (journal_in c.self.inside) c.self.invariant.journal, c.self.invariant.end)
