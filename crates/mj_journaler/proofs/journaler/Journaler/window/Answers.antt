use Rattle.std.proofs.Common.{arith}
use Rattle.mj_journaler.specs.Inside.{journal_in}
use Rattle.mj_journaler.proofs.Kept.{window_small}
use Rattle.mj_journaler.proofs.journaler.Journaler.window.Goals as goal

pub overflow_add-result : goal.overflow_add-result
overflow_add-result c = let small = window_small (journal_in c.self.inside) c.self.invariant.journal in omega (arith, small.0, small.1, c.period.ensures)
