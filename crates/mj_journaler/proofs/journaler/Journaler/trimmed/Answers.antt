use Rattle.std.proofs.Common.{arith}
use Rattle.mj_journaler.specs.Inside.{journal_in}
use Rattle.mj_journaler.proofs.Kept.{window_small, trimmed_fits}
use Rattle.mj_journaler.proofs.journaler.Journaler.trimmed.Goals as goal

pub overflow_add-self-inside : goal.overflow_add-self-inside
overflow_add-self-inside c =
    let small = window_small (journal_in c.self.inside) c.self.invariant.journal in
    omega (arith, small.0, small.1, c.period.ensures, c.self.invariant.journal.trimmed)

pub overflow_mul-result : goal.overflow_mul-result
overflow_mul-result c =
    let fits = trimmed_fits (journal_in c.self.inside) c.lowest.result c.sc.result c.period-then-self-period.result c.self.invariant.journal c.lowest.ensures c.sc.ensures c.period-then-self-period.ensures in
    omega (arith, fits)
