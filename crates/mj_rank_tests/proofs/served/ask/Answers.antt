use Rattle.std.proofs.Common.{sym, ◌∙◌}
use Rattle.mj_rank_tests.proofs.served.ask.Goals as goal

pub carry_if-requires-clause-gives : goal.carry_if-requires-clause-gives
carry_if-requires-clause-gives c = λ e is. c.in_ok-planned.ensures.event e (sym c.as_ref.ensures.value ∙ is)
