use Rattle.std.proofs.Common.{ap}
use Rattle.std.specs.Option.{option_copied}
use Rattle.mj_rank_tests.proofs.served.carry_if.Goals as goal

pub carry_out-requires-clause-gives : goal.carry_out-requires-clause-gives
carry_out-requires-clause-gives c = c.requires.gives c.in-Some.event.now (ap option_copied c.in-Some.is)
