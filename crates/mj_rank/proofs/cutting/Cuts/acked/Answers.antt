use Rattle.std.proofs.Common.{rules, not, ◌==◌}
use borrow.Author.Tests.{tests}
use Rattle.std.proofs.lemmas.Fn.{filter_same}
use Rattle.mj_rank.specs.declared.cutting.Cut.{Cut}
use Rattle.mj_rank.proofs.cutting.Cuts.acked.Goals as goal

pub returns-clause-out : goal.returns-clause-out
returns-clause-out c = filter_same _ (λ (x : Cut). not (x.op == c.args.op)) _ (λ x b q k. search (rules, tests)) _ _ c.retain.ensures.filtered
