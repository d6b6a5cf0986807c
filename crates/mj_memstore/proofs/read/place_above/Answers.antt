use Rattle.std.proofs.Common.{ap, ◌∙◌}
use Rattle.std.specs.Prelude.{filter, option_copied}
use Rattle.mj_store.specs.declared.act.Pair.{Pair}
use Rattle.mj_store.specs.Pages.{is_above}
use Rattle.mj_memstore.proofs.PageLemmas.{above_found, above_gap, above_all}
use Rattle.mj_memstore.proofs.read.place_above.Goals as goal

pub returns-in_default-clause-above : goal.returns-in_default-clause-above
returns-in_default-clause-above c = ap (λ o. filter (λ (p : Pair). is_above (option_copied o) p.key) c.args.pairs.now) c.in_default.is ∙ above_all c.args.pairs.now

pub returns-in-Ok-clause-above : goal.returns-in-Ok-clause-above
returns-in-Ok-clause-above c = ap (λ o. filter (λ (p : Pair). is_above (option_copied o) p.key) c.args.pairs.now) c.in-Some.is ∙ above_found c.args.pairs.now c.in-Some.key.now c.in-Ok.i c.requires c.in-Ok.ensures.found

pub returns-in-Err-clause-above : goal.returns-in-Err-clause-above
returns-in-Err-clause-above c = ap (λ o. filter (λ (p : Pair). is_above (option_copied o) p.key) c.args.pairs.now) c.in-Some.is ∙ above_gap c.args.pairs.now c.in-Some.key.now c.in-Err.i c.in-Err.ensures.gap
