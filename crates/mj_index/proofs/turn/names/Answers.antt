use Rattle.std.proofs.Common.{Some, sym, ap, ◌∙◌}
use Rattle.std.proofs.lemmas.Bool.{eqb-true}
use Rattle.mj_index.proofs.turn.names.Goals as goal

pub returns-in-Some : goal.returns-in-Some
returns-in-Some c t = sym c.in-Some.ensures ∙ ap Some (eqb-true c.in-Some.below c.args.dir (sym c.eq.ensures ∙ t))
