use Rattle.std.proofs.Common.{sym, ap, subst, ◌∙◌}
use Rattle.std.proofs.lemmas.Bool.{true≢false}
use Rattle.mj_maps.proofs.MapLaws.{some_same}
use Rattle.mj_cells.specs.Table.{table_of}
use Rattle.mj_recovery.specs.Tree.{is_among}
use Rattle.mj_tables.specs.Layered.{early_cells}
use Rattle.mj_index.specs.Places.{dentry_key}
use Rattle.mj_index.specs.Gentle.{HasKeptWay}
use Rattle.mj_index.specs.Turning.{keys_have}
use Rattle.mj_index.proofs.turn.lead_well.Goals as goal

pub returns-then-has : goal.returns-then-has
returns-then-has c t = record {
  moves = λ d i at named is_left. subst (HasKeptWay (table_of (early_cells c.args.layers.now)) (λ q. keys_have c.args.keys.now (dentry_key q))) (some_same c.in-Some-Some.dir d (c.in-Some-Some.ensures ∙ at)) (c.keeps_way.ensures t);
  begins = λ i named not_left.
      absurd (true≢false (sym (sym c.has.ensures ∙ c.if-has.true) ∙ ap (is_among c.args.left.now.keys) (some_same c.in-Some-Some.below i (c.in-Some-Some.ensures' ∙ named)) ∙ not_left));
}
