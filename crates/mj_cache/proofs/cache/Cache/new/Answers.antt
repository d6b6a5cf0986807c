use Rattle.std.proofs.Common.{List, sym, ap, subst, ◌∙◌}
use Rattle.std.specs.List.{AllByRecursion}
use Rattle.mj_cells.specs.Cell.{WriteFits, AllFit}
use Rattle.mj_cells.specs.Table.{table_of}
use Rattle.mj_tables.specs.declared.group.Group.{Group}
use Rattle.mj_tables.specs.Layered.{all_writes, early_of}
use Rattle.mj_judge.specs.Own.{own_damage}
use Rattle.mj_cache.proofs.cache.Cache.new.Goals as goal

pub invariant_of-result : goal.invariant_of-result
invariant_of-result c = record {
  undamaged = c.in_ok-index.ensures.sound;
  index = c.in_ok-index.ensures.index;
  range = c.in_ok-index.ensures.range;
  safe_fit = subst AllFit (sym c.in_ok-layers.ensures.safe) c.all_fit.ensures;
  writes_fit = subst (λ (gs : List Group). AllByRecursion WriteFits (all_writes gs)) (sym c.in_ok-layers.ensures.groups) tt;
}

pub returns-clause-cache : goal.returns-clause-cache
returns-clause-cache c = ap (λ m. own_damage c.args.rank (table_of m)) (λ i. early_of (sym c.in_ok-layers.ensures.safe i) (sym c.in_ok-layers.ensures.groups i)) ∙ c.in_ok-index.ensures.sound

pub returns-clause-holds : goal.returns-clause-holds
returns-clause-holds c = λ i. record { rank = c.args.rank; safe = c.in_ok-layers.ensures.safe i; groups = c.in_ok-layers.ensures.groups i }
