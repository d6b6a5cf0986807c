use Rattle.std.proofs.Common.{◌≡◌, None, List, sym, ap, subst, ◌∙◌}
use Rattle.std.specs.Prelude.{nat_le, nat_lt}
use Rattle.std.specs.List.{AllByRecursion}
use Rattle.mj_cells.specs.Cell.{WriteFits, AllFit}
use Rattle.mj_cells.specs.Table.{table_of}
use Rattle.mj_cells.proofs.Fitting.{fit-put_all}
use Rattle.mj_tables.specs.declared.group.Group.{Group}
use Rattle.mj_tables.specs.Layered.{all_writes, ended}
use Rattle.mj_cache.specs.Cached.{made_safe, early_table}
use Rattle.mj_cache.specs.Ranges.{AllInRange}
use Rattle.mj_judge.specs.Own.{own_damage}
use Rattle.mj_index.specs.Indexed.{IsIndexed}
use Rattle.mj_index.proofs.GroupFits.{some_fit}
use Rattle.mj_cache.proofs.cache.Cache.make_safe.Goals as goal

pub invariant_of-self : goal.invariant_of-self
invariant_of-self c = record {
  undamaged = subst (λ m. own_damage c.self.inside.rank (table_of m) ≡ None) (sym c.make_safe.ensures.early) c.self.invariant.undamaged;
  index = subst (λ m. IsIndexed c.self.inside.rank m c.self.inside.index) (sym c.make_safe.ensures.early) c.self.invariant.index;
  range = subst AllInRange (sym c.make_safe.ensures.early) c.self.invariant.range;
  safe_fit = subst AllFit (sym c.make_safe.ensures.safe) (fit-put_all c.self.inside.layers.safe (all_writes (ended c.args.upto c.self.inside.layers.groups)) c.self.invariant.safe_fit (some_fit (λ (g : Group). nat_le g.ends c.args.upto) c.self.inside.layers.groups c.self.invariant.writes_fit));
  writes_fit = subst (λ (gs : List Group). AllByRecursion WriteFits (all_writes gs)) (sym c.make_safe.ensures.groups) (some_fit (λ (g : Group). nat_lt c.args.upto g.ends) c.self.inside.layers.groups c.self.invariant.writes_fit);
}

pub returns : goal.returns
returns c = record {
  safe = (λ i. record { rank = c.self.inside.rank; safe = c.make_safe.ensures.safe i; groups = c.make_safe.ensures.groups i }) ∙ ap (made_safe c.args.upto) c.self.view_is;
  early = ap table_of c.make_safe.ensures.early ∙ ap early_table c.self.view_is;
}
