use Rattle.std.proofs.Common.{List, sym, ap, subst, ◌∙◌}
use Rattle.std.specs.List.{AllByRecursion}
use Rattle.mj_cells.specs.Cell.{WriteFits, AllFit}
use Rattle.mj_cells.specs.Table.{table_of, overlay}
use Rattle.mj_cells.proofs.CellMaps.{table_of-put_all}
use Rattle.mj_tables.specs.declared.group.Group.{Group}
use Rattle.mj_tables.specs.Layered.{all_writes, early_cells, early_of}
use Rattle.mj_cache.specs.Cached.{CacheValue, early_table}
use Rattle.mj_cache.specs.Ranges.{AllInRange, WriteInRange}
use Rattle.mj_cache.proofs.RangesKept.{range-put_all}
use Rattle.mj_judge.specs.Own.{own_damage}
use Rattle.mj_index.specs.Grouped.{Gains, Stays}
use Rattle.mj_index.proofs.GroupFits.{one_fits, early_more, either_way}
use Rattle.mj_cache.proofs.cache.Cache.project.Goals as goal

pub project-requires-clause-tree : goal.project-requires-clause-tree
project-requires-clause-tree c =
    ap (own_damage c.self.inside.rank) (table_of-put_all (early_cells c.self.inside.layers) c.args.ws.items)
    ∙ ap (λ (v : CacheValue). own_damage v.rank (overlay (early_table v) c.args.ws.items)) c.self.view_is
    ∙ c.requires.tree

pub invariant_of-self : goal.invariant_of-self
invariant_of-self c =
    let group : Group = record { ends = c.args.ends; writes = c.args.ws.items } in
    either_way c.project.result (Gains c.args.ws.items c.args.ends c.self.inside.layers c.project.new.layers) (Stays c.self.inside.layers c.project.new.layers) _ c.project.ensures.ok c.project.ensures.err
    (λ gains. record {
      undamaged = ap (λ m. own_damage c.self.inside.rank (table_of m)) ((λ i. early_of (gains.safe i) (gains.groups i)) ∙ early_more c.self.inside.layers.safe c.self.inside.layers.groups group)
          ∙ ap (own_damage c.self.inside.rank) (table_of-put_all (early_cells c.self.inside.layers) c.args.ws.items)
          ∙ ap (λ (v : CacheValue). own_damage v.rank (overlay (early_table v) c.args.ws.items)) c.self.view_is
          ∙ c.requires.tree;
      index = c.project.ensures.known;
      range = subst AllInRange (sym ((λ i. early_of (gains.safe i) (gains.groups i)) ∙ early_more c.self.inside.layers.safe c.self.inside.layers.groups group)) (range-put_all (early_cells c.self.inside.layers) c.args.ws.items c.self.invariant.range (subst (λ ws. AllByRecursion WriteInRange ws) c.deref.ensures.value c.writes_in_range.ensures));
      safe_fit = subst AllFit (sym gains.safe) c.self.invariant.safe_fit;
      writes_fit = subst (λ (gs : List Group). AllByRecursion WriteFits (all_writes gs)) (sym gains.groups) (one_fits c.self.inside.layers.groups group c.self.invariant.writes_fit c.requires.fit);
    })
    (λ stays. record {
      undamaged = ap (λ m. own_damage c.self.inside.rank (table_of m)) (λ i. early_of (stays.safe i) (stays.groups i)) ∙ c.self.invariant.undamaged;
      index = c.project.ensures.known;
      range = subst AllInRange (λ i. early_of (sym stays.safe i) (sym stays.groups i)) c.self.invariant.range;
      safe_fit = subst AllFit (sym stays.safe) c.self.invariant.safe_fit;
      writes_fit = subst (λ (gs : List Group). AllByRecursion WriteFits (all_writes gs)) (sym stays.groups) c.self.invariant.writes_fit;
    })
