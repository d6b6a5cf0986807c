-- A write over a tree's entries, as a write of the map that they make.
use Rattle.std.proofs.Common.{Ordering, ◌≡◌, List, [], ◌∷◌, map, Option, Some, None, T, refl, sym, ap, subst, ◌∙◌}
use Rattle.std.specs.declared.cmp.Ordering.TheVariants.{Less, Equal, Greater}
use Rattle.std.specs.Option.{option_map}
use Rattle.std.specs.Ordering.{is_lt}
use Rattle.std.specs.BTreeMap.{insert_entry}
use Rattle.std.specs.FinMap.Entries as list
use Rattle.std.specs.List.{AllByRecursion}
use Rattle.std.specs.List.Sorted.{IsStrictlySortedBy}
use Rattle.mj_maps.specs.Map.{Map, insert, from_entries, collect, both_true}
use Rattle.mj_maps.proofs.MapLaws.{Exact, from_entries-put, collect-insert_some, collect-insert_none}
use Rattle.mj_cells.specs.Table.{with_at}

module _ {K X : Type 0} (R : K → K → Ordering) where
  pub insert_put : (es : List (K × X)) (k : K) (v : X) → insert_entry R es k v ≡ list.put R k v es
  insert_put [] k v = refl
  insert_put (e ∷ es) k v = elim (R k e.0) as (λ o. Rattle.std.specs.Ordering.match_ordering o ((k, v) ∷ e ∷ es) ((e.0, v) ∷ es) (e ∷ insert_entry R es k v) ≡ list.by_order o ((k, v) ∷ e ∷ es) ((e.0, v) ∷ es) (e ∷ list.put R k v es)) [
    | Less ↦ refl
    | Equal ↦ refl
    | Greater ↦ ap (λ fs. e ∷ fs) (insert_put es k v)
  ]

  below_keys : (k : K) (es : List (K × X)) → AllByRecursion (λ y. R k y ≡ Less) (map (λ e. e.0) es) → T (list.below_all R k es)
  below_keys k [] h = tt
  below_keys k (e ∷ es) h = both_true _ _ (subst (λ p. T (is_lt p)) (sym h.0) tt) (below_keys k es h.1)

  pub sorted_keys : (es : List (K × X)) → IsStrictlySortedBy R (map (λ e. e.0) es) → T (list.is_sorted R es)
  unfolding IsStrictlySortedBy
  sorted_keys [] h = tt
  sorted_keys (e ∷ es) h = both_true _ _ (below_keys e.0 es h.0) (sorted_keys es h.1)

module _ {K X Y : Type 0} {R : K → K → Ordering} (o : Exact R) (f : K → X → Option Y) where
  written : (m : Map R X) (k : K) (v : X) (y : Option Y) → f k v ≡ y → collect f (insert m k v) ≡ with_at (collect f m) k y
  written m k v None e = collect-insert_none o f m k v e
  written m k v (Some y) e = collect-insert_some o f m k v y e

  pub collect_put : (es fs : List (K × X)) (k : K) (v : X) (y : Option Y) → fs ≡ insert_entry R es k v → f k v ≡ y → collect f (from_entries {R = R} fs) ≡ with_at (collect f (from_entries es)) k y
  collect_put es fs k v y is gives = ap (λ xs. collect f (from_entries xs)) (is ∙ insert_put R es k v) ∙ ap (collect f) (from_entries-put o k v es) ∙ written (from_entries es) k v y gives
