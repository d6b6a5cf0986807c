-- The entries of a tree or a hash map against the finite map that they make.
use Rattle.std.proofs.Common.{◌≡◌, Bool, true, false, ◌&&◌, cond, T, List, [], ◌∷◌, map, Option, Some, None, refl, sym, ap, subst, ◌∙◌}
use Rattle.std.specs.declared.cmp.Ordering.{Ordering}
use Rattle.std.specs.declared.cmp.Ordering.TheVariants.{Less}
use Rattle.std.specs.Ordering.{eq_by_cmp, is_lt, is_eq}
use Rattle.std.specs.Cmp.{eq_by_cmp_equiv, unsigned_ties}
use Rattle.std.specs.List.{AllByRecursion, filter}
use Rattle.std.specs.List.Sorted.{IsStrictlySortedBy}
use Rattle.std.specs.BTreeMap.{is_at}
use Rattle.std.specs.BTreeMap.Range.{entries_between}
use Rattle.std.specs.declared.collections.Bound.{Bound}
use Rattle.std.specs.declared.collections.Bound.TheVariants.{Unbounded}
use Rattle.std.specs.Map.{lookup}
use Rattle.std.specs.FinMap.Entries.{find, below_all, is_sorted}
use Rattle.mj_maps.specs.Map.{get, insert, remove, entries, from_entries, both_true}
use Rattle.mj_maps.proofs.Kept.{place_ties, pair_ties}
use Rattle.mj_maps.proofs.MapLaws.{get-from_entries, get-insert, get-remove, same_map, entries-from_entries}
use Rattle.mj_cells.specs.contracts.cell.CellKeyOrd.TheImpl.{ghosts}
use Rattle.mj_cells.specs.contracts.cell.CellKeyPartialEq.TheImpl as equality
use Rattle.mj_cells.specs.declared.cell.CellKey.{CellKey}
use Rattle.mj_cells.specs.declared.cell.CellKey.TheVariants.{Dentry, DirHead, NextIno, Session, Done, OpenOf}
use Rattle.mj_cells.specs.declared.cell.CellValue.{CellValue}
use Rattle.mj_cells.specs.Cell.{key_cmp}
use Rattle.mj_cells.specs.Next.{is_above, bound_above, first_of, next_cell}
use Rattle.mj_cells.proofs.Keys.{exact_key, derived_is}

-- the order that a tree of cells goes by
abbrev pub tree_cmp : CellKey → CellKey → Ordering
tree_cmp = ghosts.cmp

pub tree_order : tree_cmp ≡ key_cmp
tree_order = λ i a b. derived_is a b i

is_less : (o : Ordering) → o ≡ Less → T (is_lt o)
is_less o e = subst (λ p. T (is_lt p)) (sym e) tt

module _ {X : Type 0} where
  find_lookup : (es : List (CellKey × X)) (q : CellKey) → find key_cmp q es ≡ lookup (is_at (key_cmp q)) es
  find_lookup [] q = refl
  find_lookup (e ∷ es) q = ap (cond (eq_by_cmp key_cmp q e.0) (Some e.1)) (find_lookup es q)

  pub get_kept : (es : List (CellKey × X)) (q : CellKey) → get (from_entries {R = key_cmp} es) q ≡ lookup (is_at (tree_cmp q)) es
  get_kept es q = get-from_entries exact_key es q ∙ find_lookup es q ∙ ap (λ (r : CellKey → CellKey → Ordering). lookup (is_at (r q)) es) (sym tree_order)

  -- entries that differ at one key make maps that differ there
  pub one_given : (es fs : List (CellKey × X)) (k : CellKey) (v : X) → ((q : CellKey) → lookup (is_at (tree_cmp q)) fs ≡ cond (is_at (tree_cmp k) q) (Some v) (lookup (is_at (tree_cmp q)) es))
      → from_entries {R = key_cmp} fs ≡ insert (from_entries es) k v
  one_given es fs k v h = same_map exact_key _ _ (λ q.
      get_kept fs q ∙ h q ∙ ap (λ b. cond b (Some v) (lookup (is_at (tree_cmp q)) es)) (ap (λ (r : CellKey → CellKey → Ordering). eq_by_cmp r k q) tree_order ∙ (eq_by_cmp_equiv exact_key.total).symm k q)
      ∙ sym (get-insert exact_key (from_entries es) k v q ∙ ap (cond (eq_by_cmp key_cmp q k) (Some v)) (get_kept es q)))

  -- entries that lack one key make the map without it
  pub one_taken : (es fs : List (CellKey × X)) (k : CellKey) → ((q : CellKey) → lookup (is_at (tree_cmp q)) fs ≡ cond (is_at (tree_cmp k) q) None (lookup (is_at (tree_cmp q)) es))
      → from_entries {R = key_cmp} fs ≡ remove (from_entries es) k
  one_taken es fs k h = same_map exact_key _ _ (λ q.
      get_kept fs q ∙ h q ∙ ap (λ b. cond b None (lookup (is_at (tree_cmp q)) es)) (ap (λ (r : CellKey → CellKey → Ordering). eq_by_cmp r k q) tree_order ∙ (eq_by_cmp_equiv exact_key.total).symm k q)
      ∙ sym (get-remove exact_key (from_entries es) k q ∙ ap (cond (eq_by_cmp key_cmp q k) None) (get_kept es q)))

  below_keys : (k : CellKey) (es : List (CellKey × X)) → AllByRecursion (λ y. key_cmp k y ≡ Less) (map (λ e. e.0) es) → T (below_all key_cmp k es)
  below_keys k [] h = tt
  below_keys k (e ∷ es) h = both_true _ _ (is_less _ h.0) (below_keys k es h.1)

  sorted_keys : (es : List (CellKey × X)) → IsStrictlySortedBy key_cmp (map (λ e. e.0) es) → T (is_sorted key_cmp es)
  unfolding IsStrictlySortedBy
  sorted_keys [] h = tt
  sorted_keys (e ∷ es) h = both_true _ _ (below_keys e.0 es h.0) (sorted_keys es h.1)

  -- a tree's entries rise by their keys
  pub tree_sorted : (es : List (CellKey × X)) → IsStrictlySortedBy tree_cmp (map (λ e. e.0) es) → T (is_sorted key_cmp es)
  tree_sorted es h = sorted_keys es (subst (λ (r : CellKey → CellKey → Ordering). IsStrictlySortedBy r (map (λ e. e.0) es)) tree_order h)

  -- and are those of its map
  pub entries_kept : (es : List (CellKey × X)) → IsStrictlySortedBy tree_cmp (map (λ e. e.0) es) → entries (from_entries {R = key_cmp} es) ≡ es
  entries_kept es h = entries-from_entries exact_key es (tree_sorted es h)

-- ---- a hash map's keys are told apart as a tree's are

abbrev pub hash_eq : CellKey → CellKey → Bool
hash_eq = equality.ghosts.eq

pub hash_is : (a b : CellKey) → hash_eq a b ≡ eq_by_cmp key_cmp a b
hash_is (Dentry d n) (Dentry e m) = place_ties (d, n) (e, m)
hash_is (DirHead d) (DirHead e) = unsigned_ties d e ∙ ap is_eq (derived_is (DirHead d) (DirHead e))
hash_is NextIno NextIno = refl
hash_is (Session c) (Session d) = unsigned_ties c d ∙ ap is_eq (derived_is (Session c) (Session d))
hash_is (Done c t) (Done d u) = pair_ties (c, t) (d, u) ∙ ap is_eq (derived_is (Done c t) (Done d u))
hash_is (OpenOf c i) (OpenOf d j) = pair_ties (c, i) (d, j) ∙ ap is_eq (derived_is (OpenOf c i) (OpenOf d j))
hash_is _ _ = refl

-- ---- the least cell above a key

and-true : (b : Bool) → (b && true) ≡ b
and-true true = refl
and-true false = refl

between_is : (es : List (CellKey × CellValue)) (after : Option CellKey) → entries_between tree_cmp (bound_above after) Unbounded es ≡ filter (λ e. is_above after e.0) es
between_is es None = refl
between_is es (Some k) = (λ i. filter (λ e. and-true (is_lt (tree_cmp k e.0)) i) es) ∙ ap (λ (r : CellKey → CellKey → Ordering). filter (λ e. is_lt (r k e.0)) es) tree_order

-- the first of a tree's entries above a key
pub next_kept : (es found : List (CellKey × CellValue)) (after : Option CellKey) (start : Bound CellKey) → IsStrictlySortedBy tree_cmp (map (λ e. e.0) es) → start ≡ bound_above after
    → found ≡ entries_between tree_cmp start Unbounded es → first_of found ≡ next_cell (from_entries es) after
next_kept es found after start sorted is between =
    ap first_of (between ∙ ap (λ (b : Bound CellKey). entries_between tree_cmp b Unbounded es) is ∙ between_is es after)
    ∙ ap (λ (fs : List (CellKey × CellValue)). first_of (filter (λ e. is_above after e.0) fs)) (sym (entries_kept es sorted))
