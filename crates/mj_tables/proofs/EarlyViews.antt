-- The early cells of slots: gathered along a hash map's entries, and then sorted.
use Rattle.std.proofs.Common.{◌≡◌, ◌+◌, arith, Bool, true, false, not, cond, T, List, [], ◌∷◌, ◌++◌, map, get_or, Option, Some, None, refl, sym, ap, subst, ◌∙◌}
use Rattle.std.specs.declared.cmp.Ordering.{Ordering}
use Rattle.std.specs.declared.cmp.Ordering.TheVariants.{Less, Equal, Greater}
use Rattle.std.specs.Ordering.{is_lt, is_eq, ordering_reverse}
use Rattle.std.specs.Cmp.{eq_by_cmp_equiv}
use Rattle.std.specs.FinMap.Entries.{by_order, below_all, is_sorted, find, put}
use Rattle.std.specs.List.{AllByRecursion, IsDistinct, filter}
use Rattle.std.specs.List.Sorted.{IsPermutation, IsSortedBy, IsStrictlySortedBy}
use Rattle.std.specs.Map.{lookup}
use Rattle.std.proofs.lemmas.Bool.{true≢false}
use Rattle.std.proofs.lemmas.List.{get_or-map, length-map}
use Rattle.std.proofs.lemmas.List.Sorted.{IsPermutation-refl, IsPermutation-sym, IsPermutation-trans, IsPermutation-cons, IsPermutation-middle, IsPermutation-map, IsPermutation-filter_both, Contains-permutation}
use Rattle.std.proofs.lemmas.Map.Keys.{IsDistinct-cons, IsDistinct-head, IsDistinct-tail, IsDistinct-IsPermutation, apart_from_distinct, sorted_from_all_adjacent}
use Rattle.std.proofs.lemmas.Map.Views.{Contains-from_lookup, lookup-from_Contains}
use Rattle.mj_maps.specs.Map.{Map, entries, entries_sorted, get, insert, from_entries, collect, picked, with_some, left_true, right_true}
use Rattle.mj_maps.proofs.MapLaws.{none_some, eq_true, entries-empty, entries-insert, get-entries, get-collect_none, absent_remove, collect-empty, collect-insert_some, collect-insert_none, same_map, from_entries-entries}
use Rattle.mj_maps.proofs.Kept as maps
use Rattle.mj_cells.specs.declared.cell.CellKey.{CellKey}
use Rattle.mj_cells.specs.declared.cell.CellKey.TheVariants.{NextIno}
use Rattle.mj_cells.specs.declared.cell.CellValue.{CellValue}
use Rattle.mj_cells.specs.declared.table.CellView.{CellView}
use Rattle.mj_cells.specs.Cell.{key_cmp, same_key}
use Rattle.mj_cells.specs.Next.{cell_of}
use Rattle.mj_cells.proofs.Keys.{exact_key}
use Rattle.mj_cells.proofs.Kept.{tree_order, entries_kept, hash_eq, hash_is}
use Rattle.mj_tables.specs.declared.slot.Slot.{Slot}
use Rattle.mj_tables.specs.Slots.{early_in, early_entry, early_slots, is_of_dir, is_of}
use Rattle.mj_tables.proofs.SlotHashes.{SlotEntries}

is_less : (r : Ordering) → T (is_lt r) → is_eq r ≡ false
is_less Less h = refl
is_less Equal h = absurd h
is_less Greater h = absurd h

-- ---- entries whose keys differ

module _ {X : Type 0} where
  abbrev keys_of : List (CellKey × X) → List CellKey
  keys_of es = map (λ (e : CellKey × X). e.0) es

  -- no key is this one
  abbrev Lacks : CellKey → List (CellKey × X) → Type 0
  Lacks k es = AllByRecursion (λ y. same_key k y ≡ false) (keys_of es)

  abbrev Differ : List (CellKey × X) → Type 0
  Differ es = IsDistinct same_key (keys_of es)

  lacks_lookup : (k : CellKey) (es : List (CellKey × X)) → Lacks k es → lookup (same_key k) es ≡ None
  lacks_lookup k [] h = refl
  lacks_lookup k (e ∷ es) h = ap (λ b. cond b (Some e.1) (lookup (same_key k) es)) h.0 ∙ lacks_lookup k es h.1

  absent : (k : CellKey) (es : List (CellKey × X)) → Lacks k es → get (from_entries {R = key_cmp} es) k ≡ None
  absent k es h = maps.get_kept exact_key es k ∙ lacks_lookup k es h

  put_moves : (k : CellKey) (x : X) (es : List (CellKey × X)) → find key_cmp k es ≡ None → IsPermutation ((k, x) ∷ es) (put key_cmp k x es)
  put_moves k x [] h = IsPermutation-refl ((k, x) ∷ [])
  put_moves k x (e ∷ es) h = elim (key_cmp k e.0) as (λ r. key_cmp k e.0 ≡ r → IsPermutation ((k, x) ∷ e ∷ es) (by_order r ((k, x) ∷ e ∷ es) ((e.0, x) ∷ es) (e ∷ put key_cmp k x es))) [
    | Less ↦ λ r. IsPermutation-refl ((k, x) ∷ e ∷ es)
    | Equal ↦ λ r. absurd (none_some e.1 (sym (rw r at h)))
    | Greater ↦ λ r. IsPermutation-trans ((k, x) ∷ e ∷ es) (e ∷ (k, x) ∷ es) (e ∷ put key_cmp k x es) (IsPermutation-sym _ _ (IsPermutation-middle (e ∷ []) (k, x) es))
        (IsPermutation-cons e ((k, x) ∷ es) (put key_cmp k x es) (put_moves k x es (rw r at h)))
  ] refl

  -- the entries of their map are the same ones
  from_moves : (es : List (CellKey × X)) → Differ es → IsPermutation es (entries (from_entries {R = key_cmp} es))
  from_moves [] d = subst (λ (xs : List (CellKey × X)). IsPermutation [] xs) (sym (entries-empty key_cmp)) (IsPermutation-refl [])
  from_moves (e ∷ es) d =
      let m : Map key_cmp X = from_entries es in
      subst (λ (xs : List (CellKey × X)). IsPermutation (e ∷ es) xs) (sym (entries-insert exact_key m e.0 e.1))
      (IsPermutation-trans (e ∷ es) (e ∷ entries m) (put key_cmp e.0 e.1 (entries m)) (IsPermutation-cons e es (entries m) (from_moves es (IsDistinct-tail same_key e.0 (keys_of es) d)))
      (put_moves e.0 e.1 (entries m) (sym (get-entries m e.0) ∙ absent e.0 es (IsDistinct-head same_key e.0 (keys_of es) d))))

  -- two such lists of the same entries find the same
  lookup_moves : (xs ys : List (CellKey × X)) → IsPermutation xs ys → Differ xs → Differ ys → (q : CellKey) → lookup (same_key q) xs ≡ lookup (same_key q) ys
  lookup_moves xs ys moves dx dy q = elim (lookup (same_key q) xs) as (λ o. lookup (same_key q) xs ≡ o → o ≡ lookup (same_key q) ys) [
    | None ↦ λ none. elim (lookup (same_key q) ys) as (λ o. lookup (same_key q) ys ≡ o → None ≡ o) [
      | None ↦ λ _. refl
      | Some x ↦ λ some. sym none ∙ lookup-from_Contains (eq_by_cmp_equiv exact_key.total) q x xs dx (Contains-permutation ys xs (q, x) (IsPermutation-sym xs ys moves) (Contains-from_lookup (eq_true exact_key) q x ys some))
    ] refl
    | Some x ↦ λ some. sym (lookup-from_Contains (eq_by_cmp_equiv exact_key.total) q x ys dy (Contains-permutation xs ys (q, x) moves (Contains-from_lookup (eq_true exact_key) q x xs some)))
  ] refl

  below_lacks : (k : CellKey) (es : List (CellKey × X)) → T (below_all key_cmp k es) → Lacks k es
  below_lacks k [] h = tt
  below_lacks k (e ∷ es) h = (is_less (key_cmp k e.0) (left_true _ _ h), below_lacks k es (right_true _ _ h))

  sorted_differ : (es : List (CellKey × X)) → T (is_sorted key_cmp es) → Differ es
  unfolding IsDistinct
  sorted_differ [] h = tt
  sorted_differ (e ∷ es) h = (below_lacks e.0 es (left_true _ _ h), sorted_differ es (right_true _ _ h))

-- ---- what is read along them

module _ {X Y : Type 0} (f : CellKey → X → Option Y) where
  from_picked : (es : List (CellKey × X)) → Differ es → from_entries {R = key_cmp} (picked f es) ≡ collect f (from_entries es)
  from_picked [] d = sym (collect-empty exact_key f)
  from_picked (e ∷ es) d =
      let m : Map key_cmp X = from_entries es in
      let rest = from_picked es (IsDistinct-tail same_key e.0 (keys_of es) d) in
      let none = get-collect_none exact_key f m e.0 (absent e.0 es (IsDistinct-head same_key e.0 (keys_of es) d)) in
      elim (f e.0 e.1) as (λ y. f e.0 e.1 ≡ y → from_entries {R = key_cmp} (with_some e.0 y (picked f es)) ≡ collect f (insert m e.0 e.1)) [
        | None ↦ λ is. rest ∙ sym (absent_remove exact_key (collect f m) e.0 none) ∙ sym (collect-insert_none exact_key f m e.0 e.1 is)
        | Some y ↦ λ is. ap (λ (n : Map key_cmp Y). insert n e.0 y) rest ∙ sym (collect-insert_some exact_key f m e.0 e.1 y is)
      ] refl

  lacks_picked : (k : CellKey) (es : List (CellKey × X)) → Lacks k es → Lacks k (picked f es)
  lacks_picked k [] h = tt
  lacks_picked k (e ∷ es) h = elim (f e.0 e.1) as (λ y. Lacks k (with_some e.0 y (picked f es))) [
    | None ↦ lacks_picked k es h.1
    | Some y ↦ (h.0, lacks_picked k es h.1)
  ]

  differ_picked : (es : List (CellKey × X)) → Differ es → Differ (picked f es)
  differ_picked [] d = d
  differ_picked (e ∷ es) d =
      let rest = differ_picked es (IsDistinct-tail same_key e.0 (keys_of es) d) in
      elim (f e.0 e.1) as (λ y. Differ (with_some e.0 y (picked f es))) [
        | None ↦ rest
        | Some y ↦ IsDistinct-cons same_key e.0 (keys_of (picked f es)) (lacks_picked e.0 es (IsDistinct-head same_key e.0 (keys_of es) d)) rest
      ]

same_equality : hash_eq ≡ same_key
same_equality = λ i a b. hash_is a b i

-- a hash map's entries show the early cells of its slots
pub early_gathered : (es : SlotEntries) → IsDistinct hash_eq (map (λ (e : CellKey × Slot). e.0) es) → IsPermutation (entries (early_slots (from_entries es))) (picked early_entry es)
early_gathered es unique =
    let d : Differ es = subst (λ (eq : CellKey → CellKey → Bool). IsDistinct eq (keys_of es)) same_equality unique in
    subst (λ (m : Map key_cmp CellValue). IsPermutation (entries m) (picked early_entry es)) (from_picked early_entry es d)
    (IsPermutation-sym _ _ (from_moves (picked early_entry es) (differ_picked early_entry es d)))

-- ---- one kind after the other

abbrev pub Cells : Type 0
Cells = List (CellKey × CellValue)

abbrev pub of_kind : Bool → Cells → Cells
of_kind d es = filter (λ e. is_of d e.0) es

kind_apart : (b : Bool) → cond b false true ≡ not (cond b true false)
kind_apart true = refl
kind_apart false = refl

other_kind : (e : CellKey × CellValue) → is_of false e.0 ≡ not (is_of true e.0)
other_kind e = kind_apart (is_of_dir e.0)

pub both_kinds : (es : Cells) → IsPermutation es (of_kind true es ++ of_kind false es)
both_kinds = IsPermutation-filter_both (λ e. is_of true e.0) (λ e. is_of false e.0) other_kind

pub skips_kind : (d : Bool) (k : CellKey) (s : Slot) (es : SlotEntries) → is_of d k ≡ false → of_kind d (picked early_entry ((k, s) ∷ es)) ≡ of_kind d (picked early_entry es)
skips_kind d k s es other = elim (early_in s) as (λ o. of_kind d (with_some k o (picked early_entry es)) ≡ of_kind d (picked early_entry es)) [
  | None ↦ refl
  | Some v ↦ ap (λ b. cond b ((k, v) ∷ of_kind d (picked early_entry es)) (of_kind d (picked early_entry es))) other
]

pub skips_none : (d : Bool) (k : CellKey) (s : Slot) (es : SlotEntries) → None ≡ early_in s → of_kind d (picked early_entry ((k, s) ∷ es)) ≡ of_kind d (picked early_entry es)
skips_none d k s es none = ap (λ o. of_kind d (with_some k o (picked early_entry es))) (sym none)

pub takes_kind : (d : Bool) (k : CellKey) (s : Slot) (es : SlotEntries) (v : CellValue) → is_of d k ≡ true → Some v ≡ early_in s → of_kind d (picked early_entry ((k, s) ∷ es)) ≡ (k, v) ∷ of_kind d (picked early_entry es)
takes_kind d k s es v this some = ap (λ o. of_kind d (with_some k o (picked early_entry es))) (sym some) ∙ ap (λ b. cond b ((k, v) ∷ of_kind d (picked early_entry es)) (of_kind d (picked early_entry es))) this

pub views_push : (xs : List CellView) (x : CellView) (es : List (CellKey × CellValue)) → map cell_of (xs ++ x ∷ []) ++ es ≡ map cell_of xs ++ cell_of x ∷ es
views_push [] x es = refl
views_push (y ∷ xs) x es = ap (λ (zs : List (CellKey × CellValue)). cell_of y ∷ zs) (views_push xs x es)

-- ---- sorted views

rises : (a b : CellKey) → is_lt (key_cmp b a) ≡ false → same_key a b ≡ false → key_cmp a b ≡ Less
rises a b up other = elim (key_cmp b a) as (λ r. key_cmp b a ≡ r → is_lt r ≡ false → key_cmp a b ≡ Less) [
  | Less ↦ λ _ h. absurd (true≢false h)
  | Equal ↦ λ e _. absurd (true≢false (sym (ap is_eq (exact_key.total.antisymm a b ∙ ap ordering_reverse e)) ∙ other))
  | Greater ↦ λ e _. exact_key.total.antisymm a b ∙ ap ordering_reverse e
] refl up

abbrev pub key_of : CellView → CellKey
key_of v = v.key.now

abbrev pub key_below : CellView → CellView → Bool
key_below v w = is_lt (key_cmp (key_of v) (key_of w))

keys_are : (vs : List CellView) → keys_of (map cell_of vs) ≡ map key_of vs
keys_are [] = refl
keys_are (v ∷ vs) = ap (λ (ks : List CellKey). key_of v ∷ ks) (keys_are vs)

keys_rise : (vs : List CellView) → IsSortedBy key_below vs → IsDistinct same_key (map key_of vs) → IsStrictlySortedBy key_cmp (map key_of vs)
keys_rise [] up d = sorted_from_all_adjacent exact_key.total [] NextIno (λ k h. absurd (omega (arith, h)))
keys_rise (v ∷ vs) up d =
    let ws = v ∷ vs in
    sorted_from_all_adjacent exact_key.total (map key_of ws) NextIno (λ k h.
    let long = length-map ws key_of in
    rises (get_or (map key_of ws) k NextIno) (get_or (map key_of ws) (k + 1) NextIno)
    ((λ i. is_lt (key_cmp (get_or-map key_of ws (k + 1) v NextIno (omega (arith, h, long)) i) (get_or-map key_of ws k v NextIno (omega (arith, h, long)) i))) ∙ up k v (omega arith) (omega (arith, h, long)))
    (apart_from_distinct same_key (map key_of ws) k (k + 1) NextIno d (omega arith) h))

-- views of a map's entries, once they are sorted, show them in order
pub sorted_views : (m : Map key_cmp CellValue) (vs : List CellView) → IsPermutation (entries m) (map cell_of vs) → IsSortedBy key_below vs → map cell_of vs ≡ entries m
sorted_views m vs moves up =
    let es : List (CellKey × CellValue) = map cell_of vs in
    let differ : Differ (entries m) = sorted_differ (entries m) (entries_sorted m) in
    let all_differ : Differ es = IsDistinct-IsPermutation same_key (eq_by_cmp_equiv exact_key.total).symm (keys_of (entries m)) (keys_of es) (IsPermutation-map (λ (e : CellKey × CellValue). e.0) (entries m) es moves) differ in
    let rise : IsStrictlySortedBy key_cmp (keys_of es) = subst (IsStrictlySortedBy key_cmp) (sym (keys_are vs)) (keys_rise vs up (subst (IsDistinct same_key) (keys_are vs) all_differ)) in
    let same : from_entries es ≡ m = same_map exact_key (from_entries es) m (λ q.
    maps.get_kept exact_key es q ∙ sym (lookup_moves (entries m) es moves differ all_differ q) ∙ sym (maps.get_kept exact_key (entries m) q) ∙ ap (λ (n : Map key_cmp CellValue). get n q) (from_entries-entries exact_key m)) in
    sym (entries_kept es (subst (λ (r : CellKey → CellKey → Ordering). IsStrictlySortedBy r (keys_of es)) (sym tree_order) rise)) ∙ ap entries same
