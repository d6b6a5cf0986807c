-- The names of a directory, as the cells of their keys.
use Rattle.std.proofs.Common.{◌≡◌, ℕ, zero, suc, Bool, true, false, cond, T, List, [], ◌∷◌, ◌++◌, ◌+◌, ◌<◌, length, map, Option, Some, None, refl, sym, ap, ◌∙◌, ◌⊎◌, inl, inr, append_assoc, arith}
use Rattle.std.specs.Prelude.{◌==◌, if◌then◌else◌, IsTrue}
use Rattle.std.specs.declared.cmp.Ordering.TheVariants.{Less, Equal, Greater}
use Rattle.std.specs.List.{filter, list_all, AllByRecursion}
use Rattle.std.specs.Option.{option_and_then}
use Rattle.std.specs.Ordering.{is_lt, nat_cmp, ordering_then}
use Rattle.std.specs.Cmp.{tied_itself}
use Rattle.std.specs.FinMap.Entries.{below_all, is_sorted}
use Rattle.std.proofs.lemmas.Bool.{false≢true, cases_Bool, eqb-true, eq-eqb, and_parts, lt-ltb}
use Rattle.mj_base.specs.Name.{is_name, is_name_byte}
use Rattle.mj_maps.specs.Map.{Map, entries, entries_sorted, get, left_true, right_true}
use Rattle.mj_maps.specs.Orders.{place_cmp, bytes_cmp}
use Rattle.mj_maps.proofs.MapLaws.{exact_nat, exact_bytes, exact_place, none_some}
use Rattle.mj_tree.specs.State.{is_dir}
use Rattle.mj_tree.specs.Row.{names_in}
use Rattle.mj_cells.specs.declared.cell.CellKey.{CellKey}
use Rattle.mj_cells.specs.declared.cell.CellKey.TheVariants as key
use Rattle.mj_cells.specs.declared.cell.CellValue.{CellValue}
use Rattle.mj_cells.specs.declared.cell.CellValue.TheVariants as value
use Rattle.mj_cells.specs.Cell.{key_cmp, Fits, AllFit}
use Rattle.mj_cells.specs.Next.{first_of}
use Rattle.mj_cells.specs.Table.{Dentry, dentry_of}
use Rattle.mj_cells.specs.Table.Dentry.{Full, Remote}
use Rattle.mj_tables.specs.Layered.{is_there, next_there}
use Rattle.mj_judge.proofs.PartMaps.{get-dentries}
use Rattle.mj_cache.specs.Cached.{CacheValue, early_cells, early_table, early_tree}
use Rattle.mj_delta.specs.Reads.{names}
use Rattle.mj_delta.proofs.Facts.{cases_option, is_some_at}
use Rattle.mj_delta.proofs.Lists.{Lies, in_map, to_map, in_filter, entry_at, at_entry}
use Rattle.mj_cache.specs.HasTree.{HasTree}
use Rattle.mj_cache.specs.Reads.{name_in, name_below, next_name}
use Rattle.mj_cache.proofs.Ascending.{Ascends, IsOrder, above_none, above_least, above_next, above_end, from_item, all_items}
use Rattle.mj_cache.proofs.Nearest.{true_is, order_of, IsNext, next_is, next_none}
use Rattle.mj_cache.proofs.Placed.{link_is}
use Rattle.mj_cache.proofs.Replies.{agreeing}

-- ---- orders

pub name_order : IsOrder name_below
name_order = order_of exact_bytes

dentry_less : (dir : ℕ) (a b : List ℕ) → is_lt (key_cmp (key.Dentry dir a) (key.Dentry dir b)) ≡ name_below a b
dentry_less dir a b = ap (λ o. is_lt (ordering_then o (bytes_cmp a b))) (tied_itself exact_nat.total dir)

-- a key above one of a directory's and not above another is of the directory
dentry_between : (dir : ℕ) (a b : List ℕ) (k : CellKey) → is_lt (key_cmp (key.Dentry dir a) k) ≡ true → is_lt (key_cmp (key.Dentry dir b) k) ≡ false → (x : List ℕ) × (k ≡ key.Dentry dir x)
dentry_between dir a b (key.Dentry d x) l h = (x, ap (λ z. key.Dentry z x) (sym (exact_nat.same dir d (agreeing (nat_cmp dir d) _ _ l h))))
dentry_between dir a b (key.DirHead d) l h = absurd (false≢true (sym h))
dentry_between dir a b key.NextIno l h = absurd (false≢true (sym h))
dentry_between dir a b (key.Session d) l h = absurd (false≢true (sym h))
dentry_between dir a b (key.Done d x) l h = absurd (false≢true (sym h))
dentry_between dir a b (key.OpenOf d i) l h = absurd (false≢true (sym h))

pub own_name : (dir : ℕ) (k : CellKey) → ((x : List ℕ) × (k ≡ key.Dentry dir x) × (name_in dir k ≡ Some x)) ⊎ ((name_in dir k ≡ None) × ((x : List ℕ) → k ≡ key.Dentry dir x → ⊥))
own_name dir (key.Dentry d x) = elim (cases_Bool (d == dir)) [
  | inl e ↦ inl (x, ap (λ z. key.Dentry z x) (eqb-true d dir e), ap (λ b. if b then Some x else None) e)
  | inr e ↦ inr (ap (λ b. if b then Some x else None) e, λ y same. false≢true (sym e ∙ eq-eqb d dir cc))
]
own_name dir (key.DirHead d) = inr (refl, λ x e. absurd cc)
own_name dir key.NextIno = inr (refl, λ x e. absurd cc)
own_name dir (key.Session d) = inr (refl, λ x e. absurd cc)
own_name dir (key.Done d t) = inr (refl, λ x e. absurd cc)
own_name dir (key.OpenOf d i) = inr (refl, λ x e. absurd cc)

-- ---- the names of entries in one directory, ascending

abbrev Link : Type 0
Link = (ℕ × List ℕ) × ℕ

abbrev in_dir : ℕ → Link → Bool
in_dir dir e = e.0.0 == dir

abbrev names_of : ℕ → List Link → List (List ℕ)
names_of dir es = map (λ (e : Link). e.0.1) (filter (in_dir dir) es)

place_less : (p q : ℕ × List ℕ) → p.0 ≡ q.0 → is_lt (place_cmp p q) ≡ true → name_below p.1 q.1 ≡ true
place_less p q same l = sym (ap (λ o. is_lt (ordering_then o (bytes_cmp p.1 q.1))) (ap (λ d. nat_cmp d q.0) same ∙ tied_itself exact_nat.total q.0)) ∙ l

below_names : (dir : ℕ) (p : ℕ × List ℕ) (es : List Link) → p.0 ≡ dir → T (below_all place_cmp p es) → AllByRecursion (λ x. name_below p.1 x ≡ true) (names_of dir es)
below_names dir p [] own h = tt
below_names dir p (e ∷ es) own h = elim (in_dir dir e) as (λ b. in_dir dir e ≡ b → AllByRecursion (λ x. name_below p.1 x ≡ true) (map (λ (e : Link). e.0.1) (cond b (e ∷ filter (in_dir dir) es) (filter (in_dir dir) es)))) [
  | true ↦ λ is. (place_less p e.0 (own ∙ sym (eqb-true e.0.0 dir is)) (true_is _ (left_true _ _ h)), below_names dir p es own (right_true _ _ h))
  | false ↦ λ is. below_names dir p es own (right_true _ _ h)
] refl

names_ascend : (dir : ℕ) (es : List Link) → T (is_sorted place_cmp es) → Ascends name_below (names_of dir es)
names_ascend dir [] h = tt
names_ascend dir (e ∷ es) h = elim (in_dir dir e) as (λ b. in_dir dir e ≡ b → Ascends name_below (map (λ (e : Link). e.0.1) (cond b (e ∷ filter (in_dir dir) es) (filter (in_dir dir) es)))) [
  | true ↦ λ is. (below_names dir e.0 es (eqb-true e.0.0 dir is) (left_true _ _ h), names_ascend dir es (right_true _ _ h))
  | false ↦ λ is. names_ascend dir es (right_true _ _ h)
] refl

to_filter : {A : Type 0} (p : A → Bool) (xs : List A) (x : A) → Lies x xs → p x ≡ true → Lies x (filter p xs)
to_filter p [] x l h = l
to_filter p (y ∷ ys) x l h = elim (p y) as (λ b. p y ≡ b → Lies x (cond b (y ∷ filter p ys) (filter p ys))) [
  | true ↦ λ e. elim l [ inl same ↦ inl same | inr m ↦ inr (to_filter p ys x m h) ]
  | false ↦ λ e. elim l [ inl same ↦ absurd (false≢true (sym e ∙ ap p same ∙ h)) | inr m ↦ to_filter p ys x m h ]
] refl

-- ---- their cells

dentry_there : (dir : ℕ) (n : List ℕ) (v : CellValue) → Fits (key.Dentry dir n) v → is_there v ≡ true → (d : Dentry) × (dentry_of v ≡ Some d)
dentry_there dir n (value.Full version r) fits h = (Full version r, refl)
dentry_there dir n (value.Remote version i k) fits h = (Remote version i k, refl)
dentry_there dir n (value.Null version) fits h = absurd (false≢true h)
dentry_there dir n value.Gone fits h = absurd (false≢true h)
dentry_there dir n (value.Number i) fits h = absurd fits
dentry_there dir n value.Present fits h = absurd fits

there_dentry : (o : Option CellValue) (d : Dentry) → option_and_then dentry_of o ≡ Some d → (v : CellValue) × (o ≡ Some v) × (is_there v ≡ true)
there_dentry None d e = absurd (none_some d e)
there_dentry (Some (value.Full version r)) d e = (value.Full version r, refl, refl)
there_dentry (Some (value.Remote version i k)) d e = (value.Remote version i k, refl, refl)
there_dentry (Some (value.Null version)) d e = absurd (none_some d e)
there_dentry (Some value.Gone) d e = absurd (none_some d e)
there_dentry (Some (value.Number i)) d e = absurd (none_some d e)
there_dentry (Some value.Present) d e = absurd (none_some d e)

named : (o : Option Dentry) (i : ℕ) → names o ≡ Some i → (d : Dentry) × (o ≡ Some d)
named None i e = absurd (none_some i e)
named (Some d) i e = (d, refl)

module _ (c : CacheValue) (is : HasTree c) (dir : ℕ) (at : is_dir (early_tree c) dir ≡ true) where
  abbrev m : Map key_cmp CellValue
  m = early_cells c

  abbrev all : List (List ℕ)
  all = names_in (early_tree c) dir

  pub all_ascend : Ascends name_below all
  all_ascend = names_ascend dir (entries (early_tree c).links) (entries_sorted (early_tree c).links)

  pub lies_link : (n : List ℕ) → Lies n all → (i : ℕ) × (get (early_tree c).links (dir, n) ≡ Some i)
  lies_link n l =
      let w = in_map (λ (e : Link). e.0.1) (filter (in_dir dir) (entries (early_tree c).links)) n l in
      let f = in_filter (in_dir dir) (entries (early_tree c).links) w.0 w.1 in
      (w.0.1, (λ z. get (early_tree c).links (sym (eqb-true w.0.0.0 dir f.1) z, sym w.2 z)) ∙ entry_at exact_place (early_tree c).links w.0 f.0)

  pub link_lies : (n : List ℕ) (i : ℕ) → get (early_tree c).links (dir, n) ≡ Some i → Lies n all
  link_lies n i e = to_map (λ (e : Link). e.0.1) (filter (in_dir dir) (entries (early_tree c).links)) ((dir, n), i)
      (to_filter (in_dir dir) (entries (early_tree c).links) ((dir, n), i) (at_entry exact_place (early_tree c).links (dir, n) i e) (eq-eqb dir dir refl))

  cell_of : (n : List ℕ) → Lies n all → (v : CellValue) × (get m (key.Dentry dir n) ≡ Some v) × (is_there v ≡ true)
  cell_of n l =
      let w = lies_link n l in
      let d = named (get (early_table c).dentries (dir, n)) w.0 (link_is c is (dir, n) at ∙ w.1) in
      there_dentry (get m (key.Dentry dir n)) d.0 (sym (get-dentries m (dir, n)) ∙ d.1)

  -- each name is one
  pub each_name : (n : List ℕ) → Lies n all → IsTrue (is_name n)
  each_name n l =
      let w = lies_link n l in
      let d = named (get (early_table c).dentries (dir, n)) w.0 (link_is c is (dir, n) at ∙ w.1) in
      is.dentries.names_fit (dir, n) (is_some_at _ d.0 d.1)

  module _ (fit : AllFit (early_cells c)) (after : List ℕ) where
    no_name : next_there m (Some (key.Dentry dir after)) ≡ None → next_name (early_tree c) dir after ≡ None
    no_name f = ap first_of (above_none name_below name_order after all (λ k l up.
        let w = cell_of k l in
        next_none m (key.Dentry dir after) f (key.Dentry dir k) w.0 w.1 (dentry_less dir after k ∙ up) w.2))

    some_name : (e : CellKey × CellValue) → IsNext m (key.Dentry dir after) e → name_in dir e.0 ≡ next_name (early_tree c) dir after
    some_name e n = elim (own_name dir e.0) [
      | inl w ↦
          let same = w.1 in
          let cell : get m (key.Dentry dir w.0) ≡ Some e.1 = ap (get m) (sym same) ∙ n.cell in
          let d = dentry_there dir w.0 e.1 (fit (key.Dentry dir w.0) e.1 cell) n.there in
          let there : get (early_table c).dentries (dir, w.0) ≡ Some d.0 = get-dentries m (dir, w.0) ∙ ap (option_and_then dentry_of) cell ∙ d.1 in
          let lies : Lies w.0 all = link_lies w.0 _ (sym (link_is c is (dir, w.0) at) ∙ ap names there) in
          w.2 ∙ sym (above_least name_below name_order after all w.0 all_ascend lies
          (sym (dentry_less dir after w.0) ∙ ap (λ z. is_lt (key_cmp (key.Dentry dir after) z)) (sym same) ∙ n.above)
          (λ k l up less.
          let v = cell_of k l in
          n.least (key.Dentry dir k) v.0 v.1 (dentry_less dir after k ∙ up) v.2 (ap (λ z. is_lt (key_cmp (key.Dentry dir k) z)) same ∙ dentry_less dir k w.0 ∙ less)))
      | inr w ↦ w.0 ∙ sym (ap first_of (above_none name_below name_order after all (λ k l up.
          let v = cell_of k l in
          let not_before : is_lt (key_cmp (key.Dentry dir k) e.0) ≡ false = elim (cases_Bool (is_lt (key_cmp (key.Dentry dir k) e.0))) [
            | inl less ↦ absurd (n.least (key.Dentry dir k) v.0 v.1 (dentry_less dir after k ∙ up) v.2 less)
            | inr h ↦ h
          ] in
          let x = dentry_between dir after k e.0 n.above not_before in
          w.1 x.0 x.1)))
    ]

    -- the next of the directory's names is the next cell, where that is in the directory
    pub next_name_is : option_and_then (λ (e : CellKey × CellValue). name_in dir e.0) (next_there m (Some (key.Dentry dir after))) ≡ next_name (early_tree c) dir after
    next_name_is = elim (cases_option (next_there m (Some (key.Dentry dir after)))) [
      | inl none ↦ ap (option_and_then (λ (e : CellKey × CellValue). name_in dir e.0)) none ∙ sym (no_name none)
      | inr w ↦ ap (option_and_then (λ (e : CellKey × CellValue). name_in dir e.0)) w.1 ∙ some_name w.0 (next_is m (key.Dentry dir after) w.0 w.1)
    ]

-- ---- no name is below that of the one byte 1

bytes_fit : (n : List ℕ) → IsTrue (is_name n) → list_all is_name_byte n ≡ true
bytes_fit n h = (and_parts _ _ (and_parts _ _ h).0).1

first_less : (x : ℕ) (bs : List ℕ) → 1 < x → name_below (1 ∷ []) (x ∷ bs) ≡ true
first_less x bs h = λ z. is_lt (ordering_then (cond (lt-ltb 1 x h z) Less (cond (1 == x) Equal Greater)) (bytes_cmp [] bs))

-- the first byte of a name is not 0
pub above_least_name : (n : List ℕ) → IsTrue (is_name n) → (n ≡ 1 ∷ []) ⊎ (name_below (1 ∷ []) n ≡ true)
above_least_name [] h = absurd (false≢true h)
above_least_name (zero ∷ bs) h = absurd (false≢true (bytes_fit (0 ∷ bs) h))
above_least_name (suc zero ∷ []) h = inl refl
above_least_name (suc zero ∷ b ∷ bs) h = inr refl
above_least_name (suc (suc b) ∷ bs) h = inr (first_less (suc (suc b)) bs (omega arith))

module _ (c : CacheValue) (is : HasTree c) (dir : ℕ) (at : is_dir (early_tree c) dir ≡ true) where
  least_or_above : (n : List ℕ) → Lies n (names_in (early_tree c) dir) → (n ≡ 1 ∷ []) ⊎ (name_below (1 ∷ []) n ≡ true)
  least_or_above n l = above_least_name n (each_name c is dir at n l)

  -- where the directory has it, it is the first
  pub least_first : (i : ℕ) → get (early_tree c).links (dir, 1 ∷ []) ≡ Some i → (1 ∷ []) ∷ filter (name_below (1 ∷ [])) (names_in (early_tree c) dir) ≡ names_in (early_tree c) dir
  least_first i e = sym (from_item name_below name_order (1 ∷ []) (names_in (early_tree c) dir) (all_ascend c is dir at) least_or_above (link_lies c is dir at (1 ∷ []) i e))

  pub no_least : get (early_tree c).links (dir, 1 ∷ []) ≡ None → filter (name_below (1 ∷ [])) (names_in (early_tree c) dir) ≡ names_in (early_tree c) dir
  no_least none = all_items name_below name_order (1 ∷ []) (names_in (early_tree c) dir) (λ n l. elim (least_or_above n l) [
    | inl same ↦ let w = lies_link c is dir at n l in absurd (none_some w.0 (sym none ∙ ap (λ x. get (early_tree c).links (dir, x)) (sym same) ∙ w.1))
    | inr up ↦ up
  ])

  -- one more
  pub names_push : (after y : List ℕ) (found whole : List (List ℕ)) → next_name (early_tree c) dir after ≡ Some y
      → found ++ filter (name_below after) (names_in (early_tree c) dir) ≡ whole
      → (found ++ y ∷ []) ++ filter (name_below y) (names_in (early_tree c) dir) ≡ whole
  names_push after y found whole f so_far =
      append_assoc found (y ∷ []) (filter (name_below y) (names_in (early_tree c) dir))
      ∙ ap (λ xs. found ++ xs) (sym (above_next name_below name_order after (names_in (early_tree c) dir) y (all_ascend c is dir at) f))
      ∙ so_far

  pub names_end : (after : List ℕ) → next_name (early_tree c) dir after ≡ None → filter (name_below after) (names_in (early_tree c) dir) ≡ []
  names_end after f = above_end name_below name_order after (names_in (early_tree c) dir) f

  pub names_fewer : (after y : List ℕ) → next_name (early_tree c) dir after ≡ Some y
      → length (filter (name_below after) (names_in (early_tree c) dir)) ≡ length (filter (name_below y) (names_in (early_tree c) dir)) + 1
  names_fewer after y f = let next = ap length (above_next name_below name_order after (names_in (early_tree c) dir) y (all_ascend c is dir at) f) in omega (arith, next)
