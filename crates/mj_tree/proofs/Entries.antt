-- Lists that ascend by keys, when an item comes in or goes.
use Rattle.std.proofs.Common.{Ordering, ◌≡◌, ℕ, zero, suc, ◌<◌, ◌&&◌, Bool, true, false, not, cond, T, List, [], ◌∷◌, ◌++◌, map, filter, length, take, drop, get_or, Option, Some, None, is_some, inl, inr, Result, Ok, Err, OnOk, OnErr, refl, sym, ap, subst, ◌∙◌, arith, drop-cons}
use Rattle.std.specs.declared.alloc.AllocError.{AllocError}
use Rattle.std.specs.declared.cmp.Ordering.TheVariants.{Less, Equal, Greater}
use Rattle.std.proofs.lemmas.Bool.{true≢false}
use Rattle.std.specs.Option.{option_map}
use Rattle.std.specs.Ordering.{match_ordering, eq_by_cmp, is_eq, is_lt}
use Rattle.std.specs.Cmp.{eq_by_cmp_equiv}
use Rattle.std.specs.FinMap.Entries.{find, put, where_key, below_all, is_sorted, by_order, is_sorted-put, is_sorted-where_key}
use Rattle.mj_base.specs.InOrder.{placed}
use Rattle.mj_maps.specs.Map.{get, from_entries, insert, remove}
use Rattle.mj_maps.proofs.MapLaws.{Exact, cases_key, eq_same, eq_true, same_by, insert_same, insert_other, get-from_entries, from_entries-put, from_entries-without}
use Rattle.mj_tree.specs.Placing.{set, replaced}
use Rattle.mj_tree.proofs.Listed.{passes, filter-map}

set_parts : {A : Type 0} (xs : List A) (i : ℕ) (y : A) → i < length xs → set xs i y ≡ take i xs ++ y ∷ drop (suc i) xs
set_parts [] i y h = absurd (omega arith)
set_parts (x ∷ xs) zero y h = refl
set_parts (x ∷ xs) (suc i) y h = ap (λ ys. x ∷ ys) (set_parts xs i y (omega arith))

-- over the one that has its key
pub placed_over : {A : Type 0} (cmp : A → A → Ordering) (a : A) (xs : List A) (i : ℕ) (x : A) → i < length xs → x ≡ get_or xs i x → Equal ≡ cmp a x
    → placed cmp a xs ≡ take i xs ++ placed cmp a (drop i xs) → placed cmp a xs ≡ set xs i a
placed_over cmp a xs i x h is tie so_far =
    let here = drop-cons xs i x h ∙ ap (λ z. z ∷ drop (suc i) xs) (sym is) in
    so_far ∙ ap (λ ys. take i xs ++ placed cmp a ys) here ∙ ap (λ r. take i xs ++ match_ordering r (a ∷ x ∷ drop (suc i) xs) (a ∷ drop (suc i) xs) (x ∷ placed cmp a (drop (suc i) xs))) (sym tie)
    ∙ sym (set_parts xs i a h)

-- over the first one that ties
pub replaced_over : {A : Type 0} (cmp : A → A → Ordering) (a : A) (xs : List A) (i : ℕ) (x : A) → i < length xs → x ≡ get_or xs i x → is_eq (cmp a x) ≡ true
    → replaced cmp a xs ≡ take i xs ++ replaced cmp a (drop i xs) → replaced cmp a xs ≡ set xs i a
replaced_over cmp a xs i x h is tie so_far =
    let here = drop-cons xs i x h ∙ ap (λ z. z ∷ drop (suc i) xs) (sym is) in
    so_far ∙ ap (λ ys. take i xs ++ replaced cmp a ys) here ∙ ap (λ b. take i xs ++ cond b (a ∷ drop (suc i) xs) (x ∷ replaced cmp a (drop (suc i) xs))) tie
    ∙ sym (set_parts xs i a h)

pub passed : (b : Bool) → T b → b ≡ true
passed true h = refl
passed false h = absurd h

some_value : {X : Type 0} (v : X) (o : Option X) → is_some o ≡ true → option_map (λ _. v) o ≡ Some v
some_value v None e = cc
some_value v (Some x) e = refl

filter_alike : {A : Type 0} (p q : A → Bool) → ((x : A) → p x ≡ q x) → (xs : List A) → filter p xs ≡ filter q xs
filter_alike p q same [] = refl
filter_alike p q same (x ∷ xs) = λ i. cond (same x i) (x ∷ filter_alike p q same xs i) (filter_alike p q same xs i)

module _ {A K X : Type 0} {R : K → K → Ordering} (o : Exact R) (key : A → K) (value : A → X) where
  abbrev entries_by : List A → List (K × X)
  entries_by = map (λ x. (key x, value x))

  module _ (cmp : A → A → Ordering) (by_key : (a x : A) → cmp a x ≡ R (key a) (key x)) where
    entries-placed : (a : A) (xs : List A) → entries_by (placed cmp a xs) ≡ put R (key a) (value a) (entries_by xs)
    entries-placed a [] = refl
    entries-placed a (x ∷ xs) =
        ap (λ r. entries_by (match_ordering r (a ∷ x ∷ xs) (a ∷ xs) (x ∷ placed cmp a xs))) (by_key a x)
        ∙ elim (R (key a) (key x)) as (λ r. R (key a) (key x) ≡ r → entries_by (match_ordering r (a ∷ x ∷ xs) (a ∷ xs) (x ∷ placed cmp a xs))
        ≡ by_order r ((key a, value a) ∷ entries_by (x ∷ xs)) ((key x, value a) ∷ entries_by xs) ((key x, value x) ∷ put R (key a) (value a) (entries_by xs))) [
          | Less ↦ λ _. refl
          | Equal ↦ λ e. ap (λ k. (k, value a) ∷ entries_by xs) (o.same _ _ e)
          | Greater ↦ λ _. ap (λ es. (key x, value x) ∷ es) (entries-placed a xs)
        ] refl

    -- one more
    map-placed : (a : A) (xs : List A) → from_entries {R = R} (entries_by (placed cmp a xs)) ≡ insert (from_entries (entries_by xs)) (key a) (value a)
    map-placed a xs = ap from_entries (entries-placed a xs) ∙ from_entries-put o (key a) (value a) (entries_by xs)

    rises-placed : (a : A) (xs : List A) → is_sorted R (entries_by xs) ≡ true → T (is_sorted R (entries_by (placed cmp a xs)))
    rises-placed a xs h = subst (λ es. T (is_sorted R es)) (sym (entries-placed a xs)) (is_sorted-put R o.total (key a) (value a) (entries_by xs) (passes _ h))

    -- after an item was put in its place, or want of memory left the list as it was
    pub rises_after : (r : Result (Unit {0}) AllocError) (a : A) (old new : List A) → OnOk r (new ≡ placed cmp a old) → OnErr r (new ≡ old) → is_sorted R (entries_by old) ≡ true → is_sorted R (entries_by new) ≡ true
    rises_after (Ok x) a old new ok err h = ap (λ xs. is_sorted R (entries_by xs)) ok ∙ passed _ (rises-placed a old h)
    rises_after (Err e) a old new ok err h = ap (λ xs. is_sorted R (entries_by xs)) err ∙ h

    pub map_after : (r : Result (Unit {0}) AllocError) (a : A) (old new : List A) → OnOk r (new ≡ placed cmp a old) → OnOk r (from_entries {R = R} (entries_by new) ≡ insert (from_entries (entries_by old)) (key a) (value a))
    map_after (Ok x) a old new ok = ap (λ xs. from_entries (entries_by xs)) ok ∙ map-placed a old
    map_after (Err e) a old new ok = tt

    same_key : (a x : A) → is_eq (cmp a x) ≡ true → key a ≡ key x
    same_key a x e = eq_true o (key a) (key x) (ap is_eq (sym (by_key a x)) ∙ e)

    other_key : (a x : A) (q : K) → is_eq (cmp a x) ≡ false → eq_by_cmp R q (key x) ≡ true → eq_by_cmp R q (key a) ≡ false
    other_key a x q e t = elim (cases_key o q (key a)) [
      | inr n ↦ n
      | inl same ↦ absurd (true≢false (sym (eq_same o (key a)) ∙ ap (eq_by_cmp R (key a)) (sym same ∙ eq_true o q (key x) t) ∙ ap is_eq (sym (by_key a x)) ∙ e))
    ]

    find-replaced : (a : A) (q : K) (xs : List A) → find R q (entries_by (replaced cmp a xs)) ≡ cond (eq_by_cmp R q (key a)) (option_map (λ _. value a) (find R q (entries_by xs))) (find R q (entries_by xs))
    find-replaced a q [] = elim (eq_by_cmp R q (key a)) as (λ b. ◌≡◌ {A = Option X} None (cond b None None)) [ true ↦ refl | false ↦ refl ]
    find-replaced a q (x ∷ xs) =
        let f = λ (_ : X). value a in
        let rest = find-replaced a q xs in
        let found = find R q (entries_by xs) in
        elim (is_eq (cmp a x)) as (λ b. is_eq (cmp a x) ≡ b → find R q (entries_by (cond b (a ∷ xs) (x ∷ replaced cmp a xs)))
        ≡ cond (eq_by_cmp R q (key a)) (option_map f (cond (eq_by_cmp R q (key x)) (Some (value x)) found)) (cond (eq_by_cmp R q (key x)) (Some (value x)) found)) [
          | true ↦ λ e.
              let same = same_key a x e in
              subst (λ k. cond (eq_by_cmp R q (key a)) (Some (value a)) found ≡ cond (eq_by_cmp R q (key a)) (option_map f (cond (eq_by_cmp R q k) (Some (value x)) found)) (cond (eq_by_cmp R q k) (Some (value x)) found)) same
              (elim (eq_by_cmp R q (key a)) as (λ b. cond b (Some (value a)) found ≡ cond b (option_map f (cond b (Some (value x)) found)) (cond b (Some (value x)) found)) [ true ↦ refl | false ↦ refl ])
          | false ↦ λ e.
              elim (eq_by_cmp R q (key x)) as (λ b. eq_by_cmp R q (key x) ≡ b → cond b (Some (value x)) (find R q (entries_by (replaced cmp a xs)))
              ≡ cond (eq_by_cmp R q (key a)) (option_map f (cond b (Some (value x)) found)) (cond b (Some (value x)) found)) [
                | true ↦ λ t. ap (λ c. cond c (Some (value a)) (Some (value x))) (sym (other_key a x q e t))
                | false ↦ λ _. rest
              ] refl
        ] refl

    below-replaced : (a : A) (k : K) (xs : List A) → below_all R k (entries_by (replaced cmp a xs)) ≡ below_all R k (entries_by xs)
    below-replaced a k [] = refl
    below-replaced a k (x ∷ xs) = elim (is_eq (cmp a x)) as (λ b. is_eq (cmp a x) ≡ b → below_all R k (entries_by (cond b (a ∷ xs) (x ∷ replaced cmp a xs))) ≡ below_all R k (entries_by (x ∷ xs))) [
      | true ↦ λ e. ap (λ l. is_lt (R k l) && below_all R k (entries_by xs)) (same_key a x e)
      | false ↦ λ _. ap (λ b. is_lt (R k (key x)) && b) (below-replaced a k xs)
    ] refl

    sorted-replaced : (a : A) (xs : List A) → is_sorted R (entries_by (replaced cmp a xs)) ≡ is_sorted R (entries_by xs)
    sorted-replaced a [] = refl
    sorted-replaced a (x ∷ xs) = elim (is_eq (cmp a x)) as (λ b. is_eq (cmp a x) ≡ b → is_sorted R (entries_by (cond b (a ∷ xs) (x ∷ replaced cmp a xs))) ≡ is_sorted R (entries_by (x ∷ xs))) [
      | true ↦ λ e. ap (λ l. below_all R l (entries_by xs) && is_sorted R (entries_by xs)) (same_key a x e)
      | false ↦ λ _. λ z. below-replaced a (key x) xs z && sorted-replaced a xs z
    ] refl

    -- after an item was put over the one that has its key
    pub rises_over : (a : A) (old new : List A) → new ≡ replaced cmp a old → is_sorted R (entries_by old) ≡ true → is_sorted R (entries_by new) ≡ true
    rises_over a old new e h = ap (λ xs. is_sorted R (entries_by xs)) e ∙ sorted-replaced a old ∙ h

    pub map_over : (a : A) (old new : List A) → new ≡ replaced cmp a old → is_some (get (from_entries {R = R} (entries_by old)) (key a)) ≡ true → from_entries {R = R} (entries_by new) ≡ insert (from_entries (entries_by old)) (key a) (value a)
    map_over a old new e h = same_by o _ _ (key a)
        (get-from_entries o (entries_by new) (key a) ∙ ap (λ xs. find R (key a) (entries_by xs)) e ∙ find-replaced a (key a) old
        ∙ ap (λ b. cond b (option_map (λ _. value a) (find R (key a) (entries_by old))) (find R (key a) (entries_by old))) (eq_same o (key a))
        ∙ some_value (value a) (find R (key a) (entries_by old)) (ap is_some (sym (get-from_entries o (entries_by old) (key a))) ∙ h)
        ∙ sym (insert_same o (from_entries (entries_by old)) (key a) (value a)))
        (λ q n. get-from_entries o (entries_by new) q ∙ ap (λ xs. find R q (entries_by xs)) e ∙ find-replaced a q old
        ∙ ap (λ b. cond b (option_map (λ _. value a) (find R q (entries_by old))) (find R q (entries_by old))) n
        ∙ sym (insert_other o (from_entries (entries_by old)) (key a) (value a) q n ∙ get-from_entries o (entries_by old) q))

  module _ (test : A → Bool) (k : K) (ties : (x : A) → test x ≡ eq_by_cmp R (key x) k) where
    entries-without : (xs : List A) → entries_by (filter (λ x. not (test x)) xs) ≡ where_key R (λ x. not (eq_by_cmp R k x)) (entries_by xs)
    entries-without xs =
        ap entries_by (filter_alike (λ x. not (test x)) (λ x. not (eq_by_cmp R k (key x))) (λ x. ap not (ties x ∙ (eq_by_cmp_equiv o.total).symm (key x) k)) xs)
        ∙ sym (filter-map (λ x. (key x, value x)) (λ e. not (eq_by_cmp R k e.0)) xs)

    -- one less
    map-without : (xs : List A) → from_entries {R = R} (entries_by (filter (λ x. not (test x)) xs)) ≡ remove (from_entries (entries_by xs)) k
    map-without xs = ap from_entries (entries-without xs) ∙ from_entries-without o k (entries_by xs)

    rises-without : (xs : List A) → is_sorted R (entries_by xs) ≡ true → T (is_sorted R (entries_by (filter (λ x. not (test x)) xs)))
    rises-without xs h = subst (λ es. T (is_sorted R es)) (sym (entries-without xs)) (is_sorted-where_key R (λ x. not (eq_by_cmp R k x)) (entries_by xs) (passes _ h))

    -- after the items with a key were taken out
    pub rises_left : (old new : List A) → new ≡ filter (λ x. not (test x)) old → is_sorted R (entries_by old) ≡ true → is_sorted R (entries_by new) ≡ true
    rises_left old new e h = ap (λ xs. is_sorted R (entries_by xs)) e ∙ passed _ (rises-without old h)

    pub map_left : (old new : List A) → new ≡ filter (λ x. not (test x)) old → from_entries {R = R} (entries_by new) ≡ remove (from_entries (entries_by old)) k
    map_left old new e = ap (λ xs. from_entries (entries_by xs)) e ∙ map-without old

-- what follows where it went well
pub on_ok : {A E : Type 0} (r : Result A E) {P Q : Type 0} → (P → Q) → OnOk r P → OnOk r Q
on_ok (Ok x) f p = f p
on_ok (Err e) f p = tt
