-- What is known of finite maps at a key, and of counts of their entries.
--     Exact R      an order that tells all keys apart; exact_nat, exact_bytes, exact_place, exact_pair
--     cases_key, eq_same, eq_true, eq_false, apart      a key is k, or ties not with k
--     same_map      two maps that answer alike are equal
--     insert_same, insert_other, remove_same, remove_other, get_empty, get-insert, get-remove, get-from_entries      what `get` answers
--     insert-remove, remove-insert, insert-insert, insert_again, absent_remove, insert_swap, insert_remove_swap, remove_swap      equations of maps
--     count-insert_new, count-insert_over, count-remove, count_some, count_none, count_cases, count-from_entries      counts
--     len-insert_new, len-insert_over, len-remove, len_empty      lengths
--     get-collect, count-collect, collect-insert, collect-remove, get-retain      what a function gives at each entry
--     entries-insert, entries-from_entries, from_entries-entries, get-entries      the list of entries
--     from_entries-put, from_entries-without, from_entries-where      the map of a changed list of entries
use Rattle.std.proofs.Common.{◌≡◌, ℕ, ◌+◌, ◌<◌, Bool, true, false, cond, not, T, List, [], ◌∷◌, length, Option, Some, None, refl, sym, ap, subst, ◌∙◌, ◌⊎◌, inl, inr, arith}
use Rattle.std.specs.declared.cmp.Ordering.{Ordering}
use Rattle.std.specs.declared.cmp.Ordering.TheVariants.{Less, Equal, Greater}
use Rattle.std.specs.Ordering.{ordering_then, eq_by_cmp, is_eq, is_lt}
use Rattle.std.specs.Cmp.{IsTotalOrder, tied_itself, alike_right, eq_by_cmp_equiv, Equal-is}
use Rattle.std.specs.Cmp.Lexicographic.{nat_list_cmp_total}
use Rattle.std.proofs.lemmas.Cmp.{on_total, then_total, nat_cmp_total}
use Rattle.std.proofs.lemmas.Bool.{true≢false}
use Rattle.std.specs.FinMap.{IsAntisymmetric, nat_cmp-IsAntisymmetric, slice_cmp-IsAntisymmetric}
use Rattle.std.specs.FinMap.Entries.{by_order, below_all, is_sorted, find, put, where_key, find-put, find-where_key, is_sorted-put, same_entries}
use Rattle.std.specs.Option.{option_and_then, option_map_or}
use Rattle.mj_maps.specs.Orders.{nat_cmp, bytes_cmp, place_cmp, pair_cmp}
use Rattle.mj_maps.specs.Map.{Map, entries, entries_sorted, same_entries_map, empty, checked, get, insert, remove, len, from_entries, count, passing, picked, with_some, collect, passed, retain, left_true, right_true}

-- an order that tells all keys apart
pub record Exact {K : Type 0} (R : K → K → Ordering) : Type 0 where
  pub total : IsTotalOrder R
  pub same : IsAntisymmetric R

pub some_same : {A : Type 0} (x y : A) → Some x ≡ Some y → x ≡ y
some_same x y e = cc

pub none_some : {A : Type 0} (x : A) → None ≡ Some x → ⊥
none_some x e = cc

turned : {A : Type 0} (b : Bool) (x y : A) → cond (not b) x y ≡ cond b y x
turned true x y = refl
turned false x y = refl

module _ {K X : Type 0} {R : K → K → Ordering} where
  entries-checked : (es : List (K × X)) (b : Bool) (e : is_sorted R es ≡ b) (m : Map R X) → T b → entries (checked es b e m) ≡ es
  unfolding entries
  entries-checked es true e m h = refl
  entries-checked es false e m h = absurd h

  pub get-entries : (m : Map R X) (q : K) → get m q ≡ find R q (entries m)
  unfolding get
  get-entries m q = refl

  pub len-entries : (m : Map R X) → len m ≡ length (entries m)
  unfolding len
  len-entries m = refl

  pub entries-remove : (m : Map R X) (k : K) → entries (remove m k) ≡ where_key R (λ x. not (eq_by_cmp R k x)) (entries m)
  unfolding entries remove
  entries-remove m k = refl

module _ {K X : Type 0} (R : K → K → Ordering) where
  pub entries-empty : entries (empty {X = X} {R = R}) ≡ []
  unfolding entries empty
  entries-empty = refl

  pub get_empty : (q : K) → get (empty {X = X} {R = R}) q ≡ None
  unfolding entries empty get
  get_empty q = refl

pub len_empty : {K : Type 0} (X : Type 0) (R : K → K → Ordering) → len (empty {X = X} {R = R}) ≡ 0
unfolding entries empty len
len_empty X R = refl

cond_swap : {A : Type 0} (a b : Bool) (x y z : A) → (a ≡ true → b ≡ true → ⊥) → cond a x (cond b y z) ≡ cond b y (cond a x z)
cond_swap true true x y z h = absurd (h refl refl)
cond_swap true false x y z h = refl
cond_swap false b x y z h = refl

cond_same : {A : Type 0} (a b : Bool) (x z : A) → cond a x (cond b x z) ≡ cond b x (cond a x z)
cond_same true true x z = refl
cond_same true false x z = refl
cond_same false true x z = refl
cond_same false false x z = refl

is_less : (r : Ordering) → T (is_lt r) → is_eq r ≡ false
is_less Less h = refl
is_less Equal h = absurd h
is_less Greater h = refl

module _ {K : Type 0} {R : K → K → Ordering} (o : Exact R) where
  pub eq_same : (k : K) → eq_by_cmp R k k ≡ true
  eq_same k = ap is_eq (tied_itself o.total k)

  pub eq_true : (q k : K) → eq_by_cmp R q k ≡ true → q ≡ k
  eq_true q k e = o.same q k ((Equal-is (R q k)).0 e)

  pub cases_key : (q k : K) → (q ≡ k) ⊎ (eq_by_cmp R q k ≡ false)
  cases_key q k = elim (eq_by_cmp R q k) as (λ b. eq_by_cmp R q k ≡ b → (q ≡ k) ⊎ (eq_by_cmp R q k ≡ false)) [ true ↦ λ e. inl (eq_true q k e) | false ↦ λ e. inr e ] refl

  pub eq_false : (q k : K) → (q ≡ k → ⊥) → eq_by_cmp R q k ≡ false
  eq_false q k h = elim (cases_key q k) [ inl e ↦ absurd (h e) | inr e ↦ e ]

  pub apart : (q k : K) → eq_by_cmp R q k ≡ false → q ≡ k → ⊥
  apart q k h e = true≢false (sym (eq_same k) ∙ sym (ap (λ x. eq_by_cmp R x k) e) ∙ h)

  -- a key does not tie with two keys that do not tie
  not_both : (k l : K) → eq_by_cmp R k l ≡ false → (q : K) → eq_by_cmp R q k ≡ true → eq_by_cmp R q l ≡ true → ⊥
  not_both k l h q a b = apart k l h (sym (eq_true q k a) ∙ eq_true q l b)

  module _ {X : Type 0} where
    pub entries-insert : (m : Map R X) (k : K) (v : X) → entries (insert m k v) ≡ put R k v (entries m)
    unfolding insert
    entries-insert m k v = entries-checked _ _ refl m (is_sorted-put R o.total k v (entries m) (entries_sorted m))

    pub get-insert : (m : Map R X) (k : K) (v : X) (q : K) → get (insert m k v) q ≡ cond (eq_by_cmp R q k) (Some v) (get m q)
    get-insert m k v q = get-entries (insert m k v) q ∙ ap (find R q) (entries-insert m k v) ∙ find-put R o.total q k v (entries m)
        ∙ ap (cond (eq_by_cmp R q k) (Some v)) (sym (get-entries m q))

    pub get-remove : (m : Map R X) (k : K) (q : K) → get (remove m k) q ≡ cond (eq_by_cmp R q k) None (get m q)
    get-remove m k q = get-entries (remove m k) q ∙ ap (find R q) (entries-remove m k)
        ∙ find-where_key R (λ x. not (eq_by_cmp R k x)) q (λ x t. ap (λ r. not (is_eq r)) (sym (alike_right o.total q x k t))) (entries m)
        ∙ turned (eq_by_cmp R k q) _ _ ∙ (λ i. cond ((eq_by_cmp_equiv o.total).symm k q i) None (sym (get-entries m q) i))

    pub get-from_entries : (es : List (K × X)) (q : K) → get (from_entries {R = R} es) q ≡ find R q es
    get-from_entries [] q = get_empty R q
    get-from_entries (e ∷ es) q = get-insert (from_entries es) e.0 e.1 q ∙ ap (cond (eq_by_cmp R q e.0) (Some e.1)) (get-from_entries es q)

    pub same_map : (m n : Map R X) → ((q : K) → get m q ≡ get n q) → m ≡ n
    same_map m n is = same_entries_map m n (same_entries R o.total o.same (entries m) (entries n) (entries_sorted m) (entries_sorted n) (λ q. sym (get-entries m q) ∙ is q ∙ get-entries n q))

    -- equal answers at k, and equal answers at every other key
    pub same_by : (m n : Map R X) (k : K) → get m k ≡ get n k → ((q : K) → eq_by_cmp R q k ≡ false → get m q ≡ get n q) → m ≡ n
    same_by m n k here there = same_map m n (λ q. elim (cases_key q k) [
      | inl e ↦ subst (λ z. get m z ≡ get n z) (sym e) here
      | inr e ↦ there q e
    ])

    pub insert_same : (m : Map R X) (k : K) (v : X) → get (insert m k v) k ≡ Some v
    insert_same m k v = get-insert m k v k ∙ ap (λ b. cond b (Some v) (get m k)) (eq_same k)

    pub insert_other : (m : Map R X) (k : K) (v : X) (q : K) → eq_by_cmp R q k ≡ false → get (insert m k v) q ≡ get m q
    insert_other m k v q h = get-insert m k v q ∙ ap (λ b. cond b (Some v) (get m q)) h

    pub remove_same : (m : Map R X) (k : K) → get (remove m k) k ≡ None
    remove_same m k = get-remove m k k ∙ ap (λ b. cond b None (get m k)) (eq_same k)

    pub remove_other : (m : Map R X) (k : K) (q : K) → eq_by_cmp R q k ≡ false → get (remove m k) q ≡ get m q
    remove_other m k q h = get-remove m k q ∙ ap (λ b. cond b None (get m q)) h

    -- what is taken out and put back
    pub insert-remove : (m : Map R X) (k : K) (v : X) → get m k ≡ Some v → insert (remove m k) k v ≡ m
    insert-remove m k v h = same_by _ _ k (insert_same (remove m k) k v ∙ sym h) (λ q e. insert_other (remove m k) k v q e ∙ remove_other m k q e)

    -- what is put in and taken out
    pub remove-insert : (m : Map R X) (k : K) (v : X) → remove (insert m k v) k ≡ remove m k
    remove-insert m k v = same_by _ _ k (remove_same (insert m k v) k ∙ sym (remove_same m k)) (λ q e. remove_other (insert m k v) k q e ∙ insert_other m k v q e ∙ sym (remove_other m k q e))

    -- the later value at a key is the one that stands
    pub insert-insert : (m : Map R X) (k : K) (v w : X) → insert (insert m k v) k w ≡ insert m k w
    insert-insert m k v w = same_by _ _ k (insert_same (insert m k v) k w ∙ sym (insert_same m k w)) (λ q e. insert_other (insert m k v) k w q e ∙ insert_other m k v q e ∙ sym (insert_other m k w q e))

    -- whether the key was taken out before does not show
    pub insert_removed : (m : Map R X) (k : K) (v : X) → insert (remove m k) k v ≡ insert m k v
    insert_removed m k v = same_by _ _ k (insert_same (remove m k) k v ∙ sym (insert_same m k v)) (λ q e. insert_other (remove m k) k v q e ∙ remove_other m k q e ∙ sym (insert_other m k v q e))

    pub insert_again : (m : Map R X) (k : K) (v : X) → get m k ≡ Some v → insert m k v ≡ m
    insert_again m k v h = same_by _ _ k (insert_same m k v ∙ sym h) (λ q e. insert_other m k v q e)

    pub absent_remove : (m : Map R X) (k : K) → get m k ≡ None → remove m k ≡ m
    absent_remove m k h = same_by _ _ k (remove_same m k ∙ sym h) (λ q e. remove_other m k q e)

    pub absent_remove-insert : (m : Map R X) (k : K) (v : X) → get m k ≡ None → remove (insert m k v) k ≡ m
    absent_remove-insert m k v h = remove-insert m k v ∙ absent_remove m k h

    -- changes at two keys come to the same in either order
    pub insert_swap : (m : Map R X) (k l : K) (v w : X) → eq_by_cmp R k l ≡ false → insert (insert m k v) l w ≡ insert (insert m l w) k v
    insert_swap m k l v w h = same_map _ _ (λ q. get-insert (insert m k v) l w q ∙ ap (cond (eq_by_cmp R q l) (Some w)) (get-insert m k v q)
        ∙ cond_swap _ _ _ _ _ (λ b a. not_both k l h q a b)
        ∙ sym (get-insert (insert m l w) k v q ∙ ap (cond (eq_by_cmp R q k) (Some v)) (get-insert m l w q)))

    pub insert_remove_swap : (m : Map R X) (k l : K) (v : X) → eq_by_cmp R k l ≡ false → remove (insert m k v) l ≡ insert (remove m l) k v
    insert_remove_swap m k l v h = same_map _ _ (λ q. get-remove (insert m k v) l q ∙ ap (cond (eq_by_cmp R q l) None) (get-insert m k v q)
        ∙ cond_swap _ _ _ _ _ (λ b a. not_both k l h q a b)
        ∙ sym (get-insert (remove m l) k v q ∙ ap (cond (eq_by_cmp R q k) (Some v)) (get-remove m l q)))

    pub remove_swap : (m : Map R X) (k l : K) → remove (remove m k) l ≡ remove (remove m l) k
    remove_swap m k l = same_map _ _ (λ q. get-remove (remove m k) l q ∙ ap (cond (eq_by_cmp R q l) None) (get-remove m k q)
        ∙ cond_same (eq_by_cmp R q l) (eq_by_cmp R q k) None (get m q) ∙ sym (get-remove (remove m l) k q ∙ ap (cond (eq_by_cmp R q k) None) (get-remove m l q)))

    not_below : (k : K) (es : List (K × X)) → T (below_all R k es) → find R k es ≡ None
    not_below k [] h = refl
    not_below k (e ∷ es) h = rw (is_less (R k e.0) (left_true _ _ h)) (not_below k es (right_true _ _ h))

    some_passes : (p : K × X → Bool) (es : List (K × X)) → T (is_sorted R es) → (passing p es ≡ 0) ⊎ ((k : K) × (v : X) × (find R k es ≡ Some v) × (p (k, v) ≡ true))
    some_passes p [] h = inl refl
    some_passes p (e ∷ es) h =
        elim (p e) as (λ b. p e ≡ b → (cond b 1 0 + passing p es ≡ 0) ⊎ ((k : K) × (v : X) × (find R k (e ∷ es) ≡ Some v) × (p (k, v) ≡ true))) [
          | true ↦ λ t. inr (e.0, e.1, ap (λ b. cond b (Some e.1) (find R e.0 es)) (eq_same e.0), t)
          | false ↦ λ t. elim (some_passes p es (right_true _ _ h)) [
            | inl z ↦ inl (omega (arith, z))
            | inr w ↦ inr (
              w.0,
              w.1,
              elim (cases_key w.0 e.0) [
                | inl same ↦ absurd (none_some w.1 (sym (not_below e.0 es (left_true _ _ h)) ∙ ap (λ k. find R k es) (sym same) ∙ w.2))
                | inr other ↦ ap (λ b. cond b (Some e.1) (find R w.0 es)) other ∙ w.2
              ],
              w.3,
            )
          ]
        ] refl

    -- no entry passes, or one does
    pub count_cases : (p : K × X → Bool) (m : Map R X) → (count p m ≡ 0) ⊎ ((k : K) × (v : X) × (get m k ≡ Some v) × (p (k, v) ≡ true))
    count_cases p m = elim (some_passes p (entries m) (entries_sorted m)) [ inl z ↦ inl z | inr w ↦ inr (w.0, w.1, get-entries m w.0 ∙ w.2, w.3) ]

    pub count_none : (p : K × X → Bool) (m : Map R X) → ((k : K) (v : X) → get m k ≡ Some v → p (k, v) ≡ true → ⊥) → count p m ≡ 0
    count_none p m h = elim (count_cases p m) [ inl z ↦ z | inr w ↦ absurd (h w.0 w.1 w.2 w.3) ]

    count-put : (p : K × X → Bool) (k : K) (v : X) (es : List (K × X)) → find R k es ≡ None → passing p (put R k v es) ≡ passing p es + cond (p (k, v)) 1 0
    count-put p k v [] h = omega arith
    count-put p k v (e ∷ es) h =
        elim (R k e.0) as (λ r. R k e.0 ≡ r → passing p (by_order r ((k, v) ∷ e ∷ es) ((e.0, v) ∷ es) (e ∷ put R k v es)) ≡ passing p (e ∷ es) + cond (p (k, v)) 1 0) [
          | Less ↦ λ r. omega arith
          | Equal ↦ λ r. absurd (none_some e.1 (sym (rw r at h)))
          | Greater ↦ λ r. let rest = count-put p k v es (rw r at h) in omega (arith, rest)
        ] refl

    -- a new key's entry is counted
    pub count-insert_new : (p : K × X → Bool) (m : Map R X) (k : K) (v : X) → get m k ≡ None → count p (insert m k v) ≡ count p m + cond (p (k, v)) 1 0
    count-insert_new p m k v h = ap (passing p) (entries-insert m k v) ∙ count-put p k v (entries m) (sym (get-entries m k) ∙ h)

    -- a key's entry that goes is not
    pub count-remove : (p : K × X → Bool) (m : Map R X) (k : K) (v : X) → get m k ≡ Some v → count p (remove m k) + cond (p (k, v)) 1 0 ≡ count p m
    count-remove p m k v h = sym (count-insert_new p (remove m k) k v (remove_same m k)) ∙ ap (count p) (insert-remove m k v h)

    pub count_some : (p : K × X → Bool) (m : Map R X) (k : K) (v : X) → get m k ≡ Some v → p (k, v) ≡ true → 0 < count p m
    count_some p m k v h t = let e = count-remove p m k v h in let f = ap (λ b. count p (remove m k) + cond b 1 0) (sym t) ∙ e in omega (arith, f)

    pub count-insert_over : (p : K × X → Bool) (m : Map R X) (k : K) (v w : X) → get m k ≡ Some v → count p (insert m k w) + cond (p (k, v)) 1 0 ≡ count p m + cond (p (k, w)) 1 0
    count-insert_over p m k v w h =
        let a = count-insert_new p (remove m k) k w (remove_same m k) in
        let b = count-remove p m k v h in
        let c = ap (count p) (sym (insert_removed m k w)) in
        omega (arith, a, b, c)

    passing_all : (es : List (K × X)) → passing (λ (_ : K × X). true) es ≡ length es
    passing_all [] = refl
    passing_all (e ∷ es) = let rest = passing_all es in omega (arith, rest)

    -- the length is the count of all entries
    pub count_all : (m : Map R X) → count (λ (_ : K × X). true) m ≡ len m
    count_all m = passing_all (entries m) ∙ sym (len-entries m)

    pub len-insert_new : (m : Map R X) (k : K) (v : X) → get m k ≡ None → len (insert m k v) ≡ len m + 1
    len-insert_new m k v h = let c = count-insert_new (λ (_ : K × X). true) m k v h in let a = count_all (insert m k v) in let b = count_all m in omega (arith, a, b, c)

    pub len-insert_over : (m : Map R X) (k : K) (v w : X) → get m k ≡ Some v → len (insert m k w) ≡ len m
    len-insert_over m k v w h = let c = count-insert_over (λ (_ : K × X). true) m k v w h in let a = count_all (insert m k w) in let b = count_all m in omega (arith, a, b, c)

    pub len-remove : (m : Map R X) (k : K) (v : X) → get m k ≡ Some v → len (remove m k) + 1 ≡ len m
    len-remove m k v h = let c = count-remove (λ (_ : K × X). true) m k v h in let a = count_all (remove m k) in let b = count_all m in omega (arith, a, b, c)

    -- a list whose keys rise is that of its map
    pub entries-from_entries : (es : List (K × X)) → T (is_sorted R es) → entries (from_entries {R = R} es) ≡ es
    entries-from_entries es h = same_entries R o.total o.same _ es (entries_sorted (from_entries {R = R} es)) h (λ q. sym (get-entries (from_entries es) q) ∙ get-from_entries es q)

    pub from_entries-entries : (m : Map R X) → from_entries (entries m) ≡ m
    from_entries-entries m = same_map _ m (λ q. get-from_entries (entries m) q ∙ sym (get-entries m q))

    pub count-from_entries : (p : K × X → Bool) (es : List (K × X)) → T (is_sorted R es) → count p (from_entries {R = R} es) ≡ passing p es
    count-from_entries p es h = ap (passing p) (entries-from_entries es h)

    pub len-from_entries : (es : List (K × X)) → T (is_sorted R es) → len (from_entries {R = R} es) ≡ length es
    len-from_entries es h = len-entries (from_entries es) ∙ ap length (entries-from_entries es h)

    -- where a key is added to what a list makes, or taken from it
    pub from_entries-put : (k : K) (v : X) (es : List (K × X)) → from_entries {R = R} (put R k v es) ≡ insert (from_entries es) k v
    from_entries-put k v es = same_map _ _ (λ q. get-from_entries (put R k v es) q ∙ find-put R o.total q k v es ∙ sym (get-insert (from_entries es) k v q ∙ ap (cond (eq_by_cmp R q k) (Some v)) (get-from_entries es q)))

    pub from_entries-without : (k : K) (es : List (K × X)) → from_entries {R = R} (where_key R (λ x. not (eq_by_cmp R k x)) es) ≡ remove (from_entries es) k
    from_entries-without k es = same_map _ _ (λ q. get-from_entries (where_key R (λ x. not (eq_by_cmp R k x)) es) q
        ∙ find-where_key R (λ x. not (eq_by_cmp R k x)) q (λ x t. ap (λ r. not (is_eq r)) (sym (alike_right o.total q x k t))) es
        ∙ turned (eq_by_cmp R k q) _ _ ∙ ap (λ b. cond b None (find R q es)) ((eq_by_cmp_equiv o.total).symm k q)
        ∙ sym (get-remove (from_entries es) k q ∙ ap (cond (eq_by_cmp R q k) None) (get-from_entries es q)))

  module _ {X Y : Type 0} (f : K → X → Option Y) where
    find-picked : (es : List (K × X)) (q : K) → T (is_sorted R es) → find R q (picked f es) ≡ option_and_then (f q) (find R q es)
    find-picked [] q h = refl
    find-picked (e ∷ es) q h =
        let rest = find-picked es q (right_true _ _ h) in
        elim (cases_key q e.0) [
          | inl same ↦
              let none = ap (option_and_then (f q)) (ap (λ k. find R k es) same ∙ not_below e.0 es (left_true _ _ h)) in
              elim (f e.0 e.1) as (λ y. f e.0 e.1 ≡ y → find R q (with_some e.0 y (picked f es)) ≡ option_and_then (f q) (cond (eq_by_cmp R q e.0) (Some e.1) (find R q es))) [
                | None ↦ λ y. rest ∙ none ∙ sym y ∙ ap (λ k. f k e.1) (sym same) ∙ ap (λ b. option_and_then (f q) (cond b (Some e.1) (find R q es))) (sym (ap (λ k. eq_by_cmp R k e.0) same ∙ eq_same e.0))
                | Some z ↦ λ y. ap (λ b. cond b (Some z) (find R q (picked f es))) (ap (λ k. eq_by_cmp R k e.0) same ∙ eq_same e.0) ∙ sym y ∙ ap (λ k. f k e.1) (sym same) ∙ ap (λ b. option_and_then (f q) (cond b (Some e.1) (find R q es))) (sym (ap (λ k. eq_by_cmp R k e.0) same ∙ eq_same e.0))
              ] refl
          | inr other ↦ elim (f e.0 e.1) as (λ y. find R q (with_some e.0 y (picked f es)) ≡ option_and_then (f q) (cond (eq_by_cmp R q e.0) (Some e.1) (find R q es))) [
            | None ↦ rest ∙ ap (λ b. option_and_then (f q) (cond b (Some e.1) (find R q es))) (sym other)
            | Some z ↦ ap (λ b. cond b (Some z) (find R q (picked f es))) other ∙ rest ∙ ap (λ b. option_and_then (f q) (cond b (Some e.1) (find R q es))) (sym other)
          ]
        ]

    entries-collect : (m : Map R X) → entries (collect f m) ≡ picked f (entries m)
    unfolding entries collect
    entries-collect m = refl

    pub get-collect : (m : Map R X) (q : K) → get (collect f m) q ≡ option_and_then (f q) (get m q)
    get-collect m q = get-entries (collect f m) q ∙ ap (find R q) (entries-collect m) ∙ find-picked (entries m) q (entries_sorted m) ∙ ap (option_and_then (f q)) (sym (get-entries m q))

    pub get-collect_some : (m : Map R X) (k : K) (v : X) → get m k ≡ Some v → get (collect f m) k ≡ f k v
    get-collect_some m k v h = get-collect m k ∙ ap (option_and_then (f k)) h

    pub get-collect_none : (m : Map R X) (k : K) → get m k ≡ None → get (collect f m) k ≡ None
    get-collect_none m k h = get-collect m k ∙ ap (option_and_then (f k)) h

    pub collect-empty : collect f (empty {X = X} {R = R}) ≡ empty
    collect-empty = same_map _ _ (λ q. get-collect_none empty q (get_empty R q) ∙ sym (get_empty R q))

    pub collect-remove : (m : Map R X) (k : K) → collect f (remove m k) ≡ remove (collect f m) k
    collect-remove m k = same_by _ _ k (get-collect_none (remove m k) k (remove_same m k) ∙ sym (remove_same (collect f m) k))
        (λ q e. get-collect (remove m k) q ∙ ap (option_and_then (f q)) (remove_other m k q e) ∙ sym (remove_other (collect f m) k q e ∙ get-collect m q))

    pub collect-insert_some : (m : Map R X) (k : K) (v : X) (y : Y) → f k v ≡ Some y → collect f (insert m k v) ≡ insert (collect f m) k y
    collect-insert_some m k v y h = same_by _ _ k (get-collect_some (insert m k v) k v (insert_same m k v) ∙ h ∙ sym (insert_same (collect f m) k y))
        (λ q e. get-collect (insert m k v) q ∙ ap (option_and_then (f q)) (insert_other m k v q e) ∙ sym (insert_other (collect f m) k y q e ∙ get-collect m q))

    pub collect-insert_none : (m : Map R X) (k : K) (v : X) → f k v ≡ None → collect f (insert m k v) ≡ remove (collect f m) k
    collect-insert_none m k v h = same_by _ _ k (get-collect_some (insert m k v) k v (insert_same m k v) ∙ h ∙ sym (remove_same (collect f m) k))
        (λ q e. get-collect (insert m k v) q ∙ ap (option_and_then (f q)) (insert_other m k v q e) ∙ sym (remove_other (collect f m) k q e ∙ get-collect m q))

    passing-picked : (p : K × Y → Bool) (es : List (K × X)) → passing p (picked f es) ≡ passing (λ e. option_map_or (λ y. p (e.0, y)) (f e.0 e.1) false) es
    passing-picked p [] = refl
    passing-picked p (e ∷ es) = elim (f e.0 e.1) as (λ y. passing p (with_some e.0 y (picked f es)) ≡ cond (option_map_or (λ y. p (e.0, y)) y false) 1 0 + passing (λ e. option_map_or (λ y. p (e.0, y)) (f e.0 e.1) false) es) [
      | None ↦ let rest = passing-picked p es in omega (arith, rest)
      | Some z ↦ ap (λ n. cond (p (e.0, z)) 1 0 + n) (passing-picked p es)
    ]

    -- a count of what is collected counts the entries that it comes from
    pub count-collect : (p : K × Y → Bool) (m : Map R X) → count p (collect f m) ≡ count (λ e. option_map_or (λ y. p (e.0, y)) (f e.0 e.1) false) m
    count-collect p m = ap (passing p) (entries-collect m) ∙ passing-picked p (entries m)

  module _ {X : Type 0} (p : K → X → Bool) where
    pub get-retain : (m : Map R X) (q : K) → get (retain p m) q ≡ option_and_then (passed p q) (get m q)
    get-retain m q = get-collect (passed p) m q

    pub retain_passes : (m : Map R X) (k : K) (v : X) → get m k ≡ Some v → p k v ≡ true → get (retain p m) k ≡ Some v
    retain_passes m k v h t = get-collect_some (passed p) m k v h ∙ ap (λ b. cond b (Some v) None) t

    pub retain_fails : (m : Map R X) (k : K) (v : X) → get m k ≡ Some v → p k v ≡ false → get (retain p m) k ≡ None
    retain_fails m k v h t = get-collect_some (passed p) m k v h ∙ ap (λ b. cond b (Some v) None) t

kept_if : {X : Type 0} (b : Bool) (o : Option X) → option_and_then (λ x. cond b (Some x) None) o ≡ cond b o None
kept_if true None = refl
kept_if true (Some x) = refl
kept_if false None = refl
kept_if false (Some x) = refl

-- the entries of a list whose keys pass make what the map retains
pub from_entries-where : {K X : Type 0} {R : K → K → Ordering} (o : Exact R) (p : K → Bool) (es : List (K × X)) → from_entries {R = R} (where_key R p es) ≡ retain (λ k _. p k) (from_entries es)
from_entries-where {R = R} o p es = same_map o _ _ (λ q. get-from_entries o (where_key R p es) q
    ∙ find-where_key R p q (λ x t. ap p (sym (o.same q x t))) es
    ∙ sym (get-retain o (λ k _. p k) (from_entries es) q ∙ kept_if (p q) (get (from_entries es) q) ∙ ap (λ z. cond (p q) z None) (get-from_entries o es q)))

pub exact_nat : Exact nat_cmp
exact_nat = record { total = nat_cmp_total; same = nat_cmp-IsAntisymmetric }

then_equal : (r s : Ordering) → ordering_then r s ≡ Equal → (r ≡ Equal) × (s ≡ Equal)
then_equal Less s e = absurd (true≢false (sym (ap is_eq e)))
then_equal Equal s e = (refl, e)
then_equal Greater s e = absurd (true≢false (sym (ap is_eq e)))

pub exact_place : Exact place_cmp
exact_place = record {
  total = then_total (on_total (λ (p : ℕ × List ℕ). p.0) nat_cmp_total) (on_total (λ (p : ℕ × List ℕ). p.1) nat_list_cmp_total);
  same = λ x y e. let both = then_equal _ _ e in λ i. (nat_cmp-IsAntisymmetric x.0 y.0 both.0 i, slice_cmp-IsAntisymmetric nat_cmp-IsAntisymmetric x.1 y.1 both.1 i);
}

pub exact_pair : Exact pair_cmp
exact_pair = record {
  total = then_total (on_total (λ (p : ℕ × ℕ). p.0) nat_cmp_total) (on_total (λ (p : ℕ × ℕ). p.1) nat_cmp_total);
  same = λ x y e. let both = then_equal _ _ e in λ i. (nat_cmp-IsAntisymmetric x.0 y.0 both.0 i, nat_cmp-IsAntisymmetric x.1 y.1 both.1 i);
}

pub exact_bytes : Exact bytes_cmp
exact_bytes = record { total = nat_list_cmp_total; same = slice_cmp-IsAntisymmetric nat_cmp-IsAntisymmetric }
