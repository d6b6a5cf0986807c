-- A finite map as a value. Unlike the kit's `FinMap`, its operations unfold, so that small maps compute.
--     Map R X       from keys in the order R to values of X.        Set R       a set of keys.        code, set_code      their codes
--     empty, get, contains_key, insert, remove, len      as Rust's `BTreeMap`, where R is total. Else `insert` may leave the map as it is
--     entries       the entries in the order of their keys
--     from_entries      the map of any list. At a key that stands twice it has the first value
--     retain        the entries that pass a test;        collect       what a function gives at each entry, where it gives something
--     count         how many entries pass a test
-- To compute by `refl`, unfold `entries get insert remove empty len retain collect` as far as they occur.
use Rattle.std.specs.Prelude.{◌≡◌, ℕ, ◌+◌, Bool, true, false, cond, not, ◌&&◌, T, List, [], ◌∷◌, length, is_some, Option, Some, None, refl}
use Rattle.std.proofs.Common.{subst, sym}
use mathlib.Core.HLevel.{Σ_prop_path}
use lib.Dec.{T_prop}
use base.Stored.{coded_via, coded_unit}
use Rattle.std.specs.Coded.{Coded, coded×, coded_list}
use Rattle.std.specs.declared.cmp.Ordering.{Ordering}
use Rattle.std.specs.Ordering.{eq_by_cmp}
use Rattle.std.specs.FinMap.Entries.{find, put, where_key, is_sorted, below_all, is_sorted-where_key}

pub record Map {K : Type 0} (R : K → K → Ordering) (X : Type 0) : Type 0 where
  pub list : List (K × X)
  pub sorted : T (is_sorted R list)

-- an entry, where there is a value
abbrev pub with_some : {K Y : Type 0} → K → Option Y → List (K × Y) → List (K × Y)
with_some k None es = es
with_some k (Some y) es = (k, y) ∷ es

-- what f gives at each entry, where it gives something
abbrev pub picked : {K X Y : Type 0} → (K → X → Option Y) → List (K × X) → List (K × Y)
picked f [] = []
picked f (e ∷ es) = with_some e.0 (f e.0 e.1) (picked f es)

-- how many pass
abbrev pub passing : {X : Type 0} → (X → Bool) → List X → ℕ
passing p [] = 0
passing p (x ∷ xs) = cond (p x) 1 0 + passing p xs

pub left_true : (a b : Bool) → T (a && b) → T a
left_true true b h = tt
left_true false b h = h

pub right_true : (a b : Bool) → T (a && b) → T b
right_true true b h = h
right_true false b h = absurd h

pub both_true : (a b : Bool) → T a → T b → T (a && b)
both_true true b h k = k
both_true false b h k = h

module _ {K X Y : Type 0} (R : K → K → Ordering) (f : K → X → Option Y) where
  below-picked : (k : K) (es : List (K × X)) → T (below_all R k es) → T (below_all R k (picked f es))
  below-picked k [] h = tt
  below-picked k (e ∷ es) h = elim (f e.0 e.1) as (λ y. T (below_all R k (with_some e.0 y (picked f es)))) [
    | None ↦ below-picked k es (right_true _ _ h)
    | Some z ↦ both_true _ _ (left_true _ _ h) (below-picked k es (right_true _ _ h))
  ]

  pub sorted-picked : (es : List (K × X)) → T (is_sorted R es) → T (is_sorted R (picked f es))
  sorted-picked [] h = tt
  sorted-picked (e ∷ es) h = elim (f e.0 e.1) as (λ y. T (is_sorted R (with_some e.0 y (picked f es)))) [
    | None ↦ sorted-picked es (right_true _ _ h)
    | Some z ↦ both_true _ _ (below-picked e.0 es (left_true _ _ h)) (sorted-picked es (right_true _ _ h))
  ]

module _ {K X : Type 0} {R : K → K → Ordering} where
  -- in the order of the keys
  unfoldable pub entries : Map R X → List (K × X)
  entries m = m.list

  pub entries_sorted : (m : Map R X) → T (is_sorted R (entries m))
  unfolding entries
  entries_sorted m = m.sorted

  pub same_entries_map : (m n : Map R X) → entries m ≡ entries n → m ≡ n
  unfolding entries
  same_entries_map m n e =
      let pairs : ◌≡◌ {A = (es : List (K × X)) × T (is_sorted R es)} (m.list, m.sorted) (n.list, n.sorted) = Σ_prop_path (λ es. T_prop _) e in
      λ i. record { list = (pairs i).0; sorted = (pairs i).1 }

  abbrev pub code : Coded K → Coded X → Coded (Map R X)
  code k x = coded_via (coded_list (coded× k x)) entries same_entries_map

  unfoldable pub empty : Map R X
  empty = record { list = []; sorted = tt }

  -- the entries as a map, where they are in order. An order that is not total may leave them out of order, and then it is the map given
  abbrev pub checked : (es : List (K × X)) (b : Bool) → is_sorted R es ≡ b → Map R X → Map R X
  checked es true e m = record { list = es; sorted = subst T (sym e) tt }
  checked es false e m = m

  unfoldable pub get : Map R X → K → Option X
  get m q = find R q (entries m)

  abbrev pub contains_key : Map R X → K → Bool
  contains_key m q = is_some (get m q)

  unfoldable pub insert : Map R X → K → X → Map R X
  insert m k v = checked (put R k v (entries m)) _ refl m

  unfoldable pub remove : Map R X → K → Map R X
  remove m k = record {
    list = where_key R (λ x. not (eq_by_cmp R k x)) (entries m);
    sorted = is_sorted-where_key R (λ x. not (eq_by_cmp R k x)) (entries m) (entries_sorted m);
  }

  unfoldable pub len : Map R X → ℕ
  len m = length (entries m)

  abbrev pub from_entries : List (K × X) → Map R X
  from_entries [] = empty
  from_entries (e ∷ es) = insert (from_entries es) e.0 e.1

  abbrev pub count : (K × X → Bool) → Map R X → ℕ
  count p m = passing p (entries m)

module _ {K X Y : Type 0} {R : K → K → Ordering} where
  unfoldable pub collect : (K → X → Option Y) → Map R X → Map R Y
  collect f m = record { list = picked f (entries m); sorted = sorted-picked R f (entries m) (entries_sorted m) }

-- the value, where it passes
abbrev pub passed : {K X : Type 0} → (K → X → Bool) → K → X → Option X
passed p k x = cond (p k x) (Some x) None

abbrev pub retain : {K X : Type 0} {R : K → K → Ordering} → (K → X → Bool) → Map R X → Map R X
retain p m = collect (passed p) m

-- a set is a map to nothing
abbrev pub Set : {K : Type 0} → (K → K → Ordering) → Type 0
Set R = Map R (Unit {0})

abbrev pub set_code : {K : Type 0} {R : K → K → Ordering} → Coded K → Coded (Set R)
set_code k = code k coded_unit
