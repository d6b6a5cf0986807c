-- What is known after a change at one inode.
use Rattle.std.proofs.Common.{◌≡◌, ℕ, ◌+◌, ◌≤◌, arith, Bool, true, false, cond, ◌&&◌, List, [], ◌∷◌, length, Option, Some, None, refl, sym, ap, subst, ◌∙◌, ◌⊎◌, inl, inr}
use Rattle.std.specs.Prelude.{is_some, is_none, not, unwrap_or, ◌-◌, ◌==◌, nat_eq}
use Rattle.std.specs.Ordering.{eq_by_cmp}
use Rattle.std.specs.Cmp.{unsigned_ties}
use Rattle.std.specs.BTreeMap.{is_at}
use Rattle.std.specs.Map.{lookup}
use Rattle.std.proofs.lemmas.Bool.{true≢false, eqb-true}
use Rattle.mj_maps.specs.Map.{get, insert, remove, count, passing, from_entries}
use Rattle.mj_maps.specs.Orders.{nat_cmp}
use Rattle.mj_maps.proofs.MapLaws.{exact_nat, cases_key, insert_same, insert_other, remove_same, remove_other, absent_remove, count-insert_new, count-insert_over, count-remove, entries-empty}
use Rattle.mj_maps.proofs.Kept.{get_kept, one_given, one_taken}
use Rattle.mj_index.specs.declared.known.FullPlace.{FullPlace}
use Rattle.mj_index.specs.declared.known.Known.{Known}
use Rattle.mj_index.specs.Known.{Inodes, nothing, is_nothing, known_at, SameKnown, keeps, keeps_entry, AltersBy, AltersBy_at, with_room, altered, altered_at}

-- what is known at the inode, where the change leaves nothing as nothing or there is room
pub known-altered_same : (m : Inodes) (i : ℕ) (f : Known → Known) → (f nothing ≡ nothing) ⊎ (is_some (get m i) ≡ true) → known_at (altered m i f) i ≡ f (known_at m i)
known-altered_same m i f fits = elim (get m i) as (λ o. get m i ≡ o → (f nothing ≡ nothing) ⊎ (is_some o ≡ true) → known_at (altered_at m i f o) i ≡ f (unwrap_or o nothing)) [
  | None ↦ λ none fits. elim fits [ inl e ↦ ap (λ (p : Option Known). unwrap_or p nothing) none ∙ sym e | inr t ↦ absurd (true≢false (sym t)) ]
  | Some k ↦ λ _ _. ap (λ (p : Option Known). unwrap_or p nothing) (insert_same exact_nat m i (f k))
] refl fits

pub known-altered_other : (m : Inodes) (i : ℕ) (f : Known → Known) (j : ℕ) → eq_by_cmp nat_cmp j i ≡ false → known_at (altered m i f) j ≡ known_at m j
known-altered_other m i f j other = elim (get m i) as (λ o. known_at (altered_at m i f o) j ≡ known_at m j) [
  | None ↦ refl
  | Some k ↦ ap (λ (p : Option Known). unwrap_or p nothing) (insert_other exact_nat m i (f k) j other)
]

pub room-altered : (m : Inodes) (i : ℕ) (f : Known → Known) (j : ℕ) → is_some (get (altered m i f) j) ≡ is_some (get m j)
room-altered m i f j = elim (get m i) as (λ o. get m i ≡ o → is_some (get (altered_at m i f o) j) ≡ is_some (get m j)) [
  | None ↦ λ _. refl
  | Some k ↦ λ some. elim (cases_key exact_nat j i) [
    | inl same ↦ ap (λ z. is_some (get (insert m i (f k)) z)) same ∙ ap is_some (insert_same exact_nat m i (f k)) ∙ sym (ap (λ z. is_some (get m z)) same ∙ ap is_some some)
    | inr other ↦ ap is_some (insert_other exact_nat m i (f k) j other)
  ]
] refl

-- what a change leaves of each that is known is left at each inode
pub kept : {A : Type 0} (g : Known → A) (f : Known → Known) → ((k : Known) → g (f k) ≡ g k) → (j : ℕ) (m : Inodes) (i : ℕ) → g (known_at (altered m i f) j) ≡ g (known_at m j)
kept g f h j m i = elim (get m i) as (λ o. get m i ≡ o → g (known_at (altered_at m i f o) j) ≡ g (known_at m j)) [
  | None ↦ λ _. refl
  | Some k ↦ λ some. elim (cases_key exact_nat j i) [
    | inl same ↦ ap (λ z. g (known_at (insert m i (f k)) z)) same ∙ ap (λ (p : Option Known). g (unwrap_or p nothing)) (insert_same exact_nat m i (f k)) ∙ h k ∙ sym (ap (λ z. g (known_at m z)) same ∙ ap (λ (p : Option Known). g (unwrap_or p nothing)) some)
    | inr other ↦ ap (λ (p : Option Known). g (unwrap_or p nothing)) (insert_other exact_nat m i (f k) j other)
  ]
] refl

-- a change at an inode that has room, and at one that has none
pub alters_some : (C : Known → Known → Type 0) (m v n : Inodes) (i : ℕ) (k l : Known) → m ≡ v → get m i ≡ Some k → C k l → n ≡ insert m i l → AltersBy C v i n
alters_some C m v n i k l e some change is = subst (λ w. AltersBy C w i n) e (subst (λ (o : Option Known). AltersBy_at C m i n o) (sym some) (l, change, is))

pub alters_none : (C : Known → Known → Type 0) (m v n : Inodes) (i : ℕ) → m ≡ v → get m i ≡ None → n ≡ m → AltersBy C v i n
alters_none C m v n i e none is = subst (λ w. AltersBy C w i n) e (subst (λ (o : Option Known). AltersBy_at C m i n o) (sym none) is)

-- ---- room

pub known-with_room : (m : Inodes) (i : ℕ) → SameKnown m (with_room m i)
known-with_room m i j = elim (get m i) as (λ o. get m i ≡ o → known_at (cond (is_some o) m (insert m i nothing)) j ≡ known_at m j) [
  | None ↦ λ none. elim (cases_key exact_nat j i) [
    | inl same ↦ ap (λ z. known_at (insert m i nothing) z) same ∙ ap (λ (p : Option Known). unwrap_or p nothing) (insert_same exact_nat m i nothing) ∙ sym (ap (λ z. known_at m z) same ∙ ap (λ (p : Option Known). unwrap_or p nothing) none)
    | inr other ↦ ap (λ (p : Option Known). unwrap_or p nothing) (insert_other exact_nat m i nothing j other)
  ]
  | Some k ↦ λ _. refl
] refl

pub some-with_room : (m : Inodes) (i : ℕ) → is_some (get (with_room m i) i) ≡ true
some-with_room m i = elim (get m i) as (λ o. get m i ≡ o → is_some (get (cond (is_some o) m (insert m i nothing)) i) ≡ true) [
  | None ↦ λ _. ap is_some (insert_same exact_nat m i nothing)
  | Some k ↦ λ some. ap is_some some
] refl

pub stays-with_room : (m : Inodes) (i j : ℕ) → is_some (get m j) ≡ true → is_some (get (with_room m i) j) ≡ true
stays-with_room m i j h = elim (get m i) as (λ o. is_some (get (cond (is_some o) m (insert m i nothing)) j) ≡ true) [
  | None ↦ elim (cases_key exact_nat j i) [
    | inl same ↦ ap (λ z. is_some (get (insert m i nothing) z)) same ∙ ap is_some (insert_same exact_nat m i nothing)
    | inr other ↦ ap is_some (insert_other exact_nat m i nothing j other) ∙ h
  ]
  | Some k ↦ h
]

-- an entry of which nothing is known goes
pub known-remove : (m : Inodes) (i : ℕ) → known_at m i ≡ nothing → SameKnown m (remove m i)
known-remove m i none j = elim (cases_key exact_nat j i) [
  | inl same ↦ ap (λ z. known_at (remove m i) z) same ∙ ap (λ (p : Option Known). unwrap_or p nothing) (remove_same exact_nat m i) ∙ sym (ap (λ z. known_at m z) same ∙ none)
  | inr other ↦ ap (λ (p : Option Known). unwrap_or p nothing) (remove_other exact_nat m i j other)
]

-- ---- how many are kept

at_most_one : (b : Bool) → cond {A = ℕ} b 1 0 ≤ 1
at_most_one true = omega arith
at_most_one false = omega arith

count_more : (m : Inodes) (i : ℕ) (k : Known) → count keeps_entry (insert m i k) ≤ count keeps_entry m + 1
count_more m i k = elim (get m i) as (λ o. get m i ≡ o → count keeps_entry (insert m i k) ≤ count keeps_entry m + 1) [
  | None ↦ λ none. let new = count-insert_new exact_nat keeps_entry m i k none in let one = at_most_one (keeps k) in omega (arith, new, one)
  | Some v ↦ λ some. let over = count-insert_over exact_nat keeps_entry m i v k some in let one = at_most_one (keeps k) in omega (arith, over, one)
] refl

pub count_bound : (es : List (ℕ × Known)) → count keeps_entry (from_entries {R = nat_cmp} es) ≤ length es
count_bound [] = let none : count keeps_entry (from_entries {R = nat_cmp} []) ≡ 0 = ap (passing keeps_entry) (entries-empty {X = Known} nat_cmp) in omega (arith, none)
count_bound (e ∷ es) = let rest = count_bound es in let more = count_more (from_entries {R = nat_cmp} es) e.0 e.1 in omega (arith, rest, more)

pub count_replaced : (m : Inodes) (i : ℕ) (v k : Known) → get m i ≡ Some v → count keeps_entry (insert m i k) ≡ (count keeps_entry m - cond (keeps v) 1 0) + cond (keeps k) 1 0
count_replaced m i v k some =
    let over = count-insert_over exact_nat keeps_entry m i v k some in
    let gone = count-remove exact_nat keeps_entry m i v some in
    omega (arith, over, gone)

pub count_room : (m : Inodes) (i : ℕ) → get m i ≡ None → count keeps_entry (insert m i nothing) ≡ count keeps_entry m
count_room m i none = let new = count-insert_new exact_nat keeps_entry m i nothing none in omega (arith, new)

pub count_gone : (m : Inodes) (i : ℕ) (v : Known) → get m i ≡ Some v → v ≡ nothing → count keeps_entry (remove m i) ≡ count keeps_entry m
count_gone m i v some none =
    let gone = count-remove exact_nat keeps_entry m i v some in
    let zero = ap (λ k. cond {A = ℕ} (keeps k) 1 0) none in
    omega (arith, gone, zero)

pub count_no : count keeps_entry (from_entries {R = nat_cmp} []) ≡ 0
count_no = ap (passing keeps_entry) (entries-empty {X = Known} nat_cmp)

pub none_of : {A : Type 0} (o : Option A) → is_some o ≡ false → o ≡ None
none_of None e = refl
none_of (Some x) e = absurd (true≢false e)

-- ---- nothing

and_left : (a b : Bool) → (a && b) ≡ true → a ≡ true
and_left true b e = refl
and_left false b e = absurd (true≢false (sym e))

and_right : (a b : Bool) → (a && b) ≡ true → b ≡ true
and_right true b e = e
and_right false b e = absurd (true≢false (sym e))

nothing_by : (f : Option FullPlace) (d : Bool) (n o : ℕ) → (is_none f && not d && (n == 0) && (o == 0)) ≡ true → record { full = f; is_dir = d; dentries = n; opens = o } ≡ nothing
nothing_by None false n o e = λ i. record { full = None; is_dir = false; dentries = eqb-true n 0 (and_left (n == 0) (o == 0) e) i; opens = eqb-true o 0 (and_right (n == 0) (o == 0) e) i }
nothing_by None true n o e = absurd (true≢false (sym e))
nothing_by (Some p) d n o e = absurd (true≢false (sym e))

pub nothing_is : (k : Known) → is_nothing k ≡ true → k ≡ nothing
nothing_is k e = nothing_by k.full k.is_dir k.dentries k.opens e

pub known_is : (m : Inodes) (i : ℕ) (o : Option Known) → get m i ≡ o → known_at m i ≡ unwrap_or o nothing
known_is m i o e = ap (λ (p : Option Known). unwrap_or p nothing) e

-- an entry of which nothing is known goes, or none is there
pub count_room_gone : (m : Inodes) (i : ℕ) → known_at m i ≡ nothing → count keeps_entry (remove m i) ≡ count keeps_entry m
count_room_gone m i none = elim (get m i) as (λ o. get m i ≡ o → count keeps_entry (remove m i) ≡ count keeps_entry m) [
  | None ↦ λ is. ap (λ (n : Inodes). count keeps_entry n) (absent_remove exact_nat m i is)
  | Some v ↦ λ is. count_gone m i v is (sym (known_is m i (Some v) is) ∙ none)
] refl

-- ---- the entries of a hash map against the finite map that they make

by_number : (q : ℕ) (es : List (ℕ × Known)) → lookup (is_at (nat_cmp q)) es ≡ lookup (nat_eq q) es
by_number q es = ap (λ (test : ℕ → Bool). lookup test es) (λ i k. sym (unsigned_ties q k) i)

pub get_hashed : (es : List (ℕ × Known)) (n i : ℕ) → n ≡ i → get (from_entries {R = nat_cmp} es) i ≡ lookup (nat_eq n) es
get_hashed es n i e = ap (λ j. get (from_entries {R = nat_cmp} es) j) (sym e) ∙ get_kept exact_nat es n ∙ by_number n es

pub given_hashed : (es fs : List (ℕ × Known)) (n i : ℕ) (k : Known) → n ≡ i → ((q : ℕ) → lookup (nat_eq q) fs ≡ cond (nat_eq n q) (Some k) (lookup (nat_eq q) es)) → from_entries {R = nat_cmp} fs ≡ insert (from_entries es) i k
given_hashed es fs n i k e h = one_given exact_nat es fs n k (λ q. by_number q fs ∙ h q ∙ (λ j. cond (unsigned_ties n q j) (Some k) (sym (by_number q es) j))) ∙ ap (λ j. insert (from_entries {R = nat_cmp} es) j k) e

pub taken_hashed : (es fs : List (ℕ × Known)) (n i : ℕ) → n ≡ i → ((q : ℕ) → lookup (nat_eq q) fs ≡ cond (nat_eq n q) None (lookup (nat_eq q) es)) → from_entries {R = nat_cmp} fs ≡ remove (from_entries es) i
taken_hashed es fs n i e h = one_taken exact_nat es fs n (λ q. by_number q fs ∙ h q ∙ (λ j. cond (unsigned_ties n q j) None (sym (by_number q es) j))) ∙ ap (λ j. remove (from_entries {R = nat_cmp} es) j) e
