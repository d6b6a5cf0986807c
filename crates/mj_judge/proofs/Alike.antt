-- What is read of directories depends on which they are alone; and lists that are read in one go or in two.
use Rattle.std.proofs.Common.{◌≡◌, ℕ, ◌+◌, ◌≤◌, ◌<◌, arith, Bool, true, false, cond, ◌&&◌, ◌||◌, List, [], ◌∷◌, map, Option, Some, None, refl, sym, ap, subst, ◌∙◌, ◌⊎◌, inl, inr, min}
use Rattle.std.specs.Prelude.{nat_eq, filter, filter_map, ◌==◌, nat_lt}
use Rattle.std.specs.Option.{option_map, option_and_then}
use Rattle.std.specs.List.{cons_option}
use Rattle.std.proofs.lemmas.Bool.{true≢false, eqb-true}
use Rattle.mj_maps.proofs.MapLaws.{some_same, none_some}
use Rattle.mj_recovery.specs.Tree.{is_among}
use Rattle.mj_recovery.specs.Damage.{or_less, least, times}
use Rattle.mj_recovery.proofs.Reaching.{or_right, or_cases}

-- ---- lists in two goes

module _ {X Y Z : Type 0} where
  pub filter_map_twice : (f : X → Option Y) (g : Y → Option Z) (xs : List X) → filter_map (λ x. option_and_then g (f x)) xs ≡ filter_map g (filter_map f xs)
  filter_map_twice f g [] = refl
  filter_map_twice f g (x ∷ xs) = elim (f x) as (λ o. cons_option (option_and_then g o) (filter_map (λ x. option_and_then g (f x)) xs) ≡ filter_map g (cons_option o (filter_map f xs))) [
    | None ↦ filter_map_twice f g xs
    | Some y ↦ ap (cons_option (g y)) (filter_map_twice f g xs)
  ]

  pub filter_map_map : (f : X → Option Y) (g : Y → Z) (xs : List X) → filter_map (λ x. option_map g (f x)) xs ≡ map g (filter_map f xs)
  filter_map_map f g [] = refl
  filter_map_map f g (x ∷ xs) = elim (f x) as (λ o. cons_option (option_map g o) (filter_map (λ x. option_map g (f x)) xs) ≡ map g (cons_option o (filter_map f xs))) [
    | None ↦ filter_map_map f g xs
    | Some y ↦ ap (λ zs. g y ∷ zs) (filter_map_map f g xs)
  ]

pub filter_map_alike : {X Y : Type 0} (f g : X → Option Y) → ((x : X) → f x ≡ g x) → (xs : List X) → filter_map f xs ≡ filter_map g xs
filter_map_alike f g h xs = λ i. filter_map (λ x. h x i) xs

and-true : (b : Bool) → (b && true) ≡ b
and-true true = refl
and-true false = refl

and-false : (b : Bool) → (b && false) ≡ false
and-false true = refl
and-false false = refl

absorbs : (a b : Bool) → (a || (a && b)) ≡ (a && true)
absorbs true b = refl
absorbs false b = refl

above : (n : ℕ) → nat_lt 0 (n + 1) ≡ true
above n = grind arith

-- ---- the least of those that are among others

eq_sym : (a b : ℕ) → (a == b) ≡ (b == a)
eq_sym a b = grind arith

itself : (n : ℕ) → nat_eq n n ≡ true
itself n = grind arith

le_or_lt : (a b : ℕ) → (a ≤ b) ⊎ (b < a)
le_or_lt a b = elim (nat_lt b a) as (λ c. nat_lt b a ≡ c → (a ≤ b) ⊎ (b < a)) [ true ↦ λ e. inr (grind (arith, e)) | false ↦ λ e. inl (grind (arith, e)) ] refl

pub record IsLeast (xs : List ℕ) (n : ℕ) : Type 0 where
  pub there : is_among xs n ≡ true
  pub below : (d : ℕ) → is_among xs d ≡ true → n ≤ d

min_there : (x : ℕ) (xs : List ℕ) (m : ℕ) → is_among xs m ≡ true → is_among (x ∷ xs) (min x m) ≡ true
min_there x xs m h = elim (le_or_lt x m) [
  | inl le ↦ ap (λ (n : ℕ). nat_eq x n || is_among xs n) (omega (arith, le)) ∙ ap (λ b. b || is_among xs x) (itself x)
  | inr lt ↦ ap (λ (n : ℕ). nat_eq x n || is_among xs n) (omega (arith, lt)) ∙ or_right (nat_eq x m) (is_among xs m) h
]

least_of : (x : ℕ) (xs : List ℕ) (o : Option ℕ) → least xs ≡ o → ((n : ℕ) → o ≡ Some n → IsLeast xs n) → (o ≡ None → xs ≡ []) → IsLeast (x ∷ xs) (or_less x o)
least_of x xs None is some none = record {
  there = ap (λ b. b || is_among xs x) (itself x);
  below = λ d h. elim (or_cases (nat_eq x d) (is_among xs d) h) [
    | inl same ↦ let e = eqb-true x d same in omega (arith, e)
    | inr l ↦ absurd (true≢false (sym l ∙ ap (λ (ys : List ℕ). is_among ys d) (none refl)))
  ];
}
least_of x xs (Some m) is some none =
    let rest = some m refl in
    record {
      there = min_there x xs m rest.there;
      below = λ d h. elim (or_cases (nat_eq x d) (is_among xs d) h) [
        | inl same ↦ let e = eqb-true x d same in omega (arith, e)
        | inr l ↦ let b = rest.below d l in omega (arith, b)
      ];
    }

pub least_none : (xs : List ℕ) → least xs ≡ None → xs ≡ []
least_none [] e = refl
least_none (x ∷ xs) e = absurd (none_some _ (sym e))

pub least_some : (xs : List ℕ) (n : ℕ) → least xs ≡ Some n → IsLeast xs n
least_some [] n e = absurd (none_some n e)
least_some (x ∷ xs) n e = subst (IsLeast (x ∷ xs)) (some_same (or_less x (least xs)) n e) (least_of x xs (least xs) refl (λ m is. least_some xs m is) (λ is. least_none xs is))

both_least : (xs ys : List ℕ) (o p : Option ℕ) → least xs ≡ o → least ys ≡ p → ((d : ℕ) → is_among xs d ≡ is_among ys d) → o ≡ p
both_least xs ys None None a b h = refl
both_least xs ys None (Some n) a b h = absurd (true≢false (sym (least_some ys n b).there ∙ sym (h n) ∙ ap (λ (zs : List ℕ). is_among zs n) (least_none xs a)))
both_least xs ys (Some n) None a b h = absurd (true≢false (sym (least_some xs n a).there ∙ h n ∙ ap (λ (zs : List ℕ). is_among zs n) (least_none ys b)))
both_least xs ys (Some n) (Some k) a b h =
    let f = (least_some xs n a).below k (h k ∙ (least_some ys k b).there) in
    let g = (least_some ys k b).below n (sym (h n) ∙ (least_some xs n a).there) in
    let e : n ≡ k = omega (arith, f, g) in
    ap Some e

pub least_alike : (xs ys : List ℕ) → ((d : ℕ) → is_among xs d ≡ is_among ys d) → least xs ≡ least ys
least_alike xs ys h = both_least xs ys (least xs) (least ys) refl refl h

among_if : (b : Bool) (x : ℕ) (xs : List ℕ) (d : ℕ) → is_among (cond b (x ∷ xs) xs) d ≡ ((nat_eq x d && b) || is_among xs d)
among_if true x xs d = ap (λ c. c || is_among xs d) (sym (and-true (nat_eq x d)))
among_if false x xs d = ap (λ c. c || is_among xs d) (sym (and-false (nat_eq x d)))

tied_pass : (p : ℕ → Bool) (x d : ℕ) (r : Bool) → ((nat_eq x d && p x) || (p d && r)) ≡ (p d && (nat_eq x d || r))
tied_pass p x d r = elim (nat_eq x d) as (λ b. nat_eq x d ≡ b → ((b && p x) || (p d && r)) ≡ (p d && (b || r))) [
  | true ↦ λ e. ap (λ (n : ℕ). p n || (p d && r)) (eqb-true x d e) ∙ absorbs (p d) r
  | false ↦ λ _. refl
] refl

pub among-filter : (p : ℕ → Bool) (xs : List ℕ) (d : ℕ) → is_among (filter p xs) d ≡ (p d && is_among xs d)
among-filter p [] d = sym (and-false (p d))
among-filter p (x ∷ xs) d = among_if (p x) x (filter p xs) d ∙ ap (λ b. (nat_eq x d && p x) || b) (among-filter p xs d) ∙ tied_pass p x d (is_among xs d)

-- the least of those that pass
pub least_filter : (p : ℕ → Bool) (xs ys : List ℕ) → ((d : ℕ) → is_among xs d ≡ is_among ys d) → least (filter p xs) ≡ least (filter p ys)
least_filter p xs ys h = least_alike (filter p xs) (filter p ys) (λ d. among-filter p xs d ∙ ap (λ b. p d && b) (h d) ∙ sym (among-filter p ys d))

-- ---- how often a number stands there

pub times_among : (n : ℕ) (xs : List ℕ) → nat_lt 0 (times n xs) ≡ is_among xs n
times_among n [] = refl
times_among n (x ∷ xs) = elim (n == x) as (λ b. (n == x) ≡ b → nat_lt 0 (cond b (times n xs + 1) (times n xs)) ≡ (nat_eq x n || is_among xs n)) [
  | true ↦ λ e. above (times n xs) ∙ sym (ap (λ b. b || is_among xs n) (eq_sym x n ∙ e))
  | false ↦ λ e. times_among n xs ∙ sym (ap (λ b. b || is_among xs n) (eq_sym x n ∙ e))
] refl
