-- The first part of a list that is cut at an element.
use Rattle.std.proofs.Common.{◌≡◌, ℕ, ◌+◌, ◌≤◌, Bool, true, false, cond, ltb, List, [], ◌∷◌, length, take, drop, Some, None, refl, arith}
use Rattle.std.specs.List.{All, slice_split, onto_first, position, position_or_len}
use Rattle.std.proofs.lemmas.Bool.{ltb-true, ltb-false}
use Rattle.std.proofs.lemmas.List.Elements.{All-from_get_or}
use Rattle.std.proofs.lemmas.List.Splits.{slice_split_first, slice_split_none}
use Rattle.std.proofs.lemmas.List.Sums.{fails_before_first}

-- the parts are never none
pub slice_split_some : {X : Type 0} (p : X → Bool) (xs : List X) → slice_split p xs ≡ [] → ⊥
slice_split_some p [] h = absurd cc
slice_split_some {X} p (x ∷ xs) h = by (p x) (slice_split p xs) h
  where
    by : (t : Bool) (parts : List (List X)) → cond t ([] ∷ parts) (onto_first x parts) ≡ [] → ⊥
    by true parts h = absurd cc
    by false [] h = absurd cc
    by false (part ∷ parts) h = absurd cc

-- what the place of an element says
of_place : (t : Bool) (n at : ℕ) → cond t (Some n) None ≡ Some at → (t ≡ true) × (n ≡ at)
of_place true n at h = (refl, cc)
of_place false n at h = absurd cc

of_no_place : (t : Bool) (n : ℕ) → cond t (Some n) None ≡ None → t ≡ false
of_no_place true n h = absurd cc
of_no_place false n h = refl

pub slice_split_position : (p : ℕ → Bool) (xs : List ℕ) (at : ℕ) → position p xs ≡ Some at → slice_split p xs ≡ take at xs ∷ slice_split p (drop (at + 1) xs)
slice_split_position p xs at h =
    let found = of_place (ltb (position_or_len p xs) (length xs)) (position_or_len p xs) at h in
    rw found.1 at (slice_split_first p xs 0 (ltb-true _ _ found.0))

pub none_at : (p : ℕ → Bool) (xs : List ℕ) → position p xs ≡ None → All (λ x. p x ≡ false) xs
none_at p xs h =
    let past : length xs ≤ position_or_len p xs = ltb-false _ _ (of_no_place (ltb (position_or_len p xs) (length xs)) (position_or_len p xs) h) in
    All-from_get_or (λ x. p x ≡ false) xs 0 (λ i lt. fails_before_first p xs i 0 (omega arith))

pub slice_split_no_position : (p : ℕ → Bool) (xs : List ℕ) → position p xs ≡ None → slice_split p xs ≡ xs ∷ []
slice_split_no_position p xs h = slice_split_none p xs (none_at p xs h)
