-- A search by halves in bits whose names rise answers whether a name is among theirs.
use Rattle.std.proofs.Common.{◌≡◌, ℕ, zero, suc, ◌<◌, ◌≤◌, Bool, true, false, ◌||◌, List, [], ◌∷◌, length, map, get_or, Result, Ok, Err, refl, sym, ap, ◌∙◌, arith, add-one, inl, inr}
use Rattle.std.specs.Prelude.{is_ok}
use Rattle.std.specs.declared.cmp.Ordering.{Ordering}
use Rattle.std.specs.declared.cmp.Ordering.TheVariants.{Less, Equal, Greater}
use Rattle.std.specs.Ordering.{is_eq, ordering_index}
use Rattle.std.specs.List.{list_any, AllAdjacentBelow}
use Rattle.std.specs.List.Sorted.{IsBinarySearchResult, IsSearchInRange}
use Rattle.std.specs.Cmp.{eq_by_cmp_equiv}
use Rattle.std.specs.Cmp.Lexicographic.{nat_list_cmp_total, texts_ties}
use Rattle.std.specs.FinMap.{slice_cmp-IsAntisymmetric, nat_cmp-IsAntisymmetric}
use Rattle.std.proofs.lemmas.Bool.{cases_lt}
use Rattle.std.proofs.lemmas.List.Sorted.{IsNonDecreasingBy-from_all_adjacent}
use Rattle.mj_base.specs.InOrder.{bytes_cmp, same_bytes}
use Rattle.mj_meta.specs.Blob.{is_in}
use Rattle.mj_meta.specs.Earlier.{NamesRise}

at_most_two : (o : Ordering) → ordering_index o ≤ 2
at_most_two Less = omega arith
at_most_two Equal = omega arith
at_most_two Greater = omega arith

index_less : (o : Ordering) (n : ℕ) → o ≡ Less → ordering_index o ≤ n
index_less o n e = rw e (omega arith)

-- a name below another does not stand later against a third
before_search : (x a b : List ℕ) → bytes_cmp a b ≡ Less → ordering_index (bytes_cmp a x) ≤ ordering_index (bytes_cmp b x)
before_search x a b less =
    elim (bytes_cmp b x) as (λ o. bytes_cmp b x ≡ o → ordering_index (bytes_cmp a x) ≤ ordering_index o) [
      | Less ↦ λ e. index_less _ _ (nat_list_cmp_total.trans a b x less e)
      | Equal ↦ λ e. index_less _ _ (ap (bytes_cmp a) (sym (slice_cmp-IsAntisymmetric nat_cmp-IsAntisymmetric b x e)) ∙ less)
      | Greater ↦ λ e. at_most_two (bytes_cmp a x)
    ] refl

same_bytes-is : (x n : List ℕ) → same_bytes x n ≡ is_eq (bytes_cmp n x)
same_bytes-is x n = texts_ties x n ∙ (eq_by_cmp_equiv nat_list_cmp_total).symm x n

module _ {B : Type 0} (name : B → List ℕ) where
  adjacent : (x : List ℕ) (bs : List B) → NamesRise name bs → AllAdjacentBelow (λ a b. ordering_index (bytes_cmp (name a) x) ≤ ordering_index (bytes_cmp (name b) x)) bs (length bs)
  adjacent x [] h k d lt = absurd (omega (arith, lt))
  adjacent x (b ∷ []) h k d lt = absurd (omega (arith, lt))
  adjacent x (b ∷ c ∷ bs) h zero d lt = before_search x (name b) (name c) h.0
  adjacent x (b ∷ c ∷ bs) h (suc k) d lt = let rest = adjacent x (c ∷ bs) h.1 k d (omega (arith, lt)) in rw add-one (rw add-one at rest)

  any_at : (x : List ℕ) (bs : List B) (i : ℕ) → i < length bs → ((d : B) → bytes_cmp (name (get_or bs i d)) x ≡ Equal) → list_any (same_bytes x) (map name bs) ≡ true
  any_at x [] i lt h = absurd (omega (arith, lt))
  any_at x (b ∷ bs) zero lt h = ap (λ c. c || list_any (same_bytes x) (map name bs)) (same_bytes-is x (name b) ∙ ap is_eq (h b))
  any_at x (b ∷ bs) (suc i) lt h = ap (λ c. same_bytes x (name b) || c) (any_at x bs i (omega (arith, lt)) h) ∙ or-true (same_bytes x (name b))
    where
      or-true : (c : Bool) → (c || true) ≡ true
      or-true true = refl
      or-true false = refl

  none_at : (x : List ℕ) (bs : List B) → ((k : ℕ) (d : B) → k < length bs → is_eq (bytes_cmp (name (get_or bs k d)) x) ≡ false) → list_any (same_bytes x) (map name bs) ≡ false
  none_at x [] h = refl
  none_at x (b ∷ bs) h =
      ap (λ c. c || list_any (same_bytes x) (map name bs)) (same_bytes-is x (name b) ∙ h 0 b (omega arith))
      ∙ none_at x bs (λ k d lt. h (suc k) d (omega (arith, lt)))

  -- what the search answers in bits whose names rise
  pub found_is : (x : List ℕ) (bs : List B) (r : Result ℕ ℕ) → NamesRise name bs → IsSearchInRange r (length bs) → IsBinarySearchResult (λ b. bytes_cmp (name b) x) bs r → is_ok r ≡ is_in (map name bs) x
  found_is x bs (Ok i) rise range found = sym (any_at x bs i range found)
  found_is x bs (Err i) rise range parted =
      let sides = parted (IsNonDecreasingBy-from_all_adjacent (λ b. ordering_index (bytes_cmp (name b) x)) bs (adjacent x bs rise)) in
      sym (none_at x bs (λ k d lt. elim (cases_lt k i) [
        | inl below ↦ ap is_eq (sides.0 k d (omega arith) below)
        | inr above ↦ ap is_eq (sides.1 k d above lt)
      ]))
