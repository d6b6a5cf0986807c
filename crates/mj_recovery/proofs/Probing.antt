-- The stream from a position on, and where it ends.
use Rattle.std.proofs.Common.{◌≡◌, ℕ, zero, suc, ◌+◌, ◌-◌, ◌^◌, ◌<◌, ◌≤◌, List, [], ◌∷◌, length, Option, None, Some, refl, ap, subst, sym, ◌∙◌, arith, add-zero, inl, inr}
use Rattle.std.proofs.lemmas.Bool.{cases_lt}
use Rattle.mj_maps.proofs.MapLaws.{none_some}
use Rattle.std.specs.Prelude.{slice_get}
use Rattle.mj_store.specs.Object.{Contents}
use Rattle.mj_layout.specs.Striping.{Striping}
use Rattle.mj_recovery.specs.Stream.{byte_at, stream_of, stream, probed_end, IsEnd}

module _ (image : Contents) (rank : ℕ) (layout : Striping) where
  pub stream_more : (x b : ℕ) → x < 2 ^ 62 → byte_at image rank layout x ≡ Some b → stream image rank layout x ≡ b ∷ stream image rank layout (x + 1)
  unfolding stream_of
  stream_more x b lt is =
      let e : 2 ^ 62 - x ≡ suc (2 ^ 62 - (x + 1)) = omega arith in
      ap (λ n. stream_of image rank layout n x) e
      ∙ ap (λ (o : Option ℕ). elim o as (λ _. List ℕ) [ None ↦ [] | Some c ↦ c ∷ stream_of image rank layout (2 ^ 62 - (x + 1)) (x + 1) ]) is

  pub stream_ends : (x : ℕ) → x < 2 ^ 62 → byte_at image rank layout x ≡ None → stream image rank layout x ≡ []
  unfolding stream_of
  stream_ends x lt is =
      let e : 2 ^ 62 - x ≡ suc (2 ^ 62 - (x + 1)) = omega arith in
      ap (λ n. stream_of image rank layout n x) e
      ∙ ap (λ (o : Option ℕ). elim o as (λ _. List ℕ) [ None ↦ [] | Some c ↦ c ∷ stream_of image rank layout (2 ^ 62 - (x + 1)) (x + 1) ]) is

  pub stream_last : (x : ℕ) → 2 ^ 62 ≤ x → stream image rank layout x ≡ []
  unfolding stream_of
  stream_last x le = let e : 2 ^ 62 - x ≡ 0 = omega arith in ap (λ n. stream_of image rank layout n x) e

  -- ---- the end

  short : (n x : ℕ) → length (stream_of image rank layout n x) ≤ n
  unfolding stream_of
  short zero x = omega arith
  short (suc n) x = elim (byte_at image rank layout x) as (λ (o : Option ℕ). length (elim o as (λ _. List ℕ) [ None ↦ [] | Some b ↦ b ∷ stream_of image rank layout n (x + 1) ]) ≤ suc n) [
    | None ↦ omega arith
    | Some b ↦ let h = short n (x + 1) in omega arith
  ]

  pub end_at_most : (x : ℕ) → x ≤ 2 ^ 62 → x + length (stream image rank layout x) ≤ 2 ^ 62
  end_at_most x le = let h = short (2 ^ 62 - x) x in omega arith

  missing : (n x : ℕ) → length (stream_of image rank layout n x) < n → byte_at image rank layout (x + length (stream_of image rank layout n x)) ≡ None
  unfolding stream_of
  missing zero x h = absurd (omega arith)
  missing (suc n) x h =
      elim (byte_at image rank layout x) as (λ o. byte_at image rank layout x ≡ o
      → length (elim o as (λ _. List ℕ) [ None ↦ [] | Some b ↦ b ∷ stream_of image rank layout n (x + 1) ]) < suc n
      → byte_at image rank layout (x + length (elim o as (λ _. List ℕ) [ None ↦ [] | Some b ↦ b ∷ stream_of image rank layout n (x + 1) ])) ≡ None) [
        | None ↦ λ e lt. rw add-zero e
        | Some b ↦ λ e lt.
            let shift : x + suc (length (stream_of image rank layout n (x + 1))) ≡ (x + 1) + length (stream_of image rank layout n (x + 1)) = omega arith in
            rw shift (missing n (x + 1) (omega arith))
      ] refl h

  held : (n x k : ℕ) → k < length (stream_of image rank layout n x) → byte_at image rank layout (x + k) ≡ slice_get (stream_of image rank layout n x) k
  unfolding stream_of
  held zero x k h = absurd (omega arith)
  held (suc n) x k h =
      elim (byte_at image rank layout x) as (λ o. byte_at image rank layout x ≡ o
      → k < length (elim o as (λ _. List ℕ) [ None ↦ [] | Some b ↦ b ∷ stream_of image rank layout n (x + 1) ])
      → byte_at image rank layout (x + k) ≡ slice_get (elim o as (λ _. List ℕ) [ None ↦ [] | Some b ↦ b ∷ stream_of image rank layout n (x + 1) ]) k) [
        | None ↦ λ e lt. absurd (omega arith)
        | Some b ↦ λ e lt. at_place n x b e k lt (λ j. held n (x + 1) j)
      ] refl h
    where
      at_place : (n x b : ℕ) → byte_at image rank layout x ≡ Some b → (k : ℕ) → k < suc (length (stream_of image rank layout n (x + 1)))
          → ((j : ℕ) → j < length (stream_of image rank layout n (x + 1)) → byte_at image rank layout (x + 1 + j) ≡ slice_get (stream_of image rank layout n (x + 1)) j)
          → byte_at image rank layout (x + k) ≡ slice_get (b ∷ stream_of image rank layout n (x + 1)) k
      at_place n x b e zero lt later = rw add-zero e
      at_place n x b e (suc j) lt later =
          let shift : x + suc j ≡ x + 1 + j = omega arith in
          rw shift (later j (omega arith))

in_range : (xs : List ℕ) (k : ℕ) → k < length xs → (b : ℕ) × (slice_get xs k ≡ Some b)
in_range [] k h = absurd (omega arith)
in_range (x ∷ xs) zero h = (x, refl)
in_range (x ∷ xs) (suc k) h = in_range xs k (omega arith)

-- The end of the stream is the least position without a byte.
pub probed_end_is : (image : Contents) (rank : ℕ) (layout : Striping) (x : ℕ) → x ≤ 2 ^ 62 → IsEnd image rank layout x (probed_end image rank layout x)
probed_end_is image rank layout x le = record {
  above = omega arith;
  held_below = λ y from lt.
      let k = y - x in
      let h : y - x < length (stream image rank layout x) = omega arith in
      let b = in_range (stream image rank layout x) (y - x) h in
      let at : x + (y - x) ≡ y = omega arith in
      (b.0, subst (λ z. byte_at image rank layout z ≡ Some b.0) at (held image rank layout (2 ^ 62 - x) x (y - x) h ∙ b.1));
  missing_there = λ lt. missing image rank layout (2 ^ 62 - x) x (omega arith);
  at_most = end_at_most image rank layout x le;
}

-- There is one such position.
pub one_end : (image : Contents) (rank : ℕ) (layout : Striping) (x a b : ℕ) → IsEnd image rank layout x a → IsEnd image rank layout x b → a ≤ b
one_end image rank layout x a b p q = elim (cases_lt b a) [
  | inl lt ↦
      let h = p.held_below b q.above lt in
      let n = q.missing_there (let m = p.at_most in omega arith) in
      absurd (none_some h.0 (sym n ∙ h.1))
  | inr le ↦ le
]
