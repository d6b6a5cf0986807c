-- The stream from a later position on, and a piece before it.
use Rattle.std.proofs.Common.{◌≡◌, ℕ, zero, suc, ◌+◌, ◌-◌, ◌^◌, ◌≤◌, List, [], ◌∷◌, ◌++◌, length, drop, Option, None, Some, refl, sym, ap, ◌∙◌, arith, length-drop}
use Rattle.mj_store.specs.Object.{Contents}
use Rattle.mj_layout.specs.Striping.{Striping}
use Rattle.mj_recovery.specs.Stream.{byte_at, stream_of, stream, probed_end}

module _ (image : Contents) (rank : ℕ) (layout : Striping) where
  dropped : (k m n x : ℕ) → n ≡ k + m → k ≤ length (stream_of image rank layout n x) → drop k (stream_of image rank layout n x) ≡ stream_of image rank layout m (x + k)
  unfolding stream_of
  dropped zero m n x e h =
      let same : n ≡ m = omega (arith, e) in
      let here : x ≡ x + 0 = omega arith in
      ap (λ i. stream_of image rank layout i x) same ∙ ap (stream_of image rank layout m) here
  dropped (suc k) m zero x e h = absurd (omega arith)
  dropped (suc k) m (suc n) x e h =
      elim (byte_at image rank layout x) as (λ (o : Option ℕ). suc k ≤ length (elim o as (λ _. List ℕ) [ None ↦ [] | Some b ↦ b ∷ stream_of image rank layout n (x + 1) ])
      → drop (suc k) (elim o as (λ _. List ℕ) [ None ↦ [] | Some b ↦ b ∷ stream_of image rank layout n (x + 1) ]) ≡ stream_of image rank layout m (x + suc k)) [
        | None ↦ λ lt. absurd (omega arith)
        | Some b ↦ λ lt.
            let there : x + 1 + k ≡ x + suc k = omega arith in
            dropped k m n (x + 1) (omega (arith, e)) (omega (arith, lt)) ∙ ap (stream_of image rank layout m) there
      ] h

  joined : (k m n x : ℕ) → n ≡ k + m → length (stream_of image rank layout k x) ≡ k → stream_of image rank layout n x ≡ stream_of image rank layout k x ++ stream_of image rank layout m (x + k)
  unfolding stream_of
  joined zero m n x e h =
      let same : n ≡ m = omega (arith, e) in
      let here : x ≡ x + 0 = omega arith in
      ap (λ i. stream_of image rank layout i x) same ∙ ap (stream_of image rank layout m) here
  joined (suc k) m zero x e h = absurd (omega (arith, e))
  joined (suc k) m (suc n) x e h =
      elim (byte_at image rank layout x) as (λ (o : Option ℕ). length (elim o as (λ _. List ℕ) [ None ↦ [] | Some b ↦ b ∷ stream_of image rank layout k (x + 1) ]) ≡ suc k
      → (elim o as (λ _. List ℕ) [ None ↦ [] | Some b ↦ b ∷ stream_of image rank layout n (x + 1) ]) ≡ (elim o as (λ _. List ℕ) [ None ↦ [] | Some b ↦ b ∷ stream_of image rank layout k (x + 1) ]) ++ stream_of image rank layout m (x + suc k)) [
        | None ↦ λ is. absurd (omega (arith, is))
        | Some b ↦ λ is.
            let there : x + 1 + k ≡ x + suc k = omega arith in
            ap (λ (bs : List ℕ). b ∷ bs) (joined k m n (x + 1) (omega (arith, e)) (omega (arith, is)) ∙ ap (λ y. stream_of image rank layout k (x + 1) ++ stream_of image rank layout m y) there)
      ] h

  pub stream_joined : (bytes : List ℕ) (x to : ℕ) → x ≤ to → to ≤ 2 ^ 62 → bytes ≡ stream_of image rank layout (to - x) x → length bytes ≡ to - x → stream image rank layout x ≡ bytes ++ stream image rank layout to
  stream_joined bytes x to a b e len =
      let there : x + (to - x) ≡ to = omega (arith, a) in
      joined (to - x) (2 ^ 62 - to) (2 ^ 62 - x) x (omega (arith, a, b)) (ap length (sym e) ∙ len)
      ∙ (ap (λ (m : List ℕ). m ++ stream_of image rank layout (2 ^ 62 - to) (x + (to - x))) (sym e)
      ∙ ap (λ y. bytes ++ stream_of image rank layout (2 ^ 62 - to) y) there)

  pub stream_later : (x next : ℕ) → x ≤ next → next ≤ 2 ^ 62 → next ≤ probed_end image rank layout x → drop (next - x) (stream image rank layout x) ≡ stream image rank layout next
  stream_later x next a b le =
      let there : x + (next - x) ≡ next = omega (arith, a) in
      dropped (next - x) (2 ^ 62 - next) (2 ^ 62 - x) x (omega (arith, a, b)) (omega (arith, a, le)) ∙ ap (stream_of image rank layout (2 ^ 62 - next)) there

  -- a later position has the same end
  pub end_later : (x next end : ℕ) → x ≤ next → next ≤ end → end ≤ 2 ^ 62 → end ≡ probed_end image rank layout x → end ≡ probed_end image rank layout next
  end_later x next end a b c e =
      omega (arith, a, b, c, e, ap length (stream_later x next a (omega (arith, b, c)) (omega (arith, b, e))), length-drop (next - x) (stream image rank layout x))

  pub none_behind : (end : ℕ) → end ≡ probed_end image rank layout end → stream image rank layout end ≡ []
  none_behind end e = empty (stream image rank layout end) (omega (arith, e))
    where
      empty : (bytes : List ℕ) → length bytes ≡ 0 → bytes ≡ []
      empty [] h = refl
      empty (b ∷ bytes) h = absurd (omega arith)
