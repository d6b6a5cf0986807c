-- Bytes from a position on, up to the first gap.
use Rattle.std.proofs.Common.{◌≡◌, ◌⊎◌, inl, inr, ℕ, zero, suc, ◌+◌, ◌-◌, ◌<◌, ◌≤◌, Option, Some, None, List, [], ◌∷◌, ◌++◌, length, take, refl, sym, ◌∙◌, ap, subst, arith, min}
use Rattle.std.specs.Prelude.{slice_get}
use Rattle.std.proofs.lemmas.List.{take_all}
use Rattle.mj_store.specs.Object.{Contents}
use Rattle.mj_layout.specs.Striping.{Striping}
use Rattle.mj_recovery.specs.Stream.{byte_at, stream_of}

-- at an equal position
pub same_at : (f : ℕ → Option ℕ) (x y : ℕ) → x ≡ y → f x ≡ f y
same_at f x y e = ap f e

pub same_take : {A : Type 0} (m n : ℕ) (xs : List A) → m ≡ n → take m xs ≡ take n xs
same_take m n xs e = ap (λ k. take k xs) e

-- a front of a front
pub take_min_take : (i k : ℕ) (xs : List ℕ) → take i (take k xs) ≡ take (min i k) xs
take_min_take zero k xs = same_take 0 (min 0 k) xs (omega arith)
take_min_take (suc i) zero xs = same_take 0 (min (suc i) 0) xs (omega arith)
take_min_take (suc i) (suc k) [] = sym (take_all (min (suc i) (suc k)) [] (omega arith))
take_min_take (suc i) (suc k) (x ∷ xs) = ap (λ (t : List ℕ). x ∷ t) (take_min_take i k xs) ∙ ap (λ n. take n (x ∷ xs)) (suc_min i k)
  where
    suc_min : (i k : ℕ) → suc (min i k) ≡ min (suc i) (suc k)
    suc_min i k = omega arith

-- a front that is longer than the first part
pub take_through : (k n : ℕ) (xs ys : List ℕ) → length xs ≡ n → n ≤ k → take k (xs ++ ys) ≡ xs ++ take (k - n) ys
take_through k n [] ys e h = ap (λ i. take i ys) (less k n e)
  where
    less : (k n : ℕ) → 0 ≡ n → k ≡ k - n
    less k n e = omega arith
take_through zero n (x ∷ xs) ys e h = absurd (omega (arith, e, h))
take_through (suc k) n (x ∷ xs) ys e h = ap (λ (t : List ℕ). x ∷ t) (take_through k (length xs) xs ys refl (omega (arith, e, h)) ∙ ap (λ i. xs ++ take i ys) (less k (length xs) n e))
  where
    less : (k m n : ℕ) → suc m ≡ n → k - m ≡ suc k - n
    less k m n e = omega arith

-- ---- a scan

-- the bytes that there are from a position on, at most n
unfoldable pub scan : ℕ → (ℕ → Option ℕ) → ℕ → List ℕ
scan zero f x = []
scan (suc n) f x = elim (f x) [ None ↦ [] | Some b ↦ b ∷ scan n f (x + 1) ]

by_byte : (o : Option ℕ) (xs ys : List ℕ) → xs ≡ ys → ◌≡◌ {A = List ℕ} (elim o [ None ↦ [] | Some b ↦ b ∷ xs ]) (elim o [ None ↦ [] | Some b ↦ b ∷ ys ])
by_byte None xs ys e = refl
by_byte (Some b) xs ys e = ap (λ (t : List ℕ). b ∷ t) e

-- the stream of an image is one
pub stream_scan : (image : Contents) (rank : ℕ) (layout : Striping) (n x : ℕ) → stream_of image rank layout n x ≡ scan n (byte_at image rank layout) x
unfolding scan stream_of
stream_scan image rank layout zero x = refl
stream_scan image rank layout (suc n) x = by_byte (byte_at image rank layout x) (stream_of image rank layout n (x + 1)) (scan n (byte_at image rank layout) (x + 1)) (stream_scan image rank layout n (x + 1))

scan_at : (k n : ℕ) (f : ℕ → Option ℕ) (x y : ℕ) → k ≡ n → x ≡ y → scan k f x ≡ scan n f y
scan_at k n f x y e e' = ap (λ k. scan k f x) e ∙ ap (scan n f) e'

pub scan_some : (n : ℕ) (f : ℕ → Option ℕ) (x b : ℕ) → f x ≡ Some b → scan (suc n) f x ≡ b ∷ scan n f (x + 1)
unfolding scan
scan_some n f x b e = ap (λ (o : Option ℕ). elim o [ None ↦ [] | Some c ↦ c ∷ scan n f (x + 1) ]) e

pub scan_none : (n : ℕ) (f : ℕ → Option ℕ) (x : ℕ) → f x ≡ None → scan n f x ≡ []
unfolding scan
scan_none zero f x e = refl
scan_none (suc n) f x e = ap (λ (o : Option ℕ). elim o [ None ↦ [] | Some c ↦ c ∷ scan n f (x + 1) ]) e

-- a scan gives a front of bytes of which each may be missing, and ends where one is
pub record Front (f : ℕ → Option ℕ) (x : ℕ) (bytes : List ℕ) (n : ℕ) : Type 0 where
  pub count : ℕ
  pub within : count ≤ length bytes
  pub is : scan n f x ≡ take count bytes
  pub gap : count < length bytes → f (x + count) ≡ None
  pub there : (i : ℕ) → i < count → f (x + i) ≡ slice_get bytes i

pub scan_front : (bytes : List ℕ) (n : ℕ) (f : ℕ → Option ℕ) (x : ℕ) → length bytes ≤ n
    → ((i : ℕ) → i < length bytes → (f (x + i) ≡ None) ⊎ (f (x + i) ≡ slice_get bytes i)) → (length bytes < n → f (x + length bytes) ≡ None) → Front f x bytes n
unfolding scan
scan_front [] zero f x long may none = record { count = 0; within = omega arith; is = refl; gap = λ h. absurd (omega arith); there = λ i h. absurd (omega arith) }
scan_front [] (suc n) f x long may none = record { count = 0; within = omega arith; is = scan_none (suc n) f x (same_at f x (x + 0) (omega arith) ∙ none (omega arith)); gap = λ h. absurd (omega arith); there = λ i h. absurd (omega arith) }
scan_front (b ∷ bytes) zero f x long may none = absurd (omega arith)
scan_front (b ∷ bytes) (suc n) f x long may none = elim (may 0 (omega arith)) [
  | inl gap ↦ record { count = 0; within = omega arith; is = scan_none (suc n) f x (same_at f x (x + 0) (omega arith) ∙ gap); gap = λ h. gap; there = λ i h. absurd (omega arith) }
  | inr here ↦
      let r = scan_front bytes n f (x + 1) (omega arith)
      (λ i h. moved (x + suc i) (x + 1 + i) (slice_get bytes i) (omega arith) (may (suc i) (omega arith)))
      (λ h. same_at f (x + 1 + length bytes) (x + length (b ∷ bytes)) (omega arith) ∙ none (omega arith)) in
      record {
        count = suc r.count;
        within = omega (arith, r.within);
        is = scan_some n f x b (same_at f x (x + 0) (omega arith) ∙ here) ∙ ap (λ (t : List ℕ). b ∷ t) r.is;
        gap = λ h. same_at f (x + suc r.count) (x + 1 + r.count) (omega arith) ∙ r.gap (omega arith);
        there = λ i h. step r.count r.there here i h;
      }
]
  where
    step : (c : ℕ) → ((i : ℕ) → i < c → f (x + 1 + i) ≡ slice_get bytes i) → f (x + 0) ≡ Some b → (i : ℕ) → i < suc c → f (x + i) ≡ slice_get (b ∷ bytes) i
    step c there here zero h = here
    step c there here (suc i) h = same_at f (x + suc i) (x + 1 + i) (omega arith) ∙ there i (omega arith)

    moved : (y z : ℕ) (o : Option ℕ) → y ≡ z → (f y ≡ None) ⊎ (f y ≡ o) → (f z ≡ None) ⊎ (f z ≡ o)
    moved y z o e h = subst (λ v. (f v ≡ None) ⊎ (f v ≡ o)) e h

-- bytes that are there come first
pub scan_has : (bytes : List ℕ) (k n : ℕ) (f : ℕ → Option ℕ) (x y : ℕ) → k ≡ length bytes + n → y ≡ x + length bytes → ((i : ℕ) → i < length bytes → f (x + i) ≡ slice_get bytes i) → scan k f x ≡ bytes ++ scan n f y
scan_has [] k n f x y e e' has = scan_at k n f x y (omega arith) (omega arith)
scan_has (b ∷ bytes) k n f x y e e' has =
    scan_at k (suc (length bytes + n)) f x x (omega arith) refl
    ∙ (scan_some (length bytes + n) f x b (same_at f x (x + 0) (omega arith) ∙ has 0 (omega arith))
    ∙ ap (λ (t : List ℕ). b ∷ t) (scan_has bytes (length bytes + n) n f (x + 1) y refl (omega arith) (λ i h. same_at f (x + 1 + i) (x + suc i) (omega arith) ∙ has (suc i) (omega arith))))

-- where bytes only go missing, a scan gives a front of what it gave
pub scan_less : (n : ℕ) (f f' : ℕ → Option ℕ) (x : ℕ) → ((y : ℕ) → x ≤ y → (f' y ≡ None) ⊎ (f' y ≡ f y)) → (k : ℕ) × (scan n f' x ≡ take k (scan n f x))
unfolding scan
scan_less zero f f' x less = (0, refl)
scan_less (suc n) f f' x less = elim (less x (omega arith)) [
  | inl gap ↦ (0, scan_none (suc n) f' x gap)
  | inr same ↦ go (scan_less n f f' (x + 1) (λ y h. less y (omega arith))) (f x) refl same
]
  where
    go : (k : ℕ) × (scan n f' (x + 1) ≡ take k (scan n f (x + 1))) → (o : Option ℕ) → f x ≡ o → f' x ≡ f x → (k : ℕ) × (scan (suc n) f' x ≡ take k (scan (suc n) f x))
    go r None e same = (0, scan_none (suc n) f' x (same ∙ e))
    go r (Some b) e same =
        (suc r.0, scan_some n f' x b (same ∙ e) ∙ (ap (λ (t : List ℕ). b ∷ t) r.1 ∙ ap (take (suc r.0)) (sym (scan_some n f x b e))))
