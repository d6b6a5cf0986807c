-- A front of what may be an entry may be one.
use Rattle.std.proofs.Common.{◌≡◌, ◌⊎◌, inl, inr, ℕ, ◌+◌, ◌-◌, ◌<◌, ◌≤◌, Bool, true, false, cond, List, [], ◌∷◌, length, take, drop, min, refl, sym, ◌∙◌, ap, arith}
use Rattle.std.specs.Prelude.{not, nat_lt, ◌==◌}
use Rattle.std.specs.Cmp.Lexicographic.{same_text}
use Rattle.std.specs.Int.{w32, w64, from_le_bytes}
use Rattle.std.proofs.lemmas.Bool.{cases_lt, eq-eqb, lt-ltb, le-ltb, ltb-true, and_from}
use Rattle.std.proofs.lemmas.List.{length-take, take-take, drop-take}
use Rattle.mj_base.specs.InOrder.{same_bytes}
use Rattle.mj_entry.specs.Entry.{sentinel, is_payload_length, entry_at, EntryCase}
use Rattle.mj_entry.specs.Entry.EntryCase.{Whole, Part, BadSentinel, BadLength, BadStart}
use Rattle.mj_facts.proofs.Scans.{same_take, take_min_take}

-- ---- tests

not_part : (b : Bool) (r s : EntryCase) → (r ≡ Part → ⊥) → cond (not b) r s ≡ Part → (b ≡ true) × (s ≡ Part)
not_part true r s never e = (refl, e)
not_part false r s never e = absurd (never e)

if_part : (b : Bool) (s : EntryCase) → (s ≡ Part → ⊥) → cond b Part s ≡ Part → b ≡ true
if_part true s never e = refl
if_part false s never e = absurd (never e)

cases_bool : (b : Bool) → (b ≡ true) ⊎ (b ≡ false)
cases_bool true = inl refl
cases_bool false = inr refl

after_test : (b : Bool) (s : EntryCase) → b ≡ false → cond b Part s ≡ Part → s ≡ Part
after_test true s f e = absurd cc
after_test false s f e = e

same_itself : (xs : List ℕ) → same_bytes xs xs ≡ true
same_itself [] = refl
same_itself (x ∷ xs) = and_from (x == x) (same_bytes xs xs) (eq-eqb x x refl) (same_itself xs)

-- ---- fronts

-- the first bytes are what a number is read of
reads_4 : (xs : List ℕ) → from_le_bytes w32 (take 4 xs) ≡ from_le_bytes w32 xs
reads_4 [] = refl
reads_4 (a ∷ []) = refl
reads_4 (a ∷ b ∷ []) = refl
reads_4 (a ∷ b ∷ c ∷ []) = refl
reads_4 (a ∷ b ∷ c ∷ d ∷ xs) = refl

-- twelve bytes have the whole length in them
same_length : (bytes : List ℕ) (k : ℕ) → 12 ≤ k → from_le_bytes w32 (drop 8 (take k bytes)) ≡ from_le_bytes w32 (drop 8 bytes)
same_length bytes k h =
    sym (reads_4 (drop 8 (take k bytes)))
    ∙ (ap (λ xs. from_le_bytes w32 (take 4 xs)) (ap (λ n. drop 8 (take n bytes)) (behind k h) ∙ drop-take 8 (k - 8) bytes)
    ∙ (ap (from_le_bytes w32) (take-take 4 (k - 8) (drop 8 bytes) (omega (arith, h))) ∙ reads_4 (drop 8 bytes)))
  where
    behind : (k : ℕ) → 12 ≤ k → k ≡ 8 + (k - 8)
    behind k h = omega (arith, h)

sentinel_front : (bytes : List ℕ) (k : ℕ) → same_bytes (take 8 bytes) (take (length bytes) sentinel) ≡ true → same_bytes (take 8 (take k bytes)) (take (length (take k bytes)) sentinel) ≡ true
sentinel_front bytes k e =
    let is : take 8 bytes ≡ take (length bytes) sentinel = same_text (take 8 bytes) (take (length bytes) sentinel) (sym e) in
    let front : take 8 (take k bytes) ≡ take (length (take k bytes)) sentinel =
    take_min_take 8 k bytes
    ∙ (same_take (min 8 k) (min k 8) bytes (omega arith)
    ∙ (sym (take_min_take k 8 bytes)
    ∙ (ap (take k) is
    ∙ (take_min_take k (length bytes) sentinel ∙ same_take (min k (length bytes)) (length (take k bytes)) sentinel (sym (length-take k bytes)))))) in
    ap (λ (xs : List ℕ). same_bytes xs (take (length (take k bytes)) sentinel)) front ∙ same_itself (take (length (take k bytes)) sentinel)

-- ---- the law

abbrev by_start : List ℕ → ℕ → ℕ → EntryCase
by_start bytes at n = let start = from_le_bytes w64 (drop (n + 12) bytes) in cond (not (start == at)) (BadStart start) (Whole (take n (drop 12 bytes)) (at + n + 20))

abbrev by_length : List ℕ → ℕ → ℕ → EntryCase
by_length bytes at n = cond (not (is_payload_length n)) (BadLength n) (cond (nat_lt (length bytes) (n + 20)) Part (by_start bytes at n))

never_whole : (bytes : List ℕ) (at n : ℕ) → by_start bytes at n ≡ Part → ⊥
never_whole bytes at n = by_test (from_le_bytes w64 (drop (n + 12) bytes) == at) (from_le_bytes w64 (drop (n + 12) bytes))
  where
    by_test : (b : Bool) (start : ℕ) → cond (not b) (BadStart start) (Whole (take n (drop 12 bytes)) (at + n + 20)) ≡ Part → ⊥
    by_test true start e = cc
    by_test false start e = cc

never_sentinel : BadSentinel ≡ Part → ⊥
never_sentinel e = cc

never_length : (n : ℕ) → BadLength n ≡ Part → ⊥
never_length n e = cc

-- the length is good, and the bytes end before the entry would
good_length : (bytes : List ℕ) (at n : ℕ) → by_length bytes at n ≡ Part → (is_payload_length n ≡ true) × (length bytes < n + 20)
good_length bytes at n e =
    let a = not_part (is_payload_length n) (BadLength n) (cond (nat_lt (length bytes) (n + 20)) Part (by_start bytes at n)) (never_length n) e in
    (a.0, ltb-true (length bytes) (n + 20) (if_part (nat_lt (length bytes) (n + 20)) (by_start bytes at n) (never_whole bytes at n) a.1))

still_part : (bytes : List ℕ) (at n : ℕ) → is_payload_length n ≡ true → length bytes < n + 20 → by_length bytes at n ≡ Part
still_part bytes at n good short =
    ap (λ b. cond (not b) (BadLength n) (cond (nat_lt (length bytes) (n + 20)) Part (by_start bytes at n))) good
    ∙ ap (λ b. cond b Part (by_start bytes at n)) (lt-ltb (length bytes) (n + 20) short)

pub part_cut : (bytes : List ℕ) (at k : ℕ) → entry_at bytes at ≡ Part → entry_at (take k bytes) at ≡ Part
unfolding entry_at
part_cut bytes at k e =
    let front = take k bytes in
    let n = from_le_bytes w32 (drop 8 bytes) in
    let m = from_le_bytes w32 (drop 8 front) in
    let a = not_part (same_bytes (take 8 bytes) (take (length bytes) sentinel)) BadSentinel (cond (nat_lt (length bytes) 12) Part (by_length bytes at n)) never_sentinel e in
    ap (λ b. cond (not b) BadSentinel (cond (nat_lt (length front) 12) Part (by_length front at m))) (sentinel_front bytes k a.0)
    ∙ elim (cases_lt (length front) 12) [
      | inl short ↦ ap (λ b. cond b Part (by_length front at m)) (lt-ltb (length front) 12 short)
      | inr long ↦
          let enough : 12 ≤ length bytes = omega (arith, long, length-take k bytes) in
          let g = good_length bytes at n (after_test (nat_lt (length bytes) 12) (by_length bytes at n) (le-ltb (length bytes) 12 enough) a.1) in
          ap (λ b. cond b Part (by_length front at m)) (le-ltb (length front) 12 long)
          ∙ (ap (by_length front at) (same_length bytes k (omega (arith, long, length-take k bytes)))
          ∙ still_part front at n g.0 (omega (arith, g.1, length-take k bytes)))
    ]
