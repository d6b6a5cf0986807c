-- What an entry is read of: as many bytes as an entry has at most are enough, and a whole one takes some of them.
use Rattle.std.proofs.Common.{◌≡◌, ℕ, zero, suc, ◌+◌, ◌<◌, ◌≤◌, Bool, true, false, cond, List, [], ◌∷◌, ◌++◌, length, take, drop, refl, sym, ◌∙◌, ap, arith, length-append, length-drop}
use Rattle.std.specs.Prelude.{not, nat_lt, ◌==◌, if◌then◌else◌}
use Rattle.std.specs.Int.{w32, w64, from_le_bytes}
use Rattle.std.proofs.lemmas.Bool.{cond-false, le-ltb, leb-true, ltb-false}
use Rattle.std.proofs.lemmas.List.{take_all}
use Rattle.mj_base.specs.InOrder.{same_bytes}
use Rattle.mj_entry.specs.Entry.{sentinel, is_payload_length, entry_at, EntryCase, Whole, Part, BadSentinel, BadLength, BadStart}
use Rattle.std.specs.Prelude.{nat_le, ◌&&◌}

-- ---- a whole entry takes bytes, and lies within them

nest : (a b c d f : Bool) (n start : ℕ) (q p : List ℕ) (z e : ℕ)
    → (if a then BadSentinel else if b then Part else if c then BadLength n else if d then Part else if f then BadStart start else Whole q z) ≡ Whole p e → (d ≡ false) × (z ≡ e)
nest true b c d f n start q p z e is = absurd cc
nest false true c d f n start q p z e is = absurd cc
nest false false true d f n start q p z e is = absurd cc
nest false false false true f n start q p z e is = absurd cc
nest false false false false true n start q p z e is = absurd cc
nest false false false false false n start q p z e is = (refl, cc)

pub whole_longer : (bytes : List ℕ) (at : ℕ) (p : List ℕ) (e : ℕ) → entry_at bytes at ≡ Whole p e → (at < e) × (e ≤ at + length bytes)
unfolding entry_at
whole_longer bytes at p e is =
    let n = from_le_bytes w32 (drop 8 bytes) in
    let found = nest _ _ _ (nat_lt (length bytes) (n + 20)) _ n _ _ p (at + n + 20) e is in
    let le = ltb-false (length bytes) (n + 20) found.0 in
    let same = found.1 in
    (omega arith, omega arith)

-- ---- bytes that follow

pub take_left : (k : ℕ) (xs ys : List ℕ) → k ≤ length xs → take k (xs ++ ys) ≡ take k xs
take_left zero xs ys h = refl
take_left (suc k) [] ys h = absurd (omega arith)
take_left (suc k) (x ∷ xs) ys h = ap (λ (zs : List ℕ). x ∷ zs) (take_left k xs ys (omega arith))

pub drop_left : (k : ℕ) (xs ys : List ℕ) → k ≤ length xs → drop k (xs ++ ys) ≡ drop k xs ++ ys
drop_left zero xs ys h = refl
drop_left (suc k) [] ys h = absurd (omega arith)
drop_left (suc k) (x ∷ xs) ys h = drop_left k xs ys (omega arith)

-- the first bytes are what a number is read of
reads_4 : (xs ys : List ℕ) → 4 ≤ length xs → from_le_bytes w32 (xs ++ ys) ≡ from_le_bytes w32 xs
reads_4 [] ys h = absurd (omega arith)
reads_4 (a ∷ []) ys h = absurd (omega arith)
reads_4 (a ∷ b ∷ []) ys h = absurd (omega arith)
reads_4 (a ∷ b ∷ c ∷ []) ys h = absurd (omega arith)
reads_4 (a ∷ b ∷ c ∷ d ∷ xs) ys h = refl

reads_8 : (xs ys : List ℕ) → 8 ≤ length xs → from_le_bytes w64 (xs ++ ys) ≡ from_le_bytes w64 xs
reads_8 [] ys h = absurd (omega arith)
reads_8 (a ∷ []) ys h = absurd (omega arith)
reads_8 (a ∷ b ∷ []) ys h = absurd (omega arith)
reads_8 (a ∷ b ∷ c ∷ []) ys h = absurd (omega arith)
reads_8 (a ∷ b ∷ c ∷ d ∷ []) ys h = absurd (omega arith)
reads_8 (a ∷ b ∷ c ∷ d ∷ e ∷ []) ys h = absurd (omega arith)
reads_8 (a ∷ b ∷ c ∷ d ∷ e ∷ f ∷ []) ys h = absurd (omega arith)
reads_8 (a ∷ b ∷ c ∷ d ∷ e ∷ f ∷ g ∷ []) ys h = absurd (omega arith)
reads_8 (a ∷ b ∷ c ∷ d ∷ e ∷ f ∷ g ∷ i ∷ xs) ys h = refl

abbrev by_start : List ℕ → ℕ → ℕ → ℕ → EntryCase
by_start payload at n start = if not (start == at) then BadStart start else Whole payload (at + n + 20)

abbrev by_length : List ℕ → ℕ → ℕ → EntryCase
by_length bytes at n = if not (is_payload_length n) then BadLength n
    else if nat_lt (length bytes) (n + 20) then Part
    else by_start (take n (drop 12 bytes)) at n (from_le_bytes w64 (drop (n + 12) bytes))

small : (n : ℕ) → is_payload_length n ≡ true → n ≤ 65516
small n h = leb-true n 65516 (second (nat_le 1 n) (nat_le n 65516) h)
  where
    second : (a b : Bool) → (a && b) ≡ true → b ≡ true
    second true b h = h
    second false b h = absurd cc

abbrev by_room : List ℕ → ℕ → ℕ → EntryCase
by_room bytes at n = if nat_lt (length bytes) (n + 20) then Part else by_start (take n (drop 12 bytes)) at n (from_le_bytes w64 (drop (n + 12) bytes))

by_room_more : (bytes more : List ℕ) (at n : ℕ) → 65536 ≤ length bytes → n ≤ 65516 → by_room (bytes ++ more) at n ≡ by_room bytes at n
by_room_more bytes more at n h low =
    cond-false (nat_lt (length (bytes ++ more)) (n + 20)) Part (by_start (take n (drop 12 (bytes ++ more))) at n (from_le_bytes w64 (drop (n + 12) (bytes ++ more)))) (le-ltb (length (bytes ++ more)) (n + 20) (omega (arith, h, low, length-append bytes more)))
    ∙ (ap (λ (p : List ℕ). by_start p at n (from_le_bytes w64 (drop (n + 12) (bytes ++ more)))) (ap (take n) (drop_left 12 bytes more (omega (arith, h))) ∙ take_left n (drop 12 bytes) more (omega (arith, h, low, length-drop 12 bytes)))
    ∙ (ap (by_start (take n (drop 12 bytes)) at n) (ap (from_le_bytes w64) (drop_left (n + 12) bytes more (omega (arith, h, low))) ∙ reads_8 (drop (n + 12) bytes) more (omega (arith, h, low, length-drop (n + 12) bytes)))
    ∙ sym (cond-false (nat_lt (length bytes) (n + 20)) Part (by_start (take n (drop 12 bytes)) at n (from_le_bytes w64 (drop (n + 12) bytes))) (le-ltb (length bytes) (n + 20) (omega (arith, h, low))))))

by_length_more : (bytes more : List ℕ) (at n : ℕ) → 65536 ≤ length bytes → by_length (bytes ++ more) at n ≡ by_length bytes at n
by_length_more bytes more at n h = elim (is_payload_length n) as (λ b. is_payload_length n ≡ b → cond (not b) (BadLength n) (by_room (bytes ++ more) at n) ≡ cond (not b) (BadLength n) (by_room bytes at n)) [
  | false ↦ λ e. refl
  | true ↦ λ e. by_room_more bytes more at n h (small n e)
] refl

-- what follows as many bytes as an entry has at most is not read
pub entry_more : (bytes more : List ℕ) (at : ℕ) → 65536 ≤ length bytes → entry_at (bytes ++ more) at ≡ entry_at bytes at
unfolding entry_at
entry_more bytes more at h =
    let all = bytes ++ more in
    let long : 65536 ≤ length (bytes ++ more) = omega (arith, h, length-append bytes more) in
    let a1 = same_bytes (take 8 (bytes ++ more)) (take (length (bytes ++ more)) sentinel) in
    let a2 = same_bytes (take 8 bytes) (take (length bytes) sentinel) in
    let front : a1 ≡ a2 = ap (λ (p : List ℕ). same_bytes p (take (length (bytes ++ more)) sentinel)) (take_left 8 bytes more (omega (arith, h))) ∙ ap (same_bytes (take 8 bytes)) (take_all (length (bytes ++ more)) sentinel (omega (arith, long)) ∙ sym (take_all (length bytes) sentinel (omega (arith, h)))) in
    let n1 = from_le_bytes w32 (drop 8 (bytes ++ more)) in
    let n2 = from_le_bytes w32 (drop 8 bytes) in
    let len : n1 ≡ n2 = ap (from_le_bytes w32) (drop_left 8 bytes more (omega (arith, h))) ∙ reads_4 (drop 8 bytes) more (omega (arith, h, length-drop 8 bytes)) in
    ap (λ a. cond (not a) BadSentinel (cond (nat_lt (length (bytes ++ more)) 12) Part (by_length (bytes ++ more) at n1))) front
    ∙ (ap (λ b. cond (not a2) BadSentinel (cond b Part (by_length (bytes ++ more) at n1))) (le-ltb (length (bytes ++ more)) 12 (omega (arith, long)) ∙ sym (le-ltb (length bytes) 12 (omega (arith, h))))
    ∙ ap (λ (r : EntryCase). cond (not a2) BadSentinel (cond (nat_lt (length bytes) 12) Part r)) (ap (by_length (bytes ++ more) at) len ∙ by_length_more bytes more at n2 h))
