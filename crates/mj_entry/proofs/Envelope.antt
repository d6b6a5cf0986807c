-- The envelope is read as it is spelled, and each proper front of it is a part.
use Rattle.std.proofs.Common.{◌≡◌, ℕ, zero, suc, ◌+◌, ◌^◌, ◌<◌, ◌≤◌, Bool, true, false, cond, List, [], ◌∷◌, ◌++◌, inl, inr, length, take, drop, refl, ◌∙◌, ap, arith, append_assoc, length-append, sym}
use Rattle.std.specs.Prelude.{not, nat_lt, nat_le, ◌&&◌, ◌==◌, if◌then◌else◌}
use Rattle.std.specs.Cmp.Lexicographic.{same_text}
use Rattle.std.specs.Int.{w32, w64, from_le_bytes}
use Rattle.std.proofs.lemmas.Bool.{cond-true, cond-false, lt-ltb, le-ltb, leb-true, ltb-false, eq-eqb, eqb-true, cases_lt}
use Rattle.std.proofs.lemmas.List.{length-take, length-drop, take_at, drop_at, take-append-drop, take_all, get_or-drop, get_or-take, get_or_past, drop-drop}
use Rattle.std.proofs.lemmas.Nat.{from_le_bytes-to_le_bytes_4, from_le_bytes-to_le_bytes_8, le_bytes_4, le_bytes_8}
use Rattle.mj_base.proofs.Codec.{IsBytes}
use Rattle.mj_base.specs.InOrder.{same_bytes}
use Rattle.mj_base.specs.Reading.{four, eight}
use Rattle.mj_entry.specs.Entry.{sentinel, entry_bytes, is_payload_length, IsPayload, entry_at, EntryCase, Whole, Part, BadSentinel, BadLength, BadStart}

abbrev by_start : List ℕ → ℕ → ℕ → ℕ → EntryCase
by_start bytes at n start = if not (start == at) then BadStart start else Whole (take n (drop 12 bytes)) (at + n + 20)

abbrev by_length : List ℕ → ℕ → ℕ → EntryCase
by_length bytes at n = if not (is_payload_length n) then BadLength n
    else if nat_lt (length bytes) (n + 20) then Part
    else by_start bytes at n (from_le_bytes w64 (drop (n + 12) bytes))

-- what is behind the length
abbrev behind : ℕ → List ℕ → List ℕ → List ℕ
behind at payload rest = payload ++ eight at ++ rest

small : (n : ℕ) → is_payload_length n ≡ true → n ≤ 65516
small n h = leb-true n 65516 (second (nat_le 1 n) (nat_le n 65516) h)
  where
    second : (a b : Bool) → (a && b) ≡ true → b ≡ true
    second true b h = h
    second false b h = absurd cc

-- twelve bytes of an envelope, and others
abbrev head : ℕ → List ℕ → List ℕ
head n more = sentinel ++ four n ++ more

by_head : (n at : ℕ) (more : List ℕ) → n ≤ 65516 → entry_at (head n more) at ≡ by_length (head n more) at n
unfolding entry_at
by_head n at more h =
    cond-false (nat_lt (length (head n more)) 12) Part (by_length (head n more) at (from_le_bytes w32 (drop 8 (head n more)))) (le-ltb (length (head n more)) 12 (omega arith))
    ∙ ap (by_length (head n more) at) (from_le_bytes-to_le_bytes_4 n (omega (arith, h)))

good_length : (bytes : List ℕ) (n at : ℕ) → is_payload_length n ≡ true → by_length bytes at n ≡ cond (nat_lt (length bytes) (n + 20)) Part (by_start bytes at n (from_le_bytes w64 (drop (n + 12) bytes)))
good_length bytes n at h = ap (λ b. cond (not b) (BadLength n) (cond (nat_lt (length bytes) (n + 20)) Part (by_start bytes at n (from_le_bytes w64 (drop (n + 12) bytes))))) h

drop_through : (n : ℕ) (payload more : List ℕ) (len : ℕ) → length payload ≡ len → drop (len + 12) (head n (payload ++ more)) ≡ more
drop_through n payload more len e = ap (λ k. drop k (head n (payload ++ more))) (turned len) ∙ drop_at payload more len e
  where
    turned : (len : ℕ) → len + 12 ≡ suc (suc (suc (suc (suc (suc (suc (suc (suc (suc (suc (suc len)))))))))))
    turned len = omega arith

pub entry_whole : (at : ℕ) (payload rest : List ℕ) → is_payload_length (length payload) ≡ true → at < 2 ^ 64 → entry_at (entry_bytes at payload ++ rest) at ≡ Whole payload (at + length payload + 20)
entry_whole at payload rest fits h =
    let n = length payload in
    let more = payload ++ (eight at ++ rest) in
    let bytes = head n more in
    ap (λ b. entry_at b at) (ap (λ t. head n t) (append_assoc payload (eight at) rest))
    ∙ (by_head n at more (small n fits)
    ∙ (good_length bytes n at fits
    ∙ (cond-false (nat_lt (length bytes) (n + 20)) Part (by_start bytes at n (from_le_bytes w64 (drop (n + 12) bytes))) (le-ltb (length bytes) (n + 20) (omega (arith, length-append payload (eight at ++ rest))))
    ∙ (ap (by_start bytes at n) (ap (from_le_bytes w64) (drop_through n payload (eight at ++ rest) n refl) ∙ from_le_bytes-to_le_bytes_8 at (omega (arith, h)))
    ∙ (ap (λ b. cond (not b) (BadStart at) (Whole (take n (drop 12 bytes)) (at + n + 20))) (eq-eqb at at refl)
    ∙ ap (λ p. Whole p (at + n + 20)) (take_at payload (eight at ++ rest) n refl))))))

-- a front of twelve bytes or more
front_long : (at j : ℕ) (payload : List ℕ) → is_payload_length (length payload) ≡ true → j < length payload + 8 → entry_at (head (length payload) (take j (payload ++ eight at))) at ≡ Part
front_long at j payload fits h =
    let n = length payload in
    let bytes = head n (take j (payload ++ eight at)) in
    by_head n at (take j (payload ++ eight at)) (small n fits)
    ∙ (good_length bytes n at fits
    ∙ cond-true (nat_lt (length bytes) (n + 20)) Part (by_start bytes at n (from_le_bytes w64 (drop (n + 12) bytes))) (lt-ltb (length bytes) (n + 20) (omega (arith, h, length-take j (payload ++ eight at)))))

pub entry_front : (at k : ℕ) (payload : List ℕ) → is_payload_length (length payload) ≡ true → k < length payload + 20 → entry_at (take k (entry_bytes at payload)) at ≡ Part
unfolding entry_at
entry_front at zero payload fits h = refl
entry_front at (suc zero) payload fits h = refl
entry_front at (suc (suc zero)) payload fits h = refl
entry_front at (suc (suc (suc zero))) payload fits h = refl
entry_front at (suc (suc (suc (suc zero)))) payload fits h = refl
entry_front at (suc (suc (suc (suc (suc zero))))) payload fits h = refl
entry_front at (suc (suc (suc (suc (suc (suc zero)))))) payload fits h = refl
entry_front at (suc (suc (suc (suc (suc (suc (suc zero))))))) payload fits h = refl
entry_front at (suc (suc (suc (suc (suc (suc (suc (suc zero)))))))) payload fits h = refl
entry_front at (suc (suc (suc (suc (suc (suc (suc (suc (suc zero))))))))) payload fits h = refl
entry_front at (suc (suc (suc (suc (suc (suc (suc (suc (suc (suc zero)))))))))) payload fits h = refl
entry_front at (suc (suc (suc (suc (suc (suc (suc (suc (suc (suc (suc zero))))))))))) payload fits h = refl
entry_front at (suc (suc (suc (suc (suc (suc (suc (suc (suc (suc (suc (suc j)))))))))))) payload fits h = front_long at j payload fits (omega arith)

-- ---- what is read whole

-- a test's part of what is read
whole_not : (b : Bool) (r s : EntryCase) (payload : List ℕ) (ends : ℕ) → ((p : List ℕ) (n : ℕ) → r ≡ Whole p n → ⊥) → cond (not b) r s ≡ Whole payload ends → (b ≡ true) × (s ≡ Whole payload ends)
whole_not true r s payload ends never e = (refl, e)
whole_not false r s payload ends never e = absurd (never payload ends e)

whole_if : (b : Bool) (r s : EntryCase) (payload : List ℕ) (ends : ℕ) → ((p : List ℕ) (n : ℕ) → r ≡ Whole p n → ⊥) → cond b r s ≡ Whole payload ends → (b ≡ false) × (s ≡ Whole payload ends)
whole_if true r s payload ends never e = absurd (never payload ends e)
whole_if false r s payload ends never e = (refl, e)

whole_is : (p q : List ℕ) (n m : ℕ) → Whole p n ≡ Whole q m → (p ≡ q) × (n ≡ m)
whole_is p q n m e = (cc, cc)

-- what whole bytes are made of
pub record Made (bytes payload : List ℕ) (at ends : ℕ) : Type 0 where
  pub sentinel : take 8 bytes ≡ sentinel
  pub length_is : take 4 (drop 8 bytes) ≡ four (length payload)
  pub payload_is : take (length payload) (drop 12 bytes) ≡ payload
  pub start : take 8 (drop (length payload + 12) bytes) ≡ eight at
  pub fits : is_payload_length (length payload) ≡ true
  pub long : length payload + 20 ≤ length bytes
  pub ends_is : ends ≡ at + (length payload + 20)

-- the first bytes are what a number is read of
reads_4 : (xs : List ℕ) → from_le_bytes w32 (take 4 xs) ≡ from_le_bytes w32 xs
reads_4 [] = refl
reads_4 (a ∷ []) = refl
reads_4 (a ∷ b ∷ []) = refl
reads_4 (a ∷ b ∷ c ∷ []) = refl
reads_4 (a ∷ b ∷ c ∷ d ∷ xs) = refl

reads_8 : (xs : List ℕ) → from_le_bytes w64 (take 8 xs) ≡ from_le_bytes w64 xs
reads_8 [] = refl
reads_8 (a ∷ []) = refl
reads_8 (a ∷ b ∷ []) = refl
reads_8 (a ∷ b ∷ c ∷ []) = refl
reads_8 (a ∷ b ∷ c ∷ d ∷ []) = refl
reads_8 (a ∷ b ∷ c ∷ d ∷ e ∷ []) = refl
reads_8 (a ∷ b ∷ c ∷ d ∷ e ∷ f ∷ []) = refl
reads_8 (a ∷ b ∷ c ∷ d ∷ e ∷ f ∷ g ∷ []) = refl
reads_8 (a ∷ b ∷ c ∷ d ∷ e ∷ f ∷ g ∷ h ∷ xs) = refl

bytes_drop : (n : ℕ) (bytes : List ℕ) → IsBytes bytes → IsBytes (drop n bytes)
bytes_drop n bytes h i = rw get_or-drop (h (n + i))

bytes_take : (n : ℕ) (bytes : List ℕ) → IsBytes bytes → IsBytes (take n bytes)
bytes_take n bytes h i =
    elim (cases_lt i n) [
      | inl lt ↦ rw (get_or-take n bytes i 0 lt) (h i)
      | inr le ↦ rw (get_or_past (take n bytes) i 0 (omega (arith, length-take n bytes))) (omega arith)
    ]

four_is : (xs : List ℕ) → IsBytes xs → 4 ≤ length xs → take 4 xs ≡ four (from_le_bytes w32 xs)
four_is xs fits h = sym (le_bytes_4 (take 4 xs) (from_le_bytes w32 xs) (omega (arith, length-take 4 xs)) (bytes_take 4 xs fits) (sym (reads_4 xs)))

eight_is : (xs : List ℕ) → IsBytes xs → 8 ≤ length xs → take 8 xs ≡ eight (from_le_bytes w64 xs)
eight_is xs fits h = sym (le_bytes_8 (take 8 xs) (from_le_bytes w64 xs) (omega (arith, length-take 8 xs)) (bytes_take 8 xs fits) (sym (reads_8 xs)))

never_sentinel : (p : List ℕ) (n : ℕ) → BadSentinel ≡ Whole p n → ⊥
never_sentinel p n e = cc

never_part : (p : List ℕ) (n : ℕ) → Part ≡ Whole p n → ⊥
never_part p n e = cc

never_length : (m : ℕ) (p : List ℕ) (n : ℕ) → BadLength m ≡ Whole p n → ⊥
never_length m p n e = cc

never_start : (m : ℕ) (p : List ℕ) (n : ℕ) → BadStart m ≡ Whole p n → ⊥
never_start m p n e = cc

made : (bytes payload : List ℕ) (at ends : ℕ) → IsBytes bytes → entry_at bytes at ≡ Whole payload ends → Made bytes payload at ends
unfolding entry_at
made bytes payload at ends fits e =
    let n = from_le_bytes w32 (drop 8 bytes) in
    let start = from_le_bytes w64 (drop (n + 12) bytes) in
    let last : EntryCase = Whole (take n (drop 12 bytes)) (at + n + 20) in
    let by_pointer : EntryCase = cond (not (start == at)) (BadStart start) last in
    let by_room : EntryCase = cond (nat_lt (length bytes) (n + 20)) Part by_pointer in
    let by_size : EntryCase = cond (not (is_payload_length n)) (BadLength n) by_room in
    let by_front : EntryCase = cond (nat_lt (length bytes) 12) Part by_size in
    let a = whole_not (same_bytes (take 8 bytes) (take (length bytes) sentinel)) BadSentinel by_front payload ends never_sentinel e in
    let b = whole_if (nat_lt (length bytes) 12) Part by_size payload ends never_part a.1 in
    let c = whole_not (is_payload_length n) (BadLength n) by_room payload ends (never_length n) b.1 in
    let d = whole_if (nat_lt (length bytes) (n + 20)) Part by_pointer payload ends never_part c.1 in
    let f = whole_not (start == at) (BadStart start) last payload ends (never_start start) d.1 in
    let g = whole_is (take n (drop 12 bytes)) payload (at + n + 20) ends f.1 in
    let front : 12 ≤ length bytes = ltb-false (length bytes) 12 b.0 in
    let long : n + 20 ≤ length bytes = ltb-false (length bytes) (n + 20) d.0 in
    let same : length payload ≡ n = sized n bytes payload g.0 long in
    record {
      sentinel = same_text (take 8 bytes) (take (length bytes) sentinel) (sym a.0) ∙ all_of (length bytes) front;
      length_is = four_is (drop 8 bytes) (bytes_drop 8 bytes fits) (omega (arith, length-drop 8 bytes, front)) ∙ ap four (sym same);
      payload_is = ap (λ k. take k (drop 12 bytes)) same ∙ g.0;
      start = ap (λ k. take 8 (drop (k + 12) bytes)) same ∙ (eight_is (drop (n + 12) bytes) (bytes_drop (n + 12) bytes fits) (omega (arith, length-drop (n + 12) bytes, long)) ∙ ap eight (eqb-true start at f.0));
      fits = ap is_payload_length same ∙ c.0;
      long = omega (arith, long, same);
      ends_is = omega (arith, g.1, same);
    }
  where
    sized : (n : ℕ) (bytes payload : List ℕ) → take n (drop 12 bytes) ≡ payload → n + 20 ≤ length bytes → length payload ≡ n
    sized n bytes payload e h = ap length (sym e) ∙ omega (arith, length-take n (drop 12 bytes), length-drop 12 bytes, h)

    all_of : (k : ℕ) → 12 ≤ k → take k sentinel ≡ sentinel
    all_of k h = take_all k sentinel (omega arith)

-- the next bytes, and those behind them
more : (k m j : ℕ) (bytes : List ℕ) → k + m ≡ j → drop k bytes ≡ take m (drop k bytes) ++ drop j bytes
more k m j bytes e = sym (take-append-drop m (drop k bytes)) ∙ ap (λ (x : List ℕ). take m (drop k bytes) ++ x) (drop-drop m k bytes ∙ ap (λ i. drop i bytes) e)

pub entry_made : (bytes payload : List ℕ) (at ends : ℕ) → IsBytes bytes → entry_at bytes at ≡ Whole payload ends
    → (bytes ≡ entry_bytes at payload ++ drop (length payload + 20) bytes) × IsPayload payload × (ends ≡ at + (length payload + 20))
entry_made bytes payload at ends fits e =
    let m = made bytes payload at ends fits e in
    let n = length payload in
    let rest = drop (n + 20) bytes in
    let whole : bytes ≡ take 8 bytes ++ (take 4 (drop 8 bytes) ++ (take n (drop 12 bytes) ++ (take 8 (drop (n + 12) bytes) ++ rest))) = cut_up n bytes in (
      whole ∙ (ap (λ (x : List ℕ). x ++ (take 4 (drop 8 bytes) ++ (take n (drop 12 bytes) ++ (take 8 (drop (n + 12) bytes) ++ rest)))) m.sentinel
          ∙ (ap (λ (x : List ℕ). sentinel ++ (x ++ (take n (drop 12 bytes) ++ (take 8 (drop (n + 12) bytes) ++ rest)))) m.length_is
          ∙ (ap (λ (x : List ℕ). sentinel ++ (four n ++ (x ++ (take 8 (drop (n + 12) bytes) ++ rest)))) m.payload_is
          ∙ (ap (λ (x : List ℕ). sentinel ++ (four n ++ (payload ++ (x ++ rest)))) m.start
          ∙ ap (λ (x : List ℕ). sentinel ++ four n ++ x) (sym (append_assoc payload (eight at) rest)))))),
      m.fits,
      m.ends_is,
    )
  where
    cut_up : (n : ℕ) (bytes : List ℕ) → bytes ≡ take 8 bytes ++ (take 4 (drop 8 bytes) ++ (take n (drop 12 bytes) ++ (take 8 (drop (n + 12) bytes) ++ drop (n + 20) bytes)))
    cut_up n bytes =
        sym (take-append-drop 8 bytes)
        ∙ (ap (λ (x : List ℕ). take 8 bytes ++ x) (more 8 4 12 bytes refl)
        ∙ (ap (λ (x : List ℕ). take 8 bytes ++ (take 4 (drop 8 bytes) ++ x)) (more 12 n (n + 12) bytes (omega arith))
        ∙ ap (λ (x : List ℕ). take 8 bytes ++ (take 4 (drop 8 bytes) ++ (take n (drop 12 bytes) ++ x))) (more (n + 12) 8 (n + 20) bytes (omega arith))))
