-- Hexadecimal digits, one after another.
use Rattle.std.proofs.Common.{◌≡◌, ℕ, zero, suc, ◌+◌, ◌-◌, ◌/◌, ◌%◌, ◌^◌, ◌<◌, ◌≤◌, false, cond, List, [], ◌∷◌, ◌++◌, length, refl, sym, ap, ◌∙◌, append_assoc, arith, inl, inr, ◌⊎◌}
use Rattle.std.specs.Prelude.{replicate}
use Rattle.std.specs.Fmt.{digit_glyph, digits_onto, digits}
use Rattle.std.proofs.lemmas.Bool.{eq-eqb, ne_eqb, cases_lt}
use Rattle.std.proofs.lemmas.List.{length-append, length-replicate}
use Rattle.mj_base.specs.ObjectText.{hex, hex_padded}

abbrev spell : ℕ → ℕ → List ℕ → List ℕ
spell k n acc = digits_onto k 16 false n acc

abbrev last : ℕ → ℕ
last n = digit_glyph false (n % 16)

spell_last : (k n : ℕ) (acc : List ℕ) → n < 16 → spell (suc k) n acc ≡ last n ∷ acc
spell_last k n acc h = ap (λ t. cond t (last n ∷ acc) (spell k (n / 16) (last n ∷ acc))) (eq-eqb (n / 16) 0 (omega arith))

spell_next : (k n : ℕ) (acc : List ℕ) → 16 ≤ n → spell (suc k) n acc ≡ spell k (n / 16) (last n ∷ acc)
spell_next k n acc h = ap (λ t. cond t (last n ∷ acc) (spell k (n / 16) (last n ∷ acc))) (ne_eqb (n / 16) 0 (λ e. omega arith))

spell-append : (k n : ℕ) (acc : List ℕ) → spell k n acc ≡ spell k n [] ++ acc
spell-append zero n acc = refl
spell-append (suc k) n acc =
    elim (cases_lt n 16) [
      | inl l ↦ spell_last k n acc l ∙ ap (λ (x : List ℕ). x ++ acc) (sym (spell_last k n [] l))
      | inr l ↦ spell_next k n acc l ∙ spell-append k (n / 16) (last n ∷ acc) ∙ sym (append_assoc (spell k (n / 16) []) (last n ∷ []) acc)
          ∙ ap (λ (x : List ℕ). x ++ acc) (sym (spell_next k n [] l ∙ spell-append k (n / 16) (last n ∷ [])))
    ]

-- the limit of digits does not matter once it is large enough
spell_enough : (j k n : ℕ) (acc : List ℕ) → n < 16 ^ suc j → n < 16 ^ suc k → spell (suc j) n acc ≡ spell (suc k) n acc
spell_enough zero k n acc p q = spell_last zero n acc (omega arith) ∙ sym (spell_last k n acc (omega arith))
spell_enough (suc j) zero n acc p q = spell_last (suc j) n acc (omega arith) ∙ sym (spell_last zero n acc (omega arith))
spell_enough (suc j) (suc k) n acc p q =
    elim (cases_lt n 16) [
      | inl l ↦ spell_last (suc j) n acc l ∙ sym (spell_last (suc k) n acc l)
      | inr l ↦ spell_next (suc j) n acc l ∙ spell_enough j k (n / 16) (last n ∷ acc) (omega arith) (omega arith) ∙ sym (spell_next (suc k) n acc l)
    ]

hex_is : (n : ℕ) → spell 64 n [] ≡ hex n
unfolding digits
hex_is n = refl

pub hex_one : (n : ℕ) → n < 16 → hex n ≡ digit_glyph false n ∷ []
hex_one n h = let same : n % 16 ≡ n = omega arith in sym (hex_is n) ∙ spell_last 63 n [] h ∙ ap (λ (d : ℕ). digit_glyph false d ∷ []) same

pub hex_step : (n : ℕ) → 16 ≤ n → n < 16 ^ 64 → hex n ≡ hex (n / 16) ++ digit_glyph false (n % 16) ∷ []
hex_step n h small =
    sym (hex_is n) ∙ spell_next 63 n [] h ∙ spell_enough 62 63 (n / 16) (last n ∷ []) (omega arith) (omega arith) ∙ spell-append 64 (n / 16) (last n ∷ [])
    ∙ ap (λ (x : List ℕ). x ++ last n ∷ []) (hex_is (n / 16))

pub length-hex-le : (k n : ℕ) → 0 < k → n < 16 ^ k → n < 16 ^ 64 → length (hex n) ≤ k
length-hex-le zero n some fits small = absurd (omega arith)
length-hex-le (suc zero) n some fits small = omega (arith, ap length (hex_one n (omega arith)))
length-hex-le (suc (suc k)) n some fits small =
    elim (cases_lt n 16) [
      | inl l ↦ omega (arith, ap length (hex_one n l))
      | inr l ↦ omega (arith, ap length (hex_step n l small), length-append (hex (n / 16)) (last n ∷ []), length-hex-le (suc k) (n / 16) (omega arith) (omega arith) (omega arith))
    ]

replicate-push : (k : ℕ) (zero_digit : ℕ) → replicate k zero_digit ++ zero_digit ∷ [] ≡ replicate (suc k) zero_digit
replicate-push zero d = refl
replicate-push (suc k) d = ap (λ (x : List ℕ). d ∷ x) (replicate-push k d)

-- the last digit, and one digit fewer before it
pub hex_padded_step : (least n : ℕ) → n < 16 ^ 64 → (16 ≤ n) ⊎ (1 < least) → hex_padded least n ≡ hex_padded (least - 1) (n / 16) ++ digit_glyph false (n % 16) ∷ []
hex_padded_step least n small more =
    elim (cases_lt n 16) [
      | inl l ↦ elim more [ inl big ↦ absurd (omega arith) | inr pad ↦ short l pad ]
      | inr l ↦ long l
    ]
  where
    long : 16 ≤ n → hex_padded least n ≡ hex_padded (least - 1) (n / 16) ++ last n ∷ []
    long l =
        let step = hex_step n l small in
        let zeros : least - length (hex n) ≡ least - 1 - length (hex (n / 16)) = omega (arith, ap length step, length-append (hex (n / 16)) (last n ∷ [])) in
        ap (λ (z : ℕ). replicate z 48 ++ hex n) zeros ∙ ap (λ (x : List ℕ). replicate (least - 1 - length (hex (n / 16))) 48 ++ x) step
        ∙ sym (append_assoc (replicate (least - 1 - length (hex (n / 16))) 48) (hex (n / 16)) (last n ∷ []))

    short : n < 16 → 1 < least → hex_padded least n ≡ hex_padded (least - 1) (n / 16) ++ last n ∷ []
    short l pad =
        let zero_left : n / 16 ≡ 0 = omega arith in
        let same : n % 16 ≡ n = omega arith in
        let ones : length (hex n) ≡ 1 = ap length (hex_one n l) in
        let one_zero : length (hex (n / 16)) ≡ 1 = ap length (hex_one (n / 16) (omega arith)) in
        let zeros : least - length (hex n) ≡ suc (least - 1 - length (hex (n / 16))) = omega arith in
        let tail : hex (n / 16) ≡ 48 ∷ [] = hex_one (n / 16) (omega arith) ∙ ap (λ (d : ℕ). digit_glyph false d ∷ []) zero_left in
        ap (λ (z : ℕ). replicate z 48 ++ hex n) zeros ∙ ap (λ (x : List ℕ). x ++ hex n) (sym (replicate-push (least - 1 - length (hex (n / 16))) 48))
        ∙ ap (λ (x : List ℕ). (replicate (least - 1 - length (hex (n / 16))) 48 ++ 48 ∷ []) ++ x) (hex_one n l ∙ ap (λ (d : ℕ). digit_glyph false d ∷ []) (sym same))
        ∙ ap (λ (x : List ℕ). (replicate (least - 1 - length (hex (n / 16))) 48 ++ x) ++ last n ∷ []) (sym tail)

pub hex_padded_one : (least n : ℕ) → n < 16 → least ≤ 1 → hex_padded least n ≡ digit_glyph false (n % 16) ∷ []
hex_padded_one least n small le =
    let zeros : least - length (hex n) ≡ 0 = omega (arith, ap length (hex_one n small)) in
    let same : n ≡ n % 16 = omega arith in
    ap (λ (z : ℕ). replicate z 48 ++ hex n) zeros ∙ hex_one n small ∙ ap (λ (d : ℕ). digit_glyph false d ∷ []) same

-- a number has at least one digit
pub length-hex_padded-some : (least n : ℕ) → n < 16 ^ 64 → 0 < length (hex_padded least n)
length-hex_padded-some least n small =
    elim (cases_lt n 16) [
      | inl l ↦ omega (arith, length-append (replicate (least - length (hex n)) 48) (hex n), ap length (hex_one n l))
      | inr l ↦ omega (arith, ap length (hex_padded_step least n small (inl l)), length-append (hex_padded (least - 1) (n / 16)) (last n ∷ []))
    ]

-- room for the digits leaves room for one fewer
pub length-hex_padded-step : (least n : ℕ) → n < 16 ^ 64 → (16 ≤ n) ⊎ (1 < least) → length (hex_padded least n) ≡ length (hex_padded (least - 1) (n / 16)) + 1
length-hex_padded-step least n small more = omega (arith, ap length (hex_padded_step least n small more), length-append (hex_padded (least - 1) (n / 16)) (last n ∷ []))

pub hex_padded-full : (least n : ℕ) → n < 16 ^ 64 → least ≤ 1 → hex_padded least n ≡ hex n
hex_padded-full least n small le =
    let some : 0 < length (hex n) = elim (cases_lt n 16) [
      | inl l ↦ omega (arith, ap length (hex_one n l))
      | inr l ↦ omega (arith, ap length (hex_step n l small), length-append (hex (n / 16)) (last n ∷ []))
    ] in
    let zeros : least - length (hex n) ≡ 0 = omega arith in
    ap (λ (z : ℕ). replicate z 48 ++ hex n) zeros

pub length-hex_padded-le : (least n : ℕ) → n < 2 ^ 64 → least ≤ 16 → length (hex_padded least n) ≤ 16
length-hex_padded-le least n small le =
    omega (arith, length-append (replicate (least - length (hex n)) 48) (hex n), length-replicate {A = ℕ} (least - length (hex n)) 48, length-hex-le 16 n (omega arith) (omega arith) (omega arith))
