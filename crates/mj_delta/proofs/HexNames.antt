-- Inodes as names: each has its own, and it is a name.
use Rattle.std.proofs.Common.{◌≡◌, ℕ, ◌<◌, ◌≤◌, ◌^◌, true, false, not, List, [], ◌∷◌, length, refl, sym, ap, ◌∙◌, arith, inl, inr}
use Rattle.std.specs.Prelude.{IsTrue, ◌==◌, nat_eq, nat_lt}
use Rattle.std.specs.List.{list_all}
use Rattle.std.specs.Char.{digit_value}
use Rattle.std.specs.Str.Parse.{AllDigits, digits_value}
use Rattle.std.proofs.lemmas.Bool.{cases_lt, lt-ltb, le-ltb, ne_eqb, and_from, and_left, or_from, not_from_false, le-leb}
use Rattle.std.proofs.lemmas.Fmt.{digits_is_IsNumeral}
use Rattle.mj_base.specs.Name.{is_bad_byte, is_name_byte, is_dots, is_name}
use Rattle.mj_base.specs.ObjectName.{hex}
use Rattle.mj_base.proofs.HexLemmas.{length-hex-le, length-hex_padded-some, hex_padded-full}

pub hex_same : (i j : ℕ) → i < 2 ^ 64 → j < 2 ^ 64 → hex i ≡ hex j → i ≡ j
hex_same i j a b e =
    let x = (digits_is_IsNumeral 16 false (omega arith) (omega arith) i (omega arith)).1 in
    let y = (digits_is_IsNumeral 16 false (omega arith) (omega arith) j (omega arith)).1 in
    sym x ∙ ap (digits_value 16) e ∙ y

digit_low : (c : ℕ) → digit_value c < 16 → 48 ≤ c
digit_low c h = elim (cases_lt c 48) [
  | inl lt ↦ let none : 36 < 16 = rw (lt-ltb c 48 lt) at h in absurd (omega arith)
  | inr ge ↦ ge
]

digit_high : (c : ℕ) → digit_value c < 16 → c < 128
digit_high c h = elim (cases_lt c 128) [
  | inl lt ↦ lt
  | inr ge ↦
      let none : 36 < 16 = rw (le-ltb c 48 (omega arith), le-ltb c 58 (omega arith), le-ltb c 65 (omega arith), le-ltb c 91 (omega arith), le-ltb c 97 (omega arith), le-ltb c 123 (omega arith)) at h in
      absurd (omega arith)
]

name_byte : (c : ℕ) → digit_value c < 16 → is_name_byte c ≡ true
name_byte c h =
    let low = digit_low c h in
    let high = digit_high c h in
    and_from (nat_lt c 256) (not (is_bad_byte c)) (lt-ltb c 256 (omega arith)) (not_from_false (is_bad_byte c) (or_from (c == 0) (c == 47) (ne_eqb c 0 (λ e. omega arith)) (ne_eqb c 47 (λ e. omega arith))))

name_bytes : (ds : List ℕ) → AllDigits 16 ds → list_all is_name_byte ds ≡ true
name_bytes [] h = refl
name_bytes (c ∷ ds) h = and_from _ _ (name_byte c h.0) (name_bytes ds h.1)

no_dots : (ds : List ℕ) → AllDigits 16 ds → 0 < length ds → is_dots ds ≡ false
no_dots [] h some = absurd (omega arith)
no_dots (c ∷ ds) h some =
    let low = digit_low c h.0 in
    let other : nat_eq c 46 ≡ false = ne_eqb c 46 (λ e. omega arith) in
    or_from _ _ (and_left (nat_eq c 46) _ other) (and_left (nat_eq c 46) _ other)

pub hex_name : (i : ℕ) → i < 2 ^ 64 → IsTrue (is_name (hex i))
hex_name i fits =
    let digits = (digits_is_IsNumeral 16 false (omega arith) (omega arith) i (omega arith)).0.1 in
    let some : 0 < length (hex i) = omega (arith, length-hex_padded-some 0 i (omega arith), ap length (hex_padded-full 0 i (omega arith) (omega arith))) in
    let few : length (hex i) ≤ 16 = length-hex-le 16 i (omega arith) (omega arith) (omega arith) in
    and_from _ _ (and_from _ _ (and_from _ _ (le-leb 1 (length (hex i)) (omega arith)) (le-leb (length (hex i)) 255 (omega arith))) (name_bytes (hex i) digits)) (not_from_false (is_dots (hex i)) (no_dots (hex i) digits some))
