-- Hexadecimal digits read back, and parted from what follows them.
use Rattle.std.proofs.Common.{◌≡◌, ℕ, zero, suc, ◌+◌, ◌-◌, ◌^◌, ◌<◌, ◌≤◌, Bool, true, false, cond, eqb, ltb, List, [], ◌∷◌, ◌++◌, length, take, drop, Some, Result, Ok, refl, ap, ◌∙◌, append_assoc, arith, inl, inr}
use Rattle.std.specs.Prelude.{replicate, position, ◌==◌, IsUtf8}
use Rattle.std.specs.List.{position_or_len}
use Rattle.std.specs.Char.{digit_value}
use Rattle.std.specs.Str.{IsAscii}
use Rattle.std.specs.Str.Parse.{AllDigits, digits_value, without_leading_plus, ParsesUnsigned}
use Rattle.std.proofs.lemmas.Bool.{cases_lt, lt-ltb, le-ltb, ne_eqb}
use Rattle.std.proofs.lemmas.Fmt.{digits_is_IsNumeral}
use Rattle.std.proofs.lemmas.List.{length-append, length-drop, take_all, take_at, drop_at}
use Rattle.std.proofs.lemmas.Str.{IsUtf8-from_ascii}
use Rattle.std.proofs.lemmas.Str.Ascii.{IsAscii-nil, IsAscii-cons}
use Rattle.std.proofs.lemmas.Result.{Ok-from_Ok_iff}
use Rattle.mj_base.specs.ObjectText.{hex, hex_padded, file_object_text}

-- a digit is no mark: it stands at '0' or above
pub digit_low : (c : ℕ) → digit_value c < 16 → 48 ≤ c
digit_low c h =
    elim (cases_lt c 48) [
      | inl lt ↦ let none : 36 < 16 = rw (lt-ltb c 48 lt) at h in absurd (omega arith)
      | inr ge ↦ ge
    ]

pub digit_high : (c : ℕ) → digit_value c < 16 → c < 128
digit_high c h =
    elim (cases_lt c 128) [
      | inl lt ↦ lt
      | inr ge ↦
          let none : 36 < 16 = rw (le-ltb c 48 (omega arith), le-ltb c 58 (omega arith), le-ltb c 65 (omega arith), le-ltb c 91 (omega arith), le-ltb c 97 (omega arith), le-ltb c 123 (omega arith)) at h in
          absurd (omega arith)
    ]

AllDigits-IsAscii : (ds : List ℕ) → AllDigits 16 ds → IsAscii ds
AllDigits-IsAscii [] h = IsAscii-nil
AllDigits-IsAscii (c ∷ ds) h = IsAscii-cons c ds (digit_high c h.0) (AllDigits-IsAscii ds h.1)

padded-AllDigits : (zeros : ℕ) (ds : List ℕ) → AllDigits 16 ds → AllDigits 16 (replicate zeros 48 ++ ds)
padded-AllDigits zero ds h = h
padded-AllDigits (suc z) ds h = (omega arith, padded-AllDigits z ds h)

pub padded-value : (zeros : ℕ) (ds : List ℕ) → digits_value 16 (replicate zeros 48 ++ ds) ≡ digits_value 16 ds
padded-value zero ds = refl
padded-value (suc z) ds = padded-value z ds

no_plus : (ds : List ℕ) → AllDigits 16 ds → without_leading_plus ds ≡ ds
no_plus [] h = refl
no_plus (c ∷ ds) h =
    let no : eqb c 43 ≡ false = ne_eqb c 43 (λ e. omega (arith, digit_low c h.0)) in
    ap (λ (b : Bool). drop (cond b 1 0) (c ∷ ds)) no

module _ (zeros n : ℕ) (small : n < 2 ^ 64) where
  pub hex-AllDigits : AllDigits 16 (hex n)
  hex-AllDigits = (digits_is_IsNumeral 16 false (omega arith) (omega arith) n (omega arith)).0.1

  pub padded-IsUtf8 : IsUtf8 (replicate zeros 48 ++ hex n)
  padded-IsUtf8 = IsUtf8-from_ascii _ (AllDigits-IsAscii _ (padded-AllDigits zeros (hex n) hex-AllDigits))

  pub parse-padded : {E : Type 0} (r : Result ℕ E) → ParsesUnsigned 64 16 (replicate zeros 48 ++ hex n) r → r ≡ Ok n
  parse-padded r parses =
      let numeral = digits_is_IsNumeral 16 false (omega arith) (omega arith) n (omega arith) in
      let bytes = replicate zeros 48 ++ hex n in
      let plain : without_leading_plus bytes ≡ bytes = no_plus bytes (padded-AllDigits zeros (hex n) numeral.0.1) in
      let value : digits_value 16 bytes ≡ n = padded-value zeros (hex n) ∙ numeral.1 in
      let here = rw plain at parses in
      Ok-from_Ok_iff r _ _ here ((omega (arith, length-append (replicate zeros 48) (hex n), numeral.0.0), padded-AllDigits zeros (hex n) numeral.0.1), omega (arith, value)) ∙ ap (λ (k : ℕ). Ok k) value

-- a dot behind digits is the first
first_dot_at : (ds rest : List ℕ) → AllDigits 16 ds → position_or_len (λ b. b == 46) (ds ++ 46 ∷ rest) ≡ length ds
first_dot_at [] rest h = refl
first_dot_at (c ∷ ds) rest h =
    let no : eqb c 46 ≡ false = ne_eqb c 46 (λ e. omega (arith, digit_low c h.0)) in
    rw no (ap (λ (k : ℕ). 1 + k) (first_dot_at ds rest h.1) ∙ omega arith)

pub position-dot : (ds rest : List ℕ) → AllDigits 16 ds → position (λ b. b == 46) (ds ++ 46 ∷ rest) ≡ Some (length ds)
position-dot ds rest h =
    let at = first_dot_at ds rest h in
    let within : ltb (length ds) (length (ds ++ 46 ∷ rest)) ≡ true = lt-ltb _ _ (omega (arith, length-append ds (46 ∷ rest))) in
    rw at (rw within refl)

-- the dot of a file's text, and the digits on both sides of it
module _ (ino index : ℕ) (small_ino : ino < 2 ^ 64) where
  text_is : file_object_text ino index ≡ hex ino ++ 46 ∷ hex_padded 8 index
  text_is = append_assoc (hex ino) (46 ∷ []) (hex_padded 8 index)

  pub position-file_object_text : position (λ b. b == 46) (file_object_text ino index) ≡ Some (length (hex ino))
  position-file_object_text = ap (position (λ b. b == 46)) text_is ∙ position-dot (hex ino) (hex_padded 8 index) (hex-AllDigits 0 ino small_ino)

  pub take-file_object_text : take (length (hex ino)) (file_object_text ino index) ≡ hex ino
  take-file_object_text = ap (take (length (hex ino))) text_is ∙ take_at (hex ino) (46 ∷ hex_padded 8 index) (length (hex ino)) refl

  pub drop-file_object_text : drop (length (hex ino) + 1) (file_object_text ino index) ≡ hex_padded 8 index
  drop-file_object_text =
      ap (λ (k : ℕ). drop k (file_object_text ino index)) (omega (arith, length-append (hex ino) (46 ∷ []))) ∙ drop_at (hex ino ++ 46 ∷ []) (hex_padded 8 index) (length (hex ino ++ 46 ∷ [])) refl

-- what stands before the dot and behind it
module _ (ino index dot : ℕ) (text : List ℕ) (small_ino : ino < 2 ^ 64) (is : text ≡ file_object_text ino index) (at : dot ≡ length (hex ino)) where
  pub ino-part : take dot text ≡ replicate 0 48 ++ hex ino
  ino-part = ap (λ (k : ℕ). take k text) at ∙ ap (take (length (hex ino))) is ∙ take-file_object_text ino index small_ino

  pub index-part : take (length text - (dot + 1)) (drop (dot + 1) text) ≡ replicate (8 - length (hex index)) 48 ++ hex index
  index-part =
      take_all (length text - (dot + 1)) (drop (dot + 1) text) (omega (arith, length-drop (dot + 1) text)) ∙ ap (λ (k : ℕ). drop (k + 1) text) at ∙ ap (drop (length (hex ino) + 1)) is
      ∙ drop-file_object_text ino index small_ino
