-- The escapes of texts, both ways.
use Rattle.std.proofs.Common.{◌≡◌, ℕ, zero, suc, ◌+◌, ◌-◌, ◌*◌, ◌/◌, ◌%◌, ◌<◌, ◌≤◌, Bool, true, false, cond, eqb, List, [], ◌∷◌, ◌++◌, length, Option, None, Some, Ok, Err, refl, sym, ap, ◌∙◌, arith, inl, inr}
use Rattle.std.specs.Prelude.{Result, ◌&&◌, not, nat_le, ◌==◌}
use Rattle.std.specs.Fmt.{digit_glyph}
use Rattle.std.proofs.lemmas.Bool.{cases_Bool, cases_lt, and_parts, and_from, or_cases, or_left, or_right, not-true, not_from_false, lt-ltb, le-ltb, le-leb, lt-leb, leb-true, eqb-true}
use Rattle.mj_base.specs.Name.{is_plain, escaped, escaped_byte}
use Rattle.mj_base.specs.PathText.{is_hex, hex_value, escape_of, plain_first, first_byte, onto, unescaped}
use Rattle.mj_base.proofs.Codec.{IsBytes}
use Rattle.mj_base.proofs.UnescapeLemmas.{unescaped_step, unescaped_stop}

-- ---- digits

glyph_low : (d : ℕ) → d < 10 → digit_glyph false d ≡ 48 + d
glyph_low d h = ap (λ (b : Bool). cond b (48 + d) (87 + d)) (lt-ltb d 10 h)

glyph_high : (d : ℕ) → 10 ≤ d → digit_glyph false d ≡ 87 + d
glyph_high d h = ap (λ (b : Bool). cond b (48 + d) (87 + d)) (le-ltb d 10 h)

hex_low : (c : ℕ) → 48 ≤ c → c ≤ 57 → is_hex c ≡ true
hex_low c a b = or_left (nat_le 48 c && nat_le c 57) (nat_le 97 c && nat_le c 102) (and_from _ _ (le-leb _ _ a) (le-leb _ _ b))

hex_high : (c : ℕ) → 97 ≤ c → c ≤ 102 → is_hex c ≡ true
hex_high c a b = or_right (nat_le 48 c && nat_le c 57) (nat_le 97 c && nat_le c 102) (and_from _ _ (le-leb _ _ a) (le-leb _ _ b))

value_low : (c : ℕ) → c ≤ 57 → hex_value c ≡ c - 48
value_low c a = ap (λ (b : Bool). cond b (c - 48) (c - 87)) (le-leb c 57 a)

value_high : (c : ℕ) → 57 < c → hex_value c ≡ c - 87
value_high c a = ap (λ (b : Bool). cond b (c - 48) (c - 87)) (lt-leb c 57 a)

glyph_is_hex : (d : ℕ) → d < 16 → is_hex (digit_glyph false d) ≡ true
glyph_is_hex d small =
    elim (cases_lt d 10) [
      | inl l ↦ rw (glyph_low d l) (hex_low (48 + d) (omega arith) (omega arith))
      | inr l ↦ rw (glyph_high d l) (hex_high (87 + d) (omega arith) (omega arith))
    ]

value_of_glyph : (d : ℕ) → d < 16 → hex_value (digit_glyph false d) ≡ d
value_of_glyph d small =
    elim (cases_lt d 10) [
      | inl l ↦ rw (glyph_low d l) (value_low (48 + d) (omega arith) ∙ omega arith)
      | inr l ↦ rw (glyph_high d l) (value_high (87 + d) (omega arith) ∙ omega arith)
    ]

-- a digit's value, and the digit of that value
abbrev IsDigit : ℕ → Type 0
IsDigit c = (hex_value c < 16) × (digit_glyph false (hex_value c) ≡ c)

digit_of_hex : (c : ℕ) → is_hex c ≡ true → IsDigit c
digit_of_hex c h =
    elim (or_cases (nat_le 48 c && nat_le c 57) (nat_le 97 c && nat_le c 102) h) [
      | inl low ↦
          let at = and_parts (nat_le 48 c) (nat_le c 57) low in
          let from : 48 ≤ c = leb-true 48 c at.0 in
          let to : c ≤ 57 = leb-true c 57 at.1 in
          let value = value_low c to in
          (omega (arith, value), rw value (glyph_low (c - 48) (omega arith) ∙ omega arith))
      | inr high ↦
          let at = and_parts (nat_le 97 c) (nat_le c 102) high in
          let from : 97 ≤ c = leb-true 97 c at.0 in
          let to : c ≤ 102 = leb-true c 102 at.1 in
          let value = value_high c (omega arith) in
          (omega (arith, value), rw value (glyph_high (c - 87) (omega arith) ∙ omega arith))
    ]

-- ---- the text of bytes stands for them

not_percent : (b : ℕ) → is_plain b ≡ true → eqb b 37 ≡ false
not_percent b plain = not-true (b == 37) (and_parts (nat_le 0x21 b && nat_le b 0x7e) (not (b == 37)) plain).1

no_escape : (c high low : ℕ) → eqb c 37 ≡ false → escape_of c high low ≡ None
no_escape c high low h =
    ap (λ (t : Bool). cond (t && is_hex high && is_hex low && not (is_plain (hex_value high * 16 + hex_value low))) (Some (hex_value high * 16 + hex_value low)) None) h

plain_is_first : (b : ℕ) (rest : List ℕ) → is_plain b ≡ true → plain_first b rest ≡ Some (b, rest)
plain_is_first b rest plain = ap (λ (t : Bool). cond {A = Option (ℕ × List ℕ)} t (Some (b, rest)) None) plain

first_plain : (b : ℕ) (rest : List ℕ) → is_plain b ≡ true → first_byte (b ∷ rest) ≡ Some (b, rest)
first_plain b [] plain = plain_is_first b [] plain
first_plain b (x ∷ []) plain = plain_is_first b (x ∷ []) plain
first_plain b (high ∷ low ∷ rest) plain =
    ap (λ (o : Option ℕ). elim o as (λ _. Option (ℕ × List ℕ)) [ Some v ↦ Some (v, rest) | None ↦ plain_first b (high ∷ low ∷ rest) ]) (no_escape b high low (not_percent b plain)) ∙ plain_is_first b (high ∷ low ∷ rest) plain

escape_made : (high low : ℕ) → is_hex high ≡ true → is_hex low ≡ true → is_plain (hex_value high * 16 + hex_value low) ≡ false → escape_of 37 high low ≡ Some (hex_value high * 16 + hex_value low)
escape_made high low a b c =
    ap (λ (t : Bool). cond t (Some (hex_value high * 16 + hex_value low)) None) (and_from (is_hex high && is_hex low) (not (is_plain (hex_value high * 16 + hex_value low))) (and_from _ _ a b) (not_from_false _ c))

first_escaped : (b : ℕ) (rest : List ℕ) → b < 256 → is_plain b ≡ false → first_byte (37 ∷ digit_glyph false (b / 16) ∷ digit_glyph false (b % 16) ∷ rest) ≡ Some (b, rest)
first_escaped b rest small hard =
    let high = value_of_glyph (b / 16) (omega arith) in
    let low = value_of_glyph (b % 16) (omega arith) in
    let whole : hex_value (digit_glyph false (b / 16)) * 16 + hex_value (digit_glyph false (b % 16)) ≡ b = omega (arith, high, low) in
    let made = escape_made (digit_glyph false (b / 16)) (digit_glyph false (b % 16)) (glyph_is_hex (b / 16) (omega arith)) (glyph_is_hex (b % 16) (omega arith)) (rw whole hard) in
    ap (λ (o : Option ℕ). elim o as (λ _. Option (ℕ × List ℕ)) [ Some v ↦ Some (v, rest) | None ↦ plain_first 37 (digit_glyph false (b / 16) ∷ digit_glyph false (b % 16) ∷ rest) ]) (made ∙ ap (λ (v : ℕ). Some v) whole)

spelled_first : (b : ℕ) (rest : List ℕ) → b < 256 → first_byte (escaped_byte b ++ rest) ≡ Some (b, rest)
spelled_first b rest small =
    elim (cases_Bool (is_plain b)) [
      | inl plain ↦ rw plain (first_plain b rest plain)
      | inr hard ↦ rw hard (first_escaped b rest small hard)
    ]

pub unescaped-escaped : (bytes : List ℕ) → IsBytes bytes → unescaped (escaped bytes) ≡ Ok bytes
unescaped-escaped [] fits = refl
unescaped-escaped (b ∷ bytes) fits =
    (unescaped_step (escaped_byte b ++ escaped bytes) b (escaped bytes) (spelled_first b (escaped bytes) (fits 0))).1 ∙ ap (onto (b ∷ [])) (unescaped-escaped bytes (λ i. fits (suc i)))

-- ---- a text that stands for bytes is theirs

plain_spelled : (t : Bool) (c b : ℕ) (text after : List ℕ) → is_plain c ≡ t → cond {A = Option (ℕ × List ℕ)} t (Some (c, text)) None ≡ Some (b, after) → c ∷ text ≡ escaped_byte b ++ after
plain_spelled true c b text after plain h =
    let same : ◌≡◌ {A = ℕ × List ℕ} (c, text) (b, after) = cc in
    let itself : escaped_byte c ≡ c ∷ [] = rw plain refl in
    ap (λ (x : List ℕ). x ++ text) (sym itself) ∙ ap (λ (p : ℕ × List ℕ). escaped_byte p.0 ++ p.1) same
plain_spelled false c b text after plain h = absurd cc

escape_spelled : (t : Bool) (c high low b : ℕ) → (c == 37 && is_hex high && is_hex low && not (is_plain (hex_value high * 16 + hex_value low))) ≡ t
    → cond t (Some (hex_value high * 16 + hex_value low)) None ≡ Some b → c ∷ high ∷ low ∷ [] ≡ escaped_byte b
escape_spelled true c high low b e h =
    let value : hex_value high * 16 + hex_value low ≡ b = cc in
    let all = and_parts (c == 37 && is_hex high && is_hex low) (not (is_plain (hex_value high * 16 + hex_value low))) e in
    let both = and_parts (c == 37 && is_hex high) (is_hex low) all.0 in
    let first = and_parts (c == 37) (is_hex high) both.0 in
    let hard : is_plain b ≡ false = rw (sym value) (not-true _ all.1) in
    let up = digit_of_hex high first.1 in
    let down = digit_of_hex low both.1 in
    let top : hex_value high ≡ b / 16 = omega (arith, up.0, down.0, value) in
    let rest : hex_value low ≡ b % 16 = omega (arith, up.0, down.0, value) in
    rw hard (ap (λ (x : ℕ). x ∷ high ∷ low ∷ []) (eqb-true c 37 first.0) ∙ ap (λ (x : ℕ). 37 ∷ x ∷ low ∷ []) (sym up.1 ∙ ap (digit_glyph false) top) ∙ ap (λ (x : ℕ). 37 ∷ digit_glyph false (b / 16) ∷ x ∷ []) (sym down.1 ∙ ap (digit_glyph false) rest))
escape_spelled false c high low b e h = absurd cc

long_spelled : (o : Option ℕ) (c high low b : ℕ) (text after : List ℕ) → escape_of c high low ≡ o → elim o as (λ _. Option (ℕ × List ℕ)) [ Some x ↦ Some (x, text) | None ↦ plain_first c (high ∷ low ∷ text) ] ≡ Some (b, after)
    → c ∷ high ∷ low ∷ text ≡ escaped_byte b ++ after
long_spelled (Some x) c high low b text after is h =
    let same : ◌≡◌ {A = ℕ × List ℕ} (x, text) (b, after) = cc in
    ap (λ (front : List ℕ). front ++ text) (escape_spelled _ c high low x refl is) ∙ ap (λ (p : ℕ × List ℕ). escaped_byte p.0 ++ p.1) same
long_spelled None c high low b text after is h = plain_spelled (is_plain c) c b (high ∷ low ∷ text) after refl h

first_spelled : (text : List ℕ) (b : ℕ) (after : List ℕ) → first_byte text ≡ Some (b, after) → text ≡ escaped_byte b ++ after
first_spelled [] b after h = absurd cc
first_spelled (c ∷ []) b after h = plain_spelled (is_plain c) c b [] after refl h
first_spelled (c ∷ d ∷ []) b after h = plain_spelled (is_plain c) c b (d ∷ []) after refl h
first_spelled (c ∷ high ∷ low ∷ text) b after h = long_spelled (escape_of c high low) c high low b text after refl h

-- the bytes of the rest
behind : (b : ℕ) (r : Result (List ℕ) ℕ) (bytes : List ℕ) → onto (b ∷ []) r ≡ Ok bytes → (rest : List ℕ) × (r ≡ Ok rest) × (bytes ≡ b ∷ rest)
behind b (Ok rest) bytes e = (rest, refl, cc)
behind b (Err left) bytes e = absurd cc

read_step : (c : ℕ) (text bytes : List ℕ) → unescaped (c ∷ text) ≡ Ok bytes → ((after rest : List ℕ) → length after < length (c ∷ text) → unescaped after ≡ Ok rest → after ≡ escaped rest) → (o : Option (ℕ × List ℕ)) → first_byte (c ∷ text) ≡ o → c ∷ text ≡ escaped bytes
read_step c text bytes e later None is = let stops = unescaped_stop (c ∷ text) (omega arith) is in absurd cc
read_step c text bytes e later (Some x) is =
    let made = unescaped_step (c ∷ text) x.0 x.1 is in
    let rest = behind x.0 (unescaped x.1) bytes (sym made.1 ∙ e) in
    first_spelled (c ∷ text) x.0 x.1 is ∙ ap (λ (more : List ℕ). escaped_byte x.0 ++ more) (later x.1 rest.0 made.0 rest.1) ∙ ap escaped (sym rest.2)

read_by : (n : ℕ) (text bytes : List ℕ) → length text ≤ n → unescaped text ≡ Ok bytes → text ≡ escaped bytes
read_by n [] bytes le e = let none : [] ≡ bytes = cc in ap escaped none
read_by zero (c ∷ text) bytes le e = absurd (omega arith)
read_by (suc n) (c ∷ text) bytes le e = read_step c text bytes e (λ after rest lt f. read_by n after rest (omega arith) f) (first_byte (c ∷ text)) refl

pub escaped-unescaped : (text bytes : List ℕ) → unescaped text ≡ Ok bytes → text ≡ escaped bytes
escaped-unescaped text bytes e = read_by (length text) text bytes (omega arith) e
