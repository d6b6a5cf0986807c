-- Words parted by one space, and the line that they make.
use Rattle.std.proofs.Common.{◌≡◌, ℕ, ◌-◌, ◌/◌, ◌%◌, ◌^◌, ◌<◌, ◌≤◌, inl, inr, zero, suc, Bool, true, false, cond, ltb, leb, not, ◌&&◌, ◌==◌, List, [], ◌∷◌, ◌++◌, length, codes, decimal, replicate, refl, sym, ap, ◌∙◌, arith, append-nil}
use Rattle.std.specs.List.{slice_split, onto_first, list_all, flat_map}
use Rattle.std.specs.Char.{is_ascii, digit_value}
use Rattle.std.specs.Fmt.{digit_glyph}
use Rattle.std.specs.Str.Parse.{AllDigits}
use Rattle.std.proofs.lemmas.Bool.{cases_lt, lt-ltb, le-ltb, ltb-true, leb-true, eqb-true, ne_eqb}
use Rattle.std.proofs.lemmas.Fmt.{decimal_is_IsNumeral, digits_is_IsNumeral}
use Rattle.mj_base.proofs.Codec.{and_true, true_and}
use Rattle.mj_base.specs.Name.{is_name, is_name_byte, is_path, is_plain, escaped, escaped_byte, path_text}
use Rattle.mj_base.specs.Reading.{AreBytes}
use Rattle.mj_base.specs.ObjectText.{hex, hex_padded}
use Rattle.mj_base.specs.ObjectName.{object_text, IsObjectName}
use Rattle.mj_base.specs.declared.object.ObjectName.{ObjectName}
use Rattle.mj_base.specs.declared.object.ObjectName.TheVariants.{File, InoTable, SessionMap}
use Rattle.mj_tree.specs.Listing.{words, spaced}
use Rattle.mj_texts.specs.Spelling.{is_word_byte, is_plain_word, are_plain_words}
use Rattle.mj_texts.proofs.SplitLemmas.{slice_split_some}

abbrev is_space : ℕ → Bool
is_space b = b == 32

-- ---- a text is the words that it is cut into

pub words_of_text : (text : List ℕ) → words (slice_split (λ b. b == 32) text) ≡ text
words_of_text [] = refl
words_of_text (b ∷ text) = by (b == 32) refl (slice_split is_space text) (slice_split_some is_space text) (words_of_text text)
  where
    by : (t : Bool) → (b == 32) ≡ t → (parts : List (List ℕ)) → (parts ≡ [] → ⊥) → words parts ≡ text → words (cond t ([] ∷ parts) (onto_first b parts)) ≡ b ∷ text
    by true e [] some is = absurd (some refl)
    by true e (w ∷ ws) some is = ap (λ t. 32 ∷ t) is ∙ ap (λ c. c ∷ text) (sym (eqb-true b 32 e))
    by false e [] some is = absurd (some refl)
    by false e (w ∷ ws) some is = ap (λ t. b ∷ t) is

-- ---- words are cut apart again

glued : List ℕ → List (List ℕ) → List (List ℕ)
glued w [] = []
glued w (v ∷ vs) = (w ++ v) ∷ vs

glued_none : (parts : List (List ℕ)) → glued [] parts ≡ parts
unfolding glued
glued_none [] = refl
glued_none (v ∷ vs) = refl

not_true : (t : Bool) → not t ≡ true → t ≡ false
not_true true h = absurd cc
not_true false h = refl

split_word : (w rest : List ℕ) → is_plain_word w ≡ true → slice_split is_space (w ++ rest) ≡ glued w (slice_split is_space rest)
unfolding glued
split_word [] rest h = sym (glued_none (slice_split is_space rest))
split_word (b ∷ w) rest h =
    let plain = true_and (is_word_byte b) (is_plain_word w) h in
    let no : (b == 32) ≡ false = not_true (b == 32) (true_and (is_ascii b) (not (b == 32)) plain.0).1 in
    rw no (ap (onto_first b) (split_word w rest plain.1) ∙ by (slice_split is_space rest) (slice_split_some is_space rest))
  where
    by : (parts : List (List ℕ)) → (parts ≡ [] → ⊥) → onto_first b (glued w parts) ≡ glued (b ∷ w) parts
    by [] some = absurd (some refl)
    by (v ∷ vs) some = refl

split_spaced : (ws : List (List ℕ)) → are_plain_words ws ≡ true → slice_split is_space (spaced ws) ≡ [] ∷ ws
unfolding glued
split_spaced [] h = refl
split_spaced (w ∷ ws) h =
    let plain = true_and (is_plain_word w) (are_plain_words ws) h in
    ap (λ parts. [] ∷ parts) (split_word w (spaced ws) plain.0 ∙ ap (glued w) (split_spaced ws plain.1) ∙ ap (λ v. v ∷ ws) (append-nil w))

pub split_words : (w : List ℕ) (ws : List (List ℕ)) → are_plain_words (w ∷ ws) ≡ true → slice_split (λ b. b == 32) (words (w ∷ ws)) ≡ w ∷ ws
unfolding glued
split_words w ws h =
    let plain = true_and (is_plain_word w) (are_plain_words ws) h in
    split_word w (spaced ws) plain.0 ∙ ap (glued w) (split_spaced ws plain.1) ∙ ap (λ v. v ∷ ws) (append-nil w)

-- ---- words, with what makes them plain

abbrev pub Plain : Type 0
Plain = (ws : List (List ℕ)) × (are_plain_words ws ≡ true)

abbrev pub no_words : Plain
no_words = ([], refl)

abbrev pub plain_word : (w : List ℕ) → is_plain_word w ≡ true → Plain → Plain
plain_word w h p = (w ∷ p.0, and_true (is_plain_word w) (are_plain_words p.0) h p.1)

-- ---- they are ASCII

all_append : (p : ℕ → Bool) (xs ys : List ℕ) → list_all p xs ≡ true → list_all p ys ≡ true → list_all p (xs ++ ys) ≡ true
all_append p [] ys h k = k
all_append p (x ∷ xs) ys h k = let q = true_and (p x) (list_all p xs) h in and_true (p x) _ q.0 (all_append p xs ys q.1 k)

plain_ascii : (w : List ℕ) → is_plain_word w ≡ true → list_all is_ascii w ≡ true
plain_ascii [] h = refl
plain_ascii (b ∷ w) h = let q = true_and (is_word_byte b) (is_plain_word w) h in and_true (is_ascii b) _ (true_and (is_ascii b) (not (b == 32)) q.0).0 (plain_ascii w q.1)

spaced_ascii : (ws : List (List ℕ)) → are_plain_words ws ≡ true → list_all is_ascii (spaced ws) ≡ true
spaced_ascii [] h = refl
spaced_ascii (w ∷ ws) h = let q = true_and (is_plain_word w) (are_plain_words ws) h in all_append is_ascii w (spaced ws) (plain_ascii w q.0) (spaced_ascii ws q.1)

pub words_ascii : (ws : List (List ℕ)) → are_plain_words ws ≡ true → list_all is_ascii (words ws) ≡ true
words_ascii [] h = refl
words_ascii (w ∷ ws) h = let q = true_and (is_plain_word w) (are_plain_words ws) h in all_append is_ascii w (spaced ws) (plain_ascii w q.0) (spaced_ascii ws q.1)

-- ---- plain words

word_byte : (b : ℕ) → 33 ≤ b → b < 128 → is_word_byte b ≡ true
word_byte b low high = and_true (is_ascii b) (not (b == 32)) (lt-ltb b 128 high) (ap not (ne_eqb b 32 (λ e. omega arith)))

digit_low : (c : ℕ) → digit_value c < 16 → 48 ≤ c
digit_low c h =
    elim (cases_lt c 48) [
      | inl lt ↦ let none : 36 < 16 = rw (lt-ltb c 48 lt) at h in absurd (omega arith)
      | inr ge ↦ ge
    ]

digit_high : (c : ℕ) → digit_value c < 16 → c < 128
digit_high c h =
    elim (cases_lt c 128) [
      | inl lt ↦ lt
      | inr ge ↦
          let none : 36 < 16 = rw (le-ltb c 48 (omega arith), le-ltb c 58 (omega arith), le-ltb c 65 (omega arith), le-ltb c 91 (omega arith), le-ltb c 97 (omega arith), le-ltb c 123 (omega arith)) at h in
          absurd (omega arith)
    ]

pub plain_digits : (base : ℕ) (ds : List ℕ) → base ≤ 16 → AllDigits base ds → is_plain_word ds ≡ true
plain_digits base [] few h = refl
plain_digits base (c ∷ ds) few h =
    let value : digit_value c < 16 = omega (arith, h.0) in
    let low = digit_low c value in
    and_true (is_word_byte c) (is_plain_word ds) (word_byte c (omega arith) (digit_high c value)) (plain_digits base ds few h.1)

pub plain_decimal : (n : ℕ) → n < 2 ^ 64 → is_plain_word (decimal n) ≡ true
plain_decimal n small = plain_digits 10 (decimal n) (omega arith) (decimal_is_IsNumeral n small).0.1

plain_zeros : (k : ℕ) → is_plain_word (replicate k 48) ≡ true
plain_zeros zero = refl
plain_zeros (suc k) = and_true (is_word_byte 48) _ (word_byte 48 (omega arith) (omega arith)) (plain_zeros k)

plain_hex : (n : ℕ) → n < 2 ^ 64 → is_plain_word (hex n) ≡ true
plain_hex n small = plain_digits 16 (hex n) (omega arith) (digits_is_IsNumeral 16 false (omega arith) (omega arith) n (omega arith)).0.1

pub plain_object : (name : ObjectName) → IsObjectName name → is_plain_word (object_text name) ≡ true
plain_object (File ino index) h =
    all_append is_word_byte (hex ino ++ codes ".") (hex_padded 8 index) (all_append is_word_byte (hex ino) (codes ".") (plain_hex ino h.0) refl)
    (all_append is_word_byte (replicate (8 - length (hex index)) 48) (hex index) (plain_zeros (8 - length (hex index))) (plain_hex index h.1))
plain_object (InoTable rank) h = all_append is_word_byte (codes "mds" ++ decimal rank) (codes "_inotable") (all_append is_word_byte (codes "mds") (decimal rank) refl (plain_decimal rank (omega (arith, h)))) refl
plain_object (SessionMap rank) h = all_append is_word_byte (codes "mds" ++ decimal rank) (codes "_sessionmap") (all_append is_word_byte (codes "mds") (decimal rank) refl (plain_decimal rank (omega (arith, h)))) refl

glyph_low : (k : ℕ) → k < 16 → (48 ≤ digit_glyph false k) × (digit_glyph false k < 128)
glyph_low k small =
    elim (cases_lt k 10) [
      | inl lt ↦ rw (lt-ltb k 10 lt) (omega arith, omega arith)
      | inr ge ↦ rw (le-ltb k 10 ge) (omega arith, omega arith)
    ]

plain_escaped_byte : (b : ℕ) → b < 256 → is_plain_word (escaped_byte b) ≡ true
plain_escaped_byte b small = by (is_plain b) refl
  where
    high : b / 16 < 16
    high = omega arith

    low : b % 16 < 16
    low = omega arith

    one : (c : ℕ) → (48 ≤ c) × (c < 128) → is_word_byte c ≡ true
    one c h = word_byte c (omega arith) (omega arith)

    by : (t : Bool) → is_plain b ≡ t → is_plain_word (cond t (b ∷ []) (37 ∷ digit_glyph false (b / 16) ∷ digit_glyph false (b % 16) ∷ [])) ≡ true
    by true e =
        let p = true_and (leb 33 b && leb b 126) (not (b == 37)) e in
        let q = true_and (leb 33 b) (leb b 126) p.0 in
        let from : 33 ≤ b = leb-true 33 b q.0 in
        let to : b ≤ 126 = leb-true b 126 q.1 in
        and_true (is_word_byte b) true (word_byte b from (omega arith)) refl
    by false e = and_true (is_word_byte (digit_glyph false (b / 16))) _ (one (digit_glyph false (b / 16)) (glyph_low (b / 16) high)) (and_true (is_word_byte (digit_glyph false (b % 16))) true (one (digit_glyph false (b % 16)) (glyph_low (b % 16) low)) refl)

plain_escaped : (bytes : List ℕ) → list_all is_name_byte bytes ≡ true → is_plain_word (escaped bytes) ≡ true
plain_escaped [] h = refl
plain_escaped (b ∷ bytes) h =
    let p = true_and (is_name_byte b) (list_all is_name_byte bytes) h in
    let small : b < 256 = ltb-true b 256 (true_and (ltb b 256) _ p.0).0 in
    all_append is_word_byte (escaped_byte b) (escaped bytes) (plain_escaped_byte b small) (plain_escaped bytes p.1)

pub plain_bytes : (bytes : List ℕ) → AreBytes bytes → is_plain_word (escaped bytes) ≡ true
plain_bytes [] h = refl
plain_bytes (b ∷ bytes) h = all_append is_word_byte (escaped_byte b) (escaped bytes) (plain_escaped_byte b (h 0)) (plain_bytes bytes (λ i. h (suc i)))

name_bytes : (name : List ℕ) → is_name name ≡ true → list_all is_name_byte name ≡ true
name_bytes name h =
    let p = true_and _ _ h in
    let q = true_and _ _ p.0 in
    q.1

plain_names : (names : List (List ℕ)) → list_all is_name names ≡ true → is_plain_word (flat_map (λ n. 47 ∷ escaped n) names) ≡ true
plain_names [] h = refl
plain_names (n ∷ names) h =
    let p = true_and (is_name n) (list_all is_name names) h in
    all_append is_word_byte (47 ∷ escaped n) (flat_map (λ n. 47 ∷ escaped n) names) (and_true (is_word_byte 47) _ (word_byte 47 (omega arith) (omega arith)) (plain_escaped n (name_bytes n p.0))) (plain_names names p.1)

pub plain_path : (names : List (List ℕ)) → is_path names ≡ true → is_plain_word (path_text names) ≡ true
plain_path [] h = refl
plain_path (n ∷ names) h = plain_names (n ∷ names) (true_and _ _ h).1
