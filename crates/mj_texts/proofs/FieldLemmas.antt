-- What a field of words was read from, and how it is read again.
use Rattle.std.proofs.Common.{◌≡◌, ℕ, zero, suc, ◌^◌, ◌<◌, ◌≤◌, ◌⊎◌, inl, inr, Bool, true, false, cond, ltb, leb, not, ◌&&◌, ◌||◌, ◌==◌, List, [], ◌∷◌, length, get_or, decimal, Option, Some, None, Result, Ok, Err, refl, sym, ap, ◌∙◌, arith}
use Rattle.std.specs.List.{list_all, list_any, position}
use Rattle.std.specs.Char.{is_digit}
use Rattle.std.specs.Str.Parse.{AllDigits, digits_value}
use Rattle.std.specs.Cmp.Lexicographic.{bytes_decides}
use Rattle.std.proofs.lemmas.Bool.{lt-ltb, le-leb, ltb-true, ltb-false, eqb-true, eq-eqb, ne_eqb, cases_lt}
use Rattle.std.proofs.lemmas.Int.Digits.{digits_value-lt}
use Rattle.std.proofs.lemmas.List.Folds.{list_any_none}
use Rattle.std.proofs.lemmas.Str.Parse.{IsNumeralModel}
use Rattle.std.proofs.lemmas.Fmt.{decimal_is_IsNumeral, decimal-digits_value, first_decimal, decimal_digit}
use Rattle.mj_base.proofs.Codec.{and_true, true_and}
use Rattle.mj_base.specs.InOrder.{same_bytes}
use Rattle.mj_base.specs.Record.{target_fits}
use Rattle.mj_base.specs.Target.{target_refusal, zero_refusal}
use Rattle.mj_base.specs.declared.record.Kind.TheVariants.{Symlink}
use Rattle.mj_texts.specs.Words.{◌>>=◌, field, with_rest, last}
use Rattle.mj_texts.specs.Number.{digits_in, leads, at_most, number_of, mode_of}
use Rattle.mj_texts.specs.Request.{of_result, unless_refused}
use Rattle.mj_texts.specs.Spelling.{IsModeWord}
use Rattle.mj_texts.proofs.DigitsLemmas.{all_digits, digits_in_all, either}
use Rattle.mj_texts.proofs.SplitLemmas.{none_at}

-- ---- what was read, in parts

pub chosen : {A : Type 0} (t : Bool) (x y : Option A) (v : A) → cond t x y ≡ Some v → ((t ≡ true) × (x ≡ Some v)) ⊎ (y ≡ Some v)
chosen true x y v h = inl (refl, h)
chosen false x y v h = inr h

pub passed : {A : Type 0} (t : Bool) (x : Option A) (v : A) → cond t x None ≡ Some v → (t ≡ true) × (x ≡ Some v)
passed true x v h = (refl, h)
passed false x v h = absurd cc

pub bound : {A B : Type 0} (o : Option A) (f : A → Option B) (v : B) → (o >>= f) ≡ Some v → (x : A) × (o ≡ Some x) × (f x ≡ Some v)
bound None f v h = absurd cc
bound (Some x) f v h = (x, refl, h)

pub read_field : {A : Type 0} (read : List ℕ → Option A) (ws : List (List ℕ)) (x : A × List (List ℕ)) → field read ws ≡ Some x → (w : List ℕ) × (read w ≡ Some x.0) × (ws ≡ w ∷ x.1)
read_field read [] x h = absurd cc
read_field {A} read (w ∷ ws) x h = by (read w) refl h
  where
    by : (o : Option A) → read w ≡ o → with_rest ws o ≡ Some x → (v : List ℕ) × (read v ≡ Some x.0) × (w ∷ ws ≡ v ∷ x.1)
    by None e k = absurd cc
    by (Some y) e k = let same : (y, ws) ≡ x = cc in (w, e ∙ ap (λ p. Some p.0) same, ap (λ p. w ∷ p.1) same)

pub ends_here : {A : Type 0} (x : A) (ws : List (List ℕ)) (v : A) → last x ws ≡ Some v → (ws ≡ []) × (x ≡ v)
ends_here x [] v h = (refl, cc)
ends_here x (w ∷ ws) v h = absurd cc

pub word_is : (w wanted : List ℕ) → same_bytes w wanted ≡ true → w ≡ wanted
word_is w wanted h = (bytes_decides w wanted).0 h

-- ---- numbers

no_48 : (d : ℕ) → d ≡ 48 → not (d == 48) ≡ true → ⊥
no_48 d e h = let no : not true ≡ true = ap not (sym (eq-eqb d 48 e)) ∙ h in cc

begins_well : (w : List ℕ) → leads w ≡ true → (0 < length w) × (get_or w 0 0 ≡ 48 → length w ≡ 1)
begins_well [] h = absurd cc
begins_well (d ∷ []) h = (omega arith, λ e. refl)
begins_well (d ∷ c ∷ ds) h = (omega arith, λ e. absurd (no_48 d e h))

at_most_is : (most : ℕ) (o : Option ℕ) (n : ℕ) → at_most most o ≡ Some n → o ≡ Some n
at_most_is most None n h = absurd cc
at_most_is most (Some m) n h = (passed (leb m most) (Some m) n h).1

numerals : IsNumeralModel (AllDigits 10) (digits_value 10)
numerals = record { to = λ ds h. h; from = λ ds h. h; same = λ ds h. refl }

pub number_takes : (most : ℕ) (w : List ℕ) (n : ℕ) → number_of most w ≡ Some n → w ≡ decimal n
number_takes most w n h =
    let p = passed (leads w) (at_most most (digits_in 10 w)) n h in
    let q = at_most_is most (digits_in 10 w) n p.1 in
    let found = passed (list_all (λ b. is_digit b 10) w && ltb (digits_value 10 w) (2 ^ 64)) (Some (digits_value 10 w)) n q in
    let parts = true_and (list_all (λ b. is_digit b 10) w) (ltb (digits_value 10 w) (2 ^ 64)) found.0 in
    let value : digits_value 10 w ≡ n = cc found.1 in
    let begins = begins_well w p.0 in
    sym (decimal-digits_value numerals w (all_digits 10 w parts.0) begins.0 begins.1 (ltb-true _ _ parts.1)) ∙ ap decimal value

leads_at : (w : List ℕ) → 48 < get_or w 0 0 → leads w ≡ true
leads_at [] h = absurd (omega arith)
leads_at (d ∷ []) h = refl
leads_at (d ∷ c ∷ ds) h = ap not (ne_eqb d 48 (λ e. omega arith))

leads_decimal : (n : ℕ) → n < 2 ^ 64 → leads (decimal n) ≡ true
leads_decimal n small =
    elim (cases_lt n 10) [
      | inl lt ↦ rw (decimal_digit n lt) refl
      | inr ge ↦ leads_at (decimal n) (first_decimal n (omega arith) small)
    ]

are_digits : (base : ℕ) (w : List ℕ) → AllDigits base w → list_all (λ b. is_digit b base) w ≡ true
are_digits base [] h = refl
are_digits base (b ∷ w) h = and_true (is_digit b base) _ (lt-ltb _ _ h.0) (are_digits base w h.1)

pub number_again : (most n : ℕ) → n ≤ most → n < 2 ^ 64 → number_of most (decimal n) ≡ Some n
number_again most n le small =
    let numeral = decimal_is_IsNumeral n small in
    let digits : digits_in 10 (decimal n) ≡ Some n = digits_in_all 10 (decimal n) (are_digits 10 (decimal n) numeral.0.1) (omega (arith, numeral.1)) ∙ ap (λ k. Some k) numeral.1 in
    rw (leads_decimal n small, digits, le-leb n most le) refl

-- ---- modes

pub mode_takes : (w : List ℕ) (mode : ℕ) → mode_of w ≡ Some mode → IsModeWord w mode
mode_takes w mode h =
    let p = passed (length w == 3 || length w == 4) (digits_in 8 w) mode h in
    let found = passed (list_all (λ b. is_digit b 8) w && ltb (digits_value 8 w) (2 ^ 64)) (Some (digits_value 8 w)) mode p.1 in
    record {
      few = elim (either (length w == 3) (length w == 4) p.0) [ inl e ↦ inl (eqb-true _ _ e) | inr e ↦ inr (eqb-true _ _ e) ];
      digits = all_digits 8 w (true_and _ (ltb (digits_value 8 w) (2 ^ 64)) found.0).0;
      value = cc found.1;
    }

pub mode_again : (w : List ℕ) (mode : ℕ) → IsModeWord w mode → mode_of w ≡ Some mode
mode_again w mode h =
    let below : digits_value 8 w < 8 ^ length w = digits_value-lt 8 w h.digits in
    let digits : (digits_value 8 w < 2 ^ 64) → digits_in 8 w ≡ Some mode = λ fits. digits_in_all 8 w (are_digits 8 w h.digits) fits ∙ ap (λ k. Some k) h.value in
    by h.few below digits
  where
    by : (length w ≡ 3) ⊎ (length w ≡ 4) → digits_value 8 w < 8 ^ length w → (digits_value 8 w < 2 ^ 64 → digits_in 8 w ≡ Some mode) → mode_of w ≡ Some mode
    by (inl three) below digits = let few : digits_value 8 w < 8 ^ 3 = rw three at below in rw (three, digits (omega arith)) refl
    by (inr four) below digits = let few : digits_value 8 w < 8 ^ 4 = rw four at below in rw (four, digits (omega arith)) refl

pub mode_fits : (w : List ℕ) (mode : ℕ) → IsModeWord w mode → leb mode 0o7777 ≡ true
mode_fits w mode h = le-leb mode 0o7777 (by h.few (digits_value-lt 8 w h.digits))
  where
    by : (length w ≡ 3) ⊎ (length w ≡ 4) → digits_value 8 w < 8 ^ length w → mode ≤ 0o7777
    by (inl three) below = let few : digits_value 8 w < 8 ^ 3 = rw three at below in omega (arith, h.value)
    by (inr four) below = let few : digits_value 8 w < 8 ^ 4 = rw four at below in omega (arith, h.value)

-- ---- what a reader accepted

pub result_is : {A E : Type 0} (r : Result A E) (x : A) → of_result r ≡ Some x → r ≡ Ok x
result_is (Ok y) x h = let same : y ≡ x = cc in ap Ok same
result_is (Err e) x h = absurd cc

pub accepted : {A E : Type 0} (o : Option E) (x v : A) → unless_refused o x ≡ Some v → (o ≡ None) × (x ≡ v)
accepted (Some why) x v h = absurd cc
accepted None x v h = (refl, cc)

-- ---- targets

not_chosen : {E : Type 0} (t : Bool) (x : E) (o : Option E) → cond t (Some x) o ≡ None → (t ≡ false) × (o ≡ None)
not_chosen true x o h = absurd cc
not_chosen false x o h = (refl, h)

some_bytes : (n : ℕ) → (n == 0) ≡ false → 1 ≤ n
some_bytes zero h = absurd cc
some_bytes (suc n) h = omega arith

no_zero : (o : Option ℕ) → zero_refusal o ≡ None → o ≡ None
no_zero None h = refl
no_zero (Some at) h = absurd cc

pub target_accepted : (bytes : List ℕ) → target_refusal bytes ≡ None → target_fits Symlink bytes ≡ true
target_accepted bytes h =
    let n = length bytes in
    let is_zero = λ (b : ℕ). b == 0 in
    let first = not_chosen (n == 0) _ _ h in
    let second = not_chosen (ltb 4095 n) _ _ first.1 in
    let clear = none_at is_zero bytes (no_zero (position is_zero bytes) second.1) in
    and_true (leb 1 n && leb n 4095) (not (list_any is_zero bytes))
    (and_true (leb 1 n) (leb n 4095) (le-leb 1 n (some_bytes n first.0)) (le-leb n 4095 (ltb-false 4095 n second.0)))
    (ap not (list_any_none is_zero bytes clear))
