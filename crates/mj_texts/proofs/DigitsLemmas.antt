-- When digits stand for a value.
use Rattle.std.proofs.Common.{◌≡◌, ℕ, ◌+◌, ◌*◌, ◌^◌, ◌<◌, ◌≤◌, ◌⊎◌, inl, inr, Bool, true, false, cond, ltb, ◌&&◌, ◌||◌, ◌==◌, List, [], ◌∷◌, length, get_or, take, Option, Some, None, IfSome, Result, Ok, Err, refl, ap, ◌∙◌, arith}
use Rattle.std.specs.Result.{OkIff, result_ok}
use Rattle.std.specs.List.{list_all}
use Rattle.std.specs.Char.{is_digit, digit_value}
use Rattle.std.specs.Str.Parse.{digits_value, AllDigits}
use Rattle.std.proofs.lemmas.Bool.{le-ltb, lt-ltb, ltb-true, eqb-true}
use Rattle.std.proofs.lemmas.Int.Digits.{digits_value_more, digits_value-lt}
use Rattle.std.proofs.lemmas.Str.Parse.{digits_value-take-le}
use Rattle.std.proofs.lemmas.List.Folds.{list_all_more}
use Rattle.mj_base.proofs.Codec.{true_and}
use Rattle.mj_texts.specs.Number.{digits_in, mode_of}

no_second : {A : Type 0} (a b : Bool) (x : Option A) → b ≡ false → cond (a && b) x None ≡ None
no_second true b x h = rw h refl
no_second false b x h = refl

both : {A : Type 0} (a b : Bool) (x : Option A) → a ≡ true → b ≡ true → cond (a && b) x None ≡ x
both a b x g h = rw (g, h) refl

-- the value does not fit once that of a front does not
pub digits_in_great : (base : ℕ) (word : List ℕ) (i : ℕ) → 1 ≤ base → i < length word → 2 ^ 64 ≤ digits_value base (take i word) * base + digit_value (get_or word i 0) → digits_in base word ≡ None
digits_in_great base word i low lt great =
    let front : digits_value base (take (i + 1) word) ≤ digits_value base word = digits_value-take-le base word (i + 1) low in
    let more : digits_value base (take (i + 1) word) ≡ digits_value base (take i word) * base + digit_value (get_or word i 0) = digits_value_more base word i lt in
    no_second _ _ _ (le-ltb (digits_value base word) (2 ^ 64) (omega arith))

pub digits_in_all : (base : ℕ) (word : List ℕ) → list_all (λ b. is_digit b base) word ≡ true → digits_value base word < 2 ^ 64 → digits_in base word ≡ Some (digits_value base word)
digits_in_all base word all fits = both _ _ _ all (lt-ltb (digits_value base word) (2 ^ 64) fits)

-- one digit more
pub more_digits : (base : ℕ) (word : List ℕ) (i : ℕ) → i < length word → list_all (λ b. is_digit b base) (take i word) ≡ true → digit_value (get_or word i 0) < base → list_all (λ b. is_digit b base) (take (i + 1) word) ≡ true
more_digits base word i lt before digit = list_all_more (λ b. is_digit b base) word i 0 lt ∙ rw (before, lt-ltb _ _ digit) refl

-- a digit below ten is a numeral
pub all_digits : (base : ℕ) (word : List ℕ) → list_all (λ b. is_digit b base) word ≡ true → AllDigits base word
all_digits base [] h = tt
all_digits base (b ∷ word) h = let parts = true_and (is_digit b base) (list_all (λ d. is_digit d base) word) h in (ltb-true _ _ parts.0, all_digits base word parts.1)

if_fits : (a b : Bool) (v n : ℕ) → cond (a && b) (Some v) None ≡ Some n → (a ≡ true) × (v ≡ n)
if_fits true true v n h = (refl, cc)
if_fits true false v n h = absurd cc
if_fits false b v n h = absurd cc

-- the value of three or four octal digits
few_octal : (word : List ℕ) (mode : ℕ) → (length word ≡ 3) ⊎ (length word ≡ 4) → digits_in 8 word ≡ Some mode → mode ≤ 0o7777
few_octal word mode len h =
    let found = if_fits (list_all (λ b. is_digit b 8) word) (ltb (digits_value 8 word) (2 ^ 64)) (digits_value 8 word) mode h in
    let below : mode < 8 ^ length word = rw found.1 at (digits_value-lt 8 word (all_digits 8 word found.0)) in
    by len below
  where
    by : (length word ≡ 3) ⊎ (length word ≡ 4) → mode < 8 ^ length word → mode ≤ 0o7777
    by (inl three) h = let few : mode < 8 ^ 3 = rw three at h in omega arith
    by (inr four) h = let few : mode < 8 ^ 4 = rw four at h in omega arith

mode_fits : (word : List ℕ) (mode : ℕ) → (length word ≡ 3) ⊎ (length word ≡ 4) → digits_in 8 word ≡ Some mode → mode < 65536
mode_fits word mode len h = let few = few_octal word mode len h in omega arith

pub either : (a b : Bool) → (a || b) ≡ true → (a ≡ true) ⊎ (b ≡ true)
either true b h = inl refl
either false b h = inr h

-- a mode is at most octal 7777
pub mode_of_small : (word : List ℕ) → IfSome (mode_of word) (λ mode. mode ≤ 0o7777)
mode_of_small word = by (length word == 3 || length word == 4) refl (digits_in 8 word) refl
  where
    len : (length word == 3 || length word == 4) ≡ true → (length word ≡ 3) ⊎ (length word ≡ 4)
    len h = elim (either (length word == 3) (length word == 4) h) [ inl e ↦ inl (eqb-true _ _ e) | inr e ↦ inr (eqb-true _ _ e) ]

    by : (t : Bool) → (length word == 3 || length word == 4) ≡ t → (o : Option ℕ) → digits_in 8 word ≡ o → IfSome (cond t o None) (λ mode. mode ≤ 0o7777)
    by true g (Some mode) h = few_octal word mode (len g) h
    by true g None h = tt
    by false g o h = tt

pub mode_of_digits : {E : Type 0} (word : List ℕ) (mode : ℕ) (r : Result ℕ E) → (length word ≡ 3) ⊎ (length word ≡ 4) → digits_in 8 word ≡ Some mode → OkIff r (mode < 65536) mode → result_ok r ≡ mode_of word
mode_of_digits word mode (Ok n) (inl len) h e = rw (len, h) (ap Some e.1)
mode_of_digits word mode (Ok n) (inr len) h e = rw (len, h) (ap Some e.1)
mode_of_digits word mode (Err x) len h e = absurd (e (mode_fits word mode len h))
