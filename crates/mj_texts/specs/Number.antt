-- Numbers and modes as words.
use Rattle.std.specs.Prelude.{ℕ, ◌^◌, Bool, true, false, ◌&&◌, ◌||◌, ◌==◌, not, nat_le, nat_lt, List, [], ◌∷◌, length, if◌then◌else◌, Option, None, Some}
use Rattle.std.specs.List.{list_all}
use Rattle.std.specs.Char.{is_digit}
use Rattle.std.specs.Str.Parse.{digits_value}

-- the value of digits of a base, where it fits 64 bits
abbrev pub digits_in : ℕ → List ℕ → Option ℕ
digits_in base word = if list_all (λ b. is_digit b base) word && nat_lt (digits_value base word) (2 ^ 64) then Some (digits_value base word) else None

-- some digits, the first of them no zero unless it is the only one
abbrev pub leads : List ℕ → Bool
leads [] = false
leads (d ∷ []) = true
leads (d ∷ c ∷ ds) = not (d == 48)

abbrev pub at_most : ℕ → Option ℕ → Option ℕ
at_most most None = None
at_most most (Some n) = if nat_le n most then Some n else None

-- decimal, without a leading zero, and at most this great
abbrev pub number_of : ℕ → List ℕ → Option ℕ
number_of most word = if leads word then at_most most (digits_in 10 word) else None

-- three or four octal digits
abbrev pub mode_of : List ℕ → Option ℕ
mode_of word = if length word == 3 || length word == 4 then digits_in 8 word else None
