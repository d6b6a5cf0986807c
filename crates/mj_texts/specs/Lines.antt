-- Lines, each ended by a line feed, by what reads one of them.
use Rattle.std.specs.Prelude.{ℕ, ◌+◌, ◌==◌, List, [], ◌∷◌, ◌++◌, Option, None, Some, Result, Ok, Err}
use Rattle.std.specs.List.{slice_split}

-- before the lines that follow, if none of these is outside the grammar
abbrev pub before : {A : Type 0} → List A → Result (List A) ℕ → Result (List A) ℕ
before lines (Ok more) = Ok (lines ++ more)
before lines (Err n) = Err n

-- the n-th line is the first outside the grammar, or it stands before the lines that follow
abbrev pub nth_line : {A : Type 0} → ℕ → Option A → Result (List A) ℕ → Result (List A) ℕ
nth_line n None more = Err n
nth_line n (Some line) more = before (line ∷ []) more

-- behind the last line feed nothing stands
abbrev pub ended : {A : Type 0} → ℕ → List ℕ → Result (List A) ℕ
ended n [] = Ok []
ended n (b ∷ text) = Err n

-- the lines of these texts, the first of which is the n-th, or the number of the first one outside the grammar
abbrev pub lines_from : {A : Type 0} → (List ℕ → Option A) → ℕ → List (List ℕ) → Result (List A) ℕ
lines_from read n [] = Ok []
lines_from read n (text ∷ []) = ended n text
lines_from read n (text ∷ next ∷ texts) = nth_line n (read text) (lines_from read (n + 1) (next ∷ texts))

abbrev pub lines_of : {A : Type 0} → (List ℕ → Option A) → List ℕ → Result (List A) ℕ
lines_of read bytes = lines_from read 1 (slice_split (λ b. b == 10) bytes)
