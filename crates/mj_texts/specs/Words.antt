-- The words of a line, and fields read from them.
use Rattle.std.specs.Prelude.{◌≡◌, ℕ, ◌==◌, List, [], ◌∷◌, Option, None, Some, MatchOption}
use Rattle.std.specs.Borrow.{Bor}
use Rattle.std.specs.List.{slice_split}

-- parted by one space each
abbrev pub words_of : List ℕ → List (List ℕ)
words_of line = slice_split (λ b. b == 32) line

-- the words of a line of which this is left, if anything is
abbrev pub words_left : Option (Bor (List ℕ)) → List (List ℕ)
words_left None = []
words_left (Some line) = words_of line.now

infixl 10 ◌>>=◌
abbrev pub ◌>>=◌ : {A B : Type 0} → Option A → (A → Option B) → Option B
None >>= f = None
(Some x) >>= f = f x

-- what a word stands for, and the words behind it
abbrev pub with_rest : {A : Type 0} → List (List ℕ) → Option A → Option (A × List (List ℕ))
with_rest words None = None
with_rest words (Some x) = Some (x, words)

abbrev pub field : {A : Type 0} → (List ℕ → Option A) → List (List ℕ) → Option (A × List (List ℕ))
field read [] = None
field read (word ∷ words) = with_rest words (read word)

-- where no word is left
abbrev pub last : {A : Type 0} → A → List (List ℕ) → Option A
last x [] = Some x
last x (word ∷ words) = None

-- This was read from these words, and those are left: nothing where they stand for nothing.
abbrev pub Reads : {A : Type 0} → (List (List ℕ) → Option (A × List (List ℕ))) → List (List ℕ) → Option A → List (List ℕ) → Type 0
Reads read words x left = MatchOption x (read words ≡ None) (λ v. read words ≡ Some (v, left))
