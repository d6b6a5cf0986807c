-- Lines one after another.
use Rattle.std.proofs.Common.{◌≡◌, ℕ, ◌+◌, ◌==◌, true, false, List, [], ◌∷◌, ◌++◌, length, Option, Some, None, Result, Ok, Err, refl, sym, ap, ◌∙◌, arith, append_assoc, append-nil}
use Rattle.std.specs.List.{slice_split}
use Rattle.std.proofs.lemmas.Bool.{eqb-true}
use Rattle.mj_texts.proofs.SplitLemmas.{slice_split_some}
use Rattle.mj_texts.specs.Lines.{before, nth_line, lines_from, ended}

before_before : {A : Type 0} (xs ys : List A) (more : Result (List A) ℕ) → before xs (before ys more) ≡ before (xs ++ ys) more
before_before xs ys (Ok zs) = ap Ok (sym (append_assoc xs ys zs))
before_before xs ys (Err n) = refl

ended_well : {A : Type 0} (n : ℕ) (text : List ℕ) → (length text == 0) ≡ true → ended {A = A} n text ≡ Ok []
ended_well n [] e = refl
ended_well n (b ∷ text) e = absurd (omega (arith, eqb-true _ _ e))

ended_badly : {A : Type 0} (n : ℕ) (text : List ℕ) → (length text == 0) ≡ false → ended {A = A} n text ≡ Err n
ended_badly n [] e = absurd cc
ended_badly n (b ∷ text) e = refl

module _ {A : Type 0} (read : List ℕ → Option A) where
  -- a text behind which a line feed stands
  next_line : (n : ℕ) (text : List ℕ) (texts : List (List ℕ)) → (texts ≡ [] → ⊥) → lines_from read n (text ∷ texts) ≡ nth_line n (read text) (lines_from read (n + 1) texts)
  next_line n text [] some = absurd (some refl)
  next_line n text (p ∷ texts) some = refl

  -- Of the lines so far: the first have been read, and the n-th begins the rest.
  module _ (all : Result (List A) ℕ) (lines : List A) (n : ℕ) (rest : List ℕ) (so_far : all ≡ before lines (lines_from read n (slice_split (λ b. b == 10) rest))) where
    pub all_read : slice_split (λ b. b == 10) rest ≡ rest ∷ [] → (length rest == 0) ≡ true → all ≡ Ok lines
    all_read e empty = so_far ∙ ap (λ x. before lines (lines_from read n x)) e ∙ ap (before lines) (ended_well n rest empty) ∙ ap Ok (append-nil lines)

    pub not_ended : slice_split (λ b. b == 10) rest ≡ rest ∷ [] → (length rest == 0) ≡ false → all ≡ Err n
    not_ended e some = so_far ∙ ap (λ x. before lines (lines_from read n x)) e ∙ ap (before lines) (ended_badly n rest some)

    module _ (text after : List ℕ) (cut : slice_split (λ b. b == 10) rest ≡ text ∷ slice_split (λ b. b == 10) after) where
      one_read : all ≡ before lines (nth_line n (read text) (lines_from read (n + 1) (slice_split (λ b. b == 10) after)))
      one_read = so_far ∙ ap (λ x. before lines (lines_from read n x)) cut ∙ ap (before lines) (next_line n text _ (slice_split_some (λ b. b == 10) after))

      pub one_outside : read text ≡ None → all ≡ Err n
      one_outside e = one_read ∙ ap (λ x. before lines (nth_line n x (lines_from read (n + 1) (slice_split (λ b. b == 10) after)))) e

      pub one_more : (line : A) → read text ≡ Some line → all ≡ before (lines ++ line ∷ []) (lines_from read (n + 1) (slice_split (λ b. b == 10) after))
      one_more line e = one_read ∙ ap (λ x. before lines (nth_line n x (lines_from read (n + 1) (slice_split (λ b. b == 10) after)))) e ∙ before_before lines (line ∷ []) _
