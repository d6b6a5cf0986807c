-- One piece after another at the end of a list.
use Rattle.std.proofs.Common.{◌≡◌, ℕ, List, ◌++◌, ap, ◌∙◌, append_assoc}

-- a list that was this one before these were put behind it
pub record Appended (was front now : List ℕ) : Type 0 where
  pub is : now ≡ was ++ front

pub first_piece : {was now : List ℕ} (piece : List ℕ) → now ≡ was ++ piece → Appended was piece now
first_piece piece e = record { is = e }

-- one more piece behind those before
pub then_piece : {was front now next : List ℕ} → Appended was front now → (piece : List ℕ) → next ≡ now ++ piece → Appended was (front ++ piece) next
then_piece {was} {front} {now} {next} a piece more = record { is = more ∙ ap (λ (x : List ℕ). x ++ piece) a.is ∙ append_assoc was front piece }
