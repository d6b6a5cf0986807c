-- Pieces that a sink takes one after another.
use Rattle.std.proofs.Common.{◌≡◌, ℕ, ◌+◌, List, ◌++◌, take, drop, Option, Some, None, refl, sym, ◌∙◌, ap, append_assoc}
use Rattle.std.proofs.Math.Seq.{take-add}
use Rattle.mj_base.specs.Sink.{then_taken}

-- a front, and then some of what is left
pub then_taken-front : (at n : ℕ) (bytes : List ℕ) (told : Option (List ℕ)) → then_taken (take n (drop at bytes)) (then_taken (take at bytes) told) ≡ then_taken (take (at + n) bytes) told
then_taken-front at n bytes None = refl
then_taken-front at n bytes (Some before) = ap Some (append_assoc before (take at bytes) (take n (drop at bytes)) ∙ ap (λ xs. before ++ xs) (sym (take-add at n bytes)))
