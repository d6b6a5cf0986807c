-- The first of several that are there, or not.
use Rattle.std.proofs.Common.{◌≡◌, List, ◌∷◌, Option, Some, None, ap}
use Rattle.mj_recovery.specs.Damage.{first_some}

pub first_hits : {A : Type 0} (o : Option A) (os : List (Option A)) (x : A) → o ≡ Some x → first_some (o ∷ os) ≡ Some x
first_hits o os x e = ap (λ p. first_some (p ∷ os)) e

pub first_skips : {A : Type 0} (o : Option A) (os : List (Option A)) → o ≡ None → first_some (o ∷ os) ≡ first_some os
first_skips o os e = ap (λ p. first_some (p ∷ os)) e
