-- The least of the numbers so far and of those that are left.
use Rattle.std.proofs.Common.{◌≡◌, ℕ, ◌∷◌, List, [], min, Option, Some, None, refl, sym, ap, arith}
use Rattle.mj_recovery.specs.Damage.{or_less, least}

abbrev pub lesser : Option ℕ → Option ℕ → Option ℕ
lesser None rest = rest
lesser (Some n) rest = Some (or_less n rest)

pub lesser_none : (found : Option ℕ) → lesser found (least []) ≡ found
lesser_none None = refl
lesser_none (Some n) = refl

sooner : (n : ℕ) (found rest : Option ℕ) → lesser (Some (or_less n found)) rest ≡ lesser found (Some (or_less n rest))
sooner n None rest = refl
sooner n (Some f) None = let e : min n f ≡ min f n = omega arith in ap Some e
sooner n (Some f) (Some r) = let e : min (min n f) r ≡ min f (min n r) = omega arith in ap Some e

pub lesser_more : (n : ℕ) (found : Option ℕ) (ns : List ℕ) → lesser found (least (n ∷ ns)) ≡ lesser (Some (or_less n found)) (least ns)
lesser_more n found ns = sym (sooner n found (least ns))
