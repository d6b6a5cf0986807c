-- The numbers of the kept replies that pass a test, and the oldest number.
use Rattle.std.proofs.Common.{◌≡◌, ℕ, Bool, true, false, cond, List, [], ◌∷◌, map, filter, Option, Some, None, refl, sym, ap, ◌∙◌}
use Rattle.std.specs.Prelude.{unwrap_or}
use Rattle.mj_maps.specs.Map.{Map, entries, empty, retain, collect, picked, passed, with_some}
use Rattle.mj_maps.specs.Orders.{nat_cmp}
use Rattle.mj_tree.specs.State.{Session}
use Rattle.mj_tree.specs.Sessions.{oldest_of}
use Rattle.mj_delta.specs.Events.{tids}

entries-retain : (p : ℕ → ℕ → Bool) (m : Map nat_cmp ℕ) → entries (retain p m) ≡ picked (passed p) (entries m)
unfolding entries collect
entries-retain p m = refl

picked_tids : (p : ℕ → Bool) (es : List (ℕ × ℕ)) → map (λ (e : ℕ × ℕ). e.0) (picked (passed (λ tid _. p tid)) es) ≡ filter p (map (λ (e : ℕ × ℕ). e.0) es)
picked_tids p [] = refl
picked_tids p (e ∷ es) = elim (p e.0) as (λ b. map (λ (e : ℕ × ℕ). e.0) (with_some e.0 (cond b (Some e.1) None) (picked (passed (λ tid _. p tid)) es)) ≡ cond b (e.0 ∷ filter p (map (λ (e : ℕ × ℕ). e.0) es)) (filter p (map (λ (e : ℕ × ℕ). e.0) es))) [
  | true ↦ ap (λ xs. e.0 ∷ xs) (picked_tids p es)
  | false ↦ picked_tids p es
]

pub tids_pass : (p : ℕ → Bool) (m : Map nat_cmp ℕ) → tids (retain (λ tid _. p tid) m) ≡ filter p (tids m)
tids_pass p m = ap (map (λ (e : ℕ × ℕ). e.0)) (entries-retain (λ tid _. p tid) m) ∙ picked_tids p (entries m)

-- the oldest number of a client's session, 0 where it has none
pub own_oldest : (o : Option Session) → unwrap_or (oldest_of o) 0 ≡ (unwrap_or o (record { oldest = 0; kept = empty })).oldest
own_oldest None = refl
own_oldest (Some c) = refl

pub has_oldest : (o : Option Session) (n : ℕ) → oldest_of o ≡ Some n → n ≡ (unwrap_or o (record { oldest = 0; kept = empty })).oldest
has_oldest o n e = sym (ap (λ (x : Option ℕ). unwrap_or x 0) e) ∙ own_oldest o
