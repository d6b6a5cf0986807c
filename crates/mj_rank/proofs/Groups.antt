-- The groups of a rank's cells end where its journal has ended, also once some of them are safe.
use Rattle.std.proofs.Common.{◌≡◌, ℕ, ◌+◌, ◌≤◌, Bool, List, [], ◌∷◌, sym, subst, arith}
use Rattle.std.specs.Prelude.{filter}
use Rattle.std.proofs.lemmas.Bool.{cond_both}
use Rattle.mj_tables.specs.declared.group.Group.{Group}
use Rattle.mj_tables.specs.Layered.{EndBelow}
use Rattle.mj_cache.specs.Cached.{CacheValue, made_safe}
use Rattle.mj_journaler.specs.Journal.{Journal, end_of}

below_later : (a b : ℕ) (gs : List Group) → a ≤ b → EndBelow a gs → EndBelow b gs
below_later a b [] le h = tt
below_later a b (g ∷ gs) le h = (omega (arith, le, h.0), below_later a b gs le h.1)

below_some : (b : ℕ) (p : Group → Bool) (gs : List Group) → EndBelow b gs → EndBelow b (filter p gs)
below_some b p [] h = tt
below_some b p (g ∷ gs) h = cond_both (p g) (g ∷ filter p gs) (filter p gs) (λ xs. EndBelow b xs) (λ e. (h.0, below_some b p gs h.1)) (λ e. below_some b p gs h.1)

pub fewer_ended : (j k : Journal) (upto : ℕ) (old new : CacheValue) → end_of k ≡ end_of j → new ≡ made_safe upto old → EndBelow (end_of j + 1) old.groups → EndBelow (end_of k + 1) new.groups
fewer_ended j k upto old new e is h =
    subst (λ (c : CacheValue). EndBelow (end_of k + 1) c.groups) (sym is) (below_some (end_of k + 1) _ old.groups (below_later (end_of j + 1) (end_of k + 1) old.groups (omega (arith, e)) h))
