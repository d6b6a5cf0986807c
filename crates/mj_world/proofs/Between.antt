-- A relation of two phases, which are told by equations.
use Rattle.std.proofs.Common.{◌≡◌, ℕ, sym, subst}
use Rattle.mj_store.specs.State.{StoreState}
use Rattle.std.specs.Prelude.{Option}
use Rattle.mj_machine.specs.Machine.{LogMachine}
use Rattle.mj_rank.specs.Live.{StopsSafely}
use Rattle.mj_world.specs.declared.world.Phase.{Phase}
use Rattle.mj_world.specs.declared.world.World.{World}
use Rattle.mj_world.specs.Live.{PhaseLives, WorldLives, told_in, told}
use Rattle.mj_world.proofs.Stays.{stays_safe}

pub between : {S : Type 0} (T : Phase S → Phase S → Type 0) {old new a b : Phase S} → old ≡ a → new ≡ b → T a b → T old new
between T {new = new} {a = a} p q h = subst (λ x. T x new) (sym p) (subst (T a) (sym q) h)

-- ---- from the phase that a world was in

module _ {S : Type 0} (state : S → Option StoreState) (old : World S) (a : Phase S) (was : old.phase ≡ a) (m : LogMachine) where
  pub lives_from : {T : Type 0} → (PhaseLives state old.number m a → T) → WorldLives state old m → T
  lives_from keeps h = keeps (subst (PhaseLives state old.number m) was h)

  pub stops_from : (after : Option StoreState) → (PhaseLives state old.number m a → StopsSafely old.number m (told_in state a) after) → WorldLives state old m → StopsSafely old.number m (told state old) after
  stops_from after stops h = subst (λ x. StopsSafely old.number m (told_in state x) after) (sym was) (stops (subst (PhaseLives state old.number m) was h))

-- ---- to the phase that it is in

module _ {S : Type 0} (state : S → Option StoreState) (old new : World S) (a b : Phase S) (was : old.phase ≡ a) (is : new.phase ≡ b) (same : new.number ≡ old.number) where
  -- the machine goes on from the one phase to the other
  pub goes_on : (m n : LogMachine) → (PhaseLives state old.number m a → PhaseLives state old.number n b) → WorldLives state old m → WorldLives state new n
  goes_on m n keeps h =
      subst (PhaseLives state new.number n) (sym is)
      (subst (λ (x : ℕ). PhaseLives state x n b) (sym same) (keeps (subst (PhaseLives state old.number m) was h)))

  -- a stop within the step is as safe as between the phases
  pub stops_in : (m : LogMachine) → (PhaseLives state old.number m a → StopsSafely old.number m (told_in state a) (told_in state b)) → WorldLives state old m → StopsSafely old.number m (told state old) (told state new)
  stops_in m stops h = between (λ x y. StopsSafely old.number m (told_in state x) (told_in state y)) was is (stops (subst (PhaseLives state old.number m) was h))

-- it is in the same
pub stops_same : {S : Type 0} (state : S → Option StoreState) (old new : World S) → new.phase ≡ old.phase → (m : LogMachine) → WorldLives state old m → StopsSafely old.number m (told state old) (told state new)
stops_same state old new same m h = subst (λ x. StopsSafely old.number m (told state old) (told_in state x)) (sym same) (stays_safe state old.number m old.phase h)
