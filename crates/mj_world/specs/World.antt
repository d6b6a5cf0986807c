-- What holds of a world since the store's count of faults stood at some number.
use Rattle.std.specs.Prelude.{◌≡◌, ℕ, List, []}
use Rattle.mj_base.specs.Counts.{Rose}
use Rattle.mj_store.specs.Causes.{Listed, Counted}
use Rattle.mj_rank.specs.Since.{RankSince, MountSince}
use Rattle.mj_world.specs.declared.world.Phase.{Phase}
use Rattle.mj_world.specs.declared.world.Phase.TheVariants as phase
use Rattle.mj_world.specs.declared.world.World.{World}

-- a stopped store has reported everything
pub record StopSince (base faults : ℕ) (list : List Listed) : Type 0 where
  pub counted : Counted base faults list
  pub none : list ≡ []

abbrev pub PhaseSince : {S : Type 0} → (S → ℕ) → (S → List Listed) → ℕ → Phase S → Type 0
PhaseSince faults unreported base (phase.Stopped store) = StopSince base (faults store) (unreported store)
PhaseSince faults unreported base (phase.Mounting mounting) = MountSince faults unreported base mounting
PhaseSince faults unreported base (phase.Serving rank) = RankSince faults unreported base rank
PhaseSince faults unreported base phase.Gone = ⊥

abbrev pub WorldSince : {S : Type 0} → (S → ℕ) → (S → List Listed) → ℕ → World S → Type 0
WorldSince faults unreported base world = PhaseSince faults unreported base world.phase

-- the world's store has P
abbrev pub StoreHas : {S : Type 0} → (S → Type 0) → Phase S → Type 0
StoreHas P (phase.Stopped store) = P store
StoreHas P (phase.Mounting mounting) = P mounting.store
StoreHas P (phase.Serving rank) = P rank.store
StoreHas P phase.Gone = ⊥

-- its count of faults has risen
abbrev pub HasFailed : {S : Type 0} → (S → ℕ) → ℕ → World S → Type 0
HasFailed faults base world = StoreHas (λ store. Rose base (faults store)) world.phase

-- a rank serves
abbrev pub Serves : {S : Type 0} → Phase S → Type 0
Serves (phase.Serving rank) = Unit {0}
Serves _ = ⊥

abbrev pub IsServing : {S : Type 0} → World S → Type 0
IsServing world = Serves world.phase
