-- One list of worlds, each of which comes from the one before by one step.
--     Act         a step, its result, and the world that it left
--     Worlds      each act was made in the world that the one before left
--     IsRestarted, Opens   the first world stands over the store that was handed in, restarted
--     HoldsStore  the last world holds the store that is handed back
use Rattle.std.specs.Prelude.{◌≡◌, ◌≤◌, ℕ, List, [], ◌∷◌, Option, Result}
use Rattle.mj_store.specs.Causes.{Listed}
use Rattle.mj_store.specs.Moves.{Restarts}
use Rattle.mj_store.specs.State.{StoreState}
use Rattle.mj_texts.specs.declared.steps.Said.{Said}
use Rattle.mj_texts.specs.declared.steps.Step.{Step}
use Rattle.mj_world.specs.declared.refusal.WorldRefusal.{WorldRefusal}
use Rattle.mj_world.specs.declared.world.Phase.TheVariants.{Stopped}
use Rattle.mj_world.specs.declared.world.World.{World}
use Rattle.mj_world.specs.Made.{Made}
use Rattle.mj_world.specs.World.{StoreHas}

pub record Act (S : Type 0) : Type 0 where
  pub step : Step
  pub result : Result Said WorldRefusal
  pub left : World S

-- the world after these acts
abbrev pub world_after : {S : Type 0} → World S → List (Act S) → World S
world_after old [] = old
world_after old (a ∷ acts) = world_after a.left acts

-- a stopped world of this rank over this store
pub record Opens {S : Type 0} (rank : ℕ) (store : S) (world : World S) : Type 0 where
  pub phase : world.phase ≡ Stopped store
  pub number : world.number ≡ rank

abbrev pub HoldsStore : {S : Type 0} → World S → S → Type 0
HoldsStore world store = StoreHas (λ held. held ≡ store) world.phase

-- The first world stands over this store, and the last holds what is handed back.
pub record Over {S : Type 0} (rank : ℕ) (store after : S) (P : World S → World S → Type 0) : Type 0 where
  pub first : World S
  pub last : World S
  pub opens : Opens rank store first
  pub says : P first last
  pub holds : HoldsStore last after

module _ {S : Type 0} (state : S → Option StoreState) (faults : S → ℕ) (unreported : S → List Listed) where
  abbrev pub Worlds : World S → List (Act S) → Type 0
  Worlds old [] = Unit {0}
  Worlds old (a ∷ acts) = Made state faults unreported a.step old a.result a.left × Worlds a.left acts

  -- the store that was handed in, restarted
  pub record IsRestarted (before now : S) : Type 0 where
    pub told : Restarts (state before) (state now)
    pub none : unreported now ≡ []
    pub later : faults before ≤ faults now
