-- What holds of a world against a machine, and what a step makes of both.
--     WorldLives     the store, the mount or the rank of the world has its facts against the machine
--     machine_after  the machine after a step that was answered so
--     Replies        what the machine says is what was answered
use Rattle.std.specs.Prelude.{◌≡◌, ℕ, false, true, Option, None, Result, Ok}
use Rattle.mj_tree.specs.Listing.{listing}
use Rattle.mj_store.specs.State.{StoreState}
use Rattle.mj_machine.specs.Legal.{IsReplyTo}
use Rattle.mj_machine.specs.Machine.{LogMachine, early_state, stopped}
use Rattle.mj_rank.specs.Live.{RankLives, MountLives, StopLives, after_early, after_reap}
use Rattle.mj_texts.specs.declared.steps.Said.{Said}
use Rattle.mj_texts.specs.declared.steps.Said.TheVariants as said
use Rattle.mj_texts.specs.declared.steps.Step.{Step}
use Rattle.mj_texts.specs.declared.steps.Step.TheVariants as step
use Rattle.mj_world.specs.declared.refusal.WorldRefusal.{WorldRefusal}
use Rattle.mj_world.specs.declared.world.Phase.{Phase}
use Rattle.mj_world.specs.declared.world.Phase.TheVariants as phase
use Rattle.mj_world.specs.declared.world.World.{World}

abbrev pub PhaseLives : {S : Type 0} → (S → Option StoreState) → ℕ → LogMachine → Phase S → Type 0
PhaseLives state number m (phase.Stopped store) = StopLives state store number m
PhaseLives state number m (phase.Mounting mounting) = (mounting.number ≡ number) × MountLives state mounting m
PhaseLives state number m (phase.Serving rank) = (rank.number ≡ number) × RankLives state rank m
PhaseLives state number m phase.Gone = ⊥

abbrev pub WorldLives : {S : Type 0} → (S → Option StoreState) → World S → LogMachine → Type 0
WorldLives state world m = PhaseLives state world.number m world.phase

-- what the store of the world tells
abbrev pub told_in : {S : Type 0} → (S → Option StoreState) → Phase S → Option StoreState
told_in state (phase.Stopped store) = state store
told_in state (phase.Mounting mounting) = state mounting.store
told_in state (phase.Serving rank) = state rank.store
told_in state phase.Gone = None

abbrev pub told : {S : Type 0} → (S → Option StoreState) → World S → Option StoreState
told state world = told_in state world.phase

-- A request is accepted, an acknowledgement makes safe, and a mount that begins stops the machine at the tail that it found.
abbrev pub machine_after : LogMachine → Step → Result Said WorldRefusal → LogMachine
machine_after m (step.Ask r) (Ok (said.Asked early)) = after_early m r early
machine_after m step.Reap (Ok (said.Reaped reaped)) = after_reap m reaped
machine_after m step.Begin (Ok (said.Begun tail)) = stopped m tail
machine_after m s result = m

-- The reply is the machine's, and a request that changes its state has an end. The tree and the state are those of all requests that were kept.
abbrev pub Replies : LogMachine → Step → Result Said WorldRefusal → Type 0
Replies m (step.Ask r) (Ok (said.Asked early)) = IsReplyTo m r early
Replies m step.Tree (Ok (said.Tree text)) = text ≡ listing (early_state m) false
Replies m step.State (Ok (said.State text)) = text ≡ listing (early_state m) true
Replies m s result = Unit {0}
