-- What one step makes of a world: all that holds of it, as one relation between two worlds.
use Rattle.std.specs.Prelude.{◌≡◌, ℕ, List, Option, Result, IfOk, IfErr}
use Rattle.mj_store.specs.Causes.{Listed}
use Rattle.mj_store.specs.State.{StoreState}
use Rattle.mj_machine.specs.Machine.{LogMachine}
use Rattle.mj_rank.specs.Live.{StopsSafely}
use Rattle.mj_texts.specs.declared.steps.Said.{Said}
use Rattle.mj_texts.specs.declared.steps.Step.{Step}
use Rattle.mj_world.specs.declared.refusal.WorldRefusal.{WorldRefusal}
use Rattle.mj_world.specs.declared.world.World.{World}
use Rattle.mj_world.specs.World.{WorldSince, HasFailed}
use Rattle.mj_world.specs.Refusals.{IsFault}
use Rattle.mj_world.specs.Steps.{IsAnswerTo, Leaves}
use Rattle.mj_world.specs.Phases.{phase_refusal, ByPhase}
use Rattle.mj_world.specs.Tells.{Tells}
use Rattle.mj_world.specs.Live.{WorldLives, told, machine_after, Replies}

module _ {S : Type 0} (state : S → Option StoreState) (faults : S → ℕ) (unreported : S → List Listed) where
  -- The step led from the one world to the other and was answered so.
  pub record Made (step : Step) (old : World S) (result : Result Said WorldRefusal) (new : World S) : Type 0 where
    pub number : new.number ≡ old.number
    pub since : (base : ℕ) → WorldSince faults unreported base old → WorldSince faults unreported base new
    -- a fault is told only where the store's count rose
    pub cause : (base : ℕ) → WorldSince faults unreported base old → IfErr result (λ e. IsFault e → HasFailed faults base new)
    pub answer : IfOk result (IsAnswerTo step)
    pub leaves : (base : ℕ) → WorldSince faults unreported base old → IfOk result (λ said. Leaves said old new)
    pub phase : ByPhase (phase_refusal step old.phase) result
    -- what the call of the rank, of the mount or of the store did
    pub tells : Tells state old.number step old.phase result new.phase
    -- the machine goes on, and whatever a stop before or within the step may leave recovers to a front of its requests
    pub live : (m : LogMachine) → WorldLives state old m → WorldLives state new (machine_after m step result)
    pub stops : (m : LogMachine) → WorldLives state old m → StopsSafely old.number m (told state old) (told state new)
    pub replies : (m : LogMachine) → WorldLives state old m → Replies m step result
