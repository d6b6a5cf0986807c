-- Which steps need which phase of a world.
use Rattle.std.specs.Prelude.{◌≡◌, Option, None, Some, Result, Err, IfErr}
use Rattle.mj_texts.specs.declared.steps.Said.{Said}
use Rattle.mj_texts.specs.declared.steps.Step.{Step}
use Rattle.mj_texts.specs.declared.steps.Step.TheVariants as step
use Rattle.mj_world.specs.declared.refusal.WorldRefusal.{WorldRefusal}
use Rattle.mj_world.specs.declared.refusal.WorldRefusal.TheVariants.{Stopped, Mounted}
use Rattle.mj_world.specs.declared.world.Phase.{Phase}
use Rattle.mj_world.specs.declared.world.Phase.TheVariants as phase

-- a step of the rank needs one that serves
abbrev pub of_serving : {S : Type 0} → Phase S → Option WorldRefusal
of_serving (phase.Serving rank) = None
of_serving _ = Some Stopped

-- a mount begins over a stopped store
abbrev pub of_stopped : {S : Type 0} → Phase S → Option WorldRefusal
of_stopped (phase.Stopped store) = None
of_stopped _ = Some Mounted

-- a mount that has begun goes on
abbrev pub of_mounting : {S : Type 0} → Phase S → Option WorldRefusal
of_mounting (phase.Mounting mounting) = None
of_mounting (phase.Serving rank) = Some Mounted
of_mounting _ = Some Stopped

-- the store is there
abbrev pub of_any : {S : Type 0} → Phase S → Option WorldRefusal
of_any phase.Gone = Some Stopped
of_any _ = None

-- Why a step is refused in this phase. Between steps no world is gone.
abbrev pub phase_refusal : {S : Type 0} → Step → Phase S → Option WorldRefusal
phase_refusal (step.Ask r) phase = of_serving phase
phase_refusal step.Flush phase = of_serving phase
phase_refusal (step.Apply name) phase = of_any phase
phase_refusal step.Reap phase = of_serving phase
phase_refusal step.Begin phase = of_stopped phase
phase_refusal step.Carry phase = of_mounting phase
phase_refusal step.Restart phase = of_any phase
phase_refusal step.Tree phase = of_serving phase
phase_refusal step.State phase = of_serving phase

abbrev pub IsOfPhase : WorldRefusal → Type 0
IsOfPhase Stopped = Unit {0}
IsOfPhase Mounted = Unit {0}
IsOfPhase _ = ⊥

-- The phase refuses the step, and then that is the answer; or no answer is that it does.
abbrev pub ByPhase : Option WorldRefusal → Result Said WorldRefusal → Type 0
ByPhase (Some e) result = result ≡ Err e
ByPhase None result = IfErr result (λ e. IsOfPhase e → ⊥)
