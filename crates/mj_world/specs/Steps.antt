-- What a step is answered, and what it leaves of a mount.
use Rattle.std.specs.Prelude.{◌≡◌, ◌≤◌, ℕ}
use Rattle.mj_rank.specs.Mounts.{AwaitsSent}
use Rattle.mj_rank.specs.Since.{steps_left, Makes}
use Rattle.mj_texts.specs.declared.steps.MountStep.TheVariants.{Ready, Waiting}
use Rattle.mj_texts.specs.declared.steps.Said.{Said}
use Rattle.mj_texts.specs.declared.steps.Said.TheVariants as said
use Rattle.mj_texts.specs.declared.steps.Step.{Step}
use Rattle.mj_texts.specs.declared.steps.Step.TheVariants as step
use Rattle.mj_world.specs.declared.world.Phase.{Phase}
use Rattle.mj_world.specs.declared.world.Phase.TheVariants as phase
use Rattle.mj_world.specs.declared.world.World.{World}
use Rattle.mj_world.specs.World.{IsServing}

-- the answer is one to this step
abbrev pub IsAnswerTo : Step → Said → Type 0
IsAnswerTo (step.Ask r) (said.Asked early) = Unit {0}
IsAnswerTo step.Flush (said.Flushed span) = Unit {0}
IsAnswerTo (step.Apply name) (said.Applied op) = Unit {0}
IsAnswerTo step.Reap (said.Reaped reaped) = Unit {0}
IsAnswerTo step.Begin (said.Begun tail) = Unit {0}
IsAnswerTo step.Carry (said.Carried s) = Unit {0}
IsAnswerTo step.Restart said.Restarted = Unit {0}
IsAnswerTo step.Tree (said.Tree text) = Unit {0}
IsAnswerTo step.State (said.State text) = Unit {0}
IsAnswerTo s answer = ⊥

-- how many steps a mount has still to make at most
abbrev pub left_in : {S : Type 0} → Phase S → ℕ
left_in (phase.Mounting mounting) = steps_left mounting
left_in _ = 0

abbrev pub left : {S : Type 0} → World S → ℕ
left world = left_in world.phase

-- whether a mount has sent what is not acknowledged
abbrev pub AwaitsIn : {S : Type 0} → Phase S → Type 0
AwaitsIn (phase.Mounting mounting) = AwaitsSent mounting
AwaitsIn _ = ⊥

abbrev pub Awaits : {S : Type 0} → World S → Type 0
Awaits world = AwaitsIn world.phase

-- What an answer leaves of a mount: it goes on, by a header, a truncation or an acknowledgement, waits for what it has sent, or
-- serves.
abbrev pub Leaves : {S : Type 0} → Said → World S → World S → Type 0
Leaves (said.Carried Ready) old new = IsServing new
Leaves (said.Carried Waiting) old new = Awaits new × (left new ≤ left old)
Leaves (said.Carried s) old new = Makes s (left old) (left new)
Leaves (said.Applied op) old new = left new ≡ left old
Leaves _ old new = Unit {0}
