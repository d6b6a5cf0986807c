-- What a line of a script does to a world: step after step, each by what was answered before.
--     first_stage   how a line begins
--     next_step     the step that is to be made
--     stage_after   where its result leads
--     LineActs      these are all acts of the line, and it is told this
-- A line of one step is told what that step is. A mount begins, and is carried on until it is ready. Where it waits, the object of the
-- operation with the least number that is sent and not acknowledged is stepped; where it waits right after that, the line ends.
use Rattle.std.specs.Prelude.{◌≡◌, ℕ, List, [], ◌∷◌, Option, Some, None, Result, Ok, Err}
use Rattle.mj_base.specs.declared.object.ObjectName.{ObjectName}
use Rattle.mj_store.specs.Causes.{Listed}
use Rattle.mj_store.specs.State.{StoreState}
use Rattle.mj_texts.specs.declared.steps.MountStep.TheVariants as mount
use Rattle.mj_texts.specs.declared.steps.Said.{Said}
use Rattle.mj_texts.specs.declared.steps.Said.TheVariants as said
use Rattle.mj_texts.specs.declared.steps.Step.{Step}
use Rattle.mj_texts.specs.declared.steps.Step.TheVariants as step
use Rattle.mj_world.specs.declared.refusal.WorldRefusal.{WorldRefusal}
use Rattle.mj_world.specs.declared.world.Phase.{Phase}
use Rattle.mj_world.specs.declared.world.Phase.TheVariants as phase
use Rattle.mj_world.specs.declared.world.World.{World}
use Rattle.mj_world.specs.Made.{Made}
use Rattle.mj_world.specs.Oldest.{oldest_sent}
use Rattle.mj_texts.specs.declared.line.Line.{Line}
use Rattle.mj_texts.specs.declared.line.Line.TheVariants as line
use Rattle.mj_texts.specs.declared.answer.Answer.{Answer}
use Rattle.mj_texts.specs.declared.answer.Answer.TheVariants as answer
use Rattle.mj_app.specs.Told.{said_told, refusal_told}
use Rattle.mj_app.specs.Worlds.{Act}

-- ---- the stages of a line

pub data Stage : Type 0 where
  -- it is told this, or memory was wanted, or it is blank
  Ended : Option Answer → Stage
  -- its one step is to be made
  Single : Step → Stage
  -- a mount is to begin, or to go on from this tail
  Begins : Stage
  Carries : (tail : ℕ) → Stage
  -- it waits for this operation, whose object is to be stepped; and that was done
  Waits : (tail op : ℕ) → ObjectName → Stage
  Stepped : (tail op : ℕ) → Stage
  -- no world answers so
  Lost : Stage

-- the steps of a mount are no lines of their own
abbrev pub own_stage : Step → Stage
own_stage step.Begin = Stage.Lost
own_stage step.Carry = Stage.Lost
own_stage s = Stage.Single s

abbrev pub first_stage : Line → Stage
first_stage line.Blank = Stage.Ended None
first_stage (line.One s) = own_stage s
first_stage line.Mount = Stage.Begins

abbrev pub next_step : Stage → Option Step
next_step (Stage.Single s) = Some s
next_step Stage.Begins = Some step.Begin
next_step (Stage.Carries tail) = Some step.Carry
next_step (Stage.Waits tail op name) = Some (step.Apply name)
next_step (Stage.Stepped tail op) = Some step.Carry
next_step _ = None

abbrev pub is_told : Option Answer → Stage
is_told (Some a) = Stage.Ended (Some a)
is_told None = Stage.Lost

-- the rank that serves tells its epoch
abbrev pub ready : {S : Type 0} → ℕ → Phase S → Stage
ready tail (phase.Serving rank) = Stage.Ended (Some (answer.Mounted rank.epoch tail))
ready tail _ = Stage.Lost

abbrev pub waits_for : ℕ → Option (ℕ × ObjectName) → Stage
waits_for tail (Some sent) = Stage.Waits tail sent.0 sent.1
waits_for tail None = Stage.Lost

-- a mount was carried on; where it waits, it goes to that stage
abbrev pub carried : {S : Type 0} → Stage → ℕ → Said → Phase S → Stage
carried waiting tail (said.Carried mount.Ready) new = ready tail new
carried waiting tail (said.Carried (mount.Sent name)) new = Stage.Carries tail
carried waiting tail (said.Carried (mount.Reaped op)) new = Stage.Carries tail
carried waiting tail (said.Carried mount.Waiting) new = waiting
carried waiting tail _ new = Stage.Lost

abbrev pub said_leads : {S : Type 0} → Stage → Said → Phase S → Stage
said_leads (Stage.Single s) said new = is_told (said_told s said)
said_leads Stage.Begins (said.Begun tail) new = Stage.Carries tail
said_leads (Stage.Carries tail) said new = carried (waits_for tail (oldest_sent new)) tail said new
said_leads (Stage.Waits tail op name) (said.Applied tried) new = Stage.Stepped tail op
said_leads (Stage.Stepped tail op) said new = carried (Stage.Ended (Some (answer.WaitingFor op))) tail said new
said_leads _ _ new = Stage.Lost

-- a refusal ends the line
abbrev pub stage_after : {S : Type 0} → Stage → Result Said WorldRefusal → Phase S → Stage
stage_after stage (Ok said) new = said_leads stage said new
stage_after stage (Err e) new = Stage.Ended (refusal_told e)

-- what a line is told that came so far
abbrev pub told_if : Result Answer WorldRefusal → Option Answer
told_if (Ok a) = Some a
told_if (Err e) = refusal_told e

-- ---- its acts

abbrev pub stage_by : {S : Type 0} → Stage → List (Act S) → Stage
stage_by stage [] = stage
stage_by stage (a ∷ acts) = stage_by (stage_after stage a.result a.left.phase) acts

-- each is the step that is to be made
abbrev pub AreNext : {S : Type 0} → Stage → List (Act S) → Type 0
AreNext stage [] = Unit {0}
AreNext stage (a ∷ acts) = (next_step stage ≡ Some a.step) × AreNext (stage_after stage a.result a.left.phase) acts

pub record LineActs {S : Type 0} (line : Line) (acts : List (Act S)) (told : Option Answer) : Type 0 where
  pub steps : AreNext (first_stage line) acts
  pub ends : stage_by (first_stage line) acts ≡ Stage.Ended told

-- the object of the oldest operation that is sent was stepped
pub record StepsOldest {S : Type 0} (state : S → Option StoreState) (faults : S → ℕ) (unreported : S → List Listed) (op : ℕ) (old : World S) (result : Result Said WorldRefusal) (new : World S) : Type 0 where
  pub name : ObjectName
  pub oldest : oldest_sent old.phase ≡ Some (op, name)
  pub made : Made state faults unreported (step.Apply name) old result new
