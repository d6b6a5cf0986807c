-- Over a store that tells its state no line is told that a mount waits.
use Rattle.std.proofs.Common.{◌≡◌, ℕ, List, [], ◌∷◌, Option, Some, None, Result, Ok, Err, refl, subst}
use Rattle.mj_base.specs.declared.object.ObjectName.{ObjectName}
use Rattle.mj_store.specs.Causes.{Listed}
use Rattle.mj_store.specs.State.{StoreState}
use Rattle.mj_machine.specs.Machine.{LogMachine}
use Rattle.mj_texts.specs.declared.steps.MountStep.TheVariants as mount
use Rattle.mj_rank.specs.declared.refusal.RankRefusal.TheVariants as rank_refusal
use Rattle.mj_rank.specs.declared.refusal.MountRefusal.TheVariants as mount_refusal
use Rattle.mj_texts.specs.declared.steps.Said.{Said}
use Rattle.mj_texts.specs.declared.steps.Said.TheVariants as said
use Rattle.mj_texts.specs.declared.steps.Step.{Step}
use Rattle.mj_texts.specs.declared.steps.Step.TheVariants as step
use Rattle.mj_world.specs.declared.refusal.WorldRefusal.{WorldRefusal}
use Rattle.mj_world.specs.declared.refusal.WorldRefusal.TheVariants as refusal
use Rattle.mj_world.specs.declared.world.Phase.{Phase}
use Rattle.mj_world.specs.declared.world.Phase.TheVariants as phase
use Rattle.mj_world.specs.declared.world.World.{World}
use Rattle.mj_world.specs.Live.{WorldLives, machine_after}
use Rattle.mj_world.specs.Made.{Made}
use Rattle.mj_world.specs.Oldest.{oldest_sent}
use Rattle.mj_world.proofs.Waits.{waits_once}
use Rattle.mj_texts.specs.declared.line.Line.{Line}
use Rattle.mj_texts.specs.declared.line.Line.TheVariants as line
use Rattle.mj_texts.specs.declared.answer.Answer.{Answer}
use Rattle.mj_texts.specs.declared.answer.Answer.TheVariants as answer
use Rattle.mj_app.specs.LineActs.{Stage, LineActs, AreNext, first_stage, next_step, stage_after, stage_by, is_told, carried, ready, waits_for}
use Rattle.mj_app.specs.Told.{said_told, refusal_told}
use Rattle.mj_app.specs.Worlds.{Act, Worlds}
use Rattle.mj_app.proofs.LineReads.{IsWaiting}

abbrev pub NotWaiting : Option Answer → Type 0
NotWaiting (Some a) = IsWaiting a → ⊥
NotWaiting None = Unit {0}

-- ---- other answers

refusal_waits : (e : WorldRefusal) → NotWaiting (refusal_told e)
refusal_waits refusal.Stopped = λ w. w
refusal_waits refusal.Mounted = λ w. w
refusal_waits (refusal.Rank (rank_refusal.Down fault sealed)) = λ w. w
refusal_waits (refusal.Rank (rank_refusal.MountSpent n sealed)) = λ w. w
refusal_waits (refusal.Rank (rank_refusal.LogFull n sealed)) = λ w. w
refusal_waits (refusal.Rank (rank_refusal.PositionSpent n sealed)) = λ w. w
refusal_waits (refusal.Rank rank_refusal.Memory) = tt
refusal_waits (refusal.Mount (mount_refusal.Damage d)) = λ w. w
refusal_waits (refusal.Mount (mount_refusal.Store fault)) = λ w. w
refusal_waits (refusal.Mount mount_refusal.Memory) = tt
refusal_waits (refusal.Store fault) = λ w. w
refusal_waits refusal.Memory = tt

module _ {S : Type 0} (state : S → Option StoreState) (faults : S → ℕ) (unreported : S → List Listed) where
  -- ---- the stages of a mount

  -- a mount waited, and this is the oldest operation that is sent
  record Waited (op : ℕ) (name : ObjectName) (now : World S) : Type 0 where
    before : World S
    machine : LogMachine
    lives : WorldLives state before machine
    made : Made state faults unreported step.Carry before (Ok (said.Carried mount.Waiting)) now
    oldest : oldest_sent now.phase ≡ Some (op, name)

  -- and then its object was stepped
  record Retried (now : World S) : Type 0 where
    op : ℕ
    name : ObjectName
    before : World S
    waited : Waited op name before
    answer : Said
    made : Made state faults unreported (step.Apply name) before (Ok answer) now

  abbrev Stands : Stage → World S → Type 0
  Stands (Stage.Ended told) now = NotWaiting told
  Stands (Stage.Waits tail op name) now = Waited op name now
  Stands (Stage.Stepped tail op) now = Retried now
  Stands _ now = Unit {0}

  said_stands : (s : Step) (x : Said) (now : World S) → Stands (is_told (said_told s x)) now
  said_stands s (said.Asked early) now = λ w. w
  said_stands s (said.Flushed span) now = λ w. w
  said_stands (step.Apply name) (said.Applied op) now = λ w. w
  said_stands (step.Ask r) (said.Applied op) now = tt
  said_stands step.Flush (said.Applied op) now = tt
  said_stands step.Reap (said.Applied op) now = tt
  said_stands step.Begin (said.Applied op) now = tt
  said_stands step.Carry (said.Applied op) now = tt
  said_stands step.Restart (said.Applied op) now = tt
  said_stands step.Tree (said.Applied op) now = tt
  said_stands step.State (said.Applied op) now = tt
  said_stands s (said.Reaped r) now = λ w. w
  said_stands s (said.Begun tail) now = tt
  said_stands s (said.Carried made) now = tt
  said_stands s said.Restarted now = λ w. w
  said_stands s (said.Tree text) now = λ w. w
  said_stands s (said.State text) now = λ w. w

  single_stands : (s : Step) (result : Result Said WorldRefusal) (now : World S) → Stands (stage_after (Stage.Single s) result now.phase) now
  single_stands s (Ok x) now = said_stands s x now
  single_stands s (Err e) now = refusal_waits e

  begins_stands : (result : Result Said WorldRefusal) (now : World S) → Stands (stage_after Stage.Begins result now.phase) now
  begins_stands (Ok (said.Begun tail)) now = tt
  begins_stands (Ok _) now = tt
  begins_stands (Err e) now = refusal_waits e

  ready_stands : (tail : ℕ) (p : Phase S) (now : World S) → Stands (ready tail p) now
  ready_stands tail (phase.Stopped store) now = tt
  ready_stands tail (phase.Mounting m) now = tt
  ready_stands tail (phase.Serving rank) now = λ w. w
  ready_stands tail phase.Gone now = tt

  carried_stands : (tail : ℕ) (waiting : Stage) (x : Said) (now : World S) → (x ≡ said.Carried mount.Waiting → Stands waiting now) → Stands (carried waiting tail x now.phase) now
  carried_stands tail waiting (said.Carried mount.Ready) now waits = ready_stands tail now.phase now
  carried_stands tail waiting (said.Carried (mount.Sent name)) now waits = tt
  carried_stands tail waiting (said.Carried (mount.Reaped op)) now waits = tt
  carried_stands tail waiting (said.Carried mount.Waiting) now waits = waits refl
  carried_stands tail waiting _ now waits = tt

  carries_stands : (tail : ℕ) (m : LogMachine) (result : Result Said WorldRefusal) (old now : World S) → WorldLives state old m → Made state faults unreported step.Carry old result now → Stands (stage_after (Stage.Carries tail) result now.phase) now
  carries_stands tail m (Ok x) old now lives made = carried_stands tail (waits_for tail (oldest_sent now.phase)) x now (λ is. by (subst (λ y. Made state faults unreported step.Carry old (Ok y) now) is made) (oldest_sent now.phase) refl)
    where
      by : Made state faults unreported step.Carry old (Ok (said.Carried mount.Waiting)) now → (sent : Option (ℕ × ObjectName)) → oldest_sent now.phase ≡ sent → Stands (waits_for tail sent) now
      by waited (Some sent) is = record { before = old; machine = m; lives = lives; made = waited; oldest = is }
      by waited None is = tt
  carries_stands tail m (Err e) old now lives made = refusal_waits e

  waits_stands : (tail op : ℕ) (name : ObjectName) (result : Result Said WorldRefusal) (old now : World S) → Waited op name old → Made state faults unreported (step.Apply name) old result now → Stands (stage_after (Stage.Waits tail op name) result now.phase) now
  waits_stands tail op name (Ok (said.Applied tried)) old now waited made = record { op = op; name = name; before = old; waited = waited; answer = said.Applied tried; made = made }
  waits_stands tail op name (Ok _) old now waited made = tt
  waits_stands tail op name (Err e) old now waited made = refusal_waits e

  stepped_stands : (tail op : ℕ) (result : Result Said WorldRefusal) (old now : World S) → Retried old → Made state faults unreported step.Carry old result now → Stands (stage_after (Stage.Stepped tail op) result now.phase) now
  stepped_stands tail op (Ok x) old now r made = carried_stands tail (Stage.Ended (Some (answer.WaitingFor op))) x now (λ is waiting.
      waits_once state faults unreported r.waited.before r.before old now (record {
        machine = r.waited.machine;
        lives = r.waited.lives;
        first = r.waited.made;
        op = r.op;
        name = r.name;
        oldest = r.waited.oldest;
        said = r.answer;
        apply = r.made;
        again = subst (λ y. Made state faults unreported step.Carry old (Ok y) now) is made;
      }))
  stepped_stands tail op (Err e) old now r made = refusal_waits e

  -- ---- acts

  abbrev GoesOn : Stage → Step → Result Said WorldRefusal → World S → World S → Type 0
  GoesOn stage s result old now = Made state faults unreported s old result now → Stands (stage_after stage result now.phase) now

  goes_on : (stage : Stage) (s : Step) (m : LogMachine) (result : Result Said WorldRefusal) (old now : World S) → next_step stage ≡ Some s → WorldLives state old m → Stands stage old → GoesOn stage s result old now
  goes_on (Stage.Ended told) s m result old now next lives stands = absurd cc
  goes_on (Stage.Single x) s m result old now next lives stands = λ made. single_stands x result now
  goes_on Stage.Begins s m result old now next lives stands = λ made. begins_stands result now
  goes_on (Stage.Carries tail) s m result old now next lives stands = let is : step.Carry ≡ s = cc in subst (λ x. GoesOn (Stage.Carries tail) x result old now) is (carries_stands tail m result old now lives)
  goes_on (Stage.Waits tail op name) s m result old now next lives stands = let is : step.Apply name ≡ s = cc in subst (λ x. GoesOn (Stage.Waits tail op name) x result old now) is (waits_stands tail op name result old now stands)
  goes_on (Stage.Stepped tail op) s m result old now next lives stands = let is : step.Carry ≡ s = cc in subst (λ x. GoesOn (Stage.Stepped tail op) x result old now) is (stepped_stands tail op result old now stands)
  goes_on Stage.Lost s m result old now next lives stands = absurd cc

  first_stands : (l : Line) (now : World S) → Stands (first_stage l) now
  first_stands line.Blank now = tt
  first_stands (line.One (step.Ask r)) now = tt
  first_stands (line.One step.Flush) now = tt
  first_stands (line.One (step.Apply name)) now = tt
  first_stands (line.One step.Reap) now = tt
  first_stands (line.One step.Begin) now = tt
  first_stands (line.One step.Carry) now = tt
  first_stands (line.One step.Restart) now = tt
  first_stands (line.One step.Tree) now = tt
  first_stands (line.One step.State) now = tt
  first_stands line.Mount now = tt

  acts_stand : (stage : Stage) (old : World S) (acts : List (Act S)) (m : LogMachine) (told : Option Answer) → Stands stage old → Worlds state faults unreported old acts → AreNext stage acts → stage_by stage acts ≡ Stage.Ended told → WorldLives state old m → NotWaiting told
  acts_stand stage old [] m told stands worlds next ends lives = subst (λ t. Stands t old) ends stands
  acts_stand stage old (a ∷ acts) m told stands worlds next ends lives =
      acts_stand (stage_after stage a.result a.left.phase) a.left acts (machine_after m a.step a.result) told
      (goes_on stage a.step m a.result old a.left next.0 lives stands worlds.0) worlds.1 next.1 ends (worlds.0.live m lives)

  pub line_never_waits : (l : Line) (old : World S) (acts : List (Act S)) (m : LogMachine) (told : Option Answer) → Worlds state faults unreported old acts → LineActs l acts told → WorldLives state old m → NotWaiting told
  line_never_waits l old acts m told worlds w lives = acts_stand (first_stage l) old acts m told (first_stands l old) worlds w.steps w.ends lives
