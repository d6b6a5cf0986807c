-- The acts of a line over a store that tells its state, and what the machine makes of them.
use Rattle.std.proofs.Common.{◌≡◌, ℕ, List, [], ◌∷◌, Option, Some, None, Result, Ok, Err, refl, sym, subst, ◌∙◌}
use Rattle.mj_base.specs.declared.object.ObjectName.{ObjectName}
use Rattle.mj_store.specs.Causes.{Listed}
use Rattle.mj_store.specs.State.{StoreState}
use Rattle.mj_machine.specs.Machine.{LogMachine, stopped}
use Rattle.mj_rank.specs.Live.{StopsSafely}
use Rattle.mj_texts.specs.declared.steps.MountStep.TheVariants as mount
use Rattle.mj_texts.specs.declared.steps.Said.{Said}
use Rattle.mj_texts.specs.declared.steps.Said.TheVariants as said
use Rattle.mj_texts.specs.declared.steps.Step.{Step}
use Rattle.mj_texts.specs.declared.steps.Step.TheVariants as step
use Rattle.mj_world.specs.declared.refusal.WorldRefusal.{WorldRefusal}
use Rattle.mj_world.specs.declared.world.Phase.{Phase}
use Rattle.mj_world.specs.declared.world.Phase.TheVariants as phase
use Rattle.mj_world.specs.declared.world.World.{World}
use Rattle.mj_world.specs.Live.{WorldLives, told, machine_after}
use Rattle.mj_world.specs.Made.{Made}
use Rattle.mj_world.specs.Oldest.{oldest_sent}
use Rattle.mj_world.specs.Phases.{phase_refusal, ByPhase, IsOfPhase}
use Rattle.mj_texts.specs.declared.line.Line.{Line}
use Rattle.mj_texts.specs.declared.line.Line.TheVariants as line
use Rattle.mj_texts.specs.declared.answer.Answer.{Answer}
use Rattle.mj_texts.specs.declared.answer.Answer.TheVariants as answer
use Rattle.mj_app.specs.Headline.{StopsIn, machine_by}
use Rattle.mj_app.specs.LineActs.{Stage, LineActs, AreNext, own_stage, next_step, stage_after, stage_by, is_told, carried, ready, waits_for}
use Rattle.mj_app.specs.Told.{said_told, refusal_told}
use Rattle.mj_app.specs.Worlds.{Act, Worlds, world_after}
use Rattle.mj_app.proofs.Fits.{Fits, IsMounting, LeavesMount}
use Rattle.mj_app.proofs.MadeFits.{made_fits}
use Rattle.mj_app.proofs.LineReads.{Reads, AtEnd, IsOwn, BeginsNone, refused_reads, refused_machine, answered_reads, mount_exact, mount_waits, unbegun_reads, begun_reads}

-- ---- a mount

-- How its line stands: for the machine before the line, and the one now.
abbrev AtMount : {S : Type 0} → LogMachine → Stage → LogMachine → Phase S → Type 0
AtMount m (Stage.Ended told) now p = Reads line.Mount m told now
AtMount m (Stage.Single s) now p = ⊥
AtMount m Stage.Begins now p = now ≡ m
AtMount m (Stage.Carries tail) now p = (now ≡ stopped m tail) × IsMounting p
AtMount m (Stage.Waits tail op name) now p = (now ≡ stopped m tail) × IsMounting p
AtMount m (Stage.Stepped tail op) now p = (now ≡ stopped m tail) × IsMounting p
AtMount m Stage.Lost now p = Unit {0}

at_ready : {S : Type 0} (m : LogMachine) (tail : ℕ) (p : Phase S) → AtMount m (ready tail p) (stopped m tail) p
at_ready m tail (phase.Stopped store) = tt
at_ready m tail (phase.Mounting x) = tt
at_ready m tail (phase.Serving rank) = mount_exact m rank.epoch tail
at_ready m tail phase.Gone = tt

at_waits : {S : Type 0} (m : LogMachine) (tail : ℕ) (sent : Option (ℕ × ObjectName)) (p : Phase S) → IsMounting p → AtMount m (waits_for tail sent) (stopped m tail) p
at_waits m tail (Some sent) p h = (refl, h)
at_waits m tail None p h = tt

at_carried : {S : Type 0} (m : LogMachine) (tail : ℕ) (waiting : Stage) (x : Said) (old new : Phase S) → (IsMounting new → AtMount m waiting (stopped m tail) new) → LeavesMount x old new → AtMount m (carried waiting tail x new) (stopped m tail) new
at_carried m tail waiting (said.Carried mount.Ready) old new f h = at_ready m tail new
at_carried m tail waiting (said.Carried (mount.Sent name)) old new f h = (refl, h)
at_carried m tail waiting (said.Carried (mount.Reaped op)) old new f h = (refl, h)
at_carried m tail waiting (said.Carried mount.Waiting) old new f h = f h
at_carried m tail waiting _ old new f h = tt

-- the phase of a mount refuses none of its steps
no_phase : {S : Type 0} (s : Step) (e : WorldRefusal) (p : Phase S) → BeginsNone s → IsMounting p → ByPhase (phase_refusal s p) (Err e) → IsOfPhase e → ⊥
no_phase step.Carry e (phase.Mounting x) go h by = by
no_phase (step.Apply name) e (phase.Mounting x) go h by = by
no_phase step.Carry e _ go h by = absurd h
no_phase (step.Apply name) e _ go h by = absurd h
no_phase _ e p go h by = absurd go

begins_on : {S : Type 0} (m : LogMachine) (result : Result Said WorldRefusal) (old new : Phase S) → Fits step.Begin old result new → AtMount m (stage_after Stage.Begins result new) (machine_after m step.Begin result) new
begins_on m (Ok (said.Begun tail)) old new fits = (refl, fits.mount)
begins_on m (Ok _) old new fits = tt
begins_on m (Err e) old new fits = unbegun_reads m e fits.refusal

carries_on : {S : Type 0} (m : LogMachine) (tail : ℕ) (result : Result Said WorldRefusal) (old new : Phase S) → IsMounting old → Fits step.Carry old result new → ByPhase (phase_refusal step.Carry old) result
    → AtMount m (stage_after (Stage.Carries tail) result new) (machine_after (stopped m tail) step.Carry result) new
carries_on m tail (Ok x) old new h fits by = at_carried m tail (waits_for tail (oldest_sent new)) x old new (at_waits m tail (oldest_sent new) new) fits.mount
carries_on m tail (Err e) old new h fits by = begun_reads step.Carry m tail e fits.refusal (no_phase step.Carry e old tt h by) tt

waits_on : {S : Type 0} (m : LogMachine) (tail op : ℕ) (name : ObjectName) (result : Result Said WorldRefusal) (old new : Phase S) → IsMounting old → Fits (step.Apply name) old result new → ByPhase (phase_refusal (step.Apply name) old) result
    → AtMount m (stage_after (Stage.Waits tail op name) result new) (machine_after (stopped m tail) (step.Apply name) result) new
waits_on m tail op name (Ok (said.Applied tried)) old new h fits by = (refl, fits.mount h)
waits_on m tail op name (Ok _) old new h fits by = tt
waits_on m tail op name (Err e) old new h fits by = begun_reads (step.Apply name) m tail e fits.refusal (no_phase (step.Apply name) e old tt h by) tt

stepped_on : {S : Type 0} (m : LogMachine) (tail op : ℕ) (result : Result Said WorldRefusal) (old new : Phase S) → IsMounting old → Fits step.Carry old result new → ByPhase (phase_refusal step.Carry old) result
    → AtMount m (stage_after (Stage.Stepped tail op) result new) (machine_after (stopped m tail) step.Carry result) new
stepped_on m tail op (Ok x) old new h fits by = at_carried m tail (Stage.Ended (Some (answer.WaitingFor op))) x old new (λ mounting. mount_waits m tail op) fits.mount
stepped_on m tail op (Err e) old new h fits by = begun_reads step.Carry m tail e fits.refusal (no_phase step.Carry e old tt h by) tt

-- what is to be shown of a step
abbrev GoesOn : {S : Type 0} → LogMachine → Stage → LogMachine → Step → Result Said WorldRefusal → Phase S → Phase S → Type 0
GoesOn m stage now s result old new = Fits s old result new → ByPhase (phase_refusal s old) result → AtMount m (stage_after stage result new) (machine_after now s result) new

mount_goes_on : {S : Type 0} (m : LogMachine) (stage : Stage) (now : LogMachine) (s : Step) (result : Result Said WorldRefusal) (old new : Phase S) → next_step stage ≡ Some s → AtMount m stage now old → GoesOn m stage now s result old new
mount_goes_on m (Stage.Ended told) now s result old new next at = absurd cc
mount_goes_on m (Stage.Single x) now s result old new next at = absurd at
mount_goes_on m Stage.Begins now s result old new next at =
    let is : step.Begin ≡ s = cc in
    subst (λ x. GoesOn m Stage.Begins now x result old new) is (subst (λ x. GoesOn m Stage.Begins x step.Begin result old new) (sym at) (λ fits by. begins_on m result old new fits))
mount_goes_on m (Stage.Carries tail) now s result old new next at =
    let is : step.Carry ≡ s = cc in
    subst (λ x. GoesOn m (Stage.Carries tail) now x result old new) is (subst (λ x. GoesOn m (Stage.Carries tail) x step.Carry result old new) (sym at.0) (carries_on m tail result old new at.1))
mount_goes_on m (Stage.Waits tail op name) now s result old new next at =
    let is : step.Apply name ≡ s = cc in
    subst (λ x. GoesOn m (Stage.Waits tail op name) now x result old new) is (subst (λ x. GoesOn m (Stage.Waits tail op name) x (step.Apply name) result old new) (sym at.0) (waits_on m tail op name result old new at.1))
mount_goes_on m (Stage.Stepped tail op) now s result old new next at =
    let is : step.Carry ≡ s = cc in
    subst (λ x. GoesOn m (Stage.Stepped tail op) now x result old new) is (subst (λ x. GoesOn m (Stage.Stepped tail op) x step.Carry result old new) (sym at.0) (stepped_on m tail op result old new at.1))
mount_goes_on m Stage.Lost now s result old new next at = absurd cc

-- nothing follows
abbrev IsOver : Stage → Type 0
IsOver (Stage.Ended told) = Unit {0}
IsOver Stage.Lost = Unit {0}
IsOver _ = ⊥

told_over : (told : Option Answer) → IsOver (is_told told)
told_over (Some a) = tt
told_over None = tt

single_over : {S : Type 0} (s : Step) (result : Result Said WorldRefusal) (p : Phase S) → IsOver (stage_after (Stage.Single s) result p)
single_over s (Ok x) p = told_over (said_told s x)
single_over s (Err e) p = tt

-- a line that is told this has come to its end
pub ended_is : (told other : Option Answer) → Stage.Ended told ≡ Stage.Ended other → told ≡ other
ended_is told other e = cc

module _ {S : Type 0} (state : S → Option StoreState) (faults : S → ℕ) (unreported : S → List Listed) where
  mount_reads : (m : LogMachine) (stage : Stage) (now : LogMachine) (old : World S) (acts : List (Act S)) (told : Option Answer) → AtMount m stage now old.phase → Worlds state faults unreported old acts → AreNext stage acts → stage_by stage acts ≡ Stage.Ended told → Reads line.Mount m told (machine_by now acts)
  mount_reads m stage now old [] told at worlds next ends = subst (λ x. AtMount m x now old.phase) ends at
  mount_reads m stage now old (a ∷ acts) told at worlds next ends =
      mount_reads m (stage_after stage a.result a.left.phase) (machine_after now a.step a.result) a.left acts told
      (mount_goes_on m stage now a.step a.result old.phase a.left.phase next.0 at (made_fits state faults unreported a.step old a.result a.left worlds.0) worlds.0.phase)
      worlds.1 next.1 ends

  -- ---- a line of one step

  single_at_end : (s : Step) (m : LogMachine) (old : World S) (a : Act S) → IsOwn s → a.step ≡ s → Made state faults unreported a.step old a.result a.left → WorldLives state old m → AtEnd (line.One s) m (stage_after (Stage.Single s) a.result a.left.phase) (machine_after m a.step a.result)
  single_at_end s m old a own is made lives =
      subst (λ (x : Step). Made state faults unreported x old a.result a.left → AtEnd (line.One s) m (stage_after (Stage.Single s) a.result a.left.phase) (machine_after m x a.result)) (sym is) (by a.result) made
    where
      by : (r : Result Said WorldRefusal) → Made state faults unreported s old r a.left → AtEnd (line.One s) m (stage_after (Stage.Single s) r a.left.phase) (machine_after m s r)
      by (Ok x) mk = answered_reads s m x own mk.answer (mk.replies m lives)
      by (Err e) mk = subst (λ x. Reads (line.One s) m (refusal_told e) x) (sym (refused_machine s m e)) (refused_reads s m e own (made_fits state faults unreported s old (Err e) a.left mk).refusal)

  -- behind a line's end no act is made
  ended_acts : (told other : Option Answer) (l : Line) (m now : LogMachine) (acts : List (Act S)) → AreNext (Stage.Ended told) acts → stage_by (Stage.Ended told) acts ≡ Stage.Ended other → Reads l m told now → Reads l m other (machine_by now acts)
  ended_acts told other l m now [] next ends reads = subst (λ t. Reads l m t now) (ended_is told other ends) reads
  ended_acts told other l m now (a ∷ acts) next ends reads = absurd (let no = next.0 in cc)

  over_acts : (l : Line) (m now : LogMachine) (stage : Stage) (told : Option Answer) (acts : List (Act S)) → IsOver stage → AtEnd l m stage now → AreNext stage acts → stage_by stage acts ≡ Stage.Ended told → Reads l m told (machine_by now acts)
  over_acts l m now (Stage.Ended other) told acts over at next ends = ended_acts other told l m now acts next ends at
  over_acts l m now Stage.Lost told [] over at next ends = absurd cc
  over_acts l m now Stage.Lost told (a ∷ acts) over at next ends = absurd (let no = next.0 in cc)
  over_acts l m now _ told acts over at next ends = absurd over

  single_reads : (s : Step) (m : LogMachine) (old : World S) (acts : List (Act S)) (told : Option Answer) → IsOwn s → Worlds state faults unreported old acts → AreNext (Stage.Single s) acts → stage_by (Stage.Single s) acts ≡ Stage.Ended told → WorldLives state old m → Reads (line.One s) m told (machine_by m acts)
  single_reads s m old [] told own worlds next ends lives = absurd cc
  single_reads s m old (a ∷ acts) told own worlds next ends lives =
      let is : a.step ≡ s = let e = next.0 in cc in
      over_acts (line.One s) m (machine_after m a.step a.result) (stage_after (Stage.Single s) a.result a.left.phase) told acts (single_over s a.result a.left.phase) (single_at_end s m old a own is worlds.0 lives) next.1 ends

  lost_reads : (l : Line) (m : LogMachine) (acts : List (Act S)) (told : Option Answer) → AreNext Stage.Lost acts → stage_by Stage.Lost acts ≡ Stage.Ended told → Reads l m told (machine_by m acts)
  lost_reads l m [] told next ends = absurd cc
  lost_reads l m (a ∷ acts) told next ends = absurd (let no = next.0 in cc)

  one_reads : (s : Step) (m : LogMachine) (old : World S) (acts : List (Act S)) (told : Option Answer) → Worlds state faults unreported old acts → AreNext (own_stage s) acts → stage_by (own_stage s) acts ≡ Stage.Ended told → WorldLives state old m → Reads (line.One s) m told (machine_by m acts)
  one_reads (step.Ask r) m old acts told worlds next ends lives = single_reads (step.Ask r) m old acts told tt worlds next ends lives
  one_reads step.Flush m old acts told worlds next ends lives = single_reads step.Flush m old acts told tt worlds next ends lives
  one_reads (step.Apply name) m old acts told worlds next ends lives = single_reads (step.Apply name) m old acts told tt worlds next ends lives
  one_reads step.Reap m old acts told worlds next ends lives = single_reads step.Reap m old acts told tt worlds next ends lives
  one_reads step.Begin m old acts told worlds next ends lives = lost_reads (line.One step.Begin) m acts told next ends
  one_reads step.Carry m old acts told worlds next ends lives = lost_reads (line.One step.Carry) m acts told next ends
  one_reads step.Restart m old acts told worlds next ends lives = single_reads step.Restart m old acts told tt worlds next ends lives
  one_reads step.Tree m old acts told worlds next ends lives = single_reads step.Tree m old acts told tt worlds next ends lives
  one_reads step.State m old acts told worlds next ends lives = single_reads step.State m old acts told tt worlds next ends lives

  -- ---- any line

  pub line_reads : (l : Line) (m : LogMachine) (old : World S) (acts : List (Act S)) (told : Option Answer) → Worlds state faults unreported old acts → LineActs l acts told → WorldLives state old m → Reads l m told (machine_by m acts)
  line_reads line.Blank m old acts told worlds w lives = ended_acts None told line.Blank m m acts w.steps w.ends (record { steps = []; comes = refl })
  line_reads (line.One s) m old acts told worlds w lives = one_reads s m old acts told worlds w.steps w.ends lives
  line_reads line.Mount m old acts told worlds w lives = mount_reads m Stage.Begins m old acts told refl worlds w.steps w.ends

  pub acts_number : (old : World S) (acts : List (Act S)) → Worlds state faults unreported old acts → (world_after old acts).number ≡ old.number
  acts_number old [] worlds = refl
  acts_number old (a ∷ acts) worlds = acts_number a.left acts worlds.1 ∙ worlds.0.number

  pub acts_live : (m : LogMachine) (old : World S) (acts : List (Act S)) → Worlds state faults unreported old acts → WorldLives state old m → WorldLives state (world_after old acts) (machine_by m acts)
  acts_live m old [] worlds lives = lives
  acts_live m old (a ∷ acts) worlds lives = acts_live (machine_after m a.step a.result) a.left acts worlds.1 (worlds.0.live m lives)

  pub acts_stop : (rank : ℕ) (m : LogMachine) (old : World S) (acts : List (Act S)) → Worlds state faults unreported old acts → old.number ≡ rank → WorldLives state old m → StopsIn state rank old m acts
  acts_stop rank m old [] worlds number lives = tt
  acts_stop rank m old (a ∷ acts) worlds number lives =
      (subst (λ n. StopsSafely n m (told state old) (told state a.left)) number (worlds.0.stops m lives), acts_stop rank (machine_after m a.step a.result) a.left acts worlds.1 (worlds.0.number ∙ number) (worlds.0.live m lives))
