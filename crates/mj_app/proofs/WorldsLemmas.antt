-- Acts one after another, and the lines that they make.
use Rattle.std.proofs.Common.{◌≡◌, ◌⊎◌, inl, inr, ℕ, ◌≤◌, List, [], ◌∷◌, ◌++◌, Option, Some, None, Result, Ok, Err, IfOk, IfErr, OnErr, refl, sym, ap, subst, ◌∙◌}
use Rattle.mj_base.specs.Counts.{Rose}
use Rattle.mj_base.specs.declared.object.ObjectName.{ObjectName}
use Rattle.mj_store.specs.Causes.{Listed, Counted}
use Rattle.mj_store.specs.State.{StoreState}
use Rattle.mj_rank.specs.declared.refusal.RankRefusal.TheVariants as rank_refusal
use Rattle.mj_rank.specs.declared.refusal.MountRefusal.TheVariants as mount_refusal
use Rattle.mj_texts.specs.declared.steps.MountStep.TheVariants as mount
use Rattle.mj_texts.specs.declared.steps.Said.{Said}
use Rattle.mj_texts.specs.declared.steps.Said.TheVariants as said
use Rattle.mj_texts.specs.declared.steps.Step.{Step}
use Rattle.mj_texts.specs.declared.steps.Step.TheVariants as step
use Rattle.mj_world.specs.declared.refusal.WorldRefusal.{WorldRefusal}
use Rattle.mj_world.specs.declared.refusal.WorldRefusal.TheVariants as refusal
use Rattle.mj_world.specs.declared.world.Phase.{Phase}
use Rattle.mj_world.specs.declared.world.Phase.TheVariants as phase
use Rattle.mj_world.specs.declared.world.World.{World}
use Rattle.mj_world.specs.Made.{Made}
use Rattle.mj_world.specs.Oldest.{oldest_sent}
use Rattle.mj_world.specs.Refusals.{IsFault}
use Rattle.mj_world.specs.World.{WorldSince, PhaseSince, HasFailed, StoreHas}
use Rattle.mj_texts.specs.Line.{IsServed}
use Rattle.mj_texts.specs.declared.line.Line.{Line}
use Rattle.mj_texts.specs.declared.line.Line.TheVariants as line
use Rattle.mj_texts.specs.declared.answer.Answer.{Answer}
use Rattle.mj_texts.specs.declared.answer.Answer.TheVariants as answer
use Rattle.mj_app.specs.Told.{said_told, refusal_told}
use Rattle.mj_app.specs.Worlds.{Act, Worlds, Opens, world_after}
use Rattle.mj_app.specs.LineActs.{Stage, AreNext, own_stage, first_stage, next_step, stage_after, stage_by, said_leads, is_told, carried, ready, waits_for}
use Rattle.mj_app.specs.Run.{WorksTo, answer_in}

-- ---- the stages of a line

-- a step that the script may have is a line of its own
pub own_step : (s : Step) → IsServed (line.One s) → own_stage s ≡ Stage.Single s
own_step (step.Ask r) served = refl
own_step step.Flush served = refl
own_step (step.Apply name) served = refl
own_step step.Reap served = refl
own_step step.Begin served = absurd served
own_step step.Carry served = absurd served
own_step step.Restart served = refl
own_step step.Tree served = refl
own_step step.State served = refl

-- what a refusal is answered with
pub answered : {E : Type 0} (told : Option Answer) (r : Result Answer E) → IfOk r (λ a. told ≡ Some a) → OnErr r (told ≡ None) → told ≡ answer_in r
answered told (Ok a) is none = is
answered told (Err e) is none = none

-- ---- one act more

pub after_more : {S : Type 0} (old : World S) (acts : List (Act S)) (a : Act S) → world_after old (acts ++ a ∷ []) ≡ a.left
after_more old [] a = refl
after_more old (b ∷ acts) a = after_more b.left acts a

pub next_more : {S : Type 0} (stage : Stage) (acts : List (Act S)) (a : Act S) → AreNext stage acts → next_step (stage_by stage acts) ≡ Some a.step → AreNext stage (acts ++ a ∷ [])
next_more stage [] a next is = (is, tt)
next_more stage (b ∷ acts) a next is = (next.0, next_more (stage_after stage b.result b.left.phase) acts a next.1 is)

pub stage_more : {S : Type 0} (stage : Stage) (acts : List (Act S)) (a : Act S) → stage_by stage (acts ++ a ∷ []) ≡ stage_after (stage_by stage acts) a.result a.left.phase
stage_more stage [] a = refl
stage_more stage (b ∷ acts) a = stage_more (stage_after stage b.result b.left.phase) acts a

-- behind the end of a line nothing is done
pub none_behind : {S : Type 0} (told : Option Answer) (w : World S) (acts : List (Act S)) → AreNext (Stage.Ended told) acts → world_after w acts ≡ w
none_behind told w [] next = refl
none_behind told w (a ∷ acts) next = let no = next.0 in absurd cc

-- ---- faults

-- this is no end with a fault of the store
abbrev IsFine : Option Answer → Type 0
IsFine (Some (answer.StoreFault n)) = ⊥
IsFine _ = Unit {0}

abbrev Fine : Stage → Type 0
Fine (Stage.Ended told) = IsFine told
Fine _ = Unit {0}

said_fine : (s : Step) (x : Said) → Fine (is_told (said_told s x))
said_fine s (said.Asked early) = tt
said_fine s (said.Flushed span) = tt
said_fine (step.Ask r) (said.Applied op) = tt
said_fine step.Flush (said.Applied op) = tt
said_fine (step.Apply name) (said.Applied op) = tt
said_fine step.Reap (said.Applied op) = tt
said_fine step.Begin (said.Applied op) = tt
said_fine step.Carry (said.Applied op) = tt
said_fine step.Restart (said.Applied op) = tt
said_fine step.Tree (said.Applied op) = tt
said_fine step.State (said.Applied op) = tt
said_fine s (said.Reaped reaped) = tt
said_fine s (said.Begun tail) = tt
said_fine s (said.Carried made) = tt
said_fine s said.Restarted = tt
said_fine s (said.Tree text) = tt
said_fine s (said.State text) = tt

ready_fine : {S : Type 0} (tail : ℕ) (p : Phase S) → Fine (ready tail p)
ready_fine tail (phase.Stopped store) = tt
ready_fine tail (phase.Mounting m) = tt
ready_fine tail (phase.Serving rank) = tt
ready_fine tail phase.Gone = tt

carried_fine : {S : Type 0} (waiting : Stage) (tail : ℕ) (x : Said) (p : Phase S) → Fine waiting → Fine (carried waiting tail x p)
carried_fine waiting tail (said.Carried mount.Ready) p fine = ready_fine tail p
carried_fine waiting tail (said.Carried (mount.Sent name)) p fine = tt
carried_fine waiting tail (said.Carried (mount.Reaped op)) p fine = tt
carried_fine waiting tail (said.Carried mount.Waiting) p fine = fine
carried_fine waiting tail _ p fine = tt

leads_fine : {S : Type 0} (stage : Stage) (x : Said) (p : Phase S) → Fine (said_leads stage x p)
leads_fine (Stage.Ended told) x p = tt
leads_fine (Stage.Single s) x p = said_fine s x
leads_fine Stage.Begins (said.Begun tail) p = tt
leads_fine Stage.Begins _ p = tt
leads_fine (Stage.Carries tail) x p = carried_fine (waits_for tail (oldest_sent p)) tail x p (by (oldest_sent p))
  where
    by : (sent : Option (ℕ × ObjectName)) → Fine (waits_for tail sent)
    by (Some sent) = tt
    by None = tt
leads_fine (Stage.Waits tail op name) (said.Applied tried) p = tt
leads_fine (Stage.Waits tail op name) _ p = tt
leads_fine (Stage.Stepped tail op) x p = carried_fine (Stage.Ended (Some (answer.WaitingFor op))) tail x p tt
leads_fine Stage.Lost x p = tt

-- a result is that of a fault, and ends the line with it
record Fails {S : Type 0} (stage : Stage) (result : Result Said WorldRefusal) (p : Phase S) : Type 0 where
  why : WorldRefusal
  is : result ≡ Err why
  fault : IsFault why
  ends : stage_after stage result p ≡ Stage.Ended (refusal_told why)

fine_or_fault : {S : Type 0} (stage : Stage) (result : Result Said WorldRefusal) (p : Phase S) → Fine (stage_after stage result p) ⊎ Fails stage result p
fine_or_fault stage (Ok x) p = inl (leads_fine stage x p)
fine_or_fault stage (Err refusal.Stopped) p = inl tt
fine_or_fault stage (Err refusal.Mounted) p = inl tt
fine_or_fault stage (Err (refusal.Rank (rank_refusal.Down fault sealed))) p = inr (record { why = refusal.Rank (rank_refusal.Down fault sealed); is = refl; fault = tt; ends = refl })
fine_or_fault stage (Err (refusal.Rank (rank_refusal.MountSpent n sealed))) p = inl tt
fine_or_fault stage (Err (refusal.Rank (rank_refusal.LogFull n sealed))) p = inl tt
fine_or_fault stage (Err (refusal.Rank (rank_refusal.PositionSpent n sealed))) p = inl tt
fine_or_fault stage (Err (refusal.Rank rank_refusal.Memory)) p = inl tt
fine_or_fault stage (Err (refusal.Mount (mount_refusal.Damage d))) p = inl tt
fine_or_fault stage (Err (refusal.Mount (mount_refusal.Store fault))) p = inr (record { why = refusal.Mount (mount_refusal.Store fault); is = refl; fault = tt; ends = refl })
fine_or_fault stage (Err (refusal.Mount mount_refusal.Memory)) p = inl tt
fine_or_fault stage (Err (refusal.Store fault)) p = inr (record { why = refusal.Store fault; is = refl; fault = tt; ends = refl })
fine_or_fault stage (Err refusal.Memory) p = inl tt

first_fine : (l : Line) → Fine (first_stage l)
first_fine line.Blank = tt
first_fine (line.One (step.Ask r)) = tt
first_fine (line.One step.Flush) = tt
first_fine (line.One (step.Apply name)) = tt
first_fine (line.One step.Reap) = tt
first_fine (line.One step.Begin) = tt
first_fine (line.One step.Carry) = tt
first_fine (line.One step.Restart) = tt
first_fine (line.One step.Tree) = tt
first_fine (line.One step.State) = tt
first_fine line.Mount = tt

-- ---- worlds

-- a store that was just restarted has reported everything
pub opens_since : {S : Type 0} {rank : ℕ} (faults : S → ℕ) (unreported : S → List Listed) (store : S) (world : World S) → Opens rank store world → unreported store ≡ [] → (base : ℕ) → base ≤ faults store → WorldSince faults unreported base world
opens_since {S} {rank} faults unreported store world o none base le =
    let counted : Counted base (faults store) (unreported store) = subst (Counted base (faults store)) (sym none) (record { later = le; since = λ l there. absurd there }) in
    subst (PhaseSince faults unreported base) (sym o.phase) (record { counted = counted; none = none })

-- the store that a world holds has failed where the world has
pub failed_held : {S : Type 0} (faults : S → ℕ) (base : ℕ) (after : S) (p : Phase S) → StoreHas (λ store. Rose base (faults store)) p → StoreHas (λ held. held ≡ after) p → Rose base (faults after)
failed_held faults base after (phase.Stopped store) rose is = subst (λ s. Rose base (faults s)) is rose
failed_held faults base after (phase.Mounting m) rose is = subst (λ s. Rose base (faults s)) is rose
failed_held faults base after (phase.Serving rank) rose is = subst (λ s. Rose base (faults s)) is rose
failed_held faults base after phase.Gone rose is = absurd rose

module _ {S : Type 0} (state : S → Option StoreState) (faults : S → ℕ) (unreported : S → List Listed) where
  pub acts_more : (old : World S) (acts : List (Act S)) (a : Act S) → Worlds state faults unreported old acts → Made state faults unreported a.step (world_after old acts) a.result a.left → Worlds state faults unreported old (acts ++ a ∷ [])
  acts_more old [] a worlds made = (made, tt)
  acts_more old (b ∷ acts) a worlds made = (worlds.0, acts_more b.left acts a worlds.1 made)

  pub acts_since : (old : World S) (acts : List (Act S)) → Worlds state faults unreported old acts → (base : ℕ) → WorldSince faults unreported base old → WorldSince faults unreported base (world_after old acts)
  acts_since old [] worlds base h = h
  acts_since old (a ∷ acts) worlds base h = acts_since a.left acts worlds.1 base (worlds.0.since base h)

  pub works_since : {l : Line} {old new : World S} {told : Option Answer} → WorksTo state faults unreported l old told new → (base : ℕ) → WorldSince faults unreported base old → WorldSince faults unreported base new
  works_since {l} {old} w base h = subst (WorldSince faults unreported base) (sym w.last) (acts_since old w.acts w.worlds base h)

  -- what ends with a fault of the store has seen its count rise
  acts_failed : (stage : Stage) (old : World S) (acts : List (Act S)) (n : ℕ) → Fine stage → Worlds state faults unreported old acts → AreNext stage acts → stage_by stage acts ≡ Stage.Ended (Some (answer.StoreFault n)) → (base : ℕ) → WorldSince faults unreported base old → HasFailed faults base (world_after old acts)
  acts_failed stage old [] n fine worlds next ends base h = absurd (subst Fine ends fine)
  acts_failed stage old (a ∷ acts) n fine worlds next ends base h = elim (fine_or_fault stage a.result a.left.phase) [
    | inl goes_on ↦ acts_failed (stage_after stage a.result a.left.phase) a.left acts n goes_on worlds.1 next.1 ends base (worlds.0.since base h)
    | inr fails ↦
        let here : HasFailed faults base a.left = subst (λ r. IfErr r (λ e. IsFault e → HasFailed faults base a.left)) fails.is (worlds.0.cause base h) fails.fault in
        let same : world_after a.left acts ≡ a.left = none_behind (refusal_told fails.why) a.left acts (subst (λ t. AreNext t acts) fails.ends next.1) in
        subst (HasFailed faults base) (sym same) here
  ]

  pub works_failed : {l : Line} {old new : World S} (n : ℕ) → WorksTo state faults unreported l old (Some (answer.StoreFault n)) new → (base : ℕ) → WorldSince faults unreported base old → HasFailed faults base new
  works_failed {l} {old} n w base h = subst (HasFailed faults base) (sym w.last) (acts_failed (first_stage l) old w.acts n (first_fine l) w.worlds w.steps.steps w.steps.ends base h)

  -- ---- a line on its way

  -- these acts of a line came so far
  pub record SoFar (l : Line) (stage : Stage) (old new : World S) : Type 0 where
    pub acts : List (Act S)
    pub worlds : Worlds state faults unreported old acts
    pub steps : AreNext (first_stage l) acts
    pub comes : stage_by (first_stage l) acts ≡ stage
    pub last : new ≡ world_after old acts

  pub none_yet : (l : Line) (world : World S) → SoFar l (first_stage l) world world
  none_yet l world = record { acts = []; worlds = tt; steps = tt; comes = refl; last = refl }

  pub one_more : {l : Line} {stage : Stage} {old middle : World S} (s : Step) (result : Result Said WorldRefusal) (new : World S) → next_step stage ≡ Some s → Made state faults unreported s middle result new → SoFar l stage old middle → SoFar l (stage_after stage result new.phase) old new
  one_more {l} {stage} {old} {middle} s result new next made f =
      let a : Act S = record { step = s; result = result; left = new } in
      record {
        acts = f.acts ++ a ∷ [];
        worlds = acts_more old f.acts a f.worlds (subst (λ w. Made state faults unreported s w result new) f.last made);
        steps = next_more (first_stage l) f.acts a f.steps (ap next_step f.comes ∙ next);
        comes = stage_more (first_stage l) f.acts a ∙ ap (λ t. stage_after t result new.phase) f.comes;
        last = sym (after_more old f.acts a);
      }

  pub so_far_since : {l : Line} {stage : Stage} {old new : World S} → SoFar l stage old new → (base : ℕ) → WorldSince faults unreported base old → WorldSince faults unreported base new
  so_far_since {l} {stage} {old} f base h = subst (WorldSince faults unreported base) (sym f.last) (acts_since old f.acts f.worlds base h)

  -- it has come to its end
  pub at_end : {l : Line} {stage : Stage} {old new : World S} (told : Option Answer) → stage ≡ Stage.Ended told → SoFar l stage old new → WorksTo state faults unreported l old told new
  at_end told is f = record { acts = f.acts; worlds = f.worlds; steps = record { steps = f.steps; ends = f.comes ∙ is }; last = f.last }

  -- ---- a line of one step

  single_more : {old new : World S} (s : Step) (result : Result Said WorldRefusal) → IsServed (line.One s) → Made state faults unreported s old result new → SoFar (line.One s) (stage_after (Stage.Single s) result new.phase) old new
  single_more {old} {new} s result served made = one_more s result new refl made (subst (λ t. SoFar (line.One s) t old old) (own_step s served) (none_yet (line.One s) old))

  pub one_told : {old new : World S} (s : Step) (x : Said) (a : Answer) → IsServed (line.One s) → Made state faults unreported s old (Ok x) new → said_told s x ≡ Some a → WorksTo state faults unreported (line.One s) old (Some a) new
  one_told s x a served made is = at_end (Some a) (ap is_told is) (single_more s (Ok x) served made)

  pub one_refused : {old new : World S} (s : Step) (e : WorldRefusal) (told : Option Answer) → IsServed (line.One s) → Made state faults unreported s old (Err e) new → refusal_told e ≡ told → WorksTo state faults unreported (line.One s) old told new
  one_refused s e told served made is = at_end told (ap Stage.Ended is) (single_more s (Err e) served made)

  -- a blank line
  pub blank_works : (world : World S) → WorksTo state faults unreported line.Blank world None world
  blank_works world = at_end None refl (none_yet line.Blank world)
