-- A line that was worked, read as a turn of the machine.
use Rattle.std.proofs.Common.{◌≡◌, ℕ, ◌++◌, Bool, true, false, List, [], ◌∷◌, Option, Some, None, Ok, Err, IsTrue, IsSome, unwrap_or, refl, sym, ap, subst}
use Rattle.std.specs.Prelude.{if◌then◌else◌}
use Rattle.mj_base.specs.declared.damage.Damage.{Damage}
use Rattle.mj_tree.specs.Answer.{changes}
use Rattle.mj_tree.specs.declared.request.ClientRequest.{ClientRequest}
use Rattle.mj_machine.specs.Machine as machine
use Rattle.mj_machine.specs.Machine.{LogMachine, early_state, stepped, stopped, accepted, run}
use Rattle.mj_machine.specs.Machine.Step.{Stop}
use Rattle.mj_machine.specs.Legal.{Turn, Agrees, IsReplyTo, accepting, step_of}
use Rattle.mj_rank.specs.Live.{after_early, after_reap}
use Rattle.mj_rank.specs.declared.refusal.RankRefusal.TheVariants as rank_refusal
use Rattle.mj_rank.specs.declared.refusal.MountRefusal.TheVariants as mount_refusal
use Rattle.mj_texts.specs.Answers.{is_answer}
use Rattle.mj_texts.specs.declared.answer.Answer.{Answer}
use Rattle.mj_texts.specs.declared.answer.Answer.TheVariants as answer
use Rattle.mj_texts.specs.declared.line.Line.{Line}
use Rattle.mj_texts.specs.declared.line.Line.TheVariants as line
use Rattle.mj_texts.specs.declared.steps.Early.{Early}
use Rattle.mj_texts.specs.declared.steps.Reaped.TheVariants as reaped
use Rattle.mj_texts.specs.declared.steps.Said.{Said}
use Rattle.mj_texts.specs.declared.steps.Said.TheVariants as said
use Rattle.mj_texts.specs.declared.steps.Step.{Step}
use Rattle.mj_texts.specs.declared.steps.Step.TheVariants as step
use Rattle.mj_world.specs.declared.refusal.WorldRefusal.{WorldRefusal}
use Rattle.mj_world.specs.declared.refusal.WorldRefusal.TheVariants as refusal
use Rattle.mj_world.specs.Live.{machine_after, Replies}
use Rattle.mj_world.specs.Phases.{IsOfPhase}
use Rattle.mj_world.specs.Steps.{IsAnswerTo}
use Rattle.mj_app.specs.Answers.{IsLast}
use Rattle.mj_app.specs.LineActs.{Stage, is_told}
use Rattle.mj_app.specs.Told.{said_told, refusal_told}
use Rattle.mj_app.proofs.Fits.{MayRefuse}

-- a step that is a line of its own
abbrev pub IsOwn : Step → Type 0
IsOwn step.Begin = ⊥
IsOwn step.Carry = ⊥
IsOwn _ = Unit {0}

-- the mount waits for what it has sent
abbrev pub IsWaiting : Answer → Type 0
IsWaiting (answer.WaitingFor op) = Unit {0}
IsWaiting _ = ⊥

-- What the machine makes of a turn. The text may not tell all its steps: where it ends the script, or waits.
pub record Turned (m : LogMachine) (x : Turn) (now : LogMachine) : Type 0 where
  pub fits : IsTrue (is_answer x.0 x.1)
  pub agrees : Agrees m x
  pub untold : List machine.Step
  pub comes : run (stepped m (step_of x)) untold ≡ now

-- so it is of a line that was told this
pub record Told (l : Line) (m : LogMachine) (a : Answer) (now : LogMachine) : Type 0 where
  pub turned : Turned m (l, Some a) now
  pub exact : (IsLast a → ⊥) → (IsWaiting a → ⊥) → stepped m (step_of (l, Some a)) ≡ now

-- the steps of the machine in a line, whatever is told
pub record Comes (m now : LogMachine) : Type 0 where
  pub steps : List machine.Step
  pub comes : run m steps ≡ now

abbrev pub Reads : Line → LogMachine → Option Answer → LogMachine → Type 0
Reads l m (Some a) now = Told l m a now
Reads l m None now = Comes m now

-- all its steps are told
told_exact : (l : Line) (m : LogMachine) (a : Answer) (now : LogMachine) → IsTrue (is_answer l (Some a)) → Agrees m (l, Some a) → stepped m (step_of (l, Some a)) ≡ now → Told l m a now
told_exact l m a now fits agrees e = record { turned = record { fits = fits; agrees = agrees; untold = []; comes = e }; exact = λ last waiting. e }

-- ---- refusals

pub refused_reads : (s : Step) (m : LogMachine) (e : WorldRefusal) → IsOwn s → MayRefuse s e → Reads (line.One s) m (refusal_told e) m
refused_reads s m refusal.Stopped own may = told_exact (line.One s) m answer.Stopped m refl tt refl
refused_reads s m refusal.Mounted own may = told_exact (line.One s) m answer.AlreadyMounted m refl tt refl
refused_reads s m (refusal.Rank (rank_refusal.Down fault sealed)) own may = told_exact (line.One s) m (answer.StoreFault fault.faults) m refl tt refl
refused_reads s m (refusal.Rank rank_refusal.Memory) own may = record { steps = []; comes = refl }
refused_reads s m (refusal.Store fault) own may = told_exact (line.One s) m (answer.StoreFault fault.faults) m refl tt refl
refused_reads s m refusal.Memory own may = record { steps = []; comes = refl }
refused_reads (step.Ask r) m (refusal.Rank (rank_refusal.MountSpent n sealed)) own may = told_exact (line.One (step.Ask r)) m (answer.MountSpent n) m refl tt refl
refused_reads (step.Ask r) m (refusal.Rank (rank_refusal.LogFull n sealed)) own may = told_exact (line.One (step.Ask r)) m (answer.LogFull n) m refl tt refl
refused_reads (step.Ask r) m (refusal.Rank (rank_refusal.PositionSpent n sealed)) own may = told_exact (line.One (step.Ask r)) m (answer.PositionSpent n) m refl tt refl
refused_reads (step.Ask r) m (refusal.Mount e) own may = absurd may
refused_reads step.Begin m (refusal.Mount e) own may = absurd own
refused_reads step.Carry m (refusal.Mount e) own may = absurd own
refused_reads step.Begin m (refusal.Rank e) own may = absurd own
refused_reads step.Carry m (refusal.Rank e) own may = absurd own
refused_reads _ m (refusal.Rank (rank_refusal.MountSpent n sealed)) own may = absurd may
refused_reads _ m (refusal.Rank (rank_refusal.LogFull n sealed)) own may = absurd may
refused_reads _ m (refusal.Rank (rank_refusal.PositionSpent n sealed)) own may = absurd may
refused_reads _ m (refusal.Mount e) own may = absurd may

pub refused_machine : (s : Step) (m : LogMachine) (e : WorldRefusal) → machine_after m s (Err e) ≡ m
refused_machine (step.Ask r) m e = refl
refused_machine step.Flush m e = refl
refused_machine (step.Apply name) m e = refl
refused_machine step.Reap m e = refl
refused_machine step.Begin m e = refl
refused_machine step.Carry m e = refl
refused_machine step.Restart m e = refl
refused_machine step.Tree m e = refl
refused_machine step.State m e = refl

-- ---- answers to one step

-- what changes nothing is not accepted, whatever its end
unchanged : (m : LogMachine) (r : ClientRequest) (ends : ℕ) → (IsTrue (changes (early_state m) r) → ⊥) → accepted m r ends ≡ m
unchanged m r ends same = by (changes (early_state m) r) same
  where
    by : (b : Bool) → (IsTrue b → ⊥) → (if b then record m { on_the_way = m.on_the_way ++ record { request = r; ends = ends } ∷ [] } else m) ≡ m
    by true none = absurd (none refl)
    by false none = refl

asked_machine : (m : LogMachine) (r : ClientRequest) (early : Early) (ends : Option ℕ) → early.ends_at ≡ ends → IsReplyTo m r early → stepped m (accepting (line.One (step.Ask r)) ends) ≡ after_early m r early
asked_machine m r early (Some e) is replies = ap (λ o. accepted m r (unwrap_or o 0)) (sym is)
asked_machine m r early None is replies = sym (unchanged m r (unwrap_or early.ends_at 0) (λ changes. nothing (subst (λ (o : Option ℕ). IsSome o) is (replies.1 changes))))
  where
    nothing : IsSome {T = ℕ} None → ⊥
    nothing e = absurd cc

-- what the machine makes of a line that has come to its end
abbrev pub AtEnd : Line → LogMachine → Stage → LogMachine → Type 0
AtEnd l m (Stage.Ended told) now = Reads l m told now
AtEnd l m _ now = Unit {0}

pub answered_reads : (s : Step) (m : LogMachine) (x : Said) → IsOwn s → IsAnswerTo s x → Replies m s (Ok x) → AtEnd (line.One s) m (is_told (said_told s x)) (machine_after m s (Ok x))
answered_reads (step.Ask r) m (said.Asked early) own answers replies = told_exact (line.One (step.Ask r)) m (answer.Asked early) (after_early m r early) refl replies (asked_machine m r early early.ends_at refl replies)
answered_reads step.Flush m (said.Flushed span) own answers replies = told_exact (line.One step.Flush) m (answer.Flushed span) m refl tt refl
answered_reads (step.Apply name) m (said.Applied op) own answers replies = told_exact (line.One (step.Apply name)) m (answer.Applied name op) m refl tt refl
answered_reads step.Reap m (said.Reaped (reaped.One op from to)) own answers replies = told_exact (line.One step.Reap) m (answer.Reaped (reaped.One op from to)) (after_reap m (reaped.One op from to)) refl tt refl
answered_reads step.Reap m (said.Reaped reaped.Nothing) own answers replies = told_exact (line.One step.Reap) m (answer.Reaped reaped.Nothing) m refl tt refl
answered_reads step.Restart m said.Restarted own answers replies = told_exact (line.One step.Restart) m answer.Restarted m refl tt refl
answered_reads step.Tree m (said.Tree text) own answers replies = told_exact (line.One step.Tree) m (answer.Tree text) m refl replies refl
answered_reads step.State m (said.State text) own answers replies = told_exact (line.One step.State) m (answer.State text) m refl replies refl
answered_reads step.Begin m x own answers replies = absurd own
answered_reads step.Carry m x own answers replies = absurd own
answered_reads _ m _ own answers replies = absurd answers

-- ---- the steps of a mount

-- a mount that has begun
pub mount_exact : (m : LogMachine) (epoch tail : ℕ) → Told line.Mount m (answer.Mounted epoch tail) (stopped m tail)
mount_exact m epoch tail = told_exact line.Mount m (answer.Mounted epoch tail) (stopped m tail) refl tt refl

pub mount_waits : (m : LogMachine) (tail op : ℕ) → Told line.Mount m (answer.WaitingFor op) (stopped m tail)
mount_waits m tail op = record { turned = record { fits = refl; agrees = tt; untold = Stop tail ∷ []; comes = refl }; exact = λ last waiting. absurd (waiting tt) }

-- before it has begun
pub unbegun_reads : (m : LogMachine) (e : WorldRefusal) → MayRefuse step.Begin e → Reads line.Mount m (refusal_told e) m
unbegun_reads m refusal.Stopped may = told_exact line.Mount m answer.Stopped m refl tt refl
unbegun_reads m refusal.Mounted may = told_exact line.Mount m answer.AlreadyMounted m refl tt refl
unbegun_reads m (refusal.Rank (rank_refusal.Down fault sealed)) may = told_exact line.Mount m (answer.StoreFault fault.faults) m refl tt refl
unbegun_reads m (refusal.Rank rank_refusal.Memory) may = record { steps = []; comes = refl }
unbegun_reads m (refusal.Rank _) may = absurd may
unbegun_reads m (refusal.Mount (mount_refusal.Damage d)) may = told_exact line.Mount m (answer.Damaged d) m refl tt refl
unbegun_reads m (refusal.Mount (mount_refusal.Store fault)) may = told_exact line.Mount m (answer.StoreFault fault.faults) m refl tt refl
unbegun_reads m (refusal.Mount mount_refusal.Memory) may = record { steps = []; comes = refl }
unbegun_reads m (refusal.Store fault) may = told_exact line.Mount m (answer.StoreFault fault.faults) m refl tt refl
unbegun_reads m refusal.Memory may = record { steps = []; comes = refl }

-- a step of a mount behind its beginning
abbrev pub BeginsNone : Step → Type 0
BeginsNone step.Carry = Unit {0}
BeginsNone (step.Apply name) = Unit {0}
BeginsNone _ = ⊥

-- a fault, or damage, ends the script behind the stop of the machine
fault_last : (m : LogMachine) (tail n : ℕ) → Told line.Mount m (answer.StoreFault n) (stopped m tail)
fault_last m tail n = record { turned = record { fits = refl; agrees = tt; untold = Stop tail ∷ []; comes = refl }; exact = λ last waiting. absurd (last tt) }

damage_last : (m : LogMachine) (tail : ℕ) (d : Damage) → Told line.Mount m (answer.Damaged d) (stopped m tail)
damage_last m tail d = record { turned = record { fits = refl; agrees = tt; untold = Stop tail ∷ []; comes = refl }; exact = λ last waiting. absurd (last tt) }

-- after that the phase does not refuse, and what is told ends the script
pub begun_reads : (s : Step) (m : LogMachine) (tail : ℕ) (e : WorldRefusal) → MayRefuse s e → (IsOfPhase e → ⊥) → BeginsNone s → Reads line.Mount m (refusal_told e) (stopped m tail)
begun_reads s m tail refusal.Stopped may free go = absurd (free tt)
begun_reads s m tail refusal.Mounted may free go = absurd (free tt)
begun_reads s m tail (refusal.Rank (rank_refusal.Down fault sealed)) may free go = fault_last m tail fault.faults
begun_reads s m tail (refusal.Rank rank_refusal.Memory) may free go = record { steps = Stop tail ∷ []; comes = refl }
begun_reads s m tail (refusal.Mount (mount_refusal.Damage d)) may free go = damage_last m tail d
begun_reads s m tail (refusal.Mount (mount_refusal.Store fault)) may free go = fault_last m tail fault.faults
begun_reads s m tail (refusal.Mount mount_refusal.Memory) may free go = record { steps = Stop tail ∷ []; comes = refl }
begun_reads s m tail (refusal.Store fault) may free go = fault_last m tail fault.faults
begun_reads s m tail refusal.Memory may free go = record { steps = Stop tail ∷ []; comes = refl }
begun_reads step.Carry m tail (refusal.Rank _) may free go = absurd may
begun_reads (step.Apply name) m tail (refusal.Rank _) may free go = absurd may
begun_reads _ m tail (refusal.Rank _) may free go = absurd go
