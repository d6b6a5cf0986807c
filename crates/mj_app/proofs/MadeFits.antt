-- What the reading of a script takes of a step, from all that the step says.
use Rattle.std.proofs.Common.{ℕ, List, Option, Result, Ok, Err, IfOk}
use Rattle.mj_base.specs.declared.object.ObjectName.{ObjectName}
use Rattle.mj_store.specs.Causes.{Listed}
use Rattle.mj_store.specs.State.{StoreState}
use Rattle.mj_tree.specs.declared.request.ClientRequest.{ClientRequest}
use Rattle.mj_rank.specs.Refusals.{IsDownFor}
use Rattle.mj_rank.specs.declared.refusal.Fault.{Fault}
use Rattle.mj_texts.specs.declared.steps.MountStep.{MountStep}
use Rattle.mj_texts.specs.declared.steps.MountStep.TheVariants as mount
use Rattle.mj_rank.specs.declared.refusal.RankRefusal.{RankRefusal}
use Rattle.mj_rank.specs.declared.refusal.RankRefusal.TheVariants as rank_refusal
use Rattle.mj_texts.specs.declared.steps.Said.{Said}
use Rattle.mj_texts.specs.declared.steps.Said.TheVariants as said
use Rattle.mj_texts.specs.declared.steps.Step.{Step}
use Rattle.mj_texts.specs.declared.steps.Step.TheVariants as step
use Rattle.mj_world.specs.declared.refusal.WorldRefusal.{WorldRefusal}
use Rattle.mj_world.specs.declared.refusal.WorldRefusal.TheVariants as refusal
use Rattle.mj_world.specs.declared.world.Phase.{Phase}
use Rattle.mj_world.specs.declared.world.Phase.TheVariants as phase
use Rattle.mj_world.specs.declared.world.World.{World}
use Rattle.mj_world.specs.Made.{Made}
use Rattle.mj_world.specs.Phases.{phase_refusal, ByPhase}
use Rattle.mj_world.specs.Steps.{IsAnswerTo}
use Rattle.mj_world.specs.Tells.{Tells}
use Rattle.mj_app.proofs.Fits.{Fits, IsMounting, IsDownOrMemory, LeavesMount, MayRefuse}

down_for : (kept : Option Fault) (e : RankRefusal) → IsDownFor kept e → IsDownOrMemory e
down_for kept (rank_refusal.Down fault sealed) h = tt
down_for kept rank_refusal.Memory h = tt
down_for kept _ h = absurd h

module _ {S : Type 0} (state : S → Option StoreState) (number : ℕ) where
  -- ---- refusals

  ask_refuses : (r : ClientRequest) (e : WorldRefusal) (old new : Phase S) → Tells state number (step.Ask r) old (Err e) new → ByPhase (phase_refusal (step.Ask r) old) (Err e) → MayRefuse (step.Ask r) e
  ask_refuses r (refusal.Mount x) (phase.Serving old) (phase.Serving new) tells by = absurd tells
  ask_refuses r (refusal.Mount x) (phase.Serving old) _ tells by = absurd tells
  ask_refuses r (refusal.Mount x) _ new tells by = absurd cc
  ask_refuses r _ old new tells by = tt

  flush_refuses : (e : WorldRefusal) (old new : Phase S) → Tells state number step.Flush old (Err e) new → ByPhase (phase_refusal step.Flush old) (Err e) → MayRefuse step.Flush e
  flush_refuses (refusal.Rank x) (phase.Serving old) (phase.Serving new) tells by = down_for new.fault x tells.0
  flush_refuses (refusal.Rank x) (phase.Serving old) _ tells by = absurd tells
  flush_refuses (refusal.Rank x) _ new tells by = absurd cc
  flush_refuses (refusal.Mount x) (phase.Serving old) (phase.Serving new) tells by = absurd tells
  flush_refuses (refusal.Mount x) (phase.Serving old) _ tells by = absurd tells
  flush_refuses (refusal.Mount x) _ new tells by = absurd cc
  flush_refuses _ old new tells by = tt

  reap_refuses : (e : WorldRefusal) (old new : Phase S) → Tells state number step.Reap old (Err e) new → ByPhase (phase_refusal step.Reap old) (Err e) → MayRefuse step.Reap e
  reap_refuses (refusal.Rank x) (phase.Serving old) (phase.Serving new) tells by = down_for new.fault x tells.0
  reap_refuses (refusal.Rank x) (phase.Serving old) _ tells by = absurd tells
  reap_refuses (refusal.Rank x) _ new tells by = absurd cc
  reap_refuses (refusal.Mount x) (phase.Serving old) (phase.Serving new) tells by = absurd tells
  reap_refuses (refusal.Mount x) (phase.Serving old) _ tells by = absurd tells
  reap_refuses (refusal.Mount x) _ new tells by = absurd cc
  reap_refuses _ old new tells by = tt

  tree_refuses : (e : WorldRefusal) (old new : Phase S) → Tells state number step.Tree old (Err e) new → ByPhase (phase_refusal step.Tree old) (Err e) → MayRefuse step.Tree e
  tree_refuses (refusal.Rank x) (phase.Serving old) (phase.Serving new) tells by = absurd tells
  tree_refuses (refusal.Rank x) (phase.Serving old) _ tells by = absurd tells
  tree_refuses (refusal.Rank x) _ new tells by = absurd cc
  tree_refuses (refusal.Mount x) (phase.Serving old) (phase.Serving new) tells by = absurd tells
  tree_refuses (refusal.Mount x) (phase.Serving old) _ tells by = absurd tells
  tree_refuses (refusal.Mount x) _ new tells by = absurd cc
  tree_refuses _ old new tells by = tt

  state_refuses : (e : WorldRefusal) (old new : Phase S) → Tells state number step.State old (Err e) new → ByPhase (phase_refusal step.State old) (Err e) → MayRefuse step.State e
  state_refuses (refusal.Rank x) (phase.Serving old) (phase.Serving new) tells by = absurd tells
  state_refuses (refusal.Rank x) (phase.Serving old) _ tells by = absurd tells
  state_refuses (refusal.Rank x) _ new tells by = absurd cc
  state_refuses (refusal.Mount x) (phase.Serving old) (phase.Serving new) tells by = absurd tells
  state_refuses (refusal.Mount x) (phase.Serving old) _ tells by = absurd tells
  state_refuses (refusal.Mount x) _ new tells by = absurd cc
  state_refuses _ old new tells by = tt

  begin_refuses : (e : WorldRefusal) (old new : Phase S) → Tells state number step.Begin old (Err e) new → ByPhase (phase_refusal step.Begin old) (Err e) → MayRefuse step.Begin e
  begin_refuses (refusal.Rank x) (phase.Stopped old) (phase.Stopped new) tells by = absurd tells
  begin_refuses (refusal.Rank x) (phase.Stopped old) _ tells by = absurd tells
  begin_refuses (refusal.Rank x) _ new tells by = absurd cc
  begin_refuses _ old new tells by = tt

  carry_refuses : (e : WorldRefusal) (old new : Phase S) → Tells state number step.Carry old (Err e) new → ByPhase (phase_refusal step.Carry old) (Err e) → MayRefuse step.Carry e
  carry_refuses (refusal.Rank x) (phase.Mounting old) new tells by = absurd tells
  carry_refuses (refusal.Rank x) _ new tells by = absurd cc
  carry_refuses _ old new tells by = tt

  apply_refuses : (name : ObjectName) (e : WorldRefusal) (old new : Phase S) → Tells state number (step.Apply name) old (Err e) new → ByPhase (phase_refusal (step.Apply name) old) (Err e) → MayRefuse (step.Apply name) e
  apply_refuses name (refusal.Rank x) (phase.Serving old) (phase.Serving new) tells by = down_for new.fault x tells.0
  apply_refuses name (refusal.Rank x) (phase.Stopped old) (phase.Stopped new) tells by = absurd tells
  apply_refuses name (refusal.Rank x) (phase.Mounting old) (phase.Mounting new) tells by = absurd tells
  apply_refuses name (refusal.Rank x) phase.Gone new tells by = absurd cc
  apply_refuses name (refusal.Rank x) _ _ tells by = absurd tells
  apply_refuses name (refusal.Mount x) (phase.Serving old) (phase.Serving new) tells by = absurd tells
  apply_refuses name (refusal.Mount x) (phase.Stopped old) (phase.Stopped new) tells by = absurd tells
  apply_refuses name (refusal.Mount x) (phase.Mounting old) (phase.Mounting new) tells by = absurd tells
  apply_refuses name (refusal.Mount x) phase.Gone new tells by = absurd cc
  apply_refuses name (refusal.Mount x) _ _ tells by = absurd tells
  apply_refuses name _ old new tells by = tt

  restart_refuses : (e : WorldRefusal) (old new : Phase S) → Tells state number step.Restart old (Err e) new → ByPhase (phase_refusal step.Restart old) (Err e) → MayRefuse step.Restart e
  restart_refuses (refusal.Rank x) (phase.Stopped old) new tells by = absurd tells
  restart_refuses (refusal.Rank x) (phase.Mounting old) new tells by = absurd tells
  restart_refuses (refusal.Rank x) (phase.Serving old) new tells by = absurd tells
  restart_refuses (refusal.Rank x) phase.Gone new tells by = absurd cc
  restart_refuses (refusal.Mount x) (phase.Stopped old) new tells by = absurd tells
  restart_refuses (refusal.Mount x) (phase.Mounting old) new tells by = absurd tells
  restart_refuses (refusal.Mount x) (phase.Serving old) new tells by = absurd tells
  restart_refuses (refusal.Mount x) phase.Gone new tells by = absurd cc
  restart_refuses _ old new tells by = tt

  refuses : (s : Step) (e : WorldRefusal) (old new : Phase S) → Tells state number s old (Err e) new → ByPhase (phase_refusal s old) (Err e) → MayRefuse s e
  refuses (step.Ask r) = ask_refuses r
  refuses step.Flush = flush_refuses
  refuses (step.Apply name) = apply_refuses name
  refuses step.Reap = reap_refuses
  refuses step.Begin = begin_refuses
  refuses step.Carry = carry_refuses
  refuses step.Restart = restart_refuses
  refuses step.Tree = tree_refuses
  refuses step.State = state_refuses

  -- ---- a mount on its way

  begins : (tail : ℕ) (old new : Phase S) → Tells state number step.Begin old (Ok (said.Begun tail)) new → ByPhase (phase_refusal step.Begin old) (Ok (said.Begun tail)) → IsMounting new
  begins tail (phase.Stopped old) (phase.Mounting new) tells by = tt
  begins tail (phase.Stopped old) _ tells by = absurd tells
  begins tail _ new tells by = absurd cc

  carries : (made : MountStep) (old new : Phase S) → Tells state number step.Carry old (Ok (said.Carried made)) new → ByPhase (phase_refusal step.Carry old) (Ok (said.Carried made)) → LeavesMount (said.Carried made) old new
  carries mount.Ready old new tells by = tt
  carries _ (phase.Mounting old) (phase.Mounting new) tells by = tt
  carries _ (phase.Mounting old) _ tells by = absurd tells
  carries _ _ new tells by = absurd cc

  applies : (name : ObjectName) (op : Option ℕ) (old new : Phase S) → Tells state number (step.Apply name) old (Ok (said.Applied op)) new → IsMounting old → IsMounting new
  applies name op (phase.Mounting old) (phase.Mounting new) tells h = tt
  applies name op (phase.Mounting old) _ tells h = absurd tells
  applies name op _ new tells h = absurd h

  leaves : (s : Step) (x : Said) (old new : Phase S) → IsAnswerTo s x → Tells state number s old (Ok x) new → ByPhase (phase_refusal s old) (Ok x) → LeavesMount x old new
  leaves step.Begin (said.Begun tail) old new answers tells by = begins tail old new tells by
  leaves step.Carry (said.Carried made) old new answers tells by = carries made old new tells by
  leaves (step.Apply name) (said.Applied op) old new answers tells by = applies name op old new tells
  leaves s (said.Asked early) old new answers tells by = tt
  leaves s (said.Flushed span) old new answers tells by = tt
  leaves s (said.Reaped r) old new answers tells by = tt
  leaves s said.Restarted old new answers tells by = tt
  leaves s (said.Tree text) old new answers tells by = tt
  leaves s (said.State text) old new answers tells by = tt
  leaves _ _ old new answers tells by = absurd answers

  pub fits_of : (s : Step) (result : Result Said WorldRefusal) (old new : Phase S) → IfOk result (IsAnswerTo s) → Tells state number s old result new → ByPhase (phase_refusal s old) result → Fits s old result new
  fits_of s (Ok x) old new answers tells by = record { refusal = tt; mount = leaves s x old new answers tells by }
  fits_of s (Err e) old new answers tells by = record { refusal = refuses s e old new tells by; mount = tt }

pub made_fits : {S : Type 0} (state : S → Option StoreState) (faults : S → ℕ) (unreported : S → List Listed) (s : Step) (old : World S) (result : Result Said WorldRefusal) (new : World S) → Made state faults unreported s old result new → Fits s old.phase result new.phase
made_fits state faults unreported s old result new made = fits_of state old.number s result old.phase new.phase made.answer made.tells made.phase
