-- The acts of a mount's line, as its loop makes them.
use Rattle.std.proofs.Common.{◌≡◌, ℕ, List, Option, Some, None, Ok, Err, refl, ap, subst, ◌∙◌}
use Rattle.mj_base.specs.declared.object.ObjectName.{ObjectName}
use Rattle.mj_store.specs.Causes.{Listed}
use Rattle.mj_store.specs.State.{StoreState}
use Rattle.mj_texts.specs.declared.steps.MountStep.TheVariants as mount
use Rattle.mj_texts.specs.declared.steps.Said.TheVariants.{Applied, Begun, Carried}
use Rattle.mj_texts.specs.declared.steps.Step.TheVariants as step
use Rattle.mj_world.specs.declared.refusal.WorldRefusal.{WorldRefusal}
use Rattle.mj_world.specs.declared.world.Phase.{Phase}
use Rattle.mj_world.specs.declared.world.World.{World}
use Rattle.mj_world.specs.Made.{Made}
use Rattle.mj_world.specs.Oldest.{oldest_sent}
use Rattle.mj_texts.specs.declared.line.Line.TheVariants as line
use Rattle.mj_texts.specs.declared.answer.Answer.{Answer}
use Rattle.mj_texts.specs.declared.answer.Answer.TheVariants as answer
use Rattle.mj_app.specs.LineActs.{Stage, StepsOldest, next_step, stage_after, ready, waits_for}
use Rattle.mj_app.specs.Run.{WorksTo}
use Rattle.mj_app.specs.Told.{refusal_told}
use Rattle.mj_app.proofs.WorldsLemmas.{SoFar, none_yet, one_more, at_end}

-- where the loop stands, by what it tried
abbrev pub stage_of : ℕ → Option ℕ → Stage
stage_of tail None = Stage.Carries tail
stage_of tail (Some op) = Stage.Stepped tail op

carries_next : (tail : ℕ) (tried : Option ℕ) → next_step (stage_of tail tried) ≡ Some step.Carry
carries_next tail None = refl
carries_next tail (Some op) = refl

is_ready : {S : Type 0} (tail : ℕ) (tried : Option ℕ) (p : Phase S) → stage_after (stage_of tail tried) (Ok (Carried mount.Ready)) p ≡ ready tail p
is_ready tail None p = refl
is_ready tail (Some op) p = refl

is_sent : {S : Type 0} (tail : ℕ) (tried : Option ℕ) (name : ObjectName) (p : Phase S) → stage_after (stage_of tail tried) (Ok (Carried (mount.Sent name))) p ≡ Stage.Carries tail
is_sent tail None name p = refl
is_sent tail (Some op) name p = refl

is_reaped : {S : Type 0} (tail : ℕ) (tried : Option ℕ) (op : ℕ) (p : Phase S) → stage_after (stage_of tail tried) (Ok (Carried (mount.Reaped op))) p ≡ Stage.Carries tail
is_reaped tail None op p = refl
is_reaped tail (Some x) op p = refl

is_refused : {S : Type 0} (tail : ℕ) (tried : Option ℕ) (e : WorldRefusal) (p : Phase S) → stage_after (stage_of tail tried) (Err e) p ≡ Stage.Ended (refusal_told e)
is_refused tail None e p = refl
is_refused tail (Some op) e p = refl

module _ {S : Type 0} (state : S → Option StoreState) (faults : S → ℕ) (unreported : S → List Listed) where
  abbrev pub Come : Stage → World S → World S → Type 0
  Come stage old new = SoFar state faults unreported line.Mount stage old new

  to_stage : {stage other : Stage} {old new : World S} → stage ≡ other → Come stage old new → Come other old new
  to_stage {old = old} {new = new} e f = subst (λ t. Come t old new) e f

  pub begun : {old new : World S} (tail : ℕ) → Made state faults unreported step.Begin old (Ok (Begun tail)) new → Come (stage_of tail None) old new
  begun {old} {new} tail made = one_more state faults unreported step.Begin (Ok (Begun tail)) new refl made (none_yet state faults unreported line.Mount old)

  pub not_begun : {old new : World S} (e : WorldRefusal) → Made state faults unreported step.Begin old (Err e) new → WorksTo state faults unreported line.Mount old (refusal_told e) new
  not_begun {old} {new} e made = at_end state faults unreported (refusal_told e) refl (one_more state faults unreported step.Begin (Err e) new refl made (none_yet state faults unreported line.Mount old))

  pub comes_ready : {old middle new : World S} (tail : ℕ) (tried : Option ℕ) (a : Answer) → Come (stage_of tail tried) old middle → Made state faults unreported step.Carry middle (Ok (Carried mount.Ready)) new → ready tail new.phase ≡ Stage.Ended (Some a) → WorksTo state faults unreported line.Mount old (Some a) new
  comes_ready {new = new} tail tried a f made is = at_end state faults unreported (Some a) (is_ready tail tried new.phase ∙ is) (one_more state faults unreported step.Carry (Ok (Carried mount.Ready)) new (carries_next tail tried) made f)

  pub comes_sent : {old middle new : World S} (tail : ℕ) (tried : Option ℕ) (name : ObjectName) → Come (stage_of tail tried) old middle → Made state faults unreported step.Carry middle (Ok (Carried (mount.Sent name))) new → Come (stage_of tail None) old new
  comes_sent {new = new} tail tried name f made = to_stage (is_sent tail tried name new.phase) (one_more state faults unreported step.Carry (Ok (Carried (mount.Sent name))) new (carries_next tail tried) made f)

  pub comes_reaped : {old middle new : World S} (tail : ℕ) (tried : Option ℕ) (op : ℕ) → Come (stage_of tail tried) old middle → Made state faults unreported step.Carry middle (Ok (Carried (mount.Reaped op))) new → Come (stage_of tail None) old new
  comes_reaped {new = new} tail tried op f made = to_stage (is_reaped tail tried op new.phase) (one_more state faults unreported step.Carry (Ok (Carried (mount.Reaped op))) new (carries_next tail tried) made f)

  pub comes_waiting : {old middle new : World S} (tail op : ℕ) → Come (stage_of tail (Some op)) old middle → Made state faults unreported step.Carry middle (Ok (Carried mount.Waiting)) new → WorksTo state faults unreported line.Mount old (Some (answer.WaitingFor op)) new
  comes_waiting {new = new} tail op f made = at_end state faults unreported (Some (answer.WaitingFor op)) refl (one_more state faults unreported step.Carry (Ok (Carried mount.Waiting)) new refl made f)

  -- the object of what is awaited is to be stepped
  comes_waits : {old middle next : World S} (tail op : ℕ) (name : ObjectName) → Come (stage_of tail None) old middle → Made state faults unreported step.Carry middle (Ok (Carried mount.Waiting)) next → oldest_sent next.phase ≡ Some (op, name) → Come (Stage.Waits tail op name) old next
  comes_waits {next = next} tail op name f made is = to_stage (ap (waits_for tail) is) (one_more state faults unreported step.Carry (Ok (Carried mount.Waiting)) next refl made f)

  pub comes_back : {old middle next new : World S} (tail op : ℕ) (x : Option ℕ) → Come (stage_of tail None) old middle → Made state faults unreported step.Carry middle (Ok (Carried mount.Waiting)) next → StepsOldest state faults unreported op next (Ok (Applied x)) new
      → Come (stage_of tail (Some op)) old new
  comes_back {new = new} tail op x f made t = one_more state faults unreported (step.Apply t.name) (Ok (Applied x)) new refl t.made (comes_waits tail op t.name f made t.oldest)

  pub comes_down : {old middle next new : World S} (tail op : ℕ) (e : WorldRefusal) → Come (stage_of tail None) old middle → Made state faults unreported step.Carry middle (Ok (Carried mount.Waiting)) next → StepsOldest state faults unreported op next (Err e) new
      → WorksTo state faults unreported line.Mount old (refusal_told e) new
  comes_down {new = new} tail op e f made t = at_end state faults unreported (refusal_told e) refl (one_more state faults unreported (step.Apply t.name) (Err e) new refl t.made (comes_waits tail op t.name f made t.oldest))

  pub refused : {old middle new : World S} (tail : ℕ) (tried : Option ℕ) (e : WorldRefusal) → Come (stage_of tail tried) old middle → Made state faults unreported step.Carry middle (Err e) new → WorksTo state faults unreported line.Mount old (refusal_told e) new
  refused {new = new} tail tried e f made = at_end state faults unreported (refusal_told e) (is_refused tail tried e new.phase) (one_more state faults unreported step.Carry (Err e) new (carries_next tail tried) made f)
