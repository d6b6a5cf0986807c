-- A mount waits but once: when the store has tried what was sent first, the next step takes what is reported.
use Rattle.std.proofs.Common.{◌≡◌, ℕ, List, Option, Some, None, Result, Ok, refl, sym, subst, ◌∙◌}
use Rattle.mj_base.specs.declared.object.ObjectName.{ObjectName}
use Rattle.mj_store.specs.Causes.{Listed}
use Rattle.mj_store.specs.Events.{Tells}
use Rattle.mj_store.specs.Moves.{Steps}
use Rattle.mj_store.specs.State.{StoreState}
use Rattle.mj_machine.specs.Machine.{LogMachine}
use Rattle.mj_rank.specs.Flight.{HasCompleted}
use Rattle.mj_rank.specs.Live.{MountLives}
use Rattle.mj_rank.specs.Mounts.{AwaitsMore, oldest_of}
use Rattle.mj_texts.specs.declared.steps.MountStep.TheVariants.{Waiting}
use Rattle.mj_rank.specs.declared.mounting.Mounting.{Mounting}
use Rattle.mj_rank.specs.declared.refusal.MountRefusal.{MountRefusal}
use Rattle.mj_rank.proofs.MountLives.{mount_completes}
use Rattle.mj_rank.proofs.MountSteps.{steps_never_wait}
use Rattle.mj_world.specs.Live.{PhaseLives}
use Rattle.mj_world.specs.Oldest.{oldest_sent}
use Rattle.mj_world.specs.Phases.{of_mounting, ByPhase}
use Rattle.mj_world.specs.Stored.{IsTried}
use Rattle.mj_world.specs.Tells.{WhileMounting}
use Rattle.mj_world.specs.Waits.{WaitsOnce}
use Rattle.mj_texts.specs.declared.steps.Said.{Said}
use Rattle.mj_texts.specs.declared.steps.Said.TheVariants as said
use Rattle.mj_world.specs.declared.world.Phase.{Phase}
use Rattle.mj_world.specs.declared.world.Phase.TheVariants as phase

module _ {S : Type 0} (state : S → Option StoreState) where
  -- a mount without a fault awaits what it has sent
  record Waited (p q : Phase S) : Type 0 where
    old : Mounting S
    new : Mounting S
    was : p ≡ phase.Mounting old
    is : q ≡ phase.Mounting new
    up : new.fault ≡ None
    more : AwaitsMore state old new

  waited : (p q : Phase S) → ByPhase (of_mounting p) (Ok (said.Carried Waiting)) → WhileMounting state p (Ok (said.Carried Waiting)) q → Waited p q
  waited (phase.Mounting k) (phase.Mounting l) b t = record { old = k; new = l; was = refl; is = refl; up = t.up; more = t.steps }
  waited (phase.Mounting k) (phase.Stopped s) b t = absurd t
  waited (phase.Mounting k) (phase.Serving r) b t = absurd t
  waited (phase.Mounting k) phase.Gone b t = absurd t
  waited (phase.Stopped s) q b t = absurd cc
  waited (phase.Serving r) q b t = absurd cc
  waited phase.Gone q b t = absurd cc

  -- its store tried an operation
  record TriedBy (name : ObjectName) (old : Mounting S) (q : Phase S) : Type 0 where
    new : Mounting S
    is : q ≡ phase.Mounting new
    op : Option ℕ
    steps : Steps name op (state old.store) (state new.store)

  tried_by : (name : ObjectName) (k : Mounting S) (q : Phase S) (answer : Said) → IsTried state name (phase.Mounting k) (Ok answer) q → TriedBy name k q
  tried_by name k (phase.Mounting l) (said.Applied op) t = record { new = l; is = refl; op = op; steps = t.0 }
  tried_by name k (phase.Mounting l) (said.Asked early) t = absurd t
  tried_by name k (phase.Mounting l) (said.Flushed span) t = absurd t
  tried_by name k (phase.Mounting l) (said.Reaped reaped) t = absurd t
  tried_by name k (phase.Mounting l) (said.Begun tail) t = absurd t
  tried_by name k (phase.Mounting l) (said.Carried s) t = absurd t
  tried_by name k (phase.Mounting l) said.Restarted t = absurd t
  tried_by name k (phase.Mounting l) (said.Tree text) t = absurd t
  tried_by name k (phase.Mounting l) (said.State text) t = absurd t
  tried_by name k (phase.Stopped s) answer t = absurd t
  tried_by name k (phase.Serving r) answer t = absurd t
  tried_by name k phase.Gone answer t = absurd t

  -- what it tried is to be reported
  completes : (name : ObjectName) (op : ℕ) (tried : Option ℕ) (k : Mounting S) (m : LogMachine) (told : Option StoreState) → k.fault ≡ None → MountLives state k m → oldest_of k ≡ Some (op, name)
      → Steps name tried (state k.store) told → Tells told HasCompleted
  completes name op tried k m told up t oldest steps =
      let answer : Result (Option ℕ) MountRefusal = Ok tried in
      mount_completes state k m name op answer told steps t up oldest

  same_mount : (k l : Mounting S) → ◌≡◌ {A = Phase S} (phase.Mounting k) (phase.Mounting l) → k ≡ l
  same_mount k l e = cc

  module _ (faults : S → ℕ) (unreported : S → List Listed) where
    -- it waits, the oldest object that is sent is stepped, and it does not wait again
    pub waits_once : WaitsOnce state faults unreported
    waits_once a b c d h =
        let w = waited a.phase b.phase h.first.phase h.first.tells in
        let t = tried_by h.name w.new c.phase h.said (subst (λ (p : Phase S). IsTried state h.name p (Ok h.said) c.phase) w.is h.apply.tells) in
        let live : PhaseLives state b.number h.machine (phase.Mounting w.new) = subst (PhaseLives state b.number h.machine) w.is (h.first.live h.machine h.lives) in
        let done = completes h.name h.op t.op w.new h.machine (state t.new.store) w.up live.1 (subst (λ (p : Phase S). oldest_sent p ≡ Some (h.op, h.name)) w.is h.oldest) t.steps in
        let v = waited c.phase d.phase h.again.phase h.again.tells in
        let same : t.new ≡ v.old = same_mount t.new v.old (sym t.is ∙ v.was) in
        steps_never_wait state v.old v.new (Ok Waiting) v.more (subst (λ (k : Mounting S). Tells (state k.store) HasCompleted) same done) tt
