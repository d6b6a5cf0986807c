-- What each step's call did, by the phase of the world before it.
use Rattle.std.specs.Prelude.{◌≡◌, ℕ, Option, Result, false, true}
use Rattle.mj_store.specs.State.{StoreState}
use Rattle.mj_rank.specs.declared.rank.Rank.{Rank}
use Rattle.mj_tree.specs.Request.{IsRequest}
use Rattle.mj_texts.specs.declared.steps.Said.{Said}
use Rattle.mj_texts.specs.declared.steps.Step.{Step}
use Rattle.mj_texts.specs.declared.steps.Step.TheVariants as step
use Rattle.mj_world.specs.declared.refusal.WorldRefusal.{WorldRefusal}
use Rattle.mj_world.specs.declared.world.Phase.{Phase}
use Rattle.mj_world.specs.declared.world.Phase.TheVariants as phase
use Rattle.mj_world.specs.Asked.{Answers, Lists}
use Rattle.mj_world.specs.Sent.{IsFlushed, IsReaped}
use Rattle.mj_world.specs.Carried.{IsBegun, IsCarried}
use Rattle.mj_world.specs.Stored.{IsTried, IsRestarted}

-- a request has to keep its limits
abbrev pub CanStep : Step → Type 0
CanStep (step.Ask r) = IsRequest r
CanStep _ = Unit {0}

-- A rank that serves goes on to serve, and P says what it did. Another phase stays.
abbrev pub WhileServing : {S : Type 0} → (Rank S → Result Said WorldRefusal → Rank S → Type 0) → Phase S → Result Said WorldRefusal → Phase S → Type 0
WhileServing P (phase.Serving old) result (phase.Serving new) = P old result new
WhileServing P (phase.Serving old) result new = ⊥
WhileServing P old result new = new ≡ old

-- A stopped store begins a mount. Another phase stays.
abbrev pub WhileStopped : {S : Type 0} → (S → Option StoreState) → ℕ → Phase S → Result Said WorldRefusal → Phase S → Type 0
WhileStopped state number (phase.Stopped old) result new = IsBegun state number old result new
WhileStopped state number old result new = new ≡ old

-- A mount goes on. Another phase stays.
abbrev pub WhileMounting : {S : Type 0} → (S → Option StoreState) → Phase S → Result Said WorldRefusal → Phase S → Type 0
WhileMounting state (phase.Mounting old) result new = IsCarried state old result new
WhileMounting state old result new = new ≡ old

-- The answer, the refusal and the phase afterwards are those of the call behind the step.
abbrev pub Tells : {S : Type 0} → (S → Option StoreState) → ℕ → Step → Phase S → Result Said WorldRefusal → Phase S → Type 0
Tells state number (step.Ask r) old result new = WhileServing (Answers r) old result new
Tells state number step.Flush old result new = WhileServing (IsFlushed state) old result new
Tells state number (step.Apply name) old result new = IsTried state name old result new
Tells state number step.Reap old result new = WhileServing (IsReaped state) old result new
Tells state number step.Begin old result new = WhileStopped state number old result new
Tells state number step.Carry old result new = WhileMounting state old result new
Tells state number step.Restart old result new = IsRestarted state old result new
Tells state number step.Tree old result new = WhileServing (Lists false) old result new
Tells state number step.State old result new = WhileServing (Lists true) old result new
