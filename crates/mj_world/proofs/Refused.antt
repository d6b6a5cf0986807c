-- A step that the world's phase refuses, which leaves it.
use Rattle.std.proofs.Common.{◌≡◌, ℕ, Option, Result, Err, refl}
use Rattle.mj_store.specs.State.{StoreState}
use Rattle.mj_rank.specs.declared.rank.Rank.{Rank}
use Rattle.mj_texts.specs.declared.steps.Said.{Said}
use Rattle.mj_world.specs.declared.refusal.WorldRefusal.{WorldRefusal}
use Rattle.mj_world.specs.declared.refusal.WorldRefusal.TheVariants as refusal
use Rattle.mj_world.specs.declared.world.Phase.{Phase}
use Rattle.mj_world.specs.declared.world.Phase.TheVariants as phase
use Rattle.mj_world.specs.Phases.{of_serving, of_stopped, ByPhase}
use Rattle.mj_world.specs.Tells.{WhileServing, WhileStopped}

-- no rank serves
module _ {S : Type 0} (p : Phase S) (none : (x : Rank S) → p ≡ phase.Serving x → ⊥) where
  pub refuses_serving : ByPhase (of_serving p) (Err refusal.Stopped)
  refuses_serving = elim p as (λ q. ((x : Rank S) → q ≡ phase.Serving x → ⊥) → ByPhase (of_serving q) (Err refusal.Stopped)) [
    | phase.Stopped s ↦ λ n. refl
    | phase.Mounting k ↦ λ n. refl
    | phase.Serving k ↦ λ n. absurd (n k refl)
    | phase.Gone ↦ λ n. refl
  ] none

  pub stays_serving : (P : Rank S → Result Said WorldRefusal → Rank S → Type 0) (result : Result Said WorldRefusal) → WhileServing P p result p
  stays_serving P result = elim p as (λ q. ((x : Rank S) → q ≡ phase.Serving x → ⊥) → WhileServing P q result q) [
    | phase.Stopped s ↦ λ n. refl
    | phase.Mounting k ↦ λ n. refl
    | phase.Serving k ↦ λ n. absurd (n k refl)
    | phase.Gone ↦ λ n. refl
  ] none

-- no store is stopped
module _ {S : Type 0} (p : Phase S) (none : (x : S) → p ≡ phase.Stopped x → ⊥) where
  pub refuses_stopped : ByPhase (of_stopped p) (Err refusal.Mounted)
  refuses_stopped = elim p as (λ q. ((x : S) → q ≡ phase.Stopped x → ⊥) → ByPhase (of_stopped q) (Err refusal.Mounted)) [
    | phase.Stopped s ↦ λ n. absurd (n s refl)
    | phase.Mounting k ↦ λ n. refl
    | phase.Serving k ↦ λ n. refl
    | phase.Gone ↦ λ n. refl
  ] none

  pub stays_stopped : (state : S → Option StoreState) (number : ℕ) (result : Result Said WorldRefusal) → WhileStopped state number p result p
  stays_stopped state number result = elim p as (λ q. ((x : S) → q ≡ phase.Stopped x → ⊥) → WhileStopped state number q result q) [
    | phase.Stopped s ↦ λ n. absurd (n s refl)
    | phase.Mounting k ↦ λ n. refl
    | phase.Serving k ↦ λ n. refl
    | phase.Gone ↦ λ n. refl
  ] none
