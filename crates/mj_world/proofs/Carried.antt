-- How a mount ends.
use Rattle.std.proofs.Common.{◌≡◌, Option, Ok, ap, subst, ◌∙◌}
use Rattle.mj_store.specs.State.{StoreState}
use Rattle.mj_texts.specs.declared.steps.MountStep.{MountStep}
use Rattle.mj_texts.specs.declared.steps.MountStep.TheVariants.{Ready}
use Rattle.mj_rank.specs.declared.mounting.Mounting.{Mounting}
use Rattle.mj_rank.specs.declared.rank.Rank.{Rank}
use Rattle.mj_rank.specs.Mounts.{MountSteps, first_value}
use Rattle.mj_rank.specs.Request.{value_of}
use Rattle.mj_world.specs.Carried.{Serves}

-- a step that is ready leaves the mount, of which the rank is
pub serves : {S : Type 0} (state : S → Option StoreState) (old new : Mounting S) (rank : Rank S) (step : MountStep) → step ≡ Ready → MountSteps state (Ok step) old new → value_of rank ≡ first_value new → rank.store ≡ new.store → Serves old rank
serves {S = S} state old new rank step is steps value store =
    let h = subst (λ (x : MountStep). MountSteps state (Ok x) old new) is steps in
    record { ready = h.0; value = value ∙ ap first_value h.1; store = store ∙ ap (λ (x : Mounting S). x.store) h.1 }
