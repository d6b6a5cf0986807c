-- How often a mount waits for a header or a truncation.
use Rattle.std.specs.Prelude.{◌≡◌, ℕ, Option, Some, List, Ok}
use Rattle.mj_base.specs.declared.object.ObjectName.{ObjectName}
use Rattle.mj_store.specs.Causes.{Listed}
use Rattle.mj_store.specs.State.{StoreState}
use Rattle.mj_machine.specs.Machine.{LogMachine}
use Rattle.mj_texts.specs.declared.steps.MountStep.TheVariants.{Waiting}
use Rattle.mj_texts.specs.declared.steps.Said.{Said}
use Rattle.mj_texts.specs.declared.steps.Said.TheVariants.{Carried}
use Rattle.mj_texts.specs.declared.steps.Step.TheVariants.{Apply, Carry}
use Rattle.mj_world.specs.declared.world.World.{World}
use Rattle.mj_world.specs.Live.{WorldLives}
use Rattle.mj_world.specs.Made.{Made}
use Rattle.mj_world.specs.Oldest.{oldest_sent}

-- Over a store that tells its state: a mount waited, the object of the oldest operation that is sent was stepped, and it waited again. It never does.
pub record WaitsTwice {S : Type 0} (state : S → Option StoreState) (faults : S → ℕ) (unreported : S → List Listed) (a b c d : World S) : Type 0 where
  pub machine : LogMachine
  pub lives : WorldLives state a machine
  pub first : Made state faults unreported Carry a (Ok (Carried Waiting)) b
  pub op : ℕ
  pub name : ObjectName
  pub oldest : oldest_sent b.phase ≡ Some (op, name)
  pub said : Said
  pub apply : Made state faults unreported (Apply name) b (Ok said) c
  pub again : Made state faults unreported Carry c (Ok (Carried Waiting)) d

abbrev pub WaitsOnce : {S : Type 0} → (S → Option StoreState) → (S → ℕ) → (S → List Listed) → Type 0
WaitsOnce {S} state faults unreported = (a b c d : World S) → WaitsTwice state faults unreported a b c d → ⊥
