-- What a mount is answered when it begins and when it goes on, and what these do.
use Rattle.std.specs.Prelude.{◌≡◌, ℕ, Option, None, Some, Result, Ok, Err, OnOk}
use Rattle.mj_store.specs.State.{StoreState, contents}
use Rattle.mj_store.specs.Moves.{Stays, Still}
use Rattle.mj_texts.specs.declared.steps.MountStep.{MountStep}
use Rattle.mj_texts.specs.declared.steps.MountStep.TheVariants.{Ready}
use Rattle.mj_rank.specs.declared.mounting.Mounting as mounting
use Rattle.mj_rank.specs.declared.mounting.Stage.TheVariants as stage
use Rattle.mj_rank.specs.declared.rank.Rank.{Rank}
use Rattle.mj_rank.specs.declared.refusal.MountRefusal.{MountRefusal}
use Rattle.mj_rank.specs.declared.refusal.MountRefusal.TheVariants as mount_refusal
use Rattle.mj_rank.specs.Finding.{found_in, IsFound, IsRefused}
use Rattle.mj_rank.specs.Mounts.{Begins, MountSteps, first_value}
use Rattle.mj_rank.specs.Request.{value_of}
use Rattle.mj_texts.specs.declared.steps.Said.{Said}
use Rattle.mj_texts.specs.declared.steps.Said.TheVariants.{Begun, Carried}
use Rattle.mj_world.specs.declared.refusal.WorldRefusal.{WorldRefusal}
use Rattle.mj_world.specs.declared.refusal.WorldRefusal.TheVariants as refusal
use Rattle.mj_world.specs.declared.world.Phase.{Phase}
use Rattle.mj_world.specs.declared.world.Phase.TheVariants as phase

-- ---- a mount begins

-- It found what the store holds, which was only read, and the tail that is told is that of what it found.
pub record BeginsOver {S : Type 0} (state : S → Option StoreState) (number : ℕ) (old : S) (tail : ℕ) (new : mounting.Mounting S) : Type 0 where
  pub begins : Begins number new
  pub tail_is : tail ≡ new.found.tail
  pub found : (s : StoreState) → state old ≡ Some s → Still s → IsFound new.found (found_in number (contents s))
  pub stays : Stays (state old) (state new.store)

-- It found nothing that can be mounted here, or the store failed.
pub record FindsNone {S : Type 0} (state : S → Option StoreState) (number : ℕ) (old : S) (e : MountRefusal) (new : S) : Type 0 where
  pub refused : (s : StoreState) → state old ≡ Some s → Still s → IsRefused e (found_in number (contents s))
  pub stays : Stays (state old) (state new)

abbrev pub IsBegun : {S : Type 0} → (S → Option StoreState) → ℕ → S → Result Said WorldRefusal → Phase S → Type 0
IsBegun state number old (Ok (Begun tail)) (phase.Mounting new) = BeginsOver state number old tail new
IsBegun state number old (Err (refusal.Mount e)) (phase.Stopped new) = FindsNone state number old e new
IsBegun state number old (Err refusal.Memory) (phase.Stopped new) = Stays (state old) (state new)
IsBegun state number old result new = ⊥

-- ---- it goes on

-- The mount is still on its way. With a fault it is refused.
pub record OnItsWay {S : Type 0} (state : S → Option StoreState) (result : Result MountStep MountRefusal) (old new : mounting.Mounting S) : Type 0 where
  pub steps : MountSteps state result old new
  pub up : OnOk result (new.fault ≡ None)

abbrev pub GoesOn : {S : Type 0} → (S → Option StoreState) → Result MountStep MountRefusal → mounting.Mounting S → Phase S → Type 0
GoesOn state result old (phase.Mounting new) = OnItsWay state result old new
GoesOn state result old new = ⊥

-- It has come to its end. The rank that serves has its number, the epoch of its header, its log and its tree, and answered nothing.
pub record Serves {S : Type 0} (old : mounting.Mounting S) (new : Rank S) : Type 0 where
  pub ready : old.stage ≡ stage.Ready
  pub value : value_of new ≡ first_value old
  pub store : new.store ≡ old.store

abbrev pub Ends : {S : Type 0} → mounting.Mounting S → Phase S → Type 0
Ends old (phase.Serving new) = Serves old new
Ends old new = ⊥

abbrev pub Carries : {S : Type 0} → (S → Option StoreState) → MountStep → mounting.Mounting S → Phase S → Type 0
Carries state Ready old new = Ends old new
Carries state step old new = GoesOn state (Ok step) old new

abbrev pub IsCarried : {S : Type 0} → (S → Option StoreState) → mounting.Mounting S → Result Said WorldRefusal → Phase S → Type 0
IsCarried state old (Ok (Carried step)) new = Carries state step old new
IsCarried state old (Err (refusal.Mount e)) new = GoesOn state (Err e) old new
IsCarried state old (Err refusal.Memory) new = GoesOn state (Err mount_refusal.Memory) old new
IsCarried state old result new = ⊥
