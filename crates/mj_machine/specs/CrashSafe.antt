-- What every stop leaves.
use Rattle.std.specs.Prelude.{◌≡◌, ℕ, ◌≤◌, length, take}
use Rattle.mj_tree.specs.State.{PlainState}
use Rattle.mj_machine.specs.Machine.{LogMachine, all_kept, fold_of}

-- The state after a front of the requests, one that holds every safe one.
pub record IsFrontState (w : LogMachine) (s : PlainState) : Type 0 where
  pub front : ℕ
  pub safe : length w.history ≤ front
  pub within : front ≤ length (all_kept w)
  pub state : s ≡ fold_of w.opening (take front (all_kept w))

-- Every image that may be left recovers to such a state.
abbrev pub IsCrashSafe : {Image : Type 0} → (Image → Type 0) → (Image → PlainState → Type 0) → LogMachine → Type 0
IsCrashSafe {Image} MayBeLeft RecoversTo w = (image : Image) → MayBeLeft image → (s : PlainState) × RecoversTo image s × IsFrontState w s
