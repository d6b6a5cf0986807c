-- How far the operations of a mount have come in a store that tells its state.
use Rattle.std.specs.Prelude.{◌≡◌, ◌⊎◌, ℕ, true, false, List, ◌∷◌, None}
use Rattle.mj_base.specs.declared.object.ObjectName.{ObjectName}
use Rattle.mj_store.specs.declared.answer.Ack.{Ack}
use Rattle.mj_store.specs.Along.{HasOp}
use Rattle.mj_store.specs.Causes.{In}
use Rattle.mj_store.specs.State.{StoreState}
use Rattle.mj_rank.specs.Mounts.{MountValue, sent_of}

-- an operation of this number was tried and is not reported
pub record HasAck (op : ℕ) (acks : List Ack) : Type 0 where
  pub ack : Ack
  pub among : In ack acks
  pub number : ack.op ≡ op

-- one that failed is not reported
pub record HasFailed (acks : List Ack) : Type 0 where
  pub ack : Ack
  pub among : In ack acks
  pub failed : ack.done ≡ false

-- Each of these operations is pending at its object, or it was tried and is to be reported. An object is blocked only where a
-- failure is to be reported.
pub record AreOut (ops : List (ℕ × ObjectName)) (s : StoreState) : Type 0 where
  pub each : (op : ℕ × ObjectName) → In op ops → HasOp op.0 (s.objects op.1).pending ⊎ HasAck op.0 s.completed
  pub free : (name : ObjectName) → (s.objects name).blocked ≡ true → HasFailed s.completed

-- So it is with what a mount has sent, where no fault keeps it from going on.
abbrev pub GoesOn : MountValue → StoreState → Type 0
GoesOn v s = v.fault ≡ None → AreOut (sent_of v) s

-- something was tried and is not reported
pub record HasCompleted (s : StoreState) : Type 0 where
  pub ack : Ack
  pub rest : List Ack
  pub completed : s.completed ≡ ack ∷ rest
