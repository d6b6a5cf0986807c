-- The events of a store, and the paths that they make from one state to another.
use Rattle.std.specs.Prelude.{◌≡◌, ℕ, ◌≤◌, Option, Some, List, [], ◌∷◌, drop}
use Rattle.mj_base.specs.declared.object.ObjectName.{ObjectName}
use Rattle.mj_store.specs.declared.act.ObjectOp.{ObjectOp}
use Rattle.mj_store.specs.declared.answer.Ack.{Ack}
use Rattle.mj_store.specs.Object.{Contents}
use Rattle.mj_store.specs.State.{StoreState, IsImage, MayHold, submitted, tried, failed, reported, at_rest}

pub data Event : Type 0 where
  Added : (op : ObjectOp) → (number : ℕ) → Event
  Tried : (name : ObjectName) → Event
  Failed : (name : ObjectName) → Event
  Reaped : (ack : Ack) → Event
  Restarted : (image : Contents) → Event

abbrev pub happens : Event → StoreState → StoreState
happens (Added op number) s = submitted op number s
happens (Tried name) s = tried name s
happens (Failed name) s = failed name s
happens (Reaped ack) s = reported s
happens (Restarted image) s = at_rest image s

-- A number is new, what is reported is the first that was completed, and a stop leaves an image.
abbrev pub IsPossible : Event → StoreState → Type 0
IsPossible (Added op number) s = s.next ≤ number
IsPossible (Tried name) s = Unit {0}
IsPossible (Failed name) s = Unit {0}
IsPossible (Reaped ack) s = s.completed ≡ ack ∷ drop 1 s.completed
IsPossible (Restarted image) s = IsImage s image

abbrev pub after_events : List Event → StoreState → StoreState
after_events [] s = s
after_events (e ∷ es) s = after_events es (happens e s)

-- each is possible when it happens
abbrev pub Possible : List Event → StoreState → Type 0
Possible [] s = Unit {0}
Possible (e ∷ es) s = IsPossible e s × Possible es (happens e s)

-- the operations that these events submit
abbrev pub ops_of : List Event → List ObjectOp
ops_of [] = []
ops_of (Added op number ∷ es) = op ∷ ops_of es
ops_of (Tried name ∷ es) = ops_of es
ops_of (Failed name ∷ es) = ops_of es
ops_of (Reaped ack ∷ es) = ops_of es
ops_of (Restarted image ∷ es) = ops_of es

abbrev pub NoRestart : List Event → Type 0
NoRestart [] = Unit {0}
NoRestart (Restarted image ∷ es) = ⊥
NoRestart (Added op number ∷ es) = NoRestart es
NoRestart (Tried name ∷ es) = NoRestart es
NoRestart (Failed name ∷ es) = NoRestart es
NoRestart (Reaped ack ∷ es) = NoRestart es

-- possible events that submit just these operations lead from s to t
pub record Path (s : StoreState) (ops : List ObjectOp) (t : StoreState) : Type 0 where
  pub events : List Event
  pub possible : Possible events s
  pub leads : after_events events s ≡ t
  pub submits : ops_of events ≡ ops

-- a store that tells its state goes on by a path that submits just these operations
abbrev pub Goes : Option StoreState → List ObjectOp → Option StoreState → Type 0
Goes old ops new = (s : StoreState) → old ≡ Some s → (t : StoreState) × (new ≡ Some t) × Path s ops t

-- A store that tells its state went from the one to the other, and whatever a stop before or within that may leave has P.
pub record Within (old new : Option StoreState) (P : Contents → Type 0) : Type 0 where
  pub now : StoreState
  pub told : old ≡ Some now
  pub later : StoreState
  pub told_later : new ≡ Some later
  pub ops : List ObjectOp
  pub path : Path now ops later
  pub each : (image : Contents) → MayHold now ops image → P image

-- a store that tells its state, and what holds of that
pub record Tells (told : Option StoreState) (P : StoreState → Type 0) : Type 0 where
  pub now : StoreState
  pub is : told ≡ Some now
  pub holds : P now
