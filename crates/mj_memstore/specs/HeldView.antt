-- An object of a store in memory, with what waits for it.
use Rattle.std.specs.Prelude.{◌≡◌, ℕ, ◌+◌, is_some, List, [], ◌∷◌, ◌++◌, drop, Option, Some, None, option_to_list, vec_capacity}
use Rattle.mj_base.specs.declared.object.ObjectName.{ObjectName}
use Rattle.mj_store.specs.declared.act.ObjectAct.{ObjectAct}
use Rattle.mj_store.specs.declared.held.HeldObject.{HeldObject}
use Rattle.mj_store.specs.Object.{HasShortKeys, applied}
use Rattle.mj_store.specs.State.{Object, Pending}
use Rattle.mj_memstore.specs.declared.queued.Queued.{Queued}
use Rattle.mj_memstore.specs.Content.{held_content, set_count, HasRoom}
use Rattle.mj_memstore.specs.Room.{IsEmpty}

-- what is applied, the operation that failed, and those behind it
pub record HeldView : Type 0 where
  pub name : ObjectName
  pub object : Option HeldObject
  pub failed : Option Pending
  pub waiting : List Pending

-- as the store tells it
abbrev pub object_of : HeldView → Object
object_of v = record { held = held_content v.object; pending = option_to_list v.failed ++ v.waiting; blocked = is_some v.failed }

abbrev pub pending_of : Queued → Pending
pending_of q = record { op = q.op; act = q.act }

-- An operation has the room that it needs, where its object then has so many pairs.
pub record IsProvided (n : ℕ) (q : Queued) : Type 0 where
  pub empty : IsEmpty q.room
  pub keys : HasShortKeys q.act
  pub room : HasRoom q.act n (vec_capacity q.room.bytes) (vec_capacity q.room.pairs)

-- each in turn
abbrev pub AreProvided : ℕ → List Queued → Type 0
AreProvided n [] = Unit {0}
AreProvided n (q ∷ qs) = IsProvided n q × AreProvided (n + set_count q.act) qs

-- it may be tried, and has this number
pub record IsFirst (v : HeldView) (op : ℕ) : Type 0 where
  pub free : v.failed ≡ None
  pub act : ObjectAct
  pub first : v.waiting ≡ record { op = op; act = act } ∷ drop 1 v.waiting

-- the first operation is applied
pub record AppliesFirst (old new : HeldView) : Type 0 where
  pub name : new.name ≡ old.name
  pub failed : new.failed ≡ None
  pub waiting : new.waiting ≡ drop 1 old.waiting
  pub object : (p : Pending) → old.waiting ≡ p ∷ drop 1 old.waiting → held_content new.object ≡ applied p.act (held_content old.object)

-- the first operation fails
pub record FailsFirst (old new : HeldView) : Type 0 where
  pub name : new.name ≡ old.name
  pub object : new.object ≡ old.object
  pub waiting : new.waiting ≡ drop 1 old.waiting
  pub failed : (p : Pending) → old.waiting ≡ p ∷ drop 1 old.waiting → new.failed ≡ Some p

-- how many pairs all of them set
abbrev pub all_set_count : List Queued → ℕ
all_set_count [] = 0
all_set_count (q ∷ qs) = set_count q.act + all_set_count qs
