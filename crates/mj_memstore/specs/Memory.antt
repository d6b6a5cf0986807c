-- What a store in memory tells, and what it keeps.
use Rattle.std.specs.Prelude.{◌≡◌, ◌⊎◌, ℕ, ◌+◌, ◌≤◌, ◌==◌, true, false, IsSome, Option, Some, None, List, [], ◌∷◌, length, map, sum_by}
use Rattle.std.specs.Option.{option_map_or}
use Rattle.std.specs.List.{filter_map}
use Rattle.std.specs.Map.{lookup, values_of, set_value}
use Rattle.std.specs.BTreeMap.{is_at}
use Rattle.mj_base.specs.Counts.{Rose}
use Rattle.mj_base.specs.ObjectName.{object_order}
use Rattle.mj_base.specs.declared.object.ObjectName.{ObjectName}
use Rattle.mj_maps.specs.Map.{passing}
use Rattle.mj_store.specs.declared.answer.Ack.{Ack}
use Rattle.mj_store.specs.declared.held.HeldObject.{HeldObject}
use Rattle.mj_store.specs.State.{StoreState, Object, Pending}
use Rattle.mj_store.specs.Causes.{Listed, In, AllBelow}
use Rattle.mj_memstore.specs.Content.{IsSound}
use Rattle.mj_memstore.specs.HeldView.{HeldView, object_of, IsFirst, AppliesFirst, FailsFirst}

-- the objects by name
abbrev pub Entries : Type 0
Entries = List (ObjectName × HeldView)

abbrev pub found : ObjectName → Entries → Option HeldView
found name es = lookup (is_at (object_order name)) es

abbrev pub absent : Object
absent = record { held = None; pending = []; blocked = false }

abbrev pub object_in : Entries → ObjectName → Object
object_in es name = option_map_or object_of (found name es) absent

-- nothing applied and nothing that waits
abbrev pub nothing : ObjectName → HeldView
nothing name = record { name = name; object = None; failed = None; waiting = [] }

abbrev pub state_of : Entries → List Ack → ℕ → StoreState
state_of es completed last = record { objects = object_in es; completed = completed; next = last + 1 }

abbrev pub listed_of : ℕ × ℕ → Listed
listed_of e = record { op = e.0; count = e.1 }

abbrev pub list_of : List (ℕ × ℕ) → List Listed
list_of es = map listed_of es

-- the objects that are there, in the order of their names
abbrev pub held_objects : Entries → List HeldObject
held_objects es = filter_map (λ (v : HeldView). v.object) (values_of es)

-- an object under its own name, with its pairs in order
pub record IsNamed (name : ObjectName) (v : HeldView) : Type 0 where
  pub same : v.name ≡ name
  pub sound : IsSound v.name v.object

abbrev pub AreNamed : Entries → Type 0
AreNamed [] = Unit {0}
AreNamed (e ∷ es) = IsNamed e.0 e.1 × AreNamed es

-- how often a number waits, was tried and is listed
abbrev pub waits : ℕ → HeldView → ℕ
waits op v = passing (λ (p : Pending). p.op == op) v.waiting

abbrev pub waiting_count : HeldView → ℕ
waiting_count v = length v.waiting

abbrev pub times_tried : ℕ → List Ack → ℕ
times_tried op acks = passing (λ (a : Ack). a.op == op) acks

abbrev pub times_listed : ℕ → List Listed → ℕ
times_listed op list = passing (λ (l : Listed). l.op == op) list

-- What waits or was tried is listed, with room for its report. Numbers are below the next one. What failed was listed before it did.
pub record IsMemory (es : Entries) (completed : List Ack) (list : List Listed) (last faults room : ℕ) : Type 0 where
  pub named : AreNamed es
  pub each : (op : ℕ) → sum_by (waits op) (values_of es) + times_tried op completed ≡ times_listed op list
  pub sizes : sum_by waiting_count (values_of es) + length completed ≡ length list
  pub space : length list ≤ room
  pub below : AllBelow (last + 1) list
  pub counts : (l : Listed) → In l list → l.count ≤ faults
  pub failed : (a : Ack) → In a completed → a.done ≡ false → (l : Listed) → In l list → l.op ≤ a.op → Rose l.count faults

-- the object's first operation is tried
pub record TriesFirst (v w : HeldView) (ack : Ack) : Type 0 where
  pub first : IsFirst v ack.op
  pub applied : ack.done ≡ true → AppliesFirst v w
  pub failed : ack.done ≡ false → FailsFirst v w
  pub sound : IsSound w.name w.object

-- nothing may be tried
abbrev pub HasNoFirst : HeldView → Type 0
HasNoFirst v = (v.waiting ≡ []) ⊎ IsSome v.failed

-- nothing waits
abbrev pub quiet : HeldView → HeldView
quiet v = record v { failed = None; waiting = [] }

abbrev pub settled : Entries → Entries
settled es = map (λ (e : ObjectName × HeldView). (e.0, quiet e.1)) es

-- one object is changed
pub record Changes (name : ObjectName) (v w : HeldView) (old new : Entries) : Type 0 where
  pub was : found name old ≡ Some v
  pub now : new ≡ set_value (is_at (object_order name)) old w

-- There is an object of this name, with nothing if there was none: it shows nowhere else.
pub record Places (name : ObjectName) (old new : Entries) : Type 0 where
  pub there : IsSome (found name new)
  pub same : (q : ObjectName) → object_in new q ≡ object_in old q
  pub sums : (f : HeldView → ℕ) → f (nothing name) ≡ 0 → sum_by f (values_of new) ≡ sum_by f (values_of old)
  pub named : AreNamed old → AreNamed new
