-- Objects in a list, and a store that holds just these.
use Rattle.std.specs.Prelude.{◌≡◌, IsTrue, if◌then◌else◌, false, List, [], ◌∷◌, map, Option, Some, None}
use Rattle.std.specs.List.{AllByRecursion}
use Rattle.mj_base.specs.InOrder.{is_rising}
use Rattle.mj_base.specs.ObjectName.{object_order}
use Rattle.mj_base.specs.declared.object.ObjectName.{ObjectName}
use Rattle.mj_store.specs.declared.held.HeldObject.{HeldObject}
use Rattle.mj_store.specs.Object.{Contents, same_name}
use Rattle.mj_store.specs.State.{StoreState}
use Rattle.mj_store.specs.Pages.{rise_above}
use Rattle.mj_memstore.specs.Content.{held_content}
use Rattle.mj_memstore.specs.HeldView.{HeldView}
use Rattle.mj_memstore.specs.Memory.{Entries}

-- the object of this name
abbrev pub named : ObjectName → List HeldObject → Option HeldObject
named name [] = None
named name (h ∷ hs) = if same_name h.name name then Some h else named name hs

-- what they hold, by name
abbrev pub contents_of : List HeldObject → Contents
contents_of hs name = held_content (named name hs)

abbrev pub names_of : List HeldObject → List ObjectName
names_of hs = map (λ (h : HeldObject). h.name) hs

-- its keys ascend and have at most 65,535 bytes
abbrev pub HasKeysInOrder : HeldObject → Type 0
HasKeysInOrder h = IsTrue (rise_above None h.pairs)

-- The objects ascend by the text of their names, and the keys of each ascend.
pub record AreInOrder (hs : List HeldObject) : Type 0 where
  pub names : IsTrue (is_rising object_order (names_of hs))
  pub keys : AllByRecursion HasKeysInOrder hs

-- in order, these are all objects of the contents
pub record AreAll (hs : List HeldObject) (contents : Contents) : Type 0 where
  pub each : (name : ObjectName) → contents name ≡ contents_of hs name
  pub ordered : AreInOrder hs

-- it holds just these objects, and no operation was ever submitted to it
abbrev pub holding : List HeldObject → StoreState
holding hs = record { objects = λ name. record { held = contents_of hs name; pending = []; blocked = false }; completed = []; next = 1 }

-- an object with nothing that waits
abbrev pub resting : HeldObject → HeldView
resting h = record { name = h.name; object = Some h; failed = None; waiting = [] }

abbrev pub entries_holding : List HeldObject → Entries
entries_holding hs = map {B = ObjectName × HeldView} (λ (h : HeldObject). (h.name, resting h)) hs
