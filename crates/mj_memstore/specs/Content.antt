-- What a held object holds, and the room that an act needs.
use Rattle.std.specs.Prelude.{◌≡◌, ℕ, ◌+◌, ◌≤◌, true, T, is_some, List, length, Option, Some, None, option_map}
use Rattle.std.specs.FinMap.Entries.{is_sorted}
use Rattle.mj_base.specs.declared.object.ObjectName.{ObjectName}
use Rattle.mj_maps.specs.Orders.{bytes_cmp}
use Rattle.mj_maps.specs.Map.{get, from_entries}
use Rattle.mj_store.specs.declared.act.Pair.{Pair}
use Rattle.mj_store.specs.declared.act.ObjectAct.{ObjectAct}
use Rattle.mj_store.specs.declared.act.ObjectAct.TheVariants.{Write, Truncate, Remove, Keys}
use Rattle.mj_store.specs.declared.held.HeldObject.{HeldObject}
use Rattle.mj_store.specs.Object.{Content, Pairs, longest_key}
use Rattle.mj_memstore.specs.Pairs.{entries_of}

-- the pairs as a map
abbrev pub map_of : List Pair → Pairs
map_of ps = from_entries (entries_of ps)

abbrev pub content_of : HeldObject → Content
content_of h = record { bytes = h.bytes; head = h.head; pairs = map_of h.pairs }

abbrev pub held_content : Option HeldObject → Option Content
held_content held = option_map content_of held

-- each key of the map has at most 65,535 bytes
abbrev pub IsShort : Pairs → Type 0
IsShort m = (key : List ℕ) → is_some (get m key) ≡ true → length key ≤ longest_key

-- an object under this name, with its pairs in the order of their keys
pub record IsHeldAs (name : ObjectName) (h : HeldObject) : Type 0 where
  pub named : h.name ≡ name
  pub sorted : T (is_sorted bytes_cmp (entries_of h.pairs))
  pub short : IsShort (map_of h.pairs)

abbrev pub IsSound : ObjectName → Option HeldObject → Type 0
IsSound name None = Unit {0}
IsSound name (Some h) = IsHeldAs name h

-- how many pairs it has, and at most how many more an act gives it
abbrev pub pair_count : Option HeldObject → ℕ
pair_count None = 0
pair_count (Some h) = length h.pairs

abbrev pub set_count : ObjectAct → ℕ
set_count (Write at bytes) = 0
set_count (Truncate len) = 0
set_count Remove = 0
set_count (Keys set drops head) = length set

-- the capacities that an act needs, of an object with so many pairs
abbrev pub HasRoom : ObjectAct → ℕ → ℕ → ℕ → Type 0
HasRoom (Write at new) n bytes pairs = at + length new ≤ bytes
HasRoom (Truncate len) n bytes pairs = Unit {0}
HasRoom Remove n bytes pairs = Unit {0}
HasRoom (Keys set drops head) n bytes pairs = n + length set ≤ pairs
