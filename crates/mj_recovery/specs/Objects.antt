-- The objects of an image as a finite map, which recovery reads.
use Rattle.std.specs.Prelude.{◌≡◌, ℕ, Bool, true, not, ◌&&◌, List, [], ◌∷◌, map, IsTrue}
use Rattle.std.specs.List.{list_any, list_all}
use Rattle.std.specs.FinMap.Entries.{is_sorted}
use Rattle.mj_maps.specs.Map.{Map, get, from_entries}
use Rattle.mj_maps.specs.Orders.{bytes_cmp}
use Rattle.mj_base.specs.ObjectName.{name_cmp}
use Rattle.mj_base.specs.declared.object.ObjectName.{ObjectName}
use Rattle.mj_store.specs.declared.act.Pair.{Pair}
use Rattle.mj_store.specs.declared.held.HeldObject.{HeldObject}
use Rattle.mj_store.specs.Object.{Content, Contents, same_name}

abbrev pub Objects : Type 0
Objects = Map name_cmp Content

-- The objects are just those that the image holds.
abbrev pub Holds : Contents → Objects → Type 0
Holds image m = (name : ObjectName) → get m name ≡ image name

-- ---- as a list

abbrev pub pair_entries : List Pair → List (List ℕ × List ℕ)
pair_entries ps = map (λ (p : Pair). (p.key, p.value)) ps

abbrev pub content_of : HeldObject → Content
content_of h = record { bytes = h.bytes; head = h.head; pairs = from_entries (pair_entries h.pairs) }

abbrev pub object_entries : List HeldObject → List (ObjectName × Content)
object_entries hs = map (λ (h : HeldObject). (h.name, content_of h)) hs

abbrev pub objects_of : List HeldObject → Objects
objects_of hs = from_entries (object_entries hs)

-- No name stands twice, and pairs ascend by their keys.
abbrev pub are_apart : List HeldObject → Bool
are_apart [] = true
are_apart (h ∷ hs) = not (list_any (λ (g : HeldObject). same_name h.name g.name) hs) && are_apart hs

abbrev pub AreHeld : List HeldObject → Type 0
AreHeld hs = IsTrue (are_apart hs && list_all (λ (h : HeldObject). is_sorted bytes_cmp (pair_entries h.pairs)) hs)
