-- The bytes of an image, and the objects that have some.
use Rattle.std.specs.Prelude.{ℕ, ◌<◌, ◌^◌, List, ◌++◌, length, IsTrue, Option, IfSome, codes}
use Rattle.std.specs.List.{flat_map, AllByRecursion}
use Rattle.mj_base.specs.Reading.{two, four, eight, optional}
use Rattle.mj_base.specs.InOrder.{is_rising}
use Rattle.mj_base.specs.ObjectName.{object_text, object_order, IsObjectName}
use Rattle.mj_base.specs.declared.limits.TheConstants.{MAX_FILE_BYTES}
use Rattle.mj_store.specs.declared.act.Pair.{Pair}
use Rattle.mj_store.specs.declared.held.HeldObject.{HeldObject}
use Rattle.mj_memstore.specs.Holding.{names_of, HasKeysInOrder}

-- bytes behind their length, of two bytes or of four
abbrev pub short_bytes : List ℕ → List ℕ
short_bytes bytes = two (length bytes) ++ bytes

abbrev pub long_bytes : List ℕ → List ℕ
long_bytes bytes = four (length bytes) ++ bytes

abbrev pub pair_bytes : Pair → List ℕ
pair_bytes p = short_bytes p.key ++ long_bytes p.value

abbrev pub object_bytes : HeldObject → List ℕ
object_bytes h = short_bytes (object_text h.name) ++ eight (length h.bytes) ++ h.bytes ++ optional long_bytes h.head ++ four (length h.pairs) ++ flat_map pair_bytes h.pairs

abbrev pub magic : List ℕ
magic = codes "MJIMG001"

abbrev pub image_bytes : List HeldObject → List ℕ
image_bytes hs = magic ++ four (length hs) ++ flat_map object_bytes hs

-- the most bytes that an image has
abbrev pub most_bytes : ℕ
most_bytes = MAX_FILE_BYTES

-- a key and a value whose lengths fit their fields
abbrev pub IsShortPair : Pair → Type 0
IsShortPair p = (length p.key < 2 ^ 16) × (length p.value < 2 ^ 32)

abbrev pub HasShortHead : Option (List ℕ) → Type 0
HasShortHead head = IfSome head (λ bytes. length bytes < 2 ^ 32)

abbrev pub HasName : HeldObject → Type 0
HasName h = IsObjectName h.name

-- an object that the bytes of an image can hold
pub record IsStorable (h : HeldObject) : Type 0 where
  pub name : HasName h
  pub bytes : length h.bytes < 2 ^ 64
  pub head : HasShortHead h.head
  pub count : length h.pairs < 2 ^ 32
  pub pairs : AllByRecursion IsShortPair h.pairs
  pub keys : HasKeysInOrder h

-- Objects that an image can hold: in the order of their names, and each storable.
pub record IsImage (hs : List HeldObject) : Type 0 where
  pub count : length hs < 2 ^ 32
  pub objects : AllByRecursion IsStorable hs
  pub names : IsTrue (is_rising object_order (names_of hs))
