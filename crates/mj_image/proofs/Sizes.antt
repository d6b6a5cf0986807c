-- How long an image is, and what follows of that.
use Rattle.std.proofs.Common.{◌≡◌, ℕ, ◌+◌, ◌-◌, ◌^◌, ◌<◌, ◌≤◌, min, List, [], ◌∷◌, ◌++◌, length, map, Option, None, Some, sym, ap, subst, arith, length-append}
use Rattle.std.specs.Prelude.{IfSome}
use Rattle.std.specs.List.{flat_map, AllByRecursion}
use Rattle.std.proofs.lemmas.List.Concat.{flat_map-cons}
use Rattle.std.proofs.lemmas.List.Folds.{flat_map-map}
use Rattle.mj_base.specs.Reading.{optional, two, four, eight}
use Rattle.mj_base.specs.ObjectName.{object_text}
use Rattle.mj_store.specs.declared.act.Pair.{Pair}
use Rattle.mj_store.specs.declared.held.HeldObject.{HeldObject}
use Rattle.mj_store.specs.Object.{Contents}
use Rattle.mj_memstore.specs.Holding.{HasKeysInOrder, AreInOrder, AreAll}
use Rattle.mj_image.specs.Image.{short_bytes, long_bytes, pair_bytes, object_bytes, magic, image_bytes, most_bytes, HasName, HasShortHead, IsShortPair, IsStorable, IsImage}
use Rattle.mj_image.proofs.Rising.{short_keys}

pub length-short : (bytes : List ℕ) → length (short_bytes bytes) ≡ 2 + length bytes
length-short bytes = length-append (two (length bytes)) bytes

pub length-long : (bytes : List ℕ) → length (long_bytes bytes) ≡ 4 + length bytes
length-long bytes = length-append (four (length bytes)) bytes

pub length-pair : (p : Pair) → length (pair_bytes p) ≡ 6 + length p.key + length p.value
length-pair p = let a = length-short p.key in let b = length-long p.value in omega (arith, length-append (short_bytes p.key) (long_bytes p.value), a, b)

pub length-head : (head : Option (List ℕ)) → IfSome head (λ bytes. length (optional long_bytes head) ≡ 5 + length bytes)
length-head None = tt
length-head (Some bytes) = let a = length-long bytes in omega (arith, a)

pub length-object : (h : HeldObject) → length (object_bytes h) ≡ 14 + length (object_text h.name) + length h.bytes + length (optional long_bytes h.head) + length (flat_map pair_bytes h.pairs)
length-object h =
    let name = short_bytes (object_text h.name) in
    let size = eight (length h.bytes) in
    let head = optional long_bytes h.head in
    let count = four (length h.pairs) in
    let pairs = flat_map pair_bytes h.pairs in
    let a = length-short (object_text h.name) in
    omega (arith, a, length-append (name ++ size ++ h.bytes ++ head ++ count) pairs, length-append (name ++ size ++ h.bytes ++ head) count, length-append (name ++ size ++ h.bytes) head, length-append (name ++ size) h.bytes, length-append name size)

pub length-image : {A : Type 0} (f : A → HeldObject) (xs : List A) → length (image_bytes (map f xs)) ≡ 12 + length (flat_map (λ x. object_bytes (f x)) xs)
length-image f xs =
    let hs = map f xs in
    let same = ap (λ (bytes : List ℕ). length bytes) (flat_map-map object_bytes f xs) in
    omega (arith, same, length-append (magic ++ four (length hs)) (flat_map object_bytes hs), length-append magic (four (length hs)))

-- ---- a short image has short fields

pairs_short : (ps : List Pair) → length (flat_map pair_bytes ps) ≤ most_bytes → AllByRecursion (λ (p : Pair). length p.key < 2 ^ 16) ps → AllByRecursion IsShortPair ps
pairs_short [] le keys = tt
pairs_short (p ∷ ps) le keys =
    let cons = ap (λ (bytes : List ℕ). length bytes) (flat_map-cons pair_bytes p ps) in
    let sum = length-append (pair_bytes p) (flat_map pair_bytes ps) in
    let pair = length-pair p in
    ((keys.0, omega (arith, cons, sum, pair, le)), pairs_short ps (omega (arith, cons, sum, le)) keys.1)

pairs_few : (ps : List Pair) → length ps ≤ length (flat_map pair_bytes ps)
pairs_few [] = omega arith
pairs_few (p ∷ ps) =
    let cons = ap (λ (bytes : List ℕ). length bytes) (flat_map-cons pair_bytes p ps) in
    let sum = length-append (pair_bytes p) (flat_map pair_bytes ps) in
    let pair = length-pair p in
    let rest = pairs_few ps in
    omega (arith, cons, sum, pair, rest)

head_short : (head : Option (List ℕ)) → length (optional long_bytes head) ≤ most_bytes → HasShortHead head
head_short None le = tt
head_short (Some bytes) le = let a = length-long bytes in omega (arith, a, le)

storable : (h : HeldObject) → length (object_bytes h) ≤ most_bytes → HasName h → HasKeysInOrder h → IsStorable h
storable h le name keys =
    let len = length-object h in
    let few = pairs_few h.pairs in
    record {
      name = name;
      bytes = omega (arith, len, le);
      head = head_short h.head (omega (arith, len, le));
      count = omega (arith, len, le, few);
      pairs = pairs_short h.pairs (omega (arith, len, le)) (short_keys None h.pairs keys);
      keys = keys;
    }

all_storable : (hs : List HeldObject) → length (flat_map object_bytes hs) ≤ most_bytes → AllByRecursion HasName hs → AllByRecursion HasKeysInOrder hs → AllByRecursion IsStorable hs
all_storable [] le names keys = tt
all_storable (h ∷ hs) le names keys =
    let cons = ap (λ (bytes : List ℕ). length bytes) (flat_map-cons object_bytes h hs) in
    let sum = length-append (object_bytes h) (flat_map object_bytes hs) in
    (storable h (omega (arith, cons, sum, le)) names.0 keys.0, all_storable hs (omega (arith, cons, sum, le)) names.1 keys.1)

objects_few : (hs : List HeldObject) → length hs ≤ length (flat_map object_bytes hs)
objects_few [] = omega arith
objects_few (h ∷ hs) =
    let cons = ap (λ (bytes : List ℕ). length bytes) (flat_map-cons object_bytes h hs) in
    let sum = length-append (object_bytes h) (flat_map object_bytes hs) in
    let len = length-object h in
    let rest = objects_few hs in
    omega (arith, cons, sum, len, rest)

pub image_fits : (hs : List HeldObject) → length (image_bytes hs) ≤ most_bytes → AllByRecursion HasName hs → AreInOrder hs → IsImage hs
image_fits hs le names o =
    let a = length-append (magic ++ four (length hs)) (flat_map object_bytes hs) in
    let few = objects_few hs in
    record { count = omega (arith, a, le, few); objects = all_storable hs (omega (arith, a, le)) names o.keys; names = o.names }

-- ---- sums that stand still

abbrev pub most : ℕ
most = 2 ^ 64 - 1

pub sum_more : (len more next total piece whole : ℕ) → len ≡ min total most → more ≡ min piece most → next ≡ min (len + more) most → whole ≡ total + piece → next ≡ min whole most
sum_more len more next total piece whole a b c d = omega (arith, a, b, c, d)

-- what is written of a store's objects, where it is not too long
pub record IsWritten (hs : List HeldObject) : Type 0 where
  pub fits : IsImage hs
  pub short : length (image_bytes hs) ≤ most_bytes

pub written : (hs held : List HeldObject) (contents : Contents) (len : ℕ) → hs ≡ held → AreAll held contents → len ≡ min (length (image_bytes hs)) most → AllByRecursion HasName hs → len ≤ most_bytes → IsWritten hs
written hs held contents len e all is names le =
    let short : length (image_bytes hs) ≤ most_bytes = omega (arith, is, le) in
    record { fits = image_fits hs short names (subst AreInOrder (sym e) all.ordered); short = short }
