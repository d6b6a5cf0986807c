-- A whole image is read as what it is the spelling of.
use Rattle.std.proofs.Common.{◌≡◌, ℕ, ◌+◌, ◌-◌, ◌≤◌, ◌==◌, Bool, true, false, cond, List, [], ◌∷◌, ◌++◌, length, map, take, drop, Result, Ok, Err, refl, sym, ap, ◌∙◌, append_assoc, arith}
use Rattle.std.specs.Prelude.{nat_lt}
use Rattle.std.specs.List.{flat_map}
use Rattle.std.specs.Cmp.Lexicographic.{same_text}
use Rattle.std.proofs.lemmas.Bool.{le-ltb, ltb-false, eqb-true}
use Rattle.std.proofs.lemmas.List.{append-nil, take-append-drop, take_at, drop_at, get_or-drop, length-map}
use Rattle.std.proofs.lemmas.List.Folds.{flat_map-map}
use Rattle.mj_base.specs.Reading.{four}
use Rattle.mj_base.specs.InOrder.{same_bytes}
use Rattle.mj_base.proofs.Codec.{IsBytes}
use Rattle.mj_store.specs.declared.held.HeldObject.{HeldObject}
use Rattle.mj_memstore.specs.Holding.{AreInOrder}
use Rattle.mj_image.specs.declared.refusal.ImageRefusal.{ImageRefusal}
use Rattle.mj_image.specs.declared.refusal.ImageRefusal.TheVariants.{BadMagic, TooLarge, Trailing}
use Rattle.mj_image.specs.Image.{object_bytes, magic, image_bytes, most_bytes, IsStorable, IsImage}
use Rattle.mj_image.specs.Reading.{Reading, objects_at}
use Rattle.mj_image.specs.Whole.{ended, image_of}
use Rattle.mj_image.proofs.Codec.{objects_takes, objects_again}
use Rattle.std.specs.List.{AllByRecursion}
use Rattle.mj_memstore.specs.Holding.{HasKeysInOrder}

-- what comes of a reading that is whole
record Ends (bytes : List ℕ) (hs : List HeldObject) : Type 0 where
  front : take 8 bytes ≡ magic
  fits : length bytes ≤ most_bytes
  read : objects_at (drop 8 bytes) ≡ Ok (hs, [])

ok_objects : (xs ys : List HeldObject) (r : Result (List HeldObject) ImageRefusal) → r ≡ Ok xs → r ≡ Ok ys → xs ≡ ys
ok_objects xs ys r e f = same xs ys (sym e ∙ f)
  where
    same : (xs ys : List HeldObject) → (let a : Result (List HeldObject) ImageRefusal = Ok xs in a) ≡ Ok ys → xs ≡ ys
    same xs ys e = cc

none_left : (rest : List ℕ) → (length rest == 0) ≡ true → rest ≡ []
none_left [] e = refl
none_left (b ∷ rest) e = let none = eqb-true (length (b ∷ rest)) 0 e in absurd (omega (arith, none))

abbrev IsWhole : List HeldObject × List ℕ → List HeldObject → Type 0
IsWhole x hs = ◌≡◌ {A = Reading (List HeldObject)} (Ok x) (Ok (hs, []))

whole_is : (x : List HeldObject × List ℕ) (hs : List HeldObject) → x.0 ≡ hs → x.1 ≡ [] → IsWhole x hs
whole_is x hs e f i = Ok (e i, f i)

abbrev Said : Type 0
Said = Result (List HeldObject) ImageRefusal

ended_ok : (len : ℕ) (r : Reading (List HeldObject)) (hs : List HeldObject) → ended len r ≡ Ok hs → r ≡ Ok (hs, [])
ended_ok len (Err why) hs e = absurd cc
ended_ok len (Ok x) hs e = elim (length x.1 == 0) as (λ b. (length x.1 == 0) ≡ b → ◌≡◌ {A = Said} (cond b (Ok x.0) (Err (Trailing (len - length x.1)))) (Ok hs) → IsWhole x hs) [
  | true ↦ λ t f. whole_is x hs (ok_objects x.0 hs (Ok x.0) refl f) (none_left x.1 t)
  | false ↦ λ t f. absurd cc
] refl e

ends : (bytes : List ℕ) (hs : List HeldObject) → image_of bytes ≡ Ok hs → Ends bytes hs
unfolding image_of
ends bytes hs e = elim (same_bytes (take 8 bytes) magic) as (λ b. same_bytes (take 8 bytes) magic ≡ b → cond b (cond (nat_lt most_bytes (length bytes)) (Err (TooLarge (length bytes))) (ended (length bytes) (objects_at (drop 8 bytes)))) (Err BadMagic) ≡ Ok hs → Ends bytes hs) [
  | false ↦ λ t f. absurd cc
  | true ↦ λ t f. elim (nat_lt most_bytes (length bytes)) as (λ b. nat_lt most_bytes (length bytes) ≡ b → cond b (Err (TooLarge (length bytes))) (ended (length bytes) (objects_at (drop 8 bytes))) ≡ Ok hs → Ends bytes hs) [
    | true ↦ λ u g. absurd cc
    | false ↦ λ u g. record { front = same_text (take 8 bytes) magic (sym t); fits = ltb-false most_bytes (length bytes) u; read = ended_ok (length bytes) (objects_at (drop 8 bytes)) hs g }
  ] refl f
] refl e

bytes_behind : (n : ℕ) (bytes : List ℕ) → IsBytes bytes → IsBytes (drop n bytes)
bytes_behind n bytes fits i = rw get_or-drop (fits (n + i))

pub image_takes : (bytes : List ℕ) (hs : List HeldObject) → IsBytes bytes → image_of bytes ≡ Ok hs → (bytes ≡ image_bytes hs) × IsImage hs
image_takes bytes hs fits e =
    let g = ends bytes hs e in
    let t = objects_takes (drop 8 bytes) hs [] (bytes_behind 8 bytes fits) g.read in
    (sym (take-append-drop 8 bytes) ∙ (λ i. g.front i ++ t.0 i) ∙ ap (λ (m : List ℕ). magic ++ m) (append-nil (four (length hs) ++ flat_map object_bytes hs)) ∙ sym (append_assoc magic (four (length hs)) (flat_map object_bytes hs)), t.1)

ends_so : (bytes : List ℕ) (hs : List HeldObject) → Ends bytes hs → image_of bytes ≡ Ok hs
unfolding image_of
ends_so bytes hs g =
    let body : Said = cond (nat_lt most_bytes (length bytes)) (Err (TooLarge (length bytes))) (ended (length bytes) (objects_at (drop 8 bytes))) in
    ap (λ (t : List ℕ). cond (same_bytes t magic) body (Err BadMagic)) g.front
    ∙ ap (λ (b : Bool). cond b (Err (TooLarge (length bytes))) (ended (length bytes) (objects_at (drop 8 bytes)))) (le-ltb most_bytes (length bytes) g.fits)
    ∙ ap (ended (length bytes)) g.read

pub image_again : (hs : List HeldObject) → IsImage hs → length (image_bytes hs) ≤ most_bytes → image_of (image_bytes hs) ≡ Ok hs
image_again hs fits le =
    let rest = four (length hs) ++ flat_map object_bytes hs in
    let whole = append_assoc magic (four (length hs)) (flat_map object_bytes hs) in
    ends_so (image_bytes hs) hs (record {
      front = ap (take 8) whole ∙ take_at magic rest 8 refl;
      fits = le;
      read = ap (λ (bytes : List ℕ). objects_at (drop 8 bytes)) whole ∙ ap objects_at (drop_at magic rest 8 refl ∙ sym (append-nil rest)) ∙ objects_again hs [] fits;
    })

-- what is written, one part after another
pub image_written : {A : Type 0} (f : A → HeldObject) (xs : List A) (old a b new : List ℕ) → a ≡ old ++ magic → b ≡ a ++ four (length xs) → new ≡ b ++ flat_map (λ x. object_bytes (f x)) xs → new ≡ old ++ image_bytes (map f xs)
image_written f xs old a b new e g h =
    h ∙ ap (λ (m : List ℕ). m ++ flat_map (λ x. object_bytes (f x)) xs) (g ∙ ap (λ (m : List ℕ). m ++ four (length xs)) e ∙ append_assoc old magic (four (length xs)))
    ∙ append_assoc old (magic ++ four (length xs)) (flat_map (λ x. object_bytes (f x)) xs)
    ∙ ap (λ (m : List ℕ). old ++ (magic ++ four (length xs) ++ m)) (sym (flat_map-map object_bytes f xs))
    ∙ ap (λ (n : ℕ). old ++ (magic ++ four n ++ flat_map object_bytes (map f xs))) (sym (length-map xs f))

keys_of_all : (hs : List HeldObject) → AllByRecursion IsStorable hs → AllByRecursion HasKeysInOrder hs
keys_of_all [] all = tt
keys_of_all (h ∷ hs) all = (all.0.keys, keys_of_all hs all.1)

pub image_ordered : (hs : List HeldObject) → IsImage hs → AreInOrder hs
image_ordered hs i = record { names = i.names; keys = keys_of_all hs i.objects }
