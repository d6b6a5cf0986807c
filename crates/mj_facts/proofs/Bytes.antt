-- What an act does to each byte of an object.
use Rattle.std.proofs.Common.{◌≡◌, ℕ, zero, suc, ◌+◌, ◌-◌, ◌<◌, ◌≤◌, Option, Some, None, List, [], ◌∷◌, ◌++◌, length, take, drop, refl, ◌∙◌, ap, arith, length-append}
use Rattle.std.proofs.Math.ListN.{replicate}
use Rattle.std.specs.Prelude.{slice_get, unwrap_or}
use Rattle.std.proofs.lemmas.List.{length-take, length-replicate, append-nil, drop_all}
use Rattle.std.proofs.lemmas.Option.{slice_get_past, slice_get_within}
use Rattle.mj_store.specs.Object.{Content, written, applied, blank}
use Rattle.mj_store.specs.declared.act.ObjectAct.TheVariants.{Write, Truncate}
use Rattle.mj_recovery.specs.Stream.{byte_in}
use Rattle.mj_facts.specs.Headers.{HoldsJust}

-- the element at an equal place
pub same_get : (xs : List ℕ) (i j : ℕ) → i ≡ j → slice_get xs i ≡ slice_get xs j
same_get xs i j e = ap (slice_get xs) e

pub get_left : (xs ys : List ℕ) (i : ℕ) → i < length xs → slice_get (xs ++ ys) i ≡ slice_get xs i
get_left [] ys i h = absurd (omega arith)
get_left (x ∷ xs) ys zero h = refl
get_left (x ∷ xs) ys (suc i) h = get_left xs ys i (omega arith)

pub get_right : (xs ys : List ℕ) (i : ℕ) → slice_get (xs ++ ys) (length xs + i) ≡ slice_get ys i
get_right [] ys i = same_get ys (0 + i) i (omega arith)
get_right (x ∷ xs) ys i = same_get (x ∷ (xs ++ ys)) (length (x ∷ xs) + i) (suc (length xs + i)) (omega arith) ∙ get_right xs ys i

pub get_right_at : (xs ys : List ℕ) (i j : ℕ) → i ≡ length xs + j → slice_get (xs ++ ys) i ≡ slice_get ys j
get_right_at xs ys i j e = ap (slice_get (xs ++ ys)) e ∙ get_right xs ys j

pub get_take : (n : ℕ) (xs : List ℕ) (i : ℕ) → i < n → slice_get (take n xs) i ≡ slice_get xs i
get_take zero xs i h = absurd (omega arith)
get_take (suc n) [] i h = refl
get_take (suc n) (x ∷ xs) zero h = refl
get_take (suc n) (x ∷ xs) (suc i) h = get_take n xs i (omega arith)

pub get_take_past : (n : ℕ) (xs : List ℕ) (i : ℕ) → n ≤ i → slice_get (take n xs) i ≡ None
get_take_past n xs i h = slice_get_past (take n xs) i (omega (arith, length-take n xs))

pub get_drop : (n : ℕ) (xs : List ℕ) (i : ℕ) → slice_get (drop n xs) i ≡ slice_get xs (n + i)
get_drop zero xs i = same_get xs i (0 + i) (omega arith)
get_drop (suc n) [] i = refl
get_drop (suc n) (x ∷ xs) i = get_drop n xs i ∙ same_get (x ∷ xs) (suc (n + i)) (suc n + i) (omega arith)

-- ---- a write over bytes

-- what stands before the bytes that are written
abbrev front : ℕ → List ℕ → List ℕ
front at old = take at old ++ replicate (at - length old) 0

front_length : (at : ℕ) (old : List ℕ) → length (front at old) ≡ at
front_length at old =
    let gap : List ℕ = replicate (at - length old) 0 in
    omega (arith, length-append (take at old) gap, length-take at old, length-replicate (at - length old) zero)

written_below : (at : ℕ) (bytes old : List ℕ) (i b : ℕ) → i < at → slice_get old i ≡ Some b → slice_get (written at bytes old) i ≡ Some b
written_below at bytes old i b h e =
    get_left (front at old ++ bytes) (drop (at + length bytes) old) i (omega (arith, length-append (front at old) bytes, front_length at old))
    ∙ (get_left (front at old) bytes i (omega (arith, front_length at old))
    ∙ (get_left (take at old) (replicate (at - length old) 0) i (omega (arith, length-take at old, slice_get_within old i b e))
    ∙ (get_take at old i h ∙ e)))

written_in : (at : ℕ) (bytes old : List ℕ) (i j : ℕ) → i ≡ at + j → j < length bytes → slice_get (written at bytes old) i ≡ slice_get bytes j
written_in at bytes old i j e h =
    get_left (front at old ++ bytes) (drop (at + length bytes) old) i (omega (arith, length-append (front at old) bytes, front_length at old))
    ∙ get_right_at (front at old) bytes i j (omega (arith, front_length at old))

written_past : (at : ℕ) (bytes old : List ℕ) (i : ℕ) → at + length bytes ≤ i → slice_get (written at bytes old) i ≡ slice_get old i
written_past at bytes old i h =
    get_right_at (front at old ++ bytes) (drop (at + length bytes) old) i (i - (at + length bytes)) (omega (arith, length-append (front at old) bytes, front_length at old))
    ∙ (get_drop (at + length bytes) old (i - (at + length bytes)) ∙ same_get old (at + length bytes + (i - (at + length bytes))) i (omega arith))

-- ---- at an object that may be absent

pub in_written_below : (at : ℕ) (bytes : List ℕ) (old : Option Content) (i b : ℕ) → i < at → byte_in i old ≡ Some b → byte_in i (applied (Write at bytes) old) ≡ Some b
in_written_below at bytes None i b h e = absurd cc
in_written_below at bytes (Some o) i b h e = written_below at bytes o.bytes i b h e

pub in_written_in : (at : ℕ) (bytes : List ℕ) (old : Option Content) (i j : ℕ) → i ≡ at + j → j < length bytes → byte_in i (applied (Write at bytes) old) ≡ slice_get bytes j
in_written_in at bytes old i j e h = written_in at bytes (unwrap_or old blank).bytes i j e h

pub in_written_past : (at : ℕ) (bytes : List ℕ) (old : Option Content) (i : ℕ) → at + length bytes ≤ i → byte_in i (applied (Write at bytes) old) ≡ byte_in i old
in_written_past at bytes None i h = written_past at bytes [] i h
in_written_past at bytes (Some o) i h = written_past at bytes o.bytes i h

pub in_cut_below : (len : ℕ) (old : Option Content) (i : ℕ) → i < len → byte_in i (applied (Truncate len) old) ≡ byte_in i old
in_cut_below len None i h = refl
in_cut_below len (Some o) i h = get_take len o.bytes i h

pub in_cut_above : (len : ℕ) (old : Option Content) (i : ℕ) → len ≤ i → byte_in i (applied (Truncate len) old) ≡ None
in_cut_above len None i h = refl
in_cut_above len (Some o) i h = get_take_past len o.bytes i h

-- ---- the whole of an object's bytes

-- bytes that are as long as the ones before replace them
written_all : (bytes old : List ℕ) → length old ≤ length bytes → written 0 bytes old ≡ bytes
written_all bytes old h =
    ap (λ (k : ℕ). replicate k 0 ++ bytes ++ drop (0 + length bytes) old) (none (length old))
    ∙ (ap (λ (t : List ℕ). bytes ++ t) (drop_all (0 + length bytes) old (omega (arith, h))) ∙ append-nil bytes)
  where
    none : (n : ℕ) → 0 - n ≡ 0
    none n = omega arith

pub held_over : (bytes old : List ℕ) (held : Option Content) → length old ≤ length bytes → HoldsJust old held → HoldsJust bytes (applied (Write 0 bytes) held)
held_over bytes old None h e = absurd cc
held_over bytes old (Some o) h e =
    let is : o.bytes ≡ old = cc in
    ap Some (written_all bytes o.bytes (omega (arith, h, ap length is)))
