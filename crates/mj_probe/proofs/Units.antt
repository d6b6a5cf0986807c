-- Bytes of the stream, stripe unit by stripe unit.
use Rattle.std.proofs.Common.{◌≡◌, inl, inr, ℕ, zero, suc, ◌+◌, ◌-◌, ◌^◌, ◌<◌, ◌≤◌, List, [], ◌∷◌, ◌++◌, length, take, drop, Option, None, Some, refl, sym, ◌∙◌, ap, subst, arith, length-append, length-drop}
use Rattle.std.specs.Prelude.{slice_get}
use Rattle.std.proofs.lemmas.Bool.{cases_lt}
use Rattle.std.proofs.lemmas.List.{length-take}
use Rattle.std.proofs.lemmas.Option.{slice_get_past}
use Rattle.mj_store.specs.Object.{Content, Contents}
use Rattle.mj_store.specs.Moves.{bytes_from}
use Rattle.mj_layout.specs.Striping.{Striping}
use Rattle.mj_layout.specs.Place.{object_of, offset_of}
use Rattle.mj_recovery.specs.Stream.{byte_in, byte_at, journal_object, stream_of, probed_end}
use Rattle.mj_recovery.proofs.Lawful.{only_end}
use Rattle.mj_probe.proofs.Least.{in_range}

-- ---- elements of lists

get_left : (xs ys : List ℕ) (k : ℕ) → k < length xs → slice_get (xs ++ ys) k ≡ slice_get xs k
get_left [] ys k h = absurd (omega arith)
get_left (x ∷ xs) ys zero h = refl
get_left (x ∷ xs) ys (suc k) h = get_left xs ys k (omega arith)

get_right : (xs ys : List ℕ) (k j : ℕ) → k ≡ length xs + j → slice_get (xs ++ ys) k ≡ slice_get ys j
get_right [] ys k j e = ap (slice_get ys) (omega (arith, e))
get_right (x ∷ xs) ys zero j e = absurd (omega (arith, e))
get_right (x ∷ xs) ys (suc k) j e = get_right xs ys k j (omega (arith, e))

get_taken : (n : ℕ) (xs : List ℕ) (k : ℕ) → k < length (take n xs) → slice_get xs k ≡ slice_get (take n xs) k
get_taken zero xs k h = absurd (omega arith)
get_taken (suc n) [] k h = absurd (omega arith)
get_taken (suc n) (x ∷ xs) zero h = refl
get_taken (suc n) (x ∷ xs) (suc k) h = get_taken n xs k (omega arith)

get_dropped : (n : ℕ) (xs : List ℕ) (i k : ℕ) → i ≡ n + k → slice_get xs i ≡ slice_get (drop n xs) k
get_dropped zero xs i k e = ap (slice_get xs) (omega (arith, e))
get_dropped (suc n) [] i k e = refl
get_dropped (suc n) (x ∷ xs) zero k e = absurd (omega (arith, e))
get_dropped (suc n) (x ∷ xs) (suc i) k e = get_dropped n xs i k (omega (arith, e))

-- ---- what a read of an object gives

read_held : (o : Option Content) (offset len k : ℕ) → k < length (bytes_from offset len o) → byte_in (offset + k) o ≡ slice_get (bytes_from offset len o) k
read_held None offset len k h = absurd (omega arith)
read_held (Some o) offset len k h = get_dropped offset o.bytes (offset + k) k refl ∙ get_taken len (drop offset o.bytes) k h

read_short : (o : Option Content) (offset len : ℕ) → length (bytes_from offset len o) < len → byte_in (offset + length (bytes_from offset len o)) o ≡ None
read_short None offset len h = refl
read_short (Some o) offset len h = slice_get_past o.bytes (offset + length (take len (drop offset o.bytes))) (omega (arith, h, length-take len (drop offset o.bytes), length-drop offset o.bytes))

-- ---- bytes that stand in the stream

-- these bytes stand from a position on
pub record Stand (image : Contents) (rank : ℕ) (s : Striping) (from : ℕ) (bytes : List ℕ) : Type 0 where
  pub each : (k : ℕ) → k < length bytes → byte_at image rank s (from + k) ≡ slice_get bytes k

module _ (image : Contents) (rank : ℕ) (s : Striping) where
  pub stand_none : (from : ℕ) → Stand image rank s from []
  stand_none from = record { each = λ k h. absurd (omega arith) }

  pub stand_more : (from at : ℕ) (bytes piece : List ℕ) → at ≡ from + length bytes → Stand image rank s from bytes → Stand image rank s at piece → Stand image rank s from (bytes ++ piece)
  stand_more from at bytes piece e p q = record {
    each = λ k h. elim (cases_lt k (length bytes)) as (λ _. byte_at image rank s (from + k) ≡ slice_get (bytes ++ piece) k) [
      | inl less ↦ p.each k less ∙ sym (get_left bytes piece k less)
      | inr more ↦
          let j = k - length bytes in
          let same : at + (k - length bytes) ≡ from + k = omega (arith, e, more) in
          subst (λ n. byte_at image rank s n ≡ slice_get (bytes ++ piece) k) same
          (q.each (k - length bytes) (omega (arith, h, more, length-append bytes piece)) ∙ sym (get_right bytes piece k (k - length bytes) (omega (arith, more))))
    ];
  }

  -- one unit of an object
  at_place : (index offset x : ℕ) (found : Option ℕ) → object_of s x ≡ index → offset_of s x ≡ offset → byte_in offset (image (journal_object rank index)) ≡ found → byte_at image rank s x ≡ found
  unfolding byte_at
  at_place index offset x found o f h = ap (λ n. byte_in (offset_of s x) (image (journal_object rank n))) o ∙ (ap (λ n. byte_in n (image (journal_object rank index))) f ∙ h)

  pub unit_stands : (index offset len at : ℕ) (piece : List ℕ) → ((i : ℕ) → i < len → (object_of s (at + i) ≡ index) × (offset_of s (at + i) ≡ offset + i)) → length piece ≤ len
      → piece ≡ bytes_from offset len (image (journal_object rank index)) → Stand image rank s at piece
  unit_stands index offset len at piece run most e = record {
    each = λ k h.
        let r = run k (omega (arith, h, most)) in
        at_place index (offset + k) (at + k) (slice_get piece k) r.0 r.1
        (read_held (image (journal_object rank index)) offset len k (omega (arith, h, ap length e)) ∙ ap (λ (m : List ℕ). slice_get m k) (sym e));
  }

  -- where it is short
  pub unit_short : (index offset len at : ℕ) (piece : List ℕ) → ((i : ℕ) → i < len → (object_of s (at + i) ≡ index) × (offset_of s (at + i) ≡ offset + i)) → length piece < len
      → piece ≡ bytes_from offset len (image (journal_object rank index)) → byte_at image rank s (at + length piece) ≡ None
  unit_short index offset len at piece run less e =
      let r = run (length piece) less in
      at_place index (offset + length piece) (at + length piece) None r.0 r.1
      (subst (λ (m : List ℕ). byte_in (offset + length m) (image (journal_object rank index)) ≡ None) (sym e) (read_short (image (journal_object rank index)) offset len (omega (arith, less, ap length e))))

  -- ---- whole, and up to a hole

  stream_each : (bytes : List ℕ) (from : ℕ) → ((k : ℕ) → k < length bytes → byte_at image rank s (from + k) ≡ slice_get bytes k) → stream_of image rank s (length bytes) from ≡ bytes
  unfolding stream_of
  stream_each [] from each = refl
  stream_each (b ∷ bytes) from each =
      let here : from + 0 ≡ from = omega arith in
      let first : byte_at image rank s from ≡ Some b = subst (λ n. byte_at image rank s n ≡ Some b) here (each 0 (omega arith)) in
      ap (λ (o : Option ℕ). elim o as (λ _. List ℕ) [ None ↦ [] | Some c ↦ c ∷ stream_of image rank s (length bytes) (from + 1) ]) first
      ∙ ap (λ (m : List ℕ). b ∷ m) (stream_each bytes (from + 1) (λ k h. let next : from + suc k ≡ from + 1 + k = omega arith in subst (λ n. byte_at image rank s n ≡ slice_get bytes k) next (each (suc k) (omega arith))))

  pub stream_stands : (bytes : List ℕ) (from n : ℕ) → n ≡ length bytes → Stand image rank s from bytes → bytes ≡ stream_of image rank s n from
  stream_stands bytes from n e p = sym (ap (λ k. stream_of image rank s k from) e ∙ stream_each bytes from p.each)

  pub end_short : (bytes : List ℕ) (from at : ℕ) → at ≡ from + length bytes → at ≤ 2 ^ 62 → Stand image rank s from bytes → byte_at image rank s at ≡ None → at ≡ probed_end image rank s from
  end_short bytes from at e most p none = only_end image rank s from at (omega (arith, e, most)) (record {
    above = omega (arith, e);
    held_below = λ y a b.
        let k = y - from in
        let within : y - from < length bytes = omega (arith, e, a, b) in
        let held = in_range bytes (y - from) within in
        let same : from + (y - from) ≡ y = omega (arith, a) in
        (held.0, subst (λ n. byte_at image rank s n ≡ Some held.0) same (p.each (y - from) within ∙ held.1));
    missing_there = λ lt. none;
    at_most = most;
  })
