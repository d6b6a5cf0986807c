-- The least position without a byte, object by object and set by set.
use Rattle.std.proofs.Common.{◌≡◌, inl, inr, ℕ, zero, suc, ◌+◌, ◌-◌, ◌*◌, ◌/◌, ◌^◌, ◌<◌, ◌≤◌, min, List, [], ◌∷◌, length, Option, None, Some, refl, sym, subst, arith}
use Rattle.std.specs.Prelude.{slice_get}
use Rattle.std.proofs.lemmas.Bool.{cases_lt}
use Rattle.std.proofs.lemmas.Option.{slice_get_past}
use Rattle.std.proofs.lemmas.Nat.{div-add-mod', div_below, mod_below, mul-le}
use Rattle.mj_store.specs.Object.{Content, Contents}
use Rattle.mj_layout.specs.Striping.{Striping, IsStriping, period}
use Rattle.mj_layout.specs.Place.{object_of, offset_of}
use Rattle.mj_layout.proofs.Striped.{Sizes, sizes}
use Rattle.mj_layout.proofs.Placed.{div_rises, placing}
use Rattle.mj_recovery.specs.Stream.{byte_in, byte_at, journal_object, probed_end}
use Rattle.mj_recovery.proofs.Lawful.{only_end}
use Rattle.mj_probe.specs.Missing.{size_of, IsLeastBehind, IsLeastMissing}

-- ---- bytes by sizes

pub in_range : (xs : List ℕ) (k : ℕ) → k < length xs → (b : ℕ) × (slice_get xs k ≡ Some b)
in_range [] k h = absurd (omega arith)
in_range (x ∷ xs) zero h = (x, refl)
in_range (x ∷ xs) (suc k) h = in_range xs k (omega arith)

byte_there : (o : Option Content) (offset : ℕ) → offset < size_of o → (b : ℕ) × (byte_in offset o ≡ Some b)
byte_there None offset h = absurd (omega arith)
byte_there (Some o) offset h = in_range o.bytes offset h

byte_missing : (o : Option Content) (offset : ℕ) → size_of o ≤ offset → byte_in offset o ≡ None
byte_missing None offset h = refl
byte_missing (Some o) offset h = slice_get_past o.bytes offset h

-- ---- objects in a row

-- one object
pub in_object : (image : Contents) (rank : ℕ) (s : Striping) (index size from at : ℕ) → size ≡ size_of (image (journal_object rank index)) → IsLeastBehind s index size from at → IsLeastMissing image rank s from index (index + 1) at
unfolding byte_at
in_object image rank s index size from at e k = record {
  above = k.above;
  at_most = k.at_most;
  held_below = λ x low high a b.
      let same : index ≡ object_of s x = omega arith in
      subst (λ n. (b : ℕ) × (byte_in (offset_of s x) (image (journal_object rank n)) ≡ Some b)) same
      (byte_there (image (journal_object rank index)) (offset_of s x) (omega (arith, k.held_below x (sym same) a b, e)));
  missing = λ lt.
      let b = k.behind lt in (
        omega (arith, b.0),
        omega (arith, b.0),
        subst (λ n. byte_in (offset_of s at) (image (journal_object rank n)) ≡ None) (sym b.0) (byte_missing (image (journal_object rank index)) (offset_of s at) (omega (arith, b.1, e))),
      );
}

-- none
pub in_none : (image : Contents) (rank : ℕ) (s : Striping) (from first : ℕ) → from ≤ 2 ^ 62 → IsLeastMissing image rank s from first first (2 ^ 62)
in_none image rank s from first h = record {
  above = h;
  at_most = omega arith;
  held_below = λ x low high a b. absurd (omega (arith, low, high));
  missing = λ lt. absurd (omega (arith, lt));
}

-- the lesser of two, of some objects and of those that follow
pub in_both : (image : Contents) (rank : ℕ) (s : Striping) (from first middle end a b at : ℕ) → first ≤ middle → middle ≤ end → at ≡ min a b
    → IsLeastMissing image rank s from first middle a → IsLeastMissing image rank s from middle end b → IsLeastMissing image rank s from first end at
in_both image rank s from first middle end a b at f m e p q = record {
  above = omega (arith, e, p.above, q.above);
  at_most = omega (arith, e, p.at_most);
  held_below = λ x low high above below. elim (cases_lt (object_of s x) middle) [
    | inl less ↦ p.held_below x low less above (omega (arith, below, e))
    | inr more ↦ q.held_below x more high above (omega (arith, below, e))
  ];
  missing = λ lt. elim (cases_lt b a) as (λ _. (first ≤ object_of s at) × (object_of s at < end) × (byte_at image rank s at ≡ None)) [
    | inl less ↦
        let same : b ≡ at = omega (arith, e, less) in
        let g = q.missing (omega (arith, lt, same)) in
        subst (λ n. (first ≤ object_of s n) × (object_of s n < end) × (byte_at image rank s n ≡ None)) same (omega (arith, g.0, f), g.1, g.2)
    | inr more ↦
        let same : a ≡ at = omega (arith, e, more) in
        let g = p.missing (omega (arith, lt, same)) in
        subst (λ n. (first ≤ object_of s n) × (object_of s n < end) × (byte_at image rank s n ≡ None)) same (g.0, omega (arith, g.1, m), g.2)
  ];
}

-- ---- sets in a row

-- a position's object is in its set
set_low : (s : Striping) → IsStriping s → (from x : ℕ) → from ≤ x → from / period s * s.sc ≤ object_of s x
set_low s k from x h =
    let z : Sizes s = sizes s k in
    let up : from / period s ≤ x / period s = div_rises from x (period s) (omega (arith, z.period_least)) h in
    omega (arith, mul-le (from / period s) s.sc (object_of s x / s.sc) s.sc (omega (arith, up, (placing s k).set x)) (omega arith), div-add-mod' (object_of s x) s.sc)

set_high : (s : Striping) → IsStriping s → (set x : ℕ) → x / period s ≤ set → object_of s x < set * s.sc + s.sc
set_high s k set x h =
    let z : Sizes s = sizes s k in
    omega (arith, mul-le (object_of s x / s.sc) s.sc set s.sc (omega (arith, h, (placing s k).set x)) (omega arith), div-add-mod' (object_of s x) s.sc, mod_below (object_of s x) s.sc z.sc)

pub set_small : (s : Striping) → IsStriping s → (set : ℕ) → set ≤ (2 ^ 62 - 1) / period s → set * s.sc ≤ 2 ^ 62
set_small s k set h =
    let z : Sizes s = sizes s k in
    let wide : s.sc ≤ period s = omega (arith, mul-le 1 s.sc s.os s.sc (omega (arith, z.os)) (omega arith)) in
    omega (arith, mul-le set s.sc ((2 ^ 62 - 1) / period s) (period s) h wide, div-add-mod' (2 ^ 62 - 1) (period s))

is_end : (image : Contents) (rank : ℕ) (s : Striping) → IsStriping s → (from end at : ℕ) → from ≤ 2 ^ 62 → IsLeastMissing image rank s from (from / period s * s.sc) end at
    → ((x : ℕ) → x < at → object_of s x < end) → at ≡ probed_end image rank s from
is_end image rank s k from end at below p each = only_end image rank s from at below (record {
  above = p.above;
  held_below = λ y a b. p.held_below y (set_low s k from y a) (each y b) a b;
  missing_there = λ lt. (p.missing lt).2;
  at_most = p.at_most;
})

-- a position without a byte in the last set that was looked at
pub end_there : (image : Contents) (rank : ℕ) (s : Striping) → IsStriping s → (from set at : ℕ) → from ≤ 2 ^ 62 → at < 2 ^ 62 → IsLeastMissing image rank s from (from / period s * s.sc) (set * s.sc + s.sc) at → at ≡ probed_end image rank s from
end_there image rank s k from set at below lt p =
    let z : Sizes s = sizes s k in
    let object = (p.missing lt).1 in
    let its : object_of s at / s.sc < set + 1 = div_below (object_of s at) s.sc (set + 1) z.sc (omega (arith, object)) in
    is_end image rank s k from (set * s.sc + s.sc) at below p (λ x h. set_high s k set x (omega (arith, div_rises x at (period s) (omega (arith, z.period_least)) (omega (arith, h)), (placing s k).set at, its)))

-- no position without a byte in any set
pub end_none : (image : Contents) (rank : ℕ) (s : Striping) → IsStriping s → (from : ℕ) → from ≤ 2 ^ 62 → IsLeastMissing image rank s from (from / period s * s.sc) (((2 ^ 62 - 1) / period s + 1) * s.sc) (2 ^ 62) → 2 ^ 62 ≡ probed_end image rank s from
end_none image rank s k from below p =
    let z : Sizes s = sizes s k in
    is_end image rank s k from (((2 ^ 62 - 1) / period s + 1) * s.sc) (2 ^ 62) below p
    (λ x h. let high = set_high s k ((2 ^ 62 - 1) / period s) x (div_rises x (2 ^ 62 - 1) (period s) (omega (arith, z.period_least)) (omega (arith, h))) in omega (arith, high))
