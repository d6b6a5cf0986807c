-- The least position of an object behind so many bytes.
use Rattle.std.proofs.Common.{◌≡◌, inl, inr, ℕ, ◌^◌, ◌<◌, ◌≤◌, min, max, sym, ◌∙◌, ap, arith}
use Rattle.std.proofs.lemmas.Bool.{cases_lt}
use Rattle.mj_layout.specs.Striping.{Striping}
use Rattle.mj_layout.specs.Place.{object_of, offset_of, position_at}
use Rattle.mj_layout.specs.Placing.{Placing}
use Rattle.mj_layout.specs.Cutting.{IsCut}
use Rattle.mj_probe.specs.Missing.{IsLeastBehind}

-- a place in front of where an object is cut stands below that position
pub below_cut : (s : Striping) → Placing s → (index at len offset : ℕ) → IsCut s index at len → offset < s.os → offset < len → position_at s index offset < at
below_cut s p index at len offset cut within h =
    let x = position_at s index offset in
    let back = p.back index offset within in
    elim (cases_lt x at) as (λ _. x < at) [ inl less ↦ less | inr more ↦ absurd (omega (arith, cut.above x back.0 more, back.1, h)) ]

-- a place behind it does not
pub from_cut : (s : Striping) → Placing s → (index at len offset : ℕ) → IsCut s index at len → offset < s.os → len ≤ offset → at ≤ position_at s index offset
from_cut s p index at len offset cut within h =
    let x = position_at s index offset in
    let back = p.back index offset within in
    elim (cases_lt x at) as (λ _. at ≤ x) [ inl less ↦ absurd (omega (arith, cut.below x back.0 less, back.1, h)) | inr more ↦ more ]

-- the held bytes end in front of the last position
pub behind_there : (s : Striping) → Placing s → (index size from front last offset at : ℕ) → IsCut s index from front → IsCut s index (2 ^ 62) last → offset ≡ max front (min size s.os) → offset < min last s.os
    → at ≡ position_at s index offset → IsLeastBehind s index size from at
behind_there s p index size from front last offset at cut end is h e =
    let within : offset < s.os = omega (arith, h) in
    let back = p.back index offset within in
    let object : object_of s at ≡ index = ap (object_of s) e ∙ back.0 in
    let there : offset_of s at ≡ offset = ap (offset_of s) e ∙ back.1 in
    let below : position_at s index offset < 2 ^ 62 = below_cut s p index (2 ^ 62) last offset end within (omega (arith, h)) in
    record {
      above = omega (arith, e, from_cut s p index from front offset cut within (omega (arith, is)));
      at_most = omega (arith, e, below);
      held_below = λ x o a b. let r = p.rising x at (o ∙ sym object) b in let f = cut.above x o a in omega (arith, r, f, there, is);
      behind = λ lt. (object, omega (arith, there, is, within));
    }

-- or not
pub behind_none : (s : Striping) → Placing s → (index size from front last offset : ℕ) → from ≤ 2 ^ 62 → IsCut s index from front → IsCut s index (2 ^ 62) last → offset ≡ max front (min size s.os) → min last s.os ≤ offset
    → IsLeastBehind s index size from (2 ^ 62)
behind_none s p index size from front last offset below cut end is h = record {
  above = below;
  at_most = omega arith;
  held_below = λ x o a b. let r = end.below x o b in let f = cut.above x o a in let w = p.within x in omega (arith, r, f, w, is, h);
  behind = λ lt. absurd (omega (arith, lt));
}
