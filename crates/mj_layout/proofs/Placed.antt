-- Positions by objects and offsets, and back.
use Rattle.std.proofs.Common.{◌≡◌, inl, inr, ℕ, ◌+◌, ◌-◌, ◌*◌, ◌/◌, ◌%◌, ◌^◌, ◌<◌, ◌≤◌, min, sym, ◌∙◌, ap, arith}
use Rattle.std.proofs.lemmas.Nat.{div-add-mod', div-mul-add, mod-mul-add, same_from_place, mod_below, mul-le, div_below, le-div}
use Rattle.std.proofs.Math.Nat.{div-div-eq-div-mul}
use Rattle.std.proofs.lemmas.Bool.{cases_lt}
use Rattle.mj_layout.specs.Striping.{Striping, IsStriping, period}
use Rattle.mj_layout.specs.Place.{object_of, offset_of, position_at, unit_end}
use Rattle.mj_layout.specs.Placing.{Placing, set_of, window_end}
use Rattle.mj_layout.proofs.Striped.{Sizes, sizes}

-- a quotient does not fall
pub div_rises : (x y k : ℕ) → 0 < k → x ≤ y → x / k ≤ y / k
div_rises x y k pos h = le-div (x / k) y k pos (omega (arith, div-add-mod' x k))

-- two numbers in order with the same quotient have remainders in order
pub mod_rises : (x y k : ℕ) → x / k ≡ y / k → x < y → x % k < y % k
mod_rises x y k e h = omega (arith, div-add-mod' x k, div-add-mod' y k, ap (λ q. q * k) e)

-- places in rows
pub rows_rise : (a b c d w : ℕ) → b < w → a < c → a * w + b < c * w + d
rows_rise a b c d w h r = omega (arith, mul-le (a + 1) w c w (omega arith) (omega arith), h)

rising : (s : Striping) → Sizes s → (x y : ℕ) → object_of s x ≡ object_of s y → x < y → offset_of s x < offset_of s y
unfolding object_of offset_of
rising s i x y e h =
    let u = s.os / s.su in
    let bx = x / s.su in
    let by = y / s.su in
    let su : 0 < s.su = omega (arith, i.su) in
    let same = same_from_place (bx / s.sc / u) (bx % s.sc) (by / s.sc / u) (by % s.sc) s.sc (mod_below bx s.sc i.sc) (mod_below by s.sc i.sc) e in
    let blocks : bx ≤ by = div_rises x y s.su su (omega arith) in
    let stripes : bx / s.sc ≤ by / s.sc = div_rises bx by s.sc i.sc blocks in
    elim (cases_lt (bx / s.sc) (by / s.sc)) [
      | inl less ↦ rows_rise (bx / s.sc % u) (x % s.su) (by / s.sc % u) (y % s.su) s.su (mod_below x s.su su) (mod_rises (bx / s.sc) (by / s.sc) u same.0 less)
      | inr more ↦
          let stripe : bx / s.sc ≡ by / s.sc = omega arith in
          let block : bx ≡ by = sym (div-add-mod' bx s.sc) ∙ (ap (λ q. q * s.sc + bx % s.sc) stripe ∙ (ap (λ r. by / s.sc * s.sc + r) same.1 ∙ div-add-mod' by s.sc)) in
          omega (arith, ap (λ q. q % u * s.su) stripe, mod_rises x y s.su block h)
    ]

run : (s : Striping) → Sizes s → (x i j : ℕ) → i ≤ j → x / s.su ≡ (x + j) / s.su → (object_of s (x + i) ≡ object_of s x) × (offset_of s (x + i) ≡ offset_of s x + i)
unfolding object_of offset_of
run s z x i j le far =
    let u = s.os / s.su in
    let su : 0 < s.su = omega (arith, z.su) in
    let e : x / s.su ≡ (x + i) / s.su = omega (arith, far, div_rises x (x + i) s.su su (omega arith), div_rises (x + i) (x + j) s.su su (omega (arith, le))) in (
      ap (λ b. b / s.sc / u * s.sc + b % s.sc) (sym e),
      omega (arith, ap (λ b. b / s.sc % u * s.su) e, div-add-mod' x s.su, div-add-mod' (x + i) s.su, ap (λ b. b * s.su) e),
    )

first : (s : Striping) → Sizes s → (x : ℕ) → period s ≤ x → 1 ≤ object_of s x
unfolding object_of
first s z x h =
    let u = s.os / s.su in
    let su : 0 < s.su = omega (arith, z.su) in
    let set : 1 ≤ x / s.su / s.sc / u = le-div 1 (x / s.su / s.sc) u z.units (le-div (1 * u) (x / s.su) s.sc z.sc (le-div (1 * u * s.sc) x s.su su (omega (arith, h, ap (λ o. o * s.sc) z.whole)))) in
    omega (arith, mul-le 1 1 (x / s.su / s.sc / u) s.sc set z.sc)

pub within : (s : Striping) → Sizes s → (x : ℕ) → offset_of s x < s.os
unfolding offset_of
within s z x =
    let u = s.os / s.su in
    let row : x / s.su / s.sc % u < u = mod_below (x / s.su / s.sc) u z.units in
    omega (arith, mod_below x s.su (omega (arith, z.su)), mul-le (x / s.su / s.sc % u + 1) s.su u s.su (omega (arith, row)) (omega arith), z.whole)

-- a position's object is one of its set
pub set_is : (s : Striping) → Sizes s → (x : ℕ) → object_of s x / s.sc ≡ set_of s x
unfolding object_of
set_is s z x =
    div-mul-add (x / s.su / s.sc / (s.os / s.su)) s.sc (x / s.su % s.sc) (mod_below (x / s.su) s.sc z.sc)
    ∙ (ap (λ y. y / (s.os / s.su)) (div-div-eq-div-mul x s.su s.sc)
    ∙ (div-div-eq-div-mul x (s.su * s.sc) (s.os / s.su) ∙ ap (λ p. x / p) (periods s z)))
  where
    periods : (s : Striping) → Sizes s → s.su * s.sc * (s.os / s.su) ≡ s.os * s.sc
    periods s z = omega (arith, ap (λ o. o * s.sc) z.whole)

there : (s : Striping) → Sizes s → (x : ℕ) → position_at s (object_of s x) (offset_of s x) ≡ x
unfolding object_of offset_of position_at
there s z x =
    let u = s.os / s.su in
    let b = x / s.su in
    let t = b / s.sc in
    let column : b % s.sc < s.sc = mod_below b s.sc z.sc in
    let inside : x % s.su < s.su = mod_below x s.su (omega (arith, z.su)) in
    ap (λ n. ((n * u + (t % u * s.su + x % s.su) / s.su) * s.sc + (t / u * s.sc + b % s.sc) % s.sc) * s.su + (t % u * s.su + x % s.su) % s.su) (div-mul-add (t / u) s.sc (b % s.sc) column)
    ∙ (ap (λ n. ((t / u * u + n) * s.sc + (t / u * s.sc + b % s.sc) % s.sc) * s.su + (t % u * s.su + x % s.su) % s.su) (div-mul-add (t % u) s.su (x % s.su) inside)
    ∙ (ap (λ n. ((t / u * u + t % u) * s.sc + n) * s.su + (t % u * s.su + x % s.su) % s.su) (mod-mul-add (t / u) s.sc (b % s.sc) column)
    ∙ (ap (λ n. ((t / u * u + t % u) * s.sc + b % s.sc) * s.su + n) (mod-mul-add (t % u) s.su (x % s.su) inside)
    ∙ (ap (λ n. (n * s.sc + b % s.sc) * s.su + x % s.su) (div-add-mod' t u)
    ∙ (ap (λ n. n * s.su + x % s.su) (div-add-mod' b s.sc) ∙ div-add-mod' x s.su)))))

-- each place of an object is one position's
back : (s : Striping) → Sizes s → (n o : ℕ) → o < s.os → (object_of s (position_at s n o) ≡ n) × (offset_of s (position_at s n o) ≡ o)
unfolding object_of offset_of position_at
back s z n o h =
    let u = s.os / s.su in
    let su : 0 < s.su = omega (arith, z.su) in
    let t = n / s.sc * u + o / s.su in
    let c = n % s.sc in
    let r = o % s.su in
    let in_unit = mod_below o s.su su in
    let in_row = mod_below n s.sc z.sc in
    let row : o / s.su < u = div_below o s.su u su (omega (arith, h, z.whole)) in
    let block : ((t * s.sc + c) * s.su + r) / s.su ≡ t * s.sc + c = div-mul-add (t * s.sc + c) s.su r in_unit in
    let stripe : ((t * s.sc + c) * s.su + r) / s.su / s.sc ≡ t = ap (λ b. b / s.sc) block ∙ div-mul-add t s.sc c in_row in
    let column : ((t * s.sc + c) * s.su + r) / s.su % s.sc ≡ c = ap (λ b. b % s.sc) block ∙ mod-mul-add t s.sc c in_row in (
      ap (λ y. y / u * s.sc + ((t * s.sc + c) * s.su + r) / s.su % s.sc) stripe
          ∙ (ap (λ y. t / u * s.sc + y) column ∙ (ap (λ y. y * s.sc + c) (div-mul-add (n / s.sc) u (o / s.su) row) ∙ div-add-mod' n s.sc)),
      ap (λ y. y % u * s.su + ((t * s.sc + c) * s.su + r) % s.su) stripe
          ∙ (ap (λ y. t % u * s.su + y) (mod-mul-add (t * s.sc + c) s.su r in_unit) ∙ (ap (λ y. y * s.su + r) (mod-mul-add (n / s.sc) u (o / s.su) row) ∙ div-add-mod' o s.su)),
    )

window : (s : Striping) → Sizes s → (x y : ℕ) → y ≤ x + 4 * period s → y ≤ 2 ^ 62 → y ≤ window_end s x
unfolding window_end
window s z x y h top = omega (arith, h, top, div-add-mod' (min (x + 4 * period s - 1) (2 ^ 62 - 1)) (period s), mod_below (min (x + 4 * period s - 1) (2 ^ 62 - 1)) (period s) (omega (arith, z.period_least)))

pub placed : (s : Striping) → Sizes s → Placing s
placed s z = record { rising = rising s z; run = run s z; first = first s z; within = within s z; set = set_is s z; there = there s z; back = back s z; window = window s z }

pub placing : (s : Striping) → IsStriping s → Placing s
placing s h = placed s (sizes s h)

-- two positions within one unit
pub in_one_unit : (s : Striping) → Sizes s → (from i : ℕ) → from + i < unit_end s from → from / s.su ≡ (from + i) / s.su
in_one_unit s z from i h =
    let su : 0 < s.su = omega (arith, z.su) in
    omega (arith, div_rises from (from + i) s.su su (omega arith), div_below (from + i) s.su (from / s.su + 1) su h)

-- a position is no less than each number on the way to it
pub record Parts (s : Striping) (n o : ℕ) : Type 0 where
  pub sets : n / s.sc * (s.os / s.su) ≤ position_at s n o
  pub stripe : n / s.sc * (s.os / s.su) + o / s.su ≤ position_at s n o
  pub columns : (n / s.sc * (s.os / s.su) + o / s.su) * s.sc ≤ position_at s n o
  pub block : (n / s.sc * (s.os / s.su) + o / s.su) * s.sc + n % s.sc ≤ position_at s n o
  pub units : ((n / s.sc * (s.os / s.su) + o / s.su) * s.sc + n % s.sc) * s.su ≤ position_at s n o

pub parts : (s : Striping) → Sizes s → (n o : ℕ) → Parts s n o
unfolding position_at
parts s z n o =
    let t = n / s.sc * (s.os / s.su) + o / s.su in
    let b = t * s.sc + n % s.sc in
    let columns : t * 1 ≤ t * s.sc = mul-le t 1 t s.sc (omega arith) z.sc in
    let units : b * 1 ≤ b * s.su = mul-le b 1 b s.su (omega arith) (omega (arith, z.su)) in
    record { sets = omega (arith, columns, units); stripe = omega (arith, columns, units); columns = omega (arith, units); block = omega (arith, units); units = omega arith }

-- ---- stripe units

pub unit_ends : (s : Striping) → Sizes s → (x : ℕ) → unit_end s x ≡ x + (s.su - x % s.su)
unit_ends s z x = omega (arith, div-add-mod' x s.su, mod_below x s.su (omega (arith, z.su)))
