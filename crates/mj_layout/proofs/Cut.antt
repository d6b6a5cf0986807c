-- The front of an object below a position, by the sets, rows and columns of both.
use Rattle.std.proofs.Common.{◌≡◌, inl, inr, ℕ, ◌+◌, ◌-◌, ◌*◌, ◌/◌, ◌%◌, ◌<◌, ◌≤◌, sym, ◌∙◌, ap, arith}
use Rattle.std.proofs.lemmas.Nat.{div-add-mod', div-mul-add, mod-mul-add, mod_below, mul-le}
use Rattle.std.proofs.lemmas.Bool.{cases_lt, cases_order}
use Rattle.mj_layout.specs.Striping.{Striping}
use Rattle.mj_layout.specs.Place.{object_of, offset_of}
use Rattle.mj_layout.specs.Cutting.{IsCut}
use Rattle.mj_layout.proofs.Striped.{Sizes}
use Rattle.mj_layout.proofs.Placed.{div_rises, mod_rises, placed, within}

-- where the unit of a position begins in its object
abbrev pub row_of : Striping → ℕ → ℕ
row_of s x = x / s.su / s.sc % (s.os / s.su) * s.su

pub object_set : (s : Striping) → Sizes s → (x : ℕ) → object_of s x / s.sc ≡ x / s.su / s.sc / (s.os / s.su)
unfolding object_of
object_set s z x = div-mul-add (x / s.su / s.sc / (s.os / s.su)) s.sc (x / s.su % s.sc) (mod_below (x / s.su) s.sc z.sc)

pub object_column : (s : Striping) → Sizes s → (x : ℕ) → object_of s x % s.sc ≡ x / s.su % s.sc
unfolding object_of
object_column s z x = mod-mul-add (x / s.su / s.sc / (s.os / s.su)) s.sc (x / s.su % s.sc) (mod_below (x / s.su) s.sc z.sc)

pub offset_in_unit : (s : Striping) → Sizes s → (x : ℕ) → offset_of s x % s.su ≡ x % s.su
unfolding offset_of
offset_in_unit s z x = mod-mul-add (x / s.su / s.sc % (s.os / s.su)) s.su (x % s.su) (mod_below x s.su (omega (arith, z.su)))

pub unit_begins : (s : Striping) → Sizes s → (x : ℕ) → offset_of s x - offset_of s x % s.su ≡ row_of s x
unfolding offset_of
unit_begins s z x = omega (arith, offset_in_unit s z x)

-- an object of a later set
pub cut_later : (s : Striping) → Sizes s → (n at : ℕ) → object_of s at / s.sc < n / s.sc → IsCut s n at 0
unfolding object_of
cut_later s z n at later = record {
  below = λ x e h. absurd (omega (
    arith,
    later,
    ap (λ i. i / s.sc) (sym e),
    object_set s z x,
    object_set s z at,
    div_rises (x / s.su / s.sc) (at / s.su / s.sc) (s.os / s.su) z.units (div_rises (x / s.su) (at / s.su) s.sc z.sc (div_rises x at s.su (omega (arith, z.su)) (omega (arith, h)))),
  ));
  above = λ x e h. omega arith;
}

-- an object of an earlier set
pub cut_earlier : (s : Striping) → Sizes s → (n at : ℕ) → n / s.sc < object_of s at / s.sc → IsCut s n at s.os
cut_earlier s z n at earlier = record {
  below = λ x e h. within s z x;
  above = λ x e h. absurd (omega (
    arith,
    earlier,
    ap (λ i. i / s.sc) (sym e),
    object_set s z x,
    object_set s z at,
    div_rises (at / s.su / s.sc) (x / s.su / s.sc) (s.os / s.su) z.units (div_rises (at / s.su) (x / s.su) s.sc z.sc (div_rises at x s.su (omega (arith, z.su)) h)),
  ));
}

-- the position's own object
pub cut_own : (s : Striping) → Sizes s → (n at : ℕ) → object_of s at ≡ n → IsCut s n at (offset_of s at)
cut_own s z n at own = record {
  below = λ x e h. (placed s z).rising x at (e ∙ sym own) h;
  above = λ x e h. elim (cases_order at x) [
    | inl same ↦ omega (arith, ap (offset_of s) same)
    | inr d ↦ elim d [ inl less ↦ omega (arith, (placed s z).rising at x (own ∙ sym e) less) | inr more ↦ absurd (omega (arith, h, more)) ]
  ];
}

-- what two positions of one set have to do with one another, by rows and columns
record Rows (s : Striping) (x at : ℕ) (n : ℕ) : Type 0 where
  pub column : x / s.su % s.sc ≡ n % s.sc
  pub set : x / s.su / s.sc / (s.os / s.su) ≡ at / s.su / s.sc / (s.os / s.su)

rows_of : (s : Striping) → Sizes s → (n at x : ℕ) → n / s.sc ≡ object_of s at / s.sc → object_of s x ≡ n → Rows s x at n
rows_of s z n at x set e = record {
  column = sym (object_column s z x) ∙ ap (λ i. i % s.sc) e;
  set = sym (object_set s z x) ∙ (ap (λ i. i / s.sc) e ∙ (set ∙ object_set s z at));
}

-- remainders do not fall
mods_rise : (x y k : ℕ) → x / k ≡ y / k → x ≤ y → x % k ≤ y % k
mods_rise x y k e h = omega (arith, div-add-mod' x k, div-add-mod' y k, ap (λ q. q * k) e)

same_number : (a b : ℕ) → a ≤ b → b ≤ a → a ≡ b
same_number a b h i = omega arith

-- an object of a column to the left
pub cut_left : (s : Striping) → Sizes s → (n at : ℕ) → n / s.sc ≡ object_of s at / s.sc → n % s.sc < object_of s at % s.sc → IsCut s n at (row_of s at + s.su)
unfolding offset_of
cut_left s z n at set less =
    let u = s.os / s.su in
    let su : 0 < s.su = omega (arith, z.su) in
    let ra = at / s.su / s.sc % u in
    let column : object_of s at % s.sc ≡ at / s.su % s.sc = object_column s z at in record {
      below = λ x e h.
          let r = rows_of s z n at x set e in
          let rows = mods_rise (x / s.su / s.sc) (at / s.su / s.sc) u r.set (div_rises (x / s.su) (at / s.su) s.sc z.sc (div_rises x at s.su su (omega (arith, h)))) in
          omega (arith, mod_below x s.su su, mul-le (x / s.su / s.sc % u + 1) s.su (ra + 1) s.su (omega (arith, rows)) (omega arith));
      above = λ x e h.
          let r = rows_of s z n at x set e in
          let blocks : at / s.su ≤ x / s.su = div_rises at x s.su su h in
          let stripes : at / s.su / s.sc ≤ x / s.su / s.sc = div_rises (at / s.su) (x / s.su) s.sc z.sc blocks in
          elim (cases_lt (at / s.su / s.sc) (x / s.su / s.sc)) [
            | inl later ↦ omega (arith, mul-le (ra + 1) s.su (x / s.su / s.sc % u) s.su (omega (arith, mod_rises (at / s.su / s.sc) (x / s.su / s.sc) u (sym r.set) later)) (omega arith))
            | inr not ↦ absurd (omega (arith, blocks, less, r.column, column, div-add-mod' (at / s.su) s.sc, div-add-mod' (x / s.su) s.sc, ap (λ q. q * s.sc) (same_number (at / s.su / s.sc) (x / s.su / s.sc) stripes not)))
          ];
    }

-- an object of a column to the right
pub cut_right : (s : Striping) → Sizes s → (n at : ℕ) → n / s.sc ≡ object_of s at / s.sc → object_of s at % s.sc < n % s.sc → IsCut s n at (row_of s at)
unfolding offset_of
cut_right s z n at set less =
    let u = s.os / s.su in
    let su : 0 < s.su = omega (arith, z.su) in
    let ra = at / s.su / s.sc % u in
    let column : object_of s at % s.sc ≡ at / s.su % s.sc = object_column s z at in record {
      below = λ x e h.
          let r = rows_of s z n at x set e in
          let blocks : x / s.su ≤ at / s.su = div_rises x at s.su su (omega (arith, h)) in
          let stripes : x / s.su / s.sc ≤ at / s.su / s.sc = div_rises (x / s.su) (at / s.su) s.sc z.sc blocks in
          elim (cases_lt (x / s.su / s.sc) (at / s.su / s.sc)) [
            | inl earlier ↦ omega (arith, mod_below x s.su su, mul-le (x / s.su / s.sc % u + 1) s.su ra s.su (omega (arith, mod_rises (x / s.su / s.sc) (at / s.su / s.sc) u r.set earlier)) (omega arith))
            | inr not ↦ absurd (omega (arith, blocks, less, r.column, column, div-add-mod' (at / s.su) s.sc, div-add-mod' (x / s.su) s.sc, ap (λ q. q * s.sc) (same_number (x / s.su / s.sc) (at / s.su / s.sc) stripes not)))
          ];
      above = λ x e h.
          let r = rows_of s z n at x set e in
          let rows = mods_rise (at / s.su / s.sc) (x / s.su / s.sc) u (sym r.set) (div_rises (at / s.su) (x / s.su) s.sc z.sc (div_rises at x s.su su h)) in
          omega (arith, mul-le ra s.su (x / s.su / s.sc % u) s.su rows (omega arith));
    }

pub own : (s : Striping) (n at : ℕ) → n / s.sc ≡ object_of s at / s.sc → object_of s at % s.sc ≤ n % s.sc → n % s.sc ≤ object_of s at % s.sc → object_of s at ≡ n
own s n at same a b = omega (arith, a, b, div-add-mod' n s.sc, div-add-mod' (object_of s at) s.sc, ap (λ q. q * s.sc) same)
