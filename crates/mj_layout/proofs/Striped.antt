-- What a striping's test says.
use Rattle.std.proofs.Common.{◌≡◌, ℕ, zero, suc, ◌*◌, ◌/◌, ◌%◌, ◌≤◌, arith}
use Rattle.std.specs.Prelude.{◌&&◌, nat_le}
use Rattle.std.proofs.lemmas.Bool.{leb-true, eqb-true}
use Rattle.std.proofs.lemmas.Nat.{div-add-mod', mul-le}
use Rattle.mj_base.proofs.Codec.{true_and}
use Rattle.mj_layout.specs.Striping.{Striping, IsStriping, is_size, is_count, is_unit, divides, period}

pub record Sizes (s : Striping) : Type 0 where
  pub su : 4096 ≤ s.su
  pub su_most : s.su ≤ s.os
  pub sc : 1 ≤ s.sc
  pub sc_most : s.sc ≤ 16
  pub os : 65536 ≤ s.os
  pub os_most : s.os ≤ 4194304
  pub units : 1 ≤ s.os / s.su
  pub whole : s.os / s.su * s.su ≡ s.os
  pub period_least : 65536 ≤ period s
  pub period_most : period s ≤ 67108864

pub sizes : (s : Striping) → IsStriping s → Sizes s
sizes s h =
    let rest = true_and (is_size s.os && is_count s.sc && is_unit s.su) (divides s.su s.os) h in
    let front = true_and (is_size s.os && is_count s.sc) (is_unit s.su) rest.0 in
    let first = true_and (is_size s.os) (is_count s.sc) front.0 in
    let size = true_and (nat_le 65536 s.os) (nat_le s.os 4194304) first.0 in
    let count = true_and (nat_le 1 s.sc) (nat_le s.sc 16) first.1 in
    let su : 4096 ≤ s.su = leb-true 4096 s.su front.1 in
    let os : 65536 ≤ s.os = leb-true 65536 s.os size.0 in
    let os_most : s.os ≤ 4194304 = leb-true s.os 4194304 size.1 in
    let sc : 1 ≤ s.sc = leb-true 1 s.sc count.0 in
    let sc_most : s.sc ≤ 16 = leb-true s.sc 16 count.1 in
    let none : s.os % s.su ≡ 0 = eqb-true (s.os % s.su) 0 rest.1 in
    let whole : s.os / s.su * s.su ≡ s.os = omega (arith, div-add-mod' s.os s.su, none) in
    let units : 1 ≤ s.os / s.su = some_unit (s.os / s.su) s.su s.os whole os in
    record {
      su = su;
      su_most = omega (arith, mul-le 1 s.su (s.os / s.su) s.su units (omega arith), whole);
      sc = sc;
      sc_most = sc_most;
      os = os;
      os_most = os_most;
      units = units;
      whole = whole;
      period_least = omega (arith, mul-le 65536 1 s.os s.sc os sc);
      period_most = omega (arith, mul-le s.os s.sc 4194304 16 os_most sc_most);
    }
  where
    some_unit : (u su os : ℕ) → u * su ≡ os → 65536 ≤ os → 1 ≤ u
    some_unit zero su os e h = absurd (omega (arith, e, h))
    some_unit (suc u) su os e h = omega arith
