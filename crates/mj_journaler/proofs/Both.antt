-- Two entries that are not refused together.
use Rattle.std.proofs.Common.{◌≡◌, ℕ, ◌+◌, ◌-◌, ◌^◌, ◌<◌, ◌≤◌, max, Bool, true, false, cond, List, length, Option, None, Some, refl, ap, ◌∙◌, arith}
use Rattle.std.specs.Prelude.{nat_lt}
use Rattle.std.proofs.lemmas.Bool.{cases_lt, ltb-false}
use Rattle.mj_entry.specs.Entry.{entry_length}
use Rattle.mj_journaler.specs.Journal.{Journal, end_of, unsafe_of}
use Rattle.mj_journaler.specs.Calls.{append_refusal, append_both_refusal, appended, reserved, TakesBoth}
use Rattle.mj_journaler.specs.declared.AppendRefusal.{AppendRefusal}
use Rattle.mj_journaler.specs.declared.AppendRefusal.TheVariants.{Full, Spent}
use Rattle.mj_journaler.proofs.Kept.{end_more}

none_of_three : (a b c : Bool) (x y z : AppendRefusal) → cond a (Some x) (cond b (Some y) (cond c (Some z) None)) ≡ None → (a ≡ false) × (b ≡ false) × (c ≡ false)
none_of_three true b c x y z h = cc
none_of_three false true c x y z h = cc
none_of_three false false true x y z h = cc
none_of_three false false false x y z h = (refl, refl, refl)

not_below : (a b : ℕ) → b ≤ a → nat_lt a b ≡ false
not_below a b h = grind (arith, ltb-false)

-- what fits is not refused
fitting : (j : Journal) (payload : List ℕ) → unsafe_of j + entry_length payload ≤ 8388608 → end_of j + entry_length payload ≤ 2 ^ 62 - 1 → append_refusal j payload ≡ None
fitting j payload few below =
    ap (λ b. cond b (Some (Full (unsafe_of j))) (cond (nat_lt (2 ^ 62 - 1) (end_of j + entry_length payload)) (Some (Spent (end_of j))) None)) (not_below 8388608 (unsafe_of j + entry_length payload) few)
    ∙ ap (λ b. cond b (Some (Spent (end_of j))) None) (not_below (2 ^ 62 - 1) (end_of j + entry_length payload) below)

pub takes_both : (first second : List ℕ) (j : Journal) → append_both_refusal j first second ≡ None → TakesBoth first second j
takes_both first second j h =
    let a = entry_length first in
    let b = entry_length second in
    let tests = none_of_three (nat_lt 8388608 (unsafe_of j + a + b)) (nat_lt (2 ^ 62 - 1) (end_of j + a)) (nat_lt (2 ^ 62 - 1) (end_of j + a + b)) (Full (unsafe_of j)) (Spent (end_of j)) (Spent (end_of j + a)) h in
    let few : unsafe_of j + a + b ≤ 8388608 = ltb-false 8388608 (unsafe_of j + a + b) tests.0 in
    let below : end_of j + a + b ≤ 2 ^ 62 - 1 = ltb-false (2 ^ 62 - 1) (end_of j + a + b) tests.2 in
    let more : end_of (appended first j) ≡ end_of j + a = end_more j first in
    record {
      first = fitting j first (omega (arith, few)) (omega (arith, below));
      second = fitting (appended first j) second (omega (arith, few, more)) (omega (arith, below, more));
      first_room = omega arith;
      second_room = omega arith;
    }
