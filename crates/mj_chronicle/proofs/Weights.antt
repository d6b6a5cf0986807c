-- Sums of weights.
use Rattle.std.proofs.Common.{◌≡◌, ℕ, ◌+◌, ◌-◌, ◌<◌, ◌≤◌, Bool, true, false, List, [], ◌∷◌, ◌++◌, length, take, get_or, Option, None, Some, refl, sym, ap, arith, length-append}
use Rattle.std.specs.Prelude.{◌&&◌, is_some, IsSome, nat_le, nat_lt}
use Rattle.std.proofs.lemmas.Bool.{le-leb, leb-true, lt-ltb, ltb-true, true≢false}
use Rattle.std.proofs.lemmas.List.{length-take}
use Rattle.std.proofs.lemmas.List.Sums.{sum_by_push, sum_by_more_le}
use Rattle.mj_machine.specs.declared.kept.ChronicleEntry.{ChronicleEntry}
use Rattle.mj_chronicle.specs.Weight.{entry_weight, total_weight, Leaves}
use Rattle.mj_chronicle.specs.Room.{IsWithinLimits, has_room}

both : (a b : Bool) → (a && b) ≡ true → (a ≡ true) × (b ≡ true)
both true b h = (refl, h)
both false b h = absurd (true≢false (sym h))

-- what there is room for is within the limits
pub record Fits (es : List ChronicleEntry) (e : ChronicleEntry) : Type 0 where
  pub few : length es < 1048576
  pub light : total_weight es + entry_weight e ≤ 1073741824

pub fits : (es : List ChronicleEntry) (e : ChronicleEntry) → has_room es e.request e.reply ≡ true → Fits es e
fits es e h =
    let tests = both (nat_lt (length es) 1048576) (nat_le (total_weight es + entry_weight e) 1073741824) h in
    record { few = ltb-true (length es) 1048576 tests.0; light = leb-true (total_weight es + entry_weight e) 1073741824 tests.1 }

-- the weight of the entry is within what is left
pub enough : (left taken : ℕ) (o : Option ℕ) → taken ≤ left → Leaves left taken o → IsSome o
enough left taken None h l = absurd (omega (arith, h, l))
enough left taken (Some rest) h l = refl

pub total-push : (es : List ChronicleEntry) (e : ChronicleEntry) → total_weight (es ++ e ∷ []) ≡ total_weight es + entry_weight e
total-push es e = sum_by_push entry_weight es e

pub within_more : (es : List ChronicleEntry) (e : ChronicleEntry) → Fits es e → IsWithinLimits (es ++ e ∷ [])
within_more es e f = record { few = omega (arith, f.few, length-append es (e ∷ [])); light = omega (arith, f.light, total-push es e) }

pub within_less : (es : List ChronicleEntry) (e : ChronicleEntry) → IsWithinLimits (es ++ e ∷ []) → IsWithinLimits es
within_less es e l = record { few = omega (arith, l.few, length-append es (e ∷ [])); light = omega (arith, l.light, total-push es e) }

-- each entry has room behind those before it
pub room_for : (es : List ChronicleEntry) (i : ℕ) (e : ChronicleEntry) → IsWithinLimits es → i < length es → e ≡ get_or es i e → has_room (take i es) e.request e.reply ≡ true
room_for es i e l h is =
    let few : length (take i es) < 1048576 = omega (arith, length-take i es, h, l.few) in
    let light : total_weight (take i es) + entry_weight e ≤ 1073741824 = omega (arith, sum_by_more_le entry_weight es i e h, ap entry_weight is, l.light) in
    λ k. lt-ltb (length (take i es)) 1048576 few k && le-leb (total_weight (take i es) + entry_weight e) 1073741824 light k
