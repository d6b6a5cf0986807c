-- A refused operation as the refusal of formatting.
use Rattle.std.proofs.Common.{◌≡◌, ◌≤◌, ℕ, List, arith}
use Rattle.mj_store.specs.Causes.{Listed}
use Rattle.mj_store.specs.Calls.{RefusesPerform}
use Rattle.mj_store.specs.declared.answer.PerformRefusal.{PerformRefusal}
use Rattle.mj_store.specs.declared.answer.PerformRefusal.TheVariants.{Failed, Waiting, Memory}
use Rattle.mj_format.specs.declared.refusal.FormatRefusal.TheVariants as format
use Rattle.mj_format.specs.Refusals.{RefusesFormat, of_perform}

pub waits_performed : (why : PerformRefusal) (number : ℕ) → of_perform why ≡ format.Waiting number → why ≡ Waiting number
waits_performed (Failed fault) number e = cc
waits_performed (Waiting op) number e = cc
waits_performed Memory number e = cc

-- a fault is counted since any earlier moment
pub refused_performed : (first before now : ℕ) (list : List Listed) (why : PerformRefusal) → first ≤ before → RefusesPerform before now list why → RefusesFormat first now list (of_perform why)
refused_performed first before now list (Failed fault) le r = record { rose = omega (arith, le, r.rose); count = r.count }
refused_performed first before now list (Waiting op) le r = r
refused_performed first before now list Memory le r = r
