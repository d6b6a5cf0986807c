-- Why a store was not formatted, and the cause of that.
use Rattle.std.specs.Prelude.{ℕ, List}
use Rattle.mj_store.specs.Causes.{Listed, In, IsCounted}
use Rattle.mj_store.specs.declared.answer.PerformRefusal.{PerformRefusal}
use Rattle.mj_store.specs.declared.answer.PerformRefusal.TheVariants as perform
use Rattle.mj_format.specs.declared.refusal.FormatRefusal.{FormatRefusal}
use Rattle.mj_format.specs.declared.refusal.FormatRefusal.TheVariants.{Formatted, Store, Waiting, Memory}

-- what a refused operation makes of the call
abbrev pub of_perform : PerformRefusal → FormatRefusal
of_perform (perform.Failed fault) = Store fault
of_perform (perform.Waiting op) = Waiting op
of_perform perform.Memory = Memory

-- A fault is counted, and an operation that is waited for is listed. Want of memory is free. That there is a journal is told by a
-- store that tells its state.
abbrev pub RefusesFormat : ℕ → ℕ → List Listed → FormatRefusal → Type 0
RefusesFormat before now list Formatted = Unit {0}
RefusesFormat before now list (Store fault) = IsCounted before now fault
RefusesFormat before now list (Waiting op) = (count : ℕ) × In (record { op = op; count = count }) list
RefusesFormat before now list Memory = Unit {0}

-- what is refused where there is a journal
abbrev pub IsFormattedOrFault : FormatRefusal → Type 0
IsFormattedOrFault Formatted = Unit {0}
IsFormattedOrFault (Store fault) = Unit {0}
IsFormattedOrFault _ = ⊥
