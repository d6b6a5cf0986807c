-- Why a range of the stream was not read.
use Rattle.std.specs.Prelude.{◌≡◌, ℕ, ◌<◌, ◌≤◌}
use Rattle.mj_store.specs.Object.{Contents}
use Rattle.mj_store.specs.Causes.{IsCounted}
use Rattle.mj_store.specs.declared.answer.ReadRefusal.{ReadRefusal}
use Rattle.mj_store.specs.declared.answer.ReadRefusal.TheVariants as read
use Rattle.mj_layout.specs.Striping.{Striping}
use Rattle.mj_recovery.specs.Stream.{probed_end}
use Rattle.mj_probe.specs.declared.refusal.RangeRefusal.{RangeRefusal}
use Rattle.mj_probe.specs.declared.refusal.RangeRefusal.TheVariants.{Hole, Store, Memory}

-- what a refused read makes of the range
abbrev pub range_refusal : ReadRefusal → RangeRefusal
range_refusal (read.Failed fault) = Store fault
range_refusal read.Memory = Memory

-- over every store: a fault is counted, and a hole lies in the range
abbrev pub RefusesRange : ℕ → ℕ → ℕ → ℕ → RangeRefusal → Type 0
RefusesRange before now from to (Hole at) = (from ≤ at) × (at < to)
RefusesRange before now from to (Store fault) = IsCounted before now fault
RefusesRange before now from to Memory = Unit {0}

-- a hole is where the stream ends
abbrev pub EndsAtHole : Contents → ℕ → Striping → ℕ → RangeRefusal → Type 0
EndsAtHole image rank layout from (Hole at) = at ≡ probed_end image rank layout from
EndsAtHole image rank layout from (Store fault) = Unit {0}
EndsAtHole image rank layout from Memory = Unit {0}
