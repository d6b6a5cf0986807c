-- Why a payload is no event.
use Rattle.std.specs.Prelude.{◌≡◌, ℕ, Result, Err}
use Rattle.mj_event.specs.declared.Event.{Event}
use Rattle.mj_event.specs.declared.reading.EventRefusal.{EventRefusal}
use Rattle.mj_event.specs.declared.reading.EventRefusal.TheVariants.{BadEvent, Memory}

-- no memory, or the offset at which reading stops
abbrev pub IsEventRefusal : EventRefusal → Result Event ℕ → Type 0
IsEventRefusal Memory read = Unit {0}
IsEventRefusal (BadEvent at) read = read ≡ Err at
