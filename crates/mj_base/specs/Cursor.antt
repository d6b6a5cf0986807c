-- What a cursor over bytes gives, against what reading from the front gives.
use Rattle.std.specs.Prelude.{◌≡◌, ℕ, List, length, Option, Some, None, Result, Ok, Err}
use Rattle.mj_base.specs.Reading.{Read}
use Rattle.mj_base.specs.declared.cursor.Fault.{Fault}
use Rattle.mj_base.specs.declared.cursor.Fault.TheVariants.{Memory, Left}

-- nothing where too few bytes are left, and then nothing is taken; else the value, before what is left
abbrev pub Takes : {A : Type 0} → Option A → List ℕ → List ℕ → Read A → Type 0
Takes None old new read = (read ≡ Err (length old)) × (new ≡ old)
Takes (Some x) old new read = read ≡ Ok (x, new)

-- the field at which reading fails, unless memory ran out
abbrev pub Faults : {A : Type 0} → Fault → Read A → Type 0
Faults Memory read = Unit {0}
Faults (Left n) read = read ≡ Err n

-- the value that reading gives, before what is left
abbrev pub Reads : {X A : Type 0} → (X → A) → Result X Fault → List ℕ → Read A → Type 0
Reads view (Ok x) new read = read ≡ Ok (view x, new)
Reads view (Err why) new read = Faults why read
