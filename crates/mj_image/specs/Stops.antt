-- What a reader over a cursor answers, against what reading from the front gives.
use Rattle.std.specs.Prelude.{◌≡◌, ℕ, List, Result, Ok, Err}
use Rattle.mj_base.specs.declared.cursor.Fault.{Fault}
use Rattle.mj_base.specs.declared.cursor.Fault.TheVariants as fault
use Rattle.mj_image.specs.declared.flaw.Flaw.TheVariants.{Cut}
use Rattle.mj_image.specs.declared.flaw.Stop.{Stop}
use Rattle.mj_image.specs.declared.flaw.Stop.TheVariants.{Memory, At}
use Rattle.mj_image.specs.Reading.{Reading}

-- a field that is cut
abbrev pub stop_of : Fault → Stop
stop_of fault.Memory = Memory
stop_of (fault.Left left) = At (Cut left)

-- what is wrong where reading fails, unless memory ran out
abbrev pub Stops : {A : Type 0} → Stop → Reading A → Type 0
Stops Memory read = Unit {0}
Stops (At flaw) read = read ≡ Err flaw

-- the value that reading gives, before what is left
abbrev pub Gives : {X A : Type 0} → (X → A) → Result X Stop → List ℕ → Reading A → Type 0
Gives view (Ok x) new read = read ≡ Ok (view x, new)
Gives view (Err why) new read = Stops why read
