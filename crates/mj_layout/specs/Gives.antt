-- What a reader of fields returns, against what reading gives.
use Rattle.std.specs.Prelude.{◌≡◌, ℕ, List, Result, Ok, Err}
use Rattle.mj_base.specs.Reading.{Read}

-- the value as contracts see it, or how many bytes are left from the fault on
abbrev pub Gives : {X Y : Type 0} → (X → Y) → Result X ℕ → Result Y ℕ → Type 0
Gives view (Ok x) read = read ≡ Ok (view x)
Gives view (Err left) read = read ≡ Err left

-- the same of a reader that goes on, with the bytes that are then left
abbrev pub Reads : {X Y : Type 0} → (X → Y) → Result X ℕ → List ℕ → Read Y → Type 0
Reads view (Ok x) new read = read ≡ Ok (view x, new)
Reads view (Err left) new read = read ≡ Err left
