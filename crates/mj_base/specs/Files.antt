-- Files by name, and what reading and writing them gives.
use Rattle.std.specs.Prelude.{◌≡◌, ℕ, List, length, Option, Some, None, IsSomeAnd, bytes_eq}
use Rattle.std.specs.Map.{update}
use Rattle.mj_base.specs.declared.files.FileRefusal.{FileRefusal}
use Rattle.mj_base.specs.declared.files.FileRefusal.TheVariants.{Missing, TooLong, Failed, Memory}

-- the bytes of each file by the bytes of its name; none where no such file is held
abbrev pub FilesByName : Type 0
FilesByName = List ℕ → Option (List ℕ)

-- the same files, but that the one of this name has these bytes
abbrev pub with_file : List ℕ → List ℕ → FilesByName → FilesByName
with_file name bytes files = update bytes_eq files name (Some bytes)

-- what holds of the contents, where they are told
abbrev pub IfTold : {A : Type 0} → Option A → (A → Type 0) → Type 0
IfTold {A} told P = (contents : A) → told ≡ Some contents → P contents

-- what may refuse to read that which a name holds; a fault and want of memory always may
abbrev pub IsRefusalOf : Option (List ℕ) → FileRefusal → Type 0
IsRefusalOf held Missing = held ≡ None
IsRefusalOf held (TooLong n) = IsSomeAnd held (λ bytes. n ≡ length bytes)
IsRefusalOf held Failed = Unit {0}
IsRefusalOf held Memory = Unit {0}
