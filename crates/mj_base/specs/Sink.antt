-- What a sink has taken.
use Rattle.std.specs.Prelude.{◌≡◌, ℕ, ◌<◌, List, ◌++◌, length, take, Option, option_map}

-- these bytes were taken after those taken before, where those are told
abbrev pub then_taken : List ℕ → Option (List ℕ) → Option (List ℕ)
then_taken bytes told = option_map (λ before. before ++ bytes) told

-- some front of the bytes, but not all of them, was taken
pub record TakesFront (bytes : List ℕ) (old new : Option (List ℕ)) : Type 0 where
  pub count : ℕ
  pub short : count < length bytes
  pub taken : new ≡ then_taken (take count bytes) old
