-- The bytes of a map, where there is one.
use Rattle.std.specs.Prelude.{ℕ, List, Option}
use Rattle.std.specs.Option.{option_map}
use Rattle.std.specs.declared.alloc.Global.{Global}
use Rattle.std.specs.declared.vec.Vec.{Vec}

abbrev pub map_of : Option (Vec ℕ Global) → Option (List ℕ)
map_of o = option_map (λ (v : Vec ℕ Global). v.items) o
