-- A store with few objects, and an image of it as a finite map.
use Rattle.std.specs.Prelude.{◌≡◌, Option, None, Some, List, [], ◌∷◌}
use Rattle.mj_maps.specs.Map.{empty, insert}
use Rattle.mj_base.specs.declared.object.ObjectName.{ObjectName}
use Rattle.mj_store.specs.Object.{Content, Contents}
use Rattle.mj_store.specs.State.{StoreState, Pending}
use Rattle.mj_store.specs.Causes.{In}
use Rattle.mj_store.specs.Along.{Always}
use Rattle.mj_recovery.specs.Objects.{Objects}

-- an object that is not among these is absent, and nothing is pending there
pub record IsAbsentBut (names : List ObjectName) (name : ObjectName) (held : Option Content) (rest : List Pending) : Type 0 where
  pub absent : (In name names → ⊥) → held ≡ None
  pub idle : (In name names → ⊥) → rest ≡ []

abbrev pub HoldsOnly : List ObjectName → StoreState → Type 0
HoldsOnly names s = Always (IsAbsentBut names) s

-- the objects of these names that an image holds
abbrev pub with_object : Objects → ObjectName → Option Content → Objects
with_object m name None = m
with_object m name (Some o) = insert m name o

abbrev pub objects_among : Contents → List ObjectName → Objects
objects_among image [] = empty
objects_among image (name ∷ names) = with_object (objects_among image names) name (image name)
