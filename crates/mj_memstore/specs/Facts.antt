-- What a store in memory keeps of its objects is a fact: it has one proof at most.
use Rattle.std.specs.Prelude.{◌≡◌, ℕ, zero, suc, [], ◌∷◌, Option, None, Some, refl}
use Rattle.std.specs.Coded.{Coded, Coded-set, code_by, coded×, coded_ℕ, ×_prop, Unit-prop}
use Rattle.std.proofs.Props.{props}
use Rattle.mj_base.specs.declared.object.ObjectName.{ObjectName}
use Rattle.mj_base.specs.declared.object.ObjectName.TheVariants.{File, InoTable, SessionMap}
use Rattle.mj_store.specs.declared.held.HeldObject.{HeldObject}
use Rattle.mj_memstore.specs.Content.{IsHeldAs, IsSound}
use Rattle.mj_memstore.specs.HeldView.{HeldView}
use Rattle.mj_memstore.specs.Memory.{Entries, IsNamed, AreNamed}

to_numbers : ObjectName → ℕ × (ℕ × ℕ)
to_numbers (File ino index) = (0, (ino, index))
to_numbers (InoTable rank) = (1, (rank, 0))
to_numbers (SessionMap rank) = (2, (rank, 0))

from_numbers : ℕ → ℕ → ℕ → ObjectName
from_numbers zero a b = File a b
from_numbers (suc zero) a b = InoTable a
from_numbers (suc (suc n)) a b = SessionMap a

back : (name : ObjectName) → from_numbers (to_numbers name).0 (to_numbers name).1.0 (to_numbers name).1.1 ≡ name
unfolding to_numbers from_numbers
back (File ino index) = refl
back (InoTable rank) = refl
back (SessionMap rank) = refl

name_code : Coded ObjectName
name_code = code_by (ℕ × (ℕ × ℕ)) (coded× coded_ℕ (coded× coded_ℕ coded_ℕ)) to_numbers (λ p. from_numbers p.0 p.1.0 p.1.1) back

pub same_prop : (a b : ObjectName) → IsProp (a ≡ b)
same_prop = Coded-set name_code

held_prop : (name : ObjectName) (h : HeldObject) → IsProp (IsHeldAs name h)
held_prop name h = Prim.hlevel (props, same_prop)

sound_prop : (name : ObjectName) (o : Option HeldObject) → IsProp (IsSound name o)
sound_prop name None = Unit-prop
sound_prop name (Some h) = held_prop name h

entry_prop : (name : ObjectName) (v : HeldView) → IsProp (IsNamed name v)
entry_prop name v = Prim.hlevel (same_prop, sound_prop)

pub named_prop : (es : Entries) → IsProp (AreNamed es)
named_prop [] = Unit-prop
named_prop (e ∷ es) = ×_prop (entry_prop e.0 e.1) (named_prop es)
