-- One value is found, or one damage.
use Rattle.std.proofs.Common.{◌≡◌, Result, Ok}
use Rattle.mj_base.specs.declared.damage.Damage.{Damage}

abbrev done : {A : Type 0} → A → Result A Damage
done x = Ok x

pub ok_is : {A : Type 0} (x y : A) → done x ≡ done y → x ≡ y
ok_is x y e = cc
