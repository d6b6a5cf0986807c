-- What a chronicle keeps beside its entries.
use Rattle.std.specs.Prelude.{◌≡◌}
use Rattle.mj_chronicle.specs.Weight.{total_weight}
use Rattle.mj_chronicle.specs.Ends.{IsIndexOf}
use Rattle.mj_chronicle.specs.Room.{IsWithinLimits}
use Rattle.mj_chronicle.specs.declared.chronicle.Chronicle.TheInside.{Inside}

pub record IsSound (a : Inside) : Type 0 where
  pub limits : IsWithinLimits a.entries.items
  pub weight : a.weight ≡ total_weight a.entries.items
  pub ends : IsIndexOf a.entries.items a.ends
