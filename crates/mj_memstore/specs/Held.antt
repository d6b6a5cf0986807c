-- The fields of an object of a store in memory.
use Rattle.std.specs.Prelude.{◌+◌, ◌≤◌, map, option_map}
use Rattle.mj_memstore.specs.declared.held.Held.TheInside.{Inside}
use Rattle.mj_memstore.specs.Content.{IsSound, pair_count}
use Rattle.mj_memstore.specs.HeldView.{HeldView, pending_of, AreProvided, all_set_count}

abbrev pub view_of : Inside → HeldView
view_of a = record { name = a.name; object = a.object; failed = option_map pending_of a.failed; waiting = map pending_of a.waiting.items }

-- Its pairs are in order, what waits has room, and with all of it there are at most so many pairs.
pub record IsHeld (a : Inside) : Type 0 where
  pub sound : IsSound a.name a.object
  pub provided : AreProvided (pair_count a.object) a.waiting.items
  pub most : pair_count a.object + all_set_count a.waiting.items ≤ a.most
