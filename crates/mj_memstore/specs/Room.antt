-- Memory that comes with an operation.
use Rattle.std.specs.Prelude.{◌≡◌, []}
use Rattle.mj_memstore.specs.declared.room.Room.{Room}

abbrev pub IsEmpty : Room → Type 0
IsEmpty room = (room.bytes.items ≡ []) × (room.pairs.items ≡ [])
