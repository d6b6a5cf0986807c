use Rattle.std.proofs.Common.{◌≡◌, ◌++◌, take}
use Rattle.std.specs.List.{flat_map}
use Rattle.mj_event.specs.Writes.{lump_writes}
use Rattle.mj_event.proofs.cell_writes.push_lumps.Given as goal

abbrev pub invariant-loop-lump : goal.invariant-loop-lump
invariant-loop-lump l = l.ws.items ≡ l.initial.ws.items ++ flat_map lump_writes (take l.lump-index l.lumps)
