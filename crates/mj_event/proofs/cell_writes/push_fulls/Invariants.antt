use Rattle.std.proofs.Common.{◌≡◌, ◌++◌, map, take}
use Rattle.mj_event.specs.Writes.{full_write}
use Rattle.mj_event.proofs.cell_writes.push_fulls.Given as goal

abbrev pub invariant-loop-bit : goal.invariant-loop-bit
invariant-loop-bit l = l.ws.items ≡ l.initial.ws.items ++ map (full_write l.dir) (take l.bit-index l.bits)
