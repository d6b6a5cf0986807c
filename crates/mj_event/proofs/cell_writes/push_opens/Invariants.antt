use Rattle.std.proofs.Common.{◌≡◌, ◌++◌, map, take}
use Rattle.mj_event.specs.Writes.{open_write}
use Rattle.mj_event.proofs.cell_writes.push_opens.Given as goal

abbrev pub invariant-loop-pair : goal.invariant-loop-pair
invariant-loop-pair l = l.ws.items ≡ l.initial.ws.items ++ map open_write (take l.pair-index l.pairs)
