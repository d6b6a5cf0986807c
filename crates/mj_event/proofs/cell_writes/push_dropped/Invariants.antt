use Rattle.std.proofs.Common.{◌≡◌, ◌++◌, map, take}
use Rattle.mj_event.specs.Writes.{reply_gone}
use Rattle.mj_event.proofs.cell_writes.push_dropped.Given as goal

abbrev pub invariant-loop-tid : goal.invariant-loop-tid
invariant-loop-tid l = l.ws.items ≡ l.initial.ws.items ++ map (reply_gone l.client) (take l.tid-index l.tids)
