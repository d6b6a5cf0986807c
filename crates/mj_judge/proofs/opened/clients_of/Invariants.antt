use Rattle.std.proofs.Common.{◌≡◌, ◌++◌, drop}
use Rattle.std.specs.Prelude.{filter_map}
use Rattle.mj_recovery.specs.Damage.{client_of}
use Rattle.mj_judge.proofs.opened.clients_of.Given as goal

abbrev pub invariant-loop-open : goal.invariant-loop-open
invariant-loop-open l = l.found.items ++ filter_map (client_of l.ino) (drop l.open-index l.opens) ≡ filter_map (client_of l.ino) l.opens
