use Rattle.std.proofs.Common.{◌≡◌, ◌*◌, ◌^◌, ◌<◌, drop}
use Rattle.mj_recovery.specs.Stored.{hex_after, hex_number}
use Rattle.mj_recovery_tests.proofs.stored.hex_number.Given as goal

abbrev pub invariant-loop-b : goal.invariant-loop-b
invariant-loop-b l = (hex_after l.n (drop l.b-index l.text) ≡ hex_number l.text) × (l.n < 2 ^ (4 * l.b-index))
