use Rattle.std.proofs.Common.{◌≡◌, ◌≤◌, ◌+◌, ℕ, drop}
use Rattle.mj_recovery.specs.Damage.{times}
use Rattle.mj_judge.specs.Rows.{count_in}
use Rattle.mj_judge.proofs.counts.Counts.of_clients.Given as goal

abbrev pub invariant-loop-client : goal.invariant-loop-client
invariant-loop-client l = ((k : ℕ) → count_in l.counts k + times k (drop l.client-index l.clients) ≡ times k l.clients) × ((k : ℕ) → count_in l.counts k ≤ l.client-index)
