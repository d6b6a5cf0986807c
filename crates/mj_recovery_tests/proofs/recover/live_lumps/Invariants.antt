use Rattle.std.proofs.Common.{◌≡◌, ◌++◌, drop}
use Rattle.mj_recovery.specs.Damage.{lump_dirs}
use Rattle.mj_recovery.specs.Journal.{journal_writes}
use Rattle.mj_recovery_tests.proofs.recover.live_lumps.Given as goal

abbrev pub invariant-loop-e : goal.invariant-loop-e
invariant-loop-e l = l.found.items ++ lump_dirs (journal_writes (drop l.e-index l.events)) ≡ lump_dirs (journal_writes l.events)
