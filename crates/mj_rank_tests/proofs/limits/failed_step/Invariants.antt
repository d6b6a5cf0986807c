use Rattle.std.proofs.Common.{◌≡◌, []}
use Rattle.mj_rank_tests.proofs.limits.failed_step.Given as goal

abbrev pub invariant-loop-i : goal.invariant-loop-i
invariant-loop-i l = l.cache.groups ≡ []
