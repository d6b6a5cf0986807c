use Rattle.std.proofs.Common.{◌≡◌, []}
use Rattle.mj_rank_tests.proofs.limits.first_other.Given as goal

abbrev pub invariant-loop-n : goal.invariant-loop-n
invariant-loop-n l = l.cache.groups ≡ []
