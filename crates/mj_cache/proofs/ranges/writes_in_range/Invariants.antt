use Rattle.std.proofs.Common.{drop}
use Rattle.std.specs.List.{AllByRecursion}
use Rattle.mj_cache.specs.Ranges.{WriteInRange}
use Rattle.mj_cache.proofs.ranges.writes_in_range.Given as goal

-- where the rest are, all are
abbrev pub invariant-loop-w : goal.invariant-loop-w
invariant-loop-w l = AllByRecursion WriteInRange (drop l.w-index l.ws) → AllByRecursion WriteInRange l.ws
