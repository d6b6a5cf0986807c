use Rattle.std.proofs.Common.{◌≡◌, ◌++◌, length}
use Rattle.std.specs.Prelude.{filter, nat_lt}
use Rattle.mj_cache.specs.Cached.{early_tree}
use Rattle.mj_delta.specs.Events.{tids}
use Rattle.mj_tree.specs.Sessions.{kept_of}
use Rattle.mj_cache.proofs.over_keys.kept_tids_below.Given as goal

abbrev pub invariant-loop-tid : goal.invariant-loop-tid
invariant-loop-tid l = l.found.items ++ filter (λ tid. nat_lt tid l.bound) (filter (nat_lt l.after) (tids (kept_of (early_tree l.cache) l.client))) ≡ filter (λ tid. nat_lt tid l.bound) (tids (kept_of (early_tree l.cache) l.client))

abbrev pub decreases-loop-tid : goal.decreases-loop-tid
decreases-loop-tid l = length (filter (nat_lt l.after) (tids (kept_of (early_tree l.cache) l.client)))
