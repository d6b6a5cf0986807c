use Rattle.std.proofs.Common.{◌≡◌, ◌+◌, length, ℕ}
use Rattle.std.specs.Prelude.{filter, nat_lt, nat_le}
use Rattle.mj_maps.specs.Map.{count}
use Rattle.mj_cache.specs.Cached.{early_tree}
use Rattle.mj_delta.specs.Events.{tids}
use Rattle.mj_tree.specs.Sessions.{kept_of}
use Rattle.mj_cache.proofs.over_keys.kept_from.Given as goal

abbrev pub invariant-loop-tid : goal.invariant-loop-tid
invariant-loop-tid l = l.kept + length (filter (nat_lt l.after) (tids (kept_of (early_tree l.cache) l.client))) ≡ count (λ (e : ℕ × ℕ). nat_le l.fn.oldest e.0) (kept_of (early_tree l.cache) l.client)

abbrev pub decreases-loop-tid : goal.decreases-loop-tid
decreases-loop-tid l = length (filter (nat_lt l.after) (tids (kept_of (early_tree l.cache) l.client)))
