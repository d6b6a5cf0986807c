use Rattle.std.proofs.Common.{ℕ, nat_lt, arith, rules}
use Rattle.std.proofs.lemmas.List.Sorted.{IsPartitionPoint-from_clause, IsPartitionedBy-ltb}
use Rattle.mj_cache.proofs.PlainReplies.{clients_rise, lt_from, none_before}
use Rattle.mj_cache.proofs.plain_parts.replies_begin.Goals as goal

pub returns-clause-kept : goal.returns-clause-kept
returns-clause-kept c =
    let parted = IsPartitionedBy-ltb (λ (e : (ℕ × ℕ) × ℕ). e.0.0) _ c.args.client (clients_rise _ c.requires) in
    let point = IsPartitionPoint-from_clause (λ (e : (ℕ × ℕ) × ℕ). nat_lt e.0.0 c.args.client) _ _ c.partition_point.ensures.partitioned parted (λ a r q k. search rules) in
    none_before c.args.client _ _ (λ k d lt _. lt_from _ _ (point.0 k d (omega arith) lt))
