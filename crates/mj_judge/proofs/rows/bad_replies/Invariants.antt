use Rattle.std.proofs.Common.{◌≡◌, ◌++◌, ℕ, drop, map}
use Rattle.std.specs.Prelude.{filter}
use Rattle.mj_tables.specs.Layered.{early_cells}
use Rattle.mj_judge.specs.Rows.{oldest_at, count_in, replies_badly}
use Rattle.mj_judge.proofs.rows.bad_replies.Given as goal

abbrev pub invariant-loop-reply : goal.invariant-loop-reply
invariant-loop-reply l = l.found.items ++ map (λ (e : (ℕ × ℕ) × ℕ). e.0.0) (filter (replies_badly (oldest_at (early_cells l.layers)) (count_in l.counts)) (drop l.reply-index l.done)) ≡ map (λ (e : (ℕ × ℕ) × ℕ). e.0.0) (filter (replies_badly (oldest_at (early_cells l.layers)) (count_in l.counts)) l.done)
