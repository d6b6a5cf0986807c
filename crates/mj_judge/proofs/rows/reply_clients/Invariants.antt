use Rattle.std.proofs.Common.{◌≡◌, ◌++◌, ℕ, drop, map}
use Rattle.mj_judge.proofs.rows.reply_clients.Given as goal

abbrev pub invariant-loop-reply : goal.invariant-loop-reply
invariant-loop-reply l = l.found.items ++ map (λ (e : (ℕ × ℕ) × ℕ). e.0.0) (drop l.reply-index l.done) ≡ map (λ (e : (ℕ × ℕ) × ℕ). e.0.0) l.done
