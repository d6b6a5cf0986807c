use Rattle.std.proofs.Common.{◌≡◌, ℕ, ◌++◌, drop, map}
use Rattle.mj_judge.proofs.opened.opened_inodes.Given as goal

abbrev pub invariant-loop-open : goal.invariant-loop-open
invariant-loop-open l = l.found.items ++ map (λ (o : ℕ × ℕ). o.1) (drop l.open-index l.opens) ≡ map (λ (o : ℕ × ℕ). o.1) l.opens
