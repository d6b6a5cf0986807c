use Rattle.std.proofs.Common.{ℕ, ap, ◌∙◌}
use Rattle.std.specs.Prelude.{filter, nat_lt, ◌==◌, ◌||◌}
use Rattle.mj_tree.specs.State.{root}
use Rattle.mj_judge.proofs.Counted.{if_ok, agree}
use Rattle.mj_judge.proofs.judge.repeated.Goals as goal

pub returns : goal.returns
returns c = if_ok c.twice.result _ _ (λ v is. is ∙ ap (λ (f : ℕ → ℕ). filter (λ i. (i == root) || nat_lt 1 (f i)) c.args.inodes.now) (agree _ _ c.in_ok-counts.ensures)) c.twice.ensures
