use Rattle.std.proofs.Common.{ℕ, ap, ◌∙◌}
use Rattle.mj_judge.specs.Rows.{count_in, kept_of}
use Rattle.mj_judge.proofs.Counted.{if_ok, agree}
use Rattle.mj_judge.proofs.judge.kept_among.Goals as goal

pub returns : goal.returns
returns c = if_ok c.kept_of.result _ _ (λ v is. is ∙ ap (λ (f : ℕ → ℕ). kept_of (count_in c.args.links.now) f c.args.inodes.now) (agree _ _ c.in_ok-opens.ensures)) c.kept_of.ensures
