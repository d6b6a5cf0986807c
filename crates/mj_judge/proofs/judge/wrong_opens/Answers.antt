use Rattle.std.proofs.Common.{ap, ◌∙◌}
use Rattle.std.specs.Prelude.{nat_lt}
use Rattle.mj_tables.specs.Layered.{early_cells}
use Rattle.mj_recovery.specs.Damage.{times, bad_opens}
use Rattle.mj_judge.specs.Rows.{oldest_at}
use Rattle.mj_judge.proofs.Counted.{if_ok, agree}
use Rattle.mj_judge.proofs.judge.wrong_opens.Goals as goal

pub returns : goal.returns
returns c = if_ok c.bad_opens.result _ _ (λ v is. is ∙ (λ j. bad_opens (oldest_at (early_cells c.args.layers.now)) (agree _ _ (λ k. ap (nat_lt 0) (c.in_ok-files.ensures k ∙ ap (times k) (c.deref.ensures.value ∙ c.in_ok-inodes.ensures))) j) (c.requires j))) c.bad_opens.ensures
