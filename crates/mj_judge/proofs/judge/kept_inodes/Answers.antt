use Rattle.std.proofs.Common.{◌∙◌}
use Rattle.mj_judge.specs.Rows.{kept_of}
use Rattle.mj_judge.specs.Judged.{place_times}
use Rattle.mj_judge.proofs.Counted.{if_ok, agree}
use Rattle.mj_judge.proofs.judge.kept_inodes.Goals as goal

pub returns : goal.returns
returns c = if_ok c.kept_among.result _ _ (λ v is. is ∙ (λ j. kept_of (agree _ _ c.in_ok-links.ensures j) (place_times ((c.deref-2.ensures.value ∙ c.in_ok-places.ensures) j)) ((c.deref.ensures.value ∙ c.in_ok-inodes.ensures) j))) c.kept_among.ensures
