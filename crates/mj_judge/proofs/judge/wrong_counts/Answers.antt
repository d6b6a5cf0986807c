use Rattle.std.proofs.Common.{ℕ, ◌∷◌, map, ap, ◌∙◌}
use Rattle.std.specs.Prelude.{filter_map}
use Rattle.mj_base.specs.ObjectName.{stray_ino}
use Rattle.mj_cells.specs.Next.{cell_of}
use Rattle.mj_judge.specs.Rows.{miscounted_ino}
use Rattle.mj_judge.proofs.Counted.{if_ok, agree}
use Rattle.mj_judge.proofs.judge.wrong_counts.Goals as goal

pub returns : goal.returns
returns c = if_ok c.miscounted.result _ _ (λ v is. is ∙ ap (λ (f : ℕ → ℕ). filter_map (miscounted_ino (stray_ino c.args.rank ∷ c.args.dirs.now.keys) f) (map cell_of c.args.cells.now)) (agree _ _ c.requires)) c.miscounted.ensures
