use Rattle.std.proofs.Common.{◌∷◌, map, ◌∙◌}
use Rattle.std.specs.Prelude.{filter_map}
use Rattle.mj_base.specs.ObjectName.{stray_ino}
use Rattle.mj_cells.specs.Next.{cell_of}
use Rattle.mj_judge.specs.Rows.{if_lone}
use Rattle.mj_judge.proofs.Counted.{if_ok, kinds_agree}
use Rattle.mj_judge.proofs.judge.lone.Goals as goal

pub returns : goal.returns
returns c = if_ok c.lone_among.result _ _ (λ v is. is ∙ (λ j. filter_map
    (if_lone (kinds_agree c.in_ok-kinds.kinds (stray_ino c.args.rank ∷ c.args.dirs.now.keys) (map cell_of c.args.cells.now) c.in_ok-kinds.ensures.dirs c.in_ok-kinds.ensures.files c.in_ok-kinds.ensures.symlinks j))
    ((c.deref.ensures.value ∙ c.in_ok-remotes.ensures) j))) c.lone_among.ensures
