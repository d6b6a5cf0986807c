use Rattle.std.proofs.Common.{List, ap, ◌∙◌}
use Rattle.mj_tables.specs.Layered.{early_cells}
use Rattle.mj_judge.specs.Parts.{Cell}
use Rattle.mj_judge.specs.Judged.{found_damage}
use Rattle.mj_judge.proofs.Counted.{if_ok}
use Rattle.mj_judge.proofs.FoundRows.{found_is}
use Rattle.mj_judge.proofs.damage.tree_damage.Goals as goal

pub returns : goal.returns
returns c =
    let m = early_cells c.args.layers.now in
    let lumps = c.args.lump_dirs.now in
    if_ok c.found_damage.result _ _ (λ o is. is ∙ ap (λ (cs : List Cell). found_damage c.args.rank m cs c.args.dirs.now.keys lumps) c.requires.cells
    ∙ found_is c.args.rank m c.args.dirs.now.keys c.requires.dirs lumps) c.found_damage.ensures
