use Rattle.std.proofs.Common.{ap, ◌∙◌}
use Rattle.mj_cells.specs.Table.{table_of}
use Rattle.mj_tables.specs.Layered.{early_cells}
use Rattle.mj_recovery.specs.Damage.{tree_damage}
use Rattle.mj_judge.specs.Judged.{all_dirs}
use Rattle.mj_judge.proofs.Counted.{if_ok}
use Rattle.mj_judge.proofs.FoundRows.{dirs_is}
use Rattle.mj_judge.proofs.damage.own_damage.Goals as goal

pub returns : goal.returns
returns c =
    let m = early_cells c.args.layers.now in
    let all = c.deref.ensures.value ∙ c.in_ok-all.ensures ∙ ap all_dirs c.requires.cells ∙ dirs_is c.args.rank m c.args.dirs.now.keys c.requires.dirs in
    if_ok c.tree_damage.result _ _ (λ o is. is ∙ ap (tree_damage c.args.rank (table_of m)) all) c.tree_damage.ensures
