use Rattle.std.proofs.Common.{true, false, sym, subst, ◌∙◌}
use Rattle.std.specs.BTreeSet.{BTreeSet}
use Rattle.mj_cells.specs.declared.cell.CellKey.{CellKey}
use Rattle.mj_tables.specs.Listed.{Drops}
use Rattle.mj_tables.specs.There.{both_sets}
use Rattle.mj_tables.proofs.Apart.{kind_dropped, dir_dropped, other_dropped, tree_rises}
use Rattle.mj_tables.proofs.KeySets.{one_dropped}
use Rattle.mj_tables.proofs.there.There.remove.Goals as goal

pub invariant_of-self : goal.invariant_of-self
invariant_of-self c = record {
  dirs_rise = tree_rises c.remove.new.self c.remove.ensures.ordered;
  others_rise = c.self.invariant.others_rise;
  are_of_dirs = kind_dropped true c.self.inside.dirs c.remove.new.self c.args.key.now c.self.invariant.are_of_dirs (one_dropped c.self.inside.dirs c.remove.new.self c.args.key.now c.remove.ensures.updates.0);
  are_others = c.self.invariant.are_others;
}

pub invariant_of-self-else-is_of_dir : goal.invariant_of-self-else-is_of_dir
invariant_of-self-else-is_of_dir c = record {
  dirs_rise = c.self.invariant.dirs_rise;
  others_rise = tree_rises c.remove-else-is_of_dir.new.self c.remove-else-is_of_dir.ensures.ordered;
  are_of_dirs = c.self.invariant.are_of_dirs;
  are_others = kind_dropped false c.self.inside.others c.remove-else-is_of_dir.new.self c.args.key.now c.self.invariant.are_others (one_dropped c.self.inside.others c.remove-else-is_of_dir.new.self c.args.key.now c.remove-else-is_of_dir.ensures.updates.0);
}

pub returns-then-is_of_dir : goal.returns-then-is_of_dir
returns-then-is_of_dir c =
    subst (λ (s : BTreeSet CellKey). Drops s c.args.key.now (both_sets c.remove.new.self c.self.inside.others)) c.self.view_is
    (dir_dropped c.self.inside.dirs c.self.inside.others c.remove.new.self c.args.key.now c.self.invariant (sym c.is_of_dir.ensures ∙ c.if-is_of_dir.true) (one_dropped c.self.inside.dirs c.remove.new.self c.args.key.now c.remove.ensures.updates.0))

pub returns-else-is_of_dir : goal.returns-else-is_of_dir
returns-else-is_of_dir c =
    subst (λ (s : BTreeSet CellKey). Drops s c.args.key.now (both_sets c.self.inside.dirs c.remove-else-is_of_dir.new.self)) c.self.view_is
    (other_dropped c.self.inside.dirs c.self.inside.others c.remove-else-is_of_dir.new.self c.args.key.now c.self.invariant (sym c.is_of_dir.ensures ∙ c.if-is_of_dir.false) (one_dropped c.self.inside.others c.remove-else-is_of_dir.new.self c.args.key.now c.remove-else-is_of_dir.ensures.updates.0))
