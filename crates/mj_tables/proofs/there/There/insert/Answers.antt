use Rattle.std.proofs.Common.{true, false, sym, subst, ◌∙◌}
use Rattle.std.specs.BTreeSet.{BTreeSet}
use Rattle.mj_cells.specs.declared.cell.CellKey.{CellKey}
use Rattle.mj_tables.specs.Listed.{Adds}
use Rattle.mj_tables.specs.There.{both_sets}
use Rattle.mj_tables.proofs.Apart.{kind_added, dir_added, other_added, tree_rises}
use Rattle.mj_tables.proofs.KeySets.{one_added, adds_stay}
use Rattle.mj_tables.proofs.there.There.insert.Goals as goal

pub invariant_of-self : goal.invariant_of-self
invariant_of-self c = record {
  dirs_rise = tree_rises c.insert.new.self c.in_ok-insert.ensures.ordered;
  others_rise = c.self.invariant.others_rise;
  are_of_dirs = kind_added true c.self.inside.dirs c.insert.new.self c.args.key c.self.invariant.are_of_dirs (sym c.is_of_dir.ensures ∙ c.if-is_of_dir.true) (one_added c.self.inside.dirs c.insert.new.self c.args.key c.in_ok-insert.ensures.updates.0);
  are_others = c.self.invariant.are_others;
}

pub invariant_of-self-in_ok-insert-2 : goal.invariant_of-self-in_ok-insert-2
invariant_of-self-in_ok-insert-2 c = record {
  dirs_rise = c.self.invariant.dirs_rise;
  others_rise = tree_rises c.insert-else-is_of_dir.new.self c.in_ok-insert-2.ensures.ordered;
  are_of_dirs = c.self.invariant.are_of_dirs;
  are_others = kind_added false c.self.inside.others c.insert-else-is_of_dir.new.self c.args.key c.self.invariant.are_others (sym c.is_of_dir.ensures ∙ c.if-is_of_dir.false) (one_added c.self.inside.others c.insert-else-is_of_dir.new.self c.args.key c.in_ok-insert-2.ensures.updates.0);
}

pub returns-in_ok-insert-clause-ok : goal.returns-in_ok-insert-clause-ok
returns-in_ok-insert-clause-ok c =
    subst (λ (s : BTreeSet CellKey). Adds s c.args.key (both_sets c.insert.new.self c.self.inside.others)) c.self.view_is
    (dir_added c.self.inside.dirs c.self.inside.others c.insert.new.self c.args.key (one_added c.self.inside.dirs c.insert.new.self c.args.key c.in_ok-insert.ensures.updates.0))

pub returns-in_ok-insert-clause-stay : goal.returns-in_ok-insert-clause-stay
returns-in_ok-insert-clause-stay c = adds_stay c.args.self.now c.args.key (both_sets c.insert.new.self c.self.inside.others) (returns-in_ok-insert-clause-ok c)

pub returns-in_ok-insert-2-clause-ok : goal.returns-in_ok-insert-2-clause-ok
returns-in_ok-insert-2-clause-ok c =
    subst (λ (s : BTreeSet CellKey). Adds s c.args.key (both_sets c.self.inside.dirs c.insert-else-is_of_dir.new.self)) c.self.view_is
    (other_added c.self.inside.dirs c.self.inside.others c.insert-else-is_of_dir.new.self c.args.key (one_added c.self.inside.others c.insert-else-is_of_dir.new.self c.args.key c.in_ok-insert-2.ensures.updates.0))

pub returns-in_ok-insert-2-clause-stay : goal.returns-in_ok-insert-2-clause-stay
returns-in_ok-insert-2-clause-stay c = adds_stay c.args.self.now c.args.key (both_sets c.self.inside.dirs c.insert-else-is_of_dir.new.self) (returns-in_ok-insert-2-clause-ok c)
