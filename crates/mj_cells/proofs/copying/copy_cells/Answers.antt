use Rattle.mj_cells.proofs.Kept.{tree_sorted}
use Rattle.mj_cells.proofs.copying.copy_cells.Goals as goal

pub returns-clause-in_order : goal.returns-clause-in_order
returns-clause-in_order c = tree_sorted c.args.from.now.entries c.iter-key-items.ensures.ordered
