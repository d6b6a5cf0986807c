use Rattle.mj_tree.proofs.Entries.{placed_over}
use Rattle.mj_tree.proofs.keyed.place_of.Goals as goal

pub returns-in-Equal : goal.returns-in-Equal
returns-in-Equal g c = (
  c.loop-at-test.true,
  placed_over g.T.Keyed.order c.args.item.now c.args.items.now c.loop-at.at c.index-items-at.result c.loop-at-test.true c.index-items-at.is c.in-Equal.ensures c.loop-at.invariant.1,
)
