use Rattle.std.proofs.Common.{ap, sym}
use Rattle.std.specs.Ordering.{is_eq}
use Rattle.mj_tree.proofs.Entries.{replaced_over}
use Rattle.mj_tree.proofs.keyed.tie_of.Goals as goal

pub returns-in-Equal : goal.returns-in-Equal
returns-in-Equal g c = (
  c.loop-i-test.true,
  replaced_over g.T.Keyed.order c.args.item.now c.args.items.now c.loop-i.i c.index-items-i.result c.loop-i-test.true c.index-items-i.is (ap is_eq (sym c.in-Equal.ensures)) c.loop-i.invariant,
)
