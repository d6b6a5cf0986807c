use Rattle.std.proofs.Common.{sym, ◌∙◌, arith}
use Rattle.mj_tree.proofs.Paths.{begins_short, begins_end}
use Rattle.mj_tree.proofs.walking.begins.Goals as goal

pub returns-then-to-from : goal.returns-then-to-from
returns-then-to-from c = sym (begins_short c.args.from.now c.args.to.now (omega arith))

pub returns : goal.returns
returns c = sym (begins_end c.args.from.now c.args.to.now c.loop-i.i (omega arith) (omega arith)) ∙ c.loop-i.invariant
