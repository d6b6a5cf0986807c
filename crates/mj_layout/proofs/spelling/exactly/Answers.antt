use Rattle.std.proofs.Common.{◌∙◌}
use Rattle.mj_layout.proofs.Exactly.{exactly_cut}
use Rattle.mj_layout.proofs.spelling.exactly.Goals as goal

pub returns-then-bytes-i-clause-is : goal.returns-then-bytes-i-clause-is
returns-then-bytes-i-clause-is c = c.loop-i.invariant.left ∙ exactly_cut c.args.text.now c.args.bytes.now c.loop-i.i c.loop-i-test.true c.if-bytes-i.true
