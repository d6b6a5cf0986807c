use Rattle.mj_image.proofs.Naming.{named_is}
use Rattle.mj_image.proofs.fields.named.Goals as goal

pub returns : goal.returns
returns c = named_is c.args.text.now c.read.result c.read.ensures.named c.read.ensures.in_range c.read.ensures.found
