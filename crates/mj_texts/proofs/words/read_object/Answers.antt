use Rattle.mj_texts.proofs.ObjectLemmas.{object_of_read}
use Rattle.mj_texts.proofs.words.read_object.Goals as goal

pub returns : goal.returns
returns c = object_of_read c.args.word.now c.read.result c.read.ensures.named c.read.ensures.in_range c.read.ensures.found
