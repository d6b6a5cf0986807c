use Rattle.std.proofs.Common.{sym}
use Rattle.mj_plan.proofs.FullPlaces.{no_place}
use Rattle.mj_plan.proofs.fulls.full_of.Goals as goal

pub returns-in-None : goal.returns-in-None
returns-in-None c = no_place c.args.cache.now c.requires.tree c.args.ino (sym (rw c.in-None.is at c.full_place.ensures))
