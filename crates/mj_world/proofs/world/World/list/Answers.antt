use Rattle.std.proofs.Common.{◌∙◌}
use Rattle.mj_world.proofs.Between.{lives_from}
use Rattle.mj_world.specs.declared.world.Phase.TheVariants.{Serving}
use Rattle.mj_world.proofs.world.World.list.Goals as goal
