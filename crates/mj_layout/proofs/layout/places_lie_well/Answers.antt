use Rattle.mj_layout.proofs.Placed.{placing}
use Rattle.mj_layout.proofs.layout.places_lie_well.Goals as goal

pub returns : goal.returns
returns c = placing
