use Rattle.mj_delta.proofs.Released.{release_gives}
use Rattle.mj_delta.proofs.steps.file_closes.Goals as goal

pub returns : goal.returns
returns c = release_gives
