use Rattle.mj_delta.proofs.Begun.{inode_begins_gives}
use Rattle.mj_delta.proofs.steps.inode_begins.Goals as goal

pub returns : goal.returns
returns c = inode_begins_gives
