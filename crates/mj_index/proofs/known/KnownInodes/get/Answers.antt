use Rattle.std.proofs.Common.{sym, ap, ◌∙◌}
use Rattle.mj_maps.specs.Map.{get}
use Rattle.mj_index.specs.Known.{Inodes}
use Rattle.mj_index.proofs.Altered.{get_hashed}
use Rattle.mj_index.proofs.known.KnownInodes.get.Goals as goal

pub returns : goal.returns
returns c = c.get.ensures.value ∙ sym (get_hashed c.self.inside.by_inode.entries c.ino.inside.0 c.args.ino c.ino.view_is) ∙ ap (λ (m : Inodes). get m c.args.ino) c.self.view_is
