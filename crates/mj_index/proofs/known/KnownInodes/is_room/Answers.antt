use Rattle.std.proofs.Common.{sym, ◌∙◌}
use Rattle.mj_index.proofs.Altered.{nothing_is, known_is}
use Rattle.mj_index.proofs.known.KnownInodes.is_room.Goals as goal

pub returns-in-Some : goal.returns-in-Some
returns-in-Some c t = known_is c.args.self.now c.args.ino _ (sym c.in-Some.ensures) ∙ nothing_is c.in-Some.known.now (sym c.is_nothing.ensures ∙ t)
