use Rattle.std.proofs.Common.{sym, subst}
use Rattle.mj_tables.specs.Slots.{Slots, slots_of}
use Rattle.mj_tables.specs.Listed.{AreLast}
use Rattle.mj_tables.proofs.LastWrites.{last_projected}
use Rattle.mj_tables.proofs.settling.project_group.Goals as goal

pub drop_absent-requires : goal.drop_absent-requires
drop_absent-requires c = subst (λ (m : Slots). AreLast m c.args.ws.now) (sym c.project_all.ensures) (last_projected c.args.ends (slots_of c.args.slots.now) c.args.ws.now c.requires.room)
