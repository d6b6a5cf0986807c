use Rattle.std.proofs.Common.{sym, subst}
use Rattle.mj_tables.specs.Layered.{HasRoom}
use Rattle.mj_tables.specs.Slots.{Slots, slots_of, rooms}
use Rattle.mj_tables.proofs.KeySets.{room_of_both, all_added}
use Rattle.mj_tables.proofs.Laid.{room-all_room}
use Rattle.mj_tables.proofs.Sound.{sound_lists}
use Rattle.mj_tables.proofs.layers.Layers.reserve.Goals as goal

pub make_all_room-requires : goal.make_all_room-requires
make_all_room-requires c = sound_lists (slots_of c.self.inside.slots) c.self.inside.there c.self.inside.groups.items c.self.invariant

pub returns-clause-room : goal.returns-clause-room
returns-clause-room c =
    room_of_both (slots_of c.make_all_room.new.slots) c.make_all_room.new.there c.args.ws.now
    (subst (λ (m : Slots). HasRoom (rooms m) c.args.ws.now) (sym c.in_ok-make_all_room.ensures.ok) (room-all_room (slots_of c.self.inside.slots) c.args.ws.now))
    (all_added c.self.inside.there c.args.ws.now c.make_all_room.new.there c.in_ok-make_all_room.ensures.added)
