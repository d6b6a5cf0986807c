use Rattle.std.proofs.Common.{refl, sym, ap, subst, ◌∙◌}
use Rattle.std.specs.Prelude.{is_some}
use Rattle.mj_maps.specs.Map.{get}
use Rattle.mj_index.specs.Known.{Inodes, known_at}
use Rattle.mj_index.specs.Following.{HasRoomAt}
use Rattle.mj_index.proofs.Altered.{known-with_room, some-with_room, stays-with_room}
use Rattle.mj_index.proofs.index.Index.make_room_at.Goals as goal

pub returns-in_ok-make_room-clause-same : goal.returns-in_ok-make_room-clause-same
returns-in_ok-make_room-clause-same c = record {
  known = λ i. ap (λ (n : Inodes). known_at n i) c.in_ok-make_room.ensures.ok ∙ known-with_room c.args.self.now.known c.in-Some.ino i;
  dentries = refl;
  sessions = refl;
  opens = refl;
}

pub returns-in_ok-make_room-clause-stays : goal.returns-in_ok-make_room-clause-stays
returns-in_ok-make_room-clause-stays c i there = ap (λ (n : Inodes). is_some (get n i)) c.in_ok-make_room.ensures.ok ∙ stays-with_room c.args.self.now.known c.in-Some.ino i there

pub returns-in_ok-make_room-clause-room : goal.returns-in_ok-make_room-clause-room
returns-in_ok-make_room-clause-room c = subst (HasRoomAt c.make_room.new.self) (sym c.in-Some.is)
    (ap (λ (n : Inodes). is_some (get n c.in-Some.ino)) c.in_ok-make_room.ensures.ok ∙ some-with_room c.args.self.now.known c.in-Some.ino)
