use Rattle.std.proofs.Common.{sym, subst}
use Rattle.mj_index.specs.Said.{cell_after}
use Rattle.mj_index.specs.Following.{HasRoom}
use Rattle.mj_index.proofs.Course.{same_after, rooms_stay_for}
use Rattle.mj_index.proofs.Writes.{next_item, no_more}
use Rattle.mj_index.proofs.following.make_room.Goals as goal

pub loop-w-preserved : goal.loop-w-preserved
loop-w-preserved c = (
  same_after c.args.index.now c.loop-w.index c.make_room_for.new.self c.loop-w.invariant.0 c.make_room_for.ensures.same,
  λ m stays room. c.loop-w.invariant.1 m (λ i there. stays i (c.make_room_for.ensures.stays i there))
      (subst (HasRoom m) (sym (next_item c.args.ws.now c.loop-w.w-index c.w-item.result c.loop-w-test.true c.w-item.is))
      (rooms_stay_for c.make_room_for.new.self.known m stays (cell_after c.w-item.result) c.in_ok-make_room_for.ensures.room, room)),
)

pub returns-clause-room : goal.returns-clause-room
returns-clause-room c = c.loop-w.invariant.1 c.loop-w.index.known (λ i there. there) (subst (HasRoom c.loop-w.index.known) (sym (no_more c.args.ws.now c.loop-w.w-index c.loop-w-test.false)) tt)
