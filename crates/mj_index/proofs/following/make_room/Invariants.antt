use Rattle.std.proofs.Common.{drop}
use Rattle.mj_index.specs.Known.{Inodes}
use Rattle.mj_index.specs.Following.{SameIndex, HasRoom, RoomStays}
use Rattle.mj_index.proofs.following.make_room.Given as goal

abbrev pub invariant-loop-w : goal.invariant-loop-w
invariant-loop-w l = SameIndex l.initial.index l.index × ((m : Inodes) → RoomStays l.index.known m → HasRoom m (drop l.w-index l.ws) → HasRoom m l.ws)
