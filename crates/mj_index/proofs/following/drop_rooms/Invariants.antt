use Rattle.mj_index.specs.Following.{SameIndex}
use Rattle.mj_index.proofs.following.drop_rooms.Given as goal

abbrev pub invariant-loop-change : goal.invariant-loop-change
invariant-loop-change l = SameIndex l.initial.index l.index
