use Rattle.std.proofs.Common.{◌≡◌, drop, map}
use Rattle.mj_index.specs.Changes.{change_of, changed_key, all_changed}
use Rattle.mj_index.proofs.following.follow.Given as goal

abbrev pub invariant-loop-change : goal.invariant-loop-change
invariant-loop-change l = (l.left.items ≡ map changed_key (map change_of (drop l.change-index l.changes))) × (all_changed l.rank (map change_of (drop l.change-index l.changes)) l.index ≡ all_changed l.rank (map change_of l.changes) l.initial.index)
