use Rattle.std.proofs.Common.{◌≡◌, ◌++◌, drop, map}
use Rattle.mj_index.specs.Known.{is_dir_at}
use Rattle.mj_index.specs.Changes.{change_of, dirs_out}
use Rattle.mj_index.proofs.turn.left_dirs.Given as goal

abbrev pub invariant-loop-change : goal.invariant-loop-change
invariant-loop-change l = l.found.items ++ dirs_out (is_dir_at l.known) (map change_of (drop l.change-index l.changes)) ≡ dirs_out (is_dir_at l.known) (map change_of l.changes)
