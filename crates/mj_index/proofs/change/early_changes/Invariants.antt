use Rattle.std.proofs.Common.{◌≡◌, ◌++◌, drop, map}
use Rattle.mj_index.specs.Following.{early_value}
use Rattle.mj_index.specs.Changes.{change_of, where_said, changes_over}
use Rattle.mj_index.proofs.change.early_changes.Given as goal

abbrev pub invariant-loop-write : goal.invariant-loop-write
invariant-loop-write l = map change_of l.changes.items ++ changes_over (where_said (early_value l.layers)) (drop l.write-index l.ws) ≡ changes_over (where_said (early_value l.layers)) l.ws
