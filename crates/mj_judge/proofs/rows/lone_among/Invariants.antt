use Rattle.std.proofs.Common.{◌≡◌, ◌++◌, drop}
use Rattle.std.specs.Prelude.{filter_map}
use Rattle.mj_judge.specs.Kinds.{is_kind}
use Rattle.mj_judge.specs.Rows.{if_lone}
use Rattle.mj_judge.proofs.rows.lone_among.Given as goal

abbrev pub invariant-loop-remote : goal.invariant-loop-remote
invariant-loop-remote l = l.found.items ++ filter_map (if_lone (is_kind l.kinds)) (drop l.remote-index l.remotes) ≡ filter_map (if_lone (is_kind l.kinds)) l.remotes
