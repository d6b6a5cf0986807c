use Rattle.std.proofs.Common.{◌≡◌, ◌++◌, drop}
use Rattle.mj_judge.specs.Reached.{pass_dirs, pass_left}
use Rattle.mj_judge.proofs.reach.pass.Given as goal

abbrev pub invariant-loop-edge : goal.invariant-loop-edge
invariant-loop-edge l =
    (pass_dirs l.dirs.keys (drop l.edge-index l.edges) ≡ pass_dirs l.initial.dirs.keys l.edges)
    × (l.left.items ++ pass_left l.dirs.keys (drop l.edge-index l.edges) ≡ pass_left l.initial.dirs.keys l.edges)
