use Rattle.std.proofs.Common.{◌≡◌, drop}
use Rattle.mj_recovery.specs.Tree.{is_among}
use Rattle.mj_index.specs.Turning.{all_pass, leaves_well}
use Rattle.mj_index.proofs.turn.leaves_well.Given as goal

abbrev pub invariant-loop-dir : goal.invariant-loop-dir
invariant-loop-dir l = all_pass (leaves_well l.known (is_among l.written.keys) (is_among l.led.keys)) (drop l.dir-index l.left) ≡ all_pass (leaves_well l.known (is_among l.written.keys) (is_among l.led.keys)) l.left
