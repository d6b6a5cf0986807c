use Rattle.std.proofs.Common.{◌≡◌, ◌++◌, drop}
use Rattle.mj_index.specs.Known.{is_dir_at}
use Rattle.mj_index.specs.Said.{led_dirs}
use Rattle.mj_index.proofs.turn.led_dirs.Given as goal

abbrev pub invariant-loop-w : goal.invariant-loop-w
invariant-loop-w l = l.found.items ++ led_dirs (is_dir_at l.known) (drop l.w-index l.ws) ≡ led_dirs (is_dir_at l.known) l.ws
