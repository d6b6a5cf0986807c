use Rattle.std.proofs.Common.{◌≡◌, None, ◌-◌}
use Rattle.mj_image.specs.Reading.{run_of, pair_at}
use Rattle.mj_image.proofs.Runs.{behind, last_of}
use Rattle.mj_image.proofs.objects.read_pairs.Given as goal

abbrev pub invariant-loop-n : goal.invariant-loop-n
invariant-loop-n l = run_of pair_at l.count None l.initial.cursor ≡ behind l.pairs.items (run_of pair_at (l.count - l._n) (last_of l.pairs.items) l.cursor)
