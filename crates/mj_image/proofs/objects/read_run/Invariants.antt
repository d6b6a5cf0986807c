use Rattle.std.proofs.Common.{◌≡◌, None, ◌-◌}
use Rattle.mj_image.specs.Reading.{run_of, object_at}
use Rattle.mj_image.proofs.Runs.{behind, last_of}
use Rattle.mj_image.proofs.objects.read_run.Given as goal

abbrev pub invariant-loop-n : goal.invariant-loop-n
invariant-loop-n l = run_of object_at l.count None l.initial.cursor ≡ behind l.objects.items (run_of object_at (l.count - l._n) (last_of l.objects.items) l.cursor)
