use Rattle.std.proofs.Common.{◌≡◌, None, ◌-◌}
use Rattle.mj_base.specs.Reading.{run_at}
use Rattle.mj_meta.specs.Blob.{full_names}
use Rattle.mj_meta.specs.BlobReading.{remote_at}
use Rattle.mj_meta.proofs.Runs.{behind, last_of}
use Rattle.mj_meta.proofs.lump.read_remotes.Given as goal

abbrev pub invariant-loop-n : goal.invariant-loop-n
invariant-loop-n l = run_at (remote_at (full_names l.fulls)) l.count None l.initial.cursor ≡ behind l.bits.items (run_at (remote_at (full_names l.fulls)) (l.count - l._n) (last_of l.bits.items) l.cursor)
