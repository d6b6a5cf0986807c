use Rattle.std.proofs.Common.{◌≡◌, None, ◌-◌}
use Rattle.mj_base.specs.Reading.{run_at}
use Rattle.std.specs.Prelude.{◌++◌}
use Rattle.mj_meta.specs.Blob.{full_names, remote_names}
use Rattle.mj_meta.specs.BlobReading.{null_at}
use Rattle.mj_meta.proofs.Runs.{behind, last_of}
use Rattle.mj_meta.proofs.lump.read_nulls.Given as goal

abbrev pub invariant-loop-n : goal.invariant-loop-n
invariant-loop-n l = run_at (null_at (full_names l.fulls ++ remote_names l.remotes)) l.count None l.initial.cursor ≡ behind l.bits.items (run_at (null_at (full_names l.fulls ++ remote_names l.remotes)) (l.count - l._n) (last_of l.bits.items) l.cursor)
