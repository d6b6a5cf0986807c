use Rattle.std.proofs.Common.{◌≡◌, None, ◌-◌}
use Rattle.mj_base.specs.Reading.{run_at}
use Rattle.mj_meta.specs.BlobReading.{full_at}
use Rattle.mj_meta.proofs.Runs.{behind, last_of}
use Rattle.mj_meta.proofs.lump.read_fulls.Given as goal

abbrev pub invariant-loop-n : goal.invariant-loop-n
invariant-loop-n l = run_at full_at l.count None l.initial.cursor ≡ behind l.bits.items (run_at full_at (l.count - l._n) (last_of l.bits.items) l.cursor)
