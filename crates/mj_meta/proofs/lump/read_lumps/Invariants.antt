use Rattle.std.proofs.Common.{◌≡◌, None, ◌-◌}
use Rattle.mj_base.specs.Reading.{run_at}
use Rattle.mj_meta.specs.BlobReading.{lump_at}
use Rattle.mj_meta.proofs.Runs.{behind, last_of}
use Rattle.mj_meta.proofs.lump.read_lumps.Given as goal

abbrev pub invariant-loop-n : goal.invariant-loop-n
invariant-loop-n l = run_at lump_at l.count None l.initial.cursor ≡ behind l.lumps.items (run_at lump_at (l.count - l._n) (last_of l.lumps.items) l.cursor)
