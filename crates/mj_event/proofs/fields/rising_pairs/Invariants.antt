use Rattle.std.proofs.Common.{◌≡◌, None, ◌-◌}
use Rattle.mj_base.specs.Reading.{run_at}
use Rattle.mj_event.specs.EventReading.{pair_at}
use Rattle.mj_meta.proofs.Runs.{behind, last_of}
use Rattle.mj_event.proofs.fields.rising_pairs.Given as goal

abbrev pub invariant-loop-n : goal.invariant-loop-n
invariant-loop-n l = run_at pair_at l.count None l.initial.cursor ≡ behind l.pairs.items (run_at pair_at (l.count - l._n) (last_of l.pairs.items) l.cursor)
