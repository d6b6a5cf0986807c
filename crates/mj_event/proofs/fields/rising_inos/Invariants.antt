use Rattle.std.proofs.Common.{◌≡◌, None, ◌-◌}
use Rattle.mj_base.specs.Reading.{run_at}
use Rattle.std.specs.Prelude.{nat_lt}
use Rattle.mj_base.specs.Reading.{such, is_above, u64_at}
use Rattle.mj_meta.proofs.Runs.{behind, last_of}
use Rattle.mj_event.proofs.fields.rising_inos.Given as goal

abbrev pub invariant-loop-n : goal.invariant-loop-n
invariant-loop-n l = run_at (λ before. such (is_above nat_lt before) u64_at) l.count None l.initial.cursor ≡ behind l.inos.items (run_at (λ before. such (is_above nat_lt before) u64_at) (l.count - l._n) (last_of l.inos.items) l.cursor)
