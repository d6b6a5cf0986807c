use Rattle.std.proofs.Common.{rules, sym, ap, ◌∙◌, List, ℕ, ◌-◌}
use Rattle.mj_base.specs.Reading.{run_at}
use Rattle.std.specs.Prelude.{nat_lt}
use Rattle.mj_base.specs.Reading.{such, is_above, u64_at}
use Rattle.mj_meta.proofs.Runs.{run_begins, run_goes, run_fails, run_ends, last_of, behind}
use Rattle.mj_event.proofs.fields.rising_tids.Goals as goal

pub loop-n-init : goal.loop-n-init
loop-n-init c = run_begins (λ before. such (is_above nat_lt before) u64_at) c.args.count c.args.cursor.now ∙ ap (λ (tids : List ℕ). behind tids (run_at (λ before. such (is_above nat_lt before) u64_at) (c.args.count - 0) (last_of tids) c.args.cursor.now)) (sym c.new-tids.ensures.items)

pub returns-in_err-tid : goal.returns-in_err-tid
returns-in_err-tid c =
    let h = run_fails (λ before. such (is_above nat_lt before) u64_at) _ _ _ _ _ _ c.loop-n-test.true c.loop-n.invariant (rw (c.last.ensures.value, c.deref.ensures.value) at c.in_err-tid.ensures) in
    search rules

pub loop-n-preserved : goal.loop-n-preserved
loop-n-preserved c =
    let h = run_goes (λ before. such (is_above nat_lt before) u64_at) _ _ _ _ _ _ _ c.loop-n-test.true c.loop-n.invariant (rw (c.last.ensures.value, c.deref.ensures.value) at c.in_ok-tid.ensures) in
    rw c.in_ok-push.ensures.items h

pub returns : goal.returns
returns c = run_ends (λ before. such (is_above nat_lt before) u64_at) _ _ _ _ _ c.loop-n-test.false c.loop-n.invariant
