use Rattle.std.proofs.Common.{rules, sym, ap, ◌∙◌, List, ◌-◌}
use Rattle.mj_base.specs.Reading.{run_at}
use Rattle.mj_event.specs.declared.OpenPair.{OpenPair}
use Rattle.mj_event.specs.EventReading.{pair_at}
use Rattle.mj_meta.proofs.Runs.{run_begins, run_goes, run_fails, run_ends, last_of, behind}
use Rattle.mj_event.proofs.fields.rising_pairs.Goals as goal

pub loop-n-init : goal.loop-n-init
loop-n-init c = run_begins pair_at c.args.count c.args.cursor.now ∙ ap (λ (pairs : List OpenPair). behind pairs (run_at pair_at (c.args.count - 0) (last_of pairs) c.args.cursor.now)) (sym c.new-pairs.ensures.items)

pub returns-in_err-pair : goal.returns-in_err-pair
returns-in_err-pair c =
    let h = run_fails pair_at _ _ _ _ _ _ c.loop-n-test.true c.loop-n.invariant (rw (c.last.ensures.value, c.deref.ensures.value) at c.in_err-pair.ensures) in
    search rules

pub loop-n-preserved : goal.loop-n-preserved
loop-n-preserved c =
    let h = run_goes pair_at _ _ _ _ _ _ _ c.loop-n-test.true c.loop-n.invariant (rw (c.last.ensures.value, c.deref.ensures.value) at c.in_ok-pair.ensures) in
    rw c.in_ok-push.ensures.items h

pub returns : goal.returns
returns c = run_ends pair_at _ _ _ _ _ c.loop-n-test.false c.loop-n.invariant
