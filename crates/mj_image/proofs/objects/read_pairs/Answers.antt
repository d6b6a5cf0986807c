use Rattle.std.proofs.Common.{rules, sym, ap, ◌∙◌, List, ◌-◌}
use Rattle.mj_store.specs.declared.act.Pair.{Pair}
use Rattle.mj_image.specs.Reading.{run_of, pair_at}
use Rattle.mj_image.proofs.Runs.{run_begins, run_goes, run_stops, run_ends, last_of, behind}
use Rattle.mj_image.proofs.objects.read_pairs.Goals as goal

pub loop-n-init : goal.loop-n-init
loop-n-init c = run_begins pair_at c.args.count c.args.cursor.now ∙ ap (λ (ps : List Pair). behind ps (run_of pair_at (c.args.count - 0) (last_of ps) c.args.cursor.now)) (sym c.new-pairs.ensures.items)

pub returns-in_err-pair : goal.returns-in_err-pair
returns-in_err-pair c =
    let h = run_stops pair_at _ _ _ _ _ _ c.loop-n-test.true c.loop-n.invariant (rw (c.last.ensures.value, c.deref.ensures.value) at c.in_err-pair.ensures) in
    search rules

pub loop-n-preserved : goal.loop-n-preserved
loop-n-preserved c =
    let h = run_goes pair_at _ _ _ _ _ _ _ c.loop-n-test.true c.loop-n.invariant (rw (c.last.ensures.value, c.deref.ensures.value) at c.in_ok-pair.ensures) in
    rw c.in_ok-push.ensures.items h

pub returns : goal.returns
returns c = run_ends pair_at _ _ _ _ _ c.loop-n-test.false c.loop-n.invariant
