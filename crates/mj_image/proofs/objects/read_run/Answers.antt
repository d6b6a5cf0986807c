use Rattle.std.proofs.Common.{rules, sym, ap, ◌∙◌, List, ◌-◌}
use Rattle.mj_store.specs.declared.held.HeldObject.{HeldObject}
use Rattle.mj_image.specs.Reading.{run_of, object_at}
use Rattle.mj_image.proofs.Runs.{run_begins, run_goes, run_stops, run_ends, last_of, behind}
use Rattle.mj_image.proofs.objects.read_run.Goals as goal

pub loop-n-init : goal.loop-n-init
loop-n-init c = run_begins object_at c.args.count c.args.cursor.now ∙ ap (λ (hs : List HeldObject). behind hs (run_of object_at (c.args.count - 0) (last_of hs) c.args.cursor.now)) (sym c.new-objects.ensures.items)

pub returns-in_err-object : goal.returns-in_err-object
returns-in_err-object c =
    let h = run_stops object_at _ _ _ _ _ _ c.loop-n-test.true c.loop-n.invariant (rw (c.last.ensures.value, c.deref.ensures.value) at c.in_err-object.ensures) in
    search rules

pub loop-n-preserved : goal.loop-n-preserved
loop-n-preserved c =
    let h = run_goes object_at _ _ _ _ _ _ _ c.loop-n-test.true c.loop-n.invariant (rw (c.last.ensures.value, c.deref.ensures.value) at c.in_ok-object.ensures) in
    rw c.in_ok-push.ensures.items h

pub returns : goal.returns
returns c = run_ends object_at _ _ _ _ _ c.loop-n-test.false c.loop-n.invariant
