use Rattle.std.proofs.Common.{rules, sym, ap, ◌∙◌, List, ◌-◌}
use Rattle.mj_base.specs.Reading.{run_at}
use Rattle.mj_meta.specs.declared.DirLump.{DirLump}
use Rattle.mj_meta.specs.BlobReading.{lump_at}
use Rattle.mj_meta.proofs.Runs.{run_begins, run_goes, run_fails, run_ends, last_of, behind}
use Rattle.mj_meta.proofs.lump.read_lumps.Goals as goal

pub loop-n-init : goal.loop-n-init
loop-n-init c = run_begins lump_at c.args.count c.args.cursor.now ∙ ap (λ (lumps : List DirLump). behind lumps (run_at lump_at (c.args.count - 0) (last_of lumps) c.args.cursor.now)) (sym c.new-lumps.ensures.items)

pub returns-in_err-lump : goal.returns-in_err-lump
returns-in_err-lump c =
    let h = run_fails lump_at _ _ _ _ _ _ c.loop-n-test.true c.loop-n.invariant (rw (c.last.ensures.value, c.deref.ensures.value) at c.in_err-lump.ensures) in
    search rules

pub loop-n-preserved : goal.loop-n-preserved
loop-n-preserved c =
    let h = run_goes lump_at _ _ _ _ _ _ _ c.loop-n-test.true c.loop-n.invariant (rw (c.last.ensures.value, c.deref.ensures.value) at c.in_ok-lump.ensures) in
    rw c.in_ok-push.ensures.items h

pub returns : goal.returns
returns c = run_ends lump_at _ _ _ _ _ c.loop-n-test.false c.loop-n.invariant
