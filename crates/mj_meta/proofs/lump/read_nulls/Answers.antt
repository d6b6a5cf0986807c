use Rattle.std.proofs.Common.{rules, sym, ap, ◌∙◌, List, ◌-◌}
use Rattle.mj_base.specs.Reading.{run_at}
use Rattle.mj_meta.specs.declared.NullBit.{NullBit}
use Rattle.std.specs.Prelude.{◌++◌}
use Rattle.mj_meta.specs.Blob.{full_names, remote_names}
use Rattle.mj_meta.specs.BlobReading.{null_at}
use Rattle.mj_meta.proofs.Runs.{run_begins, run_goes, run_fails, run_ends, last_of, behind}
use Rattle.mj_meta.proofs.lump.read_nulls.Goals as goal

pub loop-n-init : goal.loop-n-init
loop-n-init c = run_begins (null_at (full_names c.args.fulls.now ++ remote_names c.args.remotes.now)) c.args.count c.args.cursor.now ∙ ap (λ (bits : List NullBit). behind bits (run_at (null_at (full_names c.args.fulls.now ++ remote_names c.args.remotes.now)) (c.args.count - 0) (last_of bits) c.args.cursor.now)) (sym c.new-bits.ensures.items)

pub returns-in_err-bit : goal.returns-in_err-bit
returns-in_err-bit c =
    let h = run_fails (null_at (full_names c.args.fulls.now ++ remote_names c.args.remotes.now)) _ _ _ _ _ _ c.loop-n-test.true c.loop-n.invariant (rw (c.last.ensures.value, c.deref.ensures.value) at c.in_err-bit.ensures) in
    search rules

pub loop-n-preserved : goal.loop-n-preserved
loop-n-preserved c =
    let h = run_goes (null_at (full_names c.args.fulls.now ++ remote_names c.args.remotes.now)) _ _ _ _ _ _ _ c.loop-n-test.true c.loop-n.invariant (rw (c.last.ensures.value, c.deref.ensures.value) at c.in_ok-bit.ensures) in
    rw c.in_ok-push.ensures.items h

pub returns : goal.returns
returns c = run_ends (null_at (full_names c.args.fulls.now ++ remote_names c.args.remotes.now)) _ _ _ _ _ c.loop-n-test.false c.loop-n.invariant
