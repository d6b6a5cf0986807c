use Rattle.std.proofs.Common.{rules, sym, ap, ◌∙◌, List, ◌-◌}
use Rattle.mj_base.specs.Reading.{run_at}
use Rattle.mj_meta.specs.declared.RemoteBit.{RemoteBit}
use Rattle.mj_meta.specs.Blob.{full_names}
use Rattle.mj_meta.specs.BlobReading.{remote_at}
use Rattle.mj_meta.proofs.Runs.{run_begins, run_goes, run_fails, run_ends, last_of, behind}
use Rattle.mj_meta.proofs.Rising.{remotes_rise}
use Rattle.mj_meta.proofs.lump.read_remotes.Goals as goal

pub loop-n-init : goal.loop-n-init
loop-n-init c = run_begins (remote_at (full_names c.args.fulls.now)) c.args.count c.args.cursor.now ∙ ap (λ (bits : List RemoteBit). behind bits (run_at (remote_at (full_names c.args.fulls.now)) (c.args.count - 0) (last_of bits) c.args.cursor.now)) (sym c.new-bits.ensures.items)

pub returns-in_err-bit-clause-read : goal.returns-in_err-bit-clause-read
returns-in_err-bit-clause-read c =
    let h = run_fails (remote_at (full_names c.args.fulls.now)) _ _ _ _ _ _ c.loop-n-test.true c.loop-n.invariant (rw (c.last.ensures.value, c.deref.ensures.value) at c.in_err-bit.ensures) in
    search rules

pub loop-n-preserved : goal.loop-n-preserved
loop-n-preserved c =
    let h = run_goes (remote_at (full_names c.args.fulls.now)) _ _ _ _ _ _ _ c.loop-n-test.true c.loop-n.invariant (rw (c.last.ensures.value, c.deref.ensures.value) at c.in_ok-bit.ensures) in
    rw c.in_ok-push.ensures.items h

pub returns-clause-read : goal.returns-clause-read
returns-clause-read c = run_ends (remote_at (full_names c.args.fulls.now)) _ _ _ _ _ c.loop-n-test.false c.loop-n.invariant

pub returns-clause-rise : goal.returns-clause-rise
returns-clause-rise c = remotes_rise _ _ _ _ _ (run_ends (remote_at (full_names c.args.fulls.now)) _ _ _ _ _ c.loop-n-test.false c.loop-n.invariant)
