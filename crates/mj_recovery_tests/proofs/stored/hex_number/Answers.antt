use Rattle.std.proofs.Common.{◌+◌, ◌*◌, ◌<◌, ◌^◌, arith, sym}
use Rattle.mj_recovery_tests.proofs.Hex.{hex_fits, hex_more, hex_step}
use Rattle.mj_recovery_tests.proofs.stored.hex_number.Goals as goal

pub overflow_mul-n : goal.overflow_mul-n
overflow_mul-n c =
    let h : c.loop-b.n * 16 + 0 < 2 ^ 64 = hex_fits c.loop-b.n 0 c.loop-b.b-index c.loop-b.invariant.1 (omega arith) (omega arith) in
    omega arith

pub overflow_add-n : goal.overflow_add-n
overflow_add-n c =
    let h : c.loop-b.n * 16 + c.in_ok-digit.digit < 2 ^ 64 = hex_fits c.loop-b.n c.in_ok-digit.digit c.loop-b.b-index c.loop-b.invariant.1 (omega arith) c.in_ok-digit.ensures.small in
    omega arith

pub loop-b-preserved : goal.loop-b-preserved
loop-b-preserved c = (
  hex_step c.loop-b.n c.in_ok-digit.digit c.loop-b.b-index c.args.text.now _ c.loop-b-test.true (sym c.in_ok-digit.ensures.digit) c.loop-b.invariant.0,
  hex_more c.loop-b.n c.in_ok-digit.digit c.loop-b.b-index c.loop-b.invariant.1 c.in_ok-digit.ensures.small,
)
