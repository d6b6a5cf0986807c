use Rattle.std.proofs.Common.{◌≡◌, ◌+◌, ◌*◌, ◌^◌, ◌<◌, ◌≤◌, get_or, take, Some, sym, ◌∙◌, ap, arith}
use Rattle.std.specs.Char.{digit_value}
use Rattle.std.specs.Str.Parse.{digits_value}
use Rattle.std.proofs.lemmas.Int.Digits.{digits_value_more}
use Rattle.std.proofs.lemmas.List.{take_all}
use Rattle.mj_texts.proofs.DigitsLemmas.{digits_in_great, digits_in_all, more_digits}
use Rattle.mj_texts.proofs.number.read_digits.Goals as goal

pub returns-in_err-checked_mul : goal.returns-in_err-checked_mul
returns-in_err-checked_mul c =
    let word = c.args.word.now in
    let low : 1 ≤ c.args.base = omega arith in
    let great : 2 ^ 64 ≤ digits_value c.args.base (take c.loop-b.b-index word) * c.args.base =
    rw c.loop-b.invariant.value (let h : c.loop-b.value * c.args.base < 18446744073709551616 → ⊥ = λ lt. c.in_err-checked_mul.ensures (rw c.from-in-loop-b.ensures lt) in omega (arith, h)) in
    c.from_residual-in_err-checked_mul.ensures ∙ sym (digits_in_great c.args.base word c.loop-b.b-index low c.loop-b-test.true (omega arith))

pub returns-in_err-value : goal.returns-in_err-value
returns-in_err-value c =
    let word = c.args.word.now in
    let low : 1 ≤ c.args.base = omega arith in
    let digit : c.from-in-loop-b-2.result ≡ digit_value (get_or word c.loop-b.b-index 0) = c.from-in-loop-b-2.ensures ∙ c.in_ok-digit.ensures.value.1 ∙ ap digit_value c.from.ensures in
    let product : c.in_ok-checked_mul.field-0 ≡ digits_value c.args.base (take c.loop-b.b-index word) * c.args.base = c.in_ok-checked_mul.ensures.1 ∙ rw (c.from-in-loop-b.ensures, c.loop-b.invariant.value) in
    let h : c.in_ok-checked_mul.field-0 + c.from-in-loop-b-2.result < 18446744073709551616 → ⊥ = c.in_err-value.ensures in
    c.from_residual-in_err-value.ensures ∙ sym (digits_in_great c.args.base word c.loop-b.b-index low c.loop-b-test.true (rw (← product, ← digit) (omega (arith, h))))

pub loop-b-preserved : goal.loop-b-preserved
loop-b-preserved c =
    let word = c.args.word.now in
    let digit : c.from-in-loop-b-2.result ≡ digit_value (get_or word c.loop-b.b-index 0) = c.from-in-loop-b-2.ensures ∙ c.in_ok-digit.ensures.value.1 ∙ ap digit_value c.from.ensures in
    let below : digit_value (get_or word c.loop-b.b-index 0) < c.args.base = rw c.from.ensures at c.in_ok-digit.ensures.value.0 in
    let product : c.in_ok-checked_mul.field-0 ≡ digits_value c.args.base (take c.loop-b.b-index word) * c.args.base = c.in_ok-checked_mul.ensures.1 ∙ rw (c.from-in-loop-b.ensures, c.loop-b.invariant.value) in
    record {
      digits = more_digits c.args.base word c.loop-b.b-index c.loop-b-test.true c.loop-b.invariant.digits below;
      value = digits_value_more c.args.base word c.loop-b.b-index c.loop-b-test.true ∙ rw (← product, ← digit) (sym c.in_ok-value.ensures.1);
      fits = rw c.in_ok-value.ensures.1 c.in_ok-value.ensures.0;
    }

pub returns : goal.returns
returns c =
    let word = c.args.word.now in
    let whole : take c.loop-b.b-index word ≡ word = take_all c.loop-b.b-index word c.loop-b-test.false in
    sym (digits_in_all c.args.base word (rw whole at c.loop-b.invariant.digits) (rw (← whole, c.loop-b.invariant.value) c.loop-b.invariant.fits) ∙ ap Some (rw whole at c.loop-b.invariant.value))
