use Rattle.std.proofs.Common.{◌≡◌, ◌+◌, ◌*◌, ap, subst, arith}
use Rattle.mj_store.specs.State.{contents}
use Rattle.mj_probe.specs.Missing.{IsLeastMissing}
use Rattle.mj_probe.proofs.Looking.{still_after, looks_then}
use Rattle.mj_probe.proofs.Least.{in_both}
use Rattle.mj_probe.proofs.probe.least_in_set.Goals as goal

pub returns-in_err-least_in_object-clause-looks : goal.returns-in_err-least_in_object-clause-looks
returns-in_err-least_in_object-clause-looks g c = looks_then c.loop-index.invariant.looks c.in_err-least_in_object.ensures.looks

pub loop-index-preserved : goal.loop-index-preserved
loop-index-preserved g c =
    let told = g.S.ObjectStore.state in
    let first = c.args.set * c.args.layout.now.sc in
    let index = c.loop-index.index in
    let its = c.in_ok-least_in_object in
    record {
      looks = looks_then c.loop-index.invariant.looks its.ensures.looks;
      above = omega (arith, c.min-least.ensures, c.loop-index.invariant.above, its.ensures.within.0);
      at_most = omega (arith, c.min-least.ensures, c.loop-index.invariant.at_most);
      found = λ s is still.
          in_both (contents s) c.args.rank c.args.layout.now c.args.from first index (index + 1) c.loop-index.least its.field-0 c.min-least.result
          (omega (arith, c.loop-index.auto.index, ap (λ n. c.args.set * n) c.sc-sc.ensures)) (omega arith) c.min-least.ensures
          (c.loop-index.invariant.found s is still)
          (its.ensures.told s (still_after s (told c.args.store.now) (told c.loop-index.store) is still c.loop-index.invariant.looks.stays) still);
    }

pub returns-clause-told : goal.returns-clause-told
returns-clause-told g c = λ s is still.
    let first = c.args.set * c.args.layout.now.sc in
    let ends : c.loop-index.index ≡ c.args.set * c.args.layout.now.sc + c.args.layout.now.sc = omega (arith, c.loop-index-test.false, c.loop-index.auto.index, c.loop-index.auto.index-end, ap (λ n. c.args.set * n) c.sc-sc.ensures, c.sc-sc.ensures) in
    subst (λ n. IsLeastMissing (contents s) c.args.rank c.args.layout.now c.args.from first n c.loop-index.least) ends (c.loop-index.invariant.found s is still)
