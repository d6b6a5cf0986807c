use Rattle.std.proofs.Common.{◌≡◌, ◌+◌, ◌-◌, ◌*◌, ◌/◌, ◌^◌, ◌≤◌, ap, subst, arith}
use Rattle.std.proofs.lemmas.Nat.{mul-le}
use Rattle.mj_store.specs.State.{contents}
use Rattle.mj_layout.specs.Striping.{period}
use Rattle.mj_layout.proofs.Striped.{sizes}
use Rattle.mj_layout.proofs.Placed.{div_rises}
use Rattle.mj_probe.specs.Missing.{IsLeastMissing}
use Rattle.mj_probe.proofs.Looking.{still_after, looks_then}
use Rattle.mj_probe.proofs.Least.{in_both, set_small, end_there, end_none}
use Rattle.mj_probe.proofs.probe.least_missing.Goals as goal

pub least_in_set-requires-clause-low : goal.least_in_set-requires-clause-low
least_in_set-requires-clause-low g c = set_small c.args.layout.now c.is_sound.ensures c.loop-set.set (omega (arith, c.loop-set-test.true, ap (λ p. (2 ^ 62 - 1) / p) c.period-period.ensures))

pub returns-in_err-at-clause-looks : goal.returns-in_err-at-clause-looks
returns-in_err-at-clause-looks g c = looks_then c.loop-set.invariant.looks c.in_err-at.ensures.looks

pub returns-then-at-lt-POSITIONS_END-clause-looks : goal.returns-then-at-lt-POSITIONS_END-clause-looks
returns-then-at-lt-POSITIONS_END-clause-looks g c = looks_then c.loop-set.invariant.looks c.in_ok-at.ensures.looks

pub returns-then-at-lt-POSITIONS_END-clause-told : goal.returns-then-at-lt-POSITIONS_END-clause-told
returns-then-at-lt-POSITIONS_END-clause-told g c = λ s is still.
    let told = g.S.ObjectStore.state in
    let layout = c.args.layout.now in
    let from = c.args.from in
    let set = c.loop-set.set in
    let at = c.in_ok-at.at in
    let now = still_after s (told c.args.store.now) (told c.loop-set.store) is still c.loop-set.invariant.looks.stays in
    let later : from / period layout * layout.sc ≤ set * layout.sc = mul-le (from / period layout) layout.sc set layout.sc (omega (arith, c.loop-set.auto.set, ap (λ p. from / p) c.period-period.ensures)) (omega arith) in
    end_there (contents s) c.args.rank layout c.is_sound.ensures from set at (omega (arith, c.requires)) c.if-at-lt-POSITIONS_END.true
    (in_both (contents s) c.args.rank layout from (from / period layout * layout.sc) (set * layout.sc) (set * layout.sc + layout.sc) (2 ^ 62) at at later (omega arith) (omega (arith, c.if-at-lt-POSITIONS_END.true))
    (c.loop-set.invariant.found s is still) (c.in_ok-at.ensures.told s now still))

pub loop-set-preserved : goal.loop-set-preserved
loop-set-preserved g c = record {
  looks = looks_then c.loop-set.invariant.looks c.in_ok-at.ensures.looks;
  found = λ s is still.
      let told = g.S.ObjectStore.state in
      let layout = c.args.layout.now in
      let from = c.args.from in
      let set = c.loop-set.set in
      let at = c.in_ok-at.at in
      let now = still_after s (told c.args.store.now) (told c.loop-set.store) is still c.loop-set.invariant.looks.stays in
      let later : from / period layout * layout.sc ≤ set * layout.sc = mul-le (from / period layout) layout.sc set layout.sc (omega (arith, c.loop-set.auto.set, ap (λ p. from / p) c.period-period.ensures)) (omega arith) in
      let next : set * layout.sc + layout.sc ≡ (set + 1) * layout.sc = omega arith in
      subst (λ n. IsLeastMissing (contents s) c.args.rank layout from (from / period layout * layout.sc) n (2 ^ 62)) next
      (in_both (contents s) c.args.rank layout from (from / period layout * layout.sc) (set * layout.sc) (set * layout.sc + layout.sc) (2 ^ 62) at (2 ^ 62) later (omega arith) (omega (arith, c.if-at-lt-POSITIONS_END.false))
      (c.loop-set.invariant.found s is still) (c.in_ok-at.ensures.told s now still));
}

pub returns-clause-told : goal.returns-clause-told
returns-clause-told g c = λ s is still.
    let layout = c.args.layout.now in
    let from = c.args.from in
    let z = sizes layout c.is_sound.ensures in
    let same : (2 ^ 62 - 1) / c.period-period.result ≡ (2 ^ 62 - 1) / period layout = ap (λ p. (2 ^ 62 - 1) / p) c.period-period.ensures in
    let first : from / c.period-period.result ≡ from / period layout = ap (λ p. from / p) c.period-period.ensures in
    let below : from / period layout ≤ (2 ^ 62 - 1) / period layout = div_rises from (2 ^ 62 - 1) (period layout) (omega (arith, z.period_least)) (omega (arith, c.requires)) in
    let ends : c.loop-set.set ≡ (2 ^ 62 - 1) / period layout + 1 = omega (arith, c.loop-set-test.false, c.loop-set.auto.set, c.loop-set.auto.set-end, same, first, below) in
    end_none (contents s) c.args.rank layout c.is_sound.ensures from (omega (arith, c.requires))
    (subst (λ n. IsLeastMissing (contents s) c.args.rank layout from (from / period layout * layout.sc) (n * layout.sc) (2 ^ 62)) ends (c.loop-set.invariant.found s is still))
