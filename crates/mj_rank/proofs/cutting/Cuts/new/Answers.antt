use Rattle.std.proofs.Common.{arith, ℕ, ◌≤◌, ◌*◌, ◌+◌, subst, sym}
use Rattle.mj_layout.proofs.Striped.{sizes}
use Rattle.mj_rank.proofs.Cuts.{near_fits, near_rises}
use Rattle.mj_rank.proofs.cutting.Cuts.new.Goals as goal

pub overflow_mul-period : goal.overflow_mul-period
overflow_mul-period c = let z = sizes c.args.layout.now c.is_sound.ensures in omega (arith, c.period.ensures, z.period_most)

pub overflow_sub-period : goal.overflow_sub-period
overflow_sub-period c = let z = sizes c.args.layout.now c.is_sound.ensures in omega (arith, c.period.ensures, z.period_least)

pub overflow_add-tail : goal.overflow_add-tail
overflow_add-tail c = let z = sizes c.args.layout.now c.is_sound.ensures in omega (arith, c.period.ensures, z.period_most, c.requires)

pub overflow_mul-result-2 : goal.overflow_mul-result-2
overflow_mul-result-2 c = omega (arith, near_fits c.args.layout.now c.set_of-2.result c.sc-sc.result c.is_sound.ensures c.sc-sc.ensures c.set_of-2.ensures.low)

pub invariant_of-result : goal.invariant_of-result
invariant_of-result c =
    let z = sizes c.args.layout.now c.is_sound.ensures in
    let rises = near_rises c.args.layout.now c.args.tail c.min-last.result c.is_sound.ensures (omega (arith, c.min-last.ensures, c.requires, c.period.ensures, z.period_least)) in
    record {
      in_order = subst (λ (p : ℕ × ℕ × ℕ). p.0 * p.2 ≤ (p.1 + 1) * p.2) (λ i. (sym c.set_of.ensures.is i, sym c.set_of-2.ensures.is i, sym c.sc-sc.ensures i)) rises;
    }
