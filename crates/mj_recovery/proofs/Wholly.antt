-- What was gathered and has no damage is what is recovered.
use Rattle.std.proofs.Common.{◌≡◌, ℕ, None, Result, Ok, sym, ap, ◌∙◌}
use Rattle.mj_base.specs.Reading.{◌>>=◌}
use Rattle.mj_base.specs.declared.damage.Damage.{Damage}
use Rattle.mj_recovery.specs.Objects.{Objects}
use Rattle.mj_recovery.specs.Recovered.{Recovery, gathered, merged_damage, or_damage, recovered}

pub recovered_ok : (rank : ℕ) (m : Objects) (r : Recovery) → gathered rank m ≡ Ok r → None ≡ merged_damage rank m r.journal r.table → recovered rank m ≡ Ok r
unfolding recovered
recovered_ok rank m r e f = ap (λ (r : Result Recovery Damage). r >>= λ x. or_damage (merged_damage rank m x.journal x.table) x) e ∙ ap (λ o. or_damage o r) (sym f)
