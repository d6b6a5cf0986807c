-- A journal that ends where positions end.
use Rattle.std.proofs.Common.{◌≡◌, ℕ, ◌≤◌, cond, sym, ap, ◌∙◌}
use Rattle.std.proofs.lemmas.Bool.{le-ltb}
use Rattle.std.specs.Prelude.{◌^◌, nat_lt, Result, Ok, Err}
use Rattle.mj_base.specs.Reading.{◌>>=◌}
use Rattle.mj_base.specs.declared.damage.Damage.{Damage}
use Rattle.mj_base.specs.declared.damage.Damage.TheVariants.{Unbuilt}
use Rattle.mj_recovery.specs.Recovered.{Recovery}
use Rattle.mj_replay.specs.declared.replaying.Replayed.{Replayed}
use Rattle.mj_replay.specs.Replayed.{IsReplayOf}
use Rattle.mj_rank.specs.Finding.{below_end}

pub past_end : (rank : ℕ) (x : Replayed) (r : Result Recovery Damage) → IsReplayOf rank x r → 2 ^ 62 ≤ x.tail → (r >>= below_end) ≡ Err Unbuilt
past_end rank x (Ok r) is past = ap (λ b. cond {A = Result Recovery Damage} b (Ok r) (Err Unbuilt)) (ap (λ n. nat_lt n (2 ^ 62)) (sym is.tail) ∙ le-ltb x.tail (2 ^ 62) past)
past_end rank x (Err d) is past = absurd is
