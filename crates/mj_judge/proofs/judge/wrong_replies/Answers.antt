use Rattle.std.proofs.Common.{ℕ, map, ap, ◌∙◌}
use Rattle.std.specs.Prelude.{filter}
use Rattle.mj_tables.specs.Layered.{early_cells}
use Rattle.mj_recovery.specs.Damage.{times}
use Rattle.mj_judge.specs.Rows.{oldest_at, replies_badly}
use Rattle.mj_judge.proofs.Counted.{if_ok, agree}
use Rattle.mj_judge.proofs.judge.wrong_replies.Goals as goal

pub returns : goal.returns
returns c = if_ok c.bad_replies.result _ _ (λ v is. is ∙ (λ j. map (λ (e : (ℕ × ℕ) × ℕ). e.0.0) (filter (replies_badly (oldest_at (early_cells c.args.layers.now)) (agree _ _ (λ k. c.in_ok-counts.ensures k ∙ ap (times k) (c.deref-2.ensures.value ∙ c.in_ok-clients.ensures ∙ ap (map (λ (e : (ℕ × ℕ) × ℕ). e.0.0)) (c.deref.ensures.value ∙ c.in_ok-done.ensures))) j)) ((c.deref-3.ensures.value ∙ c.in_ok-done.ensures) j)))) c.bad_replies.ensures
