use Rattle.std.proofs.Common.{◌≡◌, ℕ, true, false, cond, List, [], ◌∷◌, ◌++◌, Option, refl, sym, ap, ◌∙◌, append-nil}
use Rattle.std.specs.Prelude.{is_none}
use Rattle.mj_base.specs.ObjectName.{stray_ino}
use Rattle.mj_recovery.specs.Damage.{headless}
use Rattle.mj_tables.specs.Layered.{early_cells}
use Rattle.mj_judge.specs.Rows.{version_at}
use Rattle.mj_judge.proofs.rows.headless.Goals as goal

headless_first : (f : ℕ → Option ℕ) (s : ℕ) (ds : List ℕ) → headless f (s ∷ []) ++ headless f ds ≡ headless f (s ∷ ds)
headless_first f s ds = elim (is_none (f s)) as (λ b. cond b (s ∷ []) [] ++ headless f ds ≡ cond b (s ∷ headless f ds) (headless f ds)) [ true ↦ refl | false ↦ refl ]

pub returns : goal.returns
returns c =
    let f = version_at (early_cells c.args.layers.now) in
    sym (append-nil c.loop-dir.found.items) ∙ ap (λ (ds : List ℕ). c.loop-dir.found.items ++ headless f ds) (sym c.in-None.ensures.steps.0) ∙ c.loop-dir.invariant
    ∙ (λ i. c.in_ok-found.ensures i ++ headless f ((c.into_iter-dir-iterator.ensures.into_iter_gives ∙ c.iter-dir-items.ensures.rest) i))
    ∙ headless_first f (stray_ino c.args.rank) c.args.dirs.now.keys
