use Rattle.std.proofs.Common.{ℕ, map, sym, ap, ◌∙◌}
use Rattle.std.specs.Option.{option_map}
use Rattle.mj_base.specs.declared.damage.Damage.TheVariants as damage
use Rattle.mj_cells.specs.Next.{cell_of}
use Rattle.mj_judge.specs.Judged.{too_much}
use Rattle.mj_judge.proofs.Counted.{agree}
use Rattle.mj_judge.proofs.judge.over_limit.Goals as goal

pub returns-in-Some : goal.returns-in-Some
returns-in-Some c = ap (option_map damage.OverLimit) (sym c.in-Some.is ∙ c.in_ok-n.ensures ∙ ap (λ (f : ℕ → ℕ). too_much f c.args.inodes.now (map cell_of c.args.cells.now) c.args.dirs.now.keys) (agree _ _ c.requires.links))
