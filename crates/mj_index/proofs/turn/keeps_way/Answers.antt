use Rattle.std.proofs.Common.{sym, subst, ◌∙◌}
use Rattle.std.proofs.lemmas.Bool.{eqb-true}
use Rattle.mj_cells.specs.Table.{table_of}
use Rattle.mj_tables.specs.Layered.{early_cells}
use Rattle.mj_index.specs.Places.{dentry_key}
use Rattle.mj_index.specs.Gentle.{HasKeptWay}
use Rattle.mj_index.specs.Gentle.HasKeptWay.{starts}
use Rattle.mj_index.specs.Turning.{keys_have}
use Rattle.mj_index.proofs.Turning.{one_up}
use Rattle.mj_index.proofs.turn.keeps_way.Goals as goal

pub returns-then-eq : goal.returns-then-eq
returns-then-eq c _ = c.up.invariant (subst (HasKeptWay (table_of (early_cells c.args.layers.now)) (λ q. keys_have c.args.keys.now (dentry_key q))) (sym (eqb-true c.up.at 1 (sym c.eq.ensures ∙ c.if-eq.true))) starts)

pub up-preserved : goal.up-preserved
up-preserved c way = c.up.invariant (one_up (table_of (early_cells c.args.layers.now)) (λ q. keys_have c.args.keys.now (dentry_key q)) c.up.at c.in-Some.parent c.in-Some.ensures way)
