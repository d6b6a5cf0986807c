use Rattle.std.proofs.Common.{sym, subst, ◌∙◌}
use Rattle.mj_cells.specs.declared.cell.CellKey.{CellKey}
use Rattle.mj_tables.specs.Listed.{Adds}
use Rattle.mj_tables.proofs.KeySets.{added_already}
use Rattle.mj_tables.proofs.listing.add_key.Goals as goal

pub returns-in_ok-insert-clause-ok : goal.returns-in_ok-insert-clause-ok
returns-in_ok-insert-clause-ok c = subst (λ (k : CellKey). Adds c.args.there.now k c.insert.new.self) c.in_ok-copy.ensures c.in_ok-insert.ensures.ok

pub returns-else-not-contains-clause-ok : goal.returns-else-not-contains-clause-ok
returns-else-not-contains-clause-ok c = added_already c.args.there.now c.args.key.now (sym c.contains.ensures ∙ c.if-not-contains.false)
