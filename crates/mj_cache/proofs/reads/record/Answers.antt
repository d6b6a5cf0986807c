use Rattle.std.proofs.Common.{sym, ap, ◌∙◌}
use Rattle.std.specs.Option.{option_map}
use Rattle.mj_tree.specs.State.{attributes_of}
use Rattle.mj_cache.proofs.Placed.{links_in, links_are, record_kept, record_none}
use Rattle.mj_cache.proofs.reads.record.Goals as goal

pub is_kept-requires-clause-links : goal.is_kept-requires-clause-links
is_kept-requires-clause-links c = ap links_in c.in-Some.ensures ∙ links_are c.args.cache.now c.has_tree.ensures c.args.ino

pub returns-then-is_kept-clause-attributes : goal.returns-then-is_kept-clause-attributes
returns-then-is_kept-clause-attributes c =
    ap (option_map attributes_of) c.in-Some.ensures ∙ record_kept c.args.cache.now c.has_tree.ensures c.args.ino (sym c.is_kept.ensures ∙ c.if-is_kept.true)

pub returns-then-is_kept-clause-links : goal.returns-then-is_kept-clause-links
returns-then-is_kept-clause-links c = ap links_in c.in-Some.ensures ∙ links_are c.args.cache.now c.has_tree.ensures c.args.ino

pub returns-in-None-clause-attributes : goal.returns-in-None-clause-attributes
returns-in-None-clause-attributes c = record_none c.args.cache.now c.has_tree.ensures c.args.ino (sym c.in-None.ensures)
