use Rattle.std.proofs.Common.{sym, ◌∙◌}
use Rattle.mj_chronicle.proofs.LastEnds.{in_index, index_without, index_back, no_end}
use Rattle.mj_chronicle.proofs.ends.take_back.Goals as goal

pub replace-requires : goal.replace-requires
replace-requires c = in_index c.args.entries.now c.args.entry.now c.args.ends.now c.pair_of-client.result c.pair_of-client.ensures (sym c.is_some.ensures ∙ c.if-is_some.true) c.requires

pub returns-then-is_some : goal.returns-then-is_some
returns-then-is_some c = index_without c.args.entries.now c.args.entry.now c.args.ends.now c.replace.new.ends c.pair_of-client.result c.last_end.result c.pair_of-client.ensures c.last_end.ensures c.requires c.replace.ensures

pub returns-else-is_some : goal.returns-else-is_some
returns-else-is_some c = index_back c.args.entries.now c.args.entry.now c.args.ends.now (no_end c.args.entry.now.ends_at (sym c.is_some.ensures ∙ c.if-is_some.false)) c.requires
