use Rattle.std.proofs.Common.{ap}
use Rattle.mj_tree.specs.Meaning.{state_of}
use Rattle.mj_tree.proofs.Entries.{on_ok}
use Rattle.mj_tree.proofs.Puts.{records_rise_after, records_after}
use Rattle.mj_tree.proofs.plain.PlainTree.put_record.Goals as goal

pub invariant_of-self : goal.invariant_of-self
invariant_of-self c =
    let t = c.args.self.now in
    record { records_rise = records_rise_after c.put.result c.args.inode t.records c.put.new.items c.put.ensures.ok c.put.ensures.err t.records_rise; links_rise = t.links_rise; opens_rise = t.opens_rise; sessions_rise = t.sessions_rise }

pub returns-clause-ok : goal.returns-clause-ok
returns-clause-ok c =
    let t = c.args.self.now in
    on_ok c.put.result (ap (λ m. record (state_of t) { records = m })) (records_after c.put.result c.args.inode t.records c.put.new.items c.put.ensures.ok)
