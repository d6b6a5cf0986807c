use Rattle.std.proofs.Common.{ap}
use Rattle.mj_tree.specs.Meaning.{state_of}
use Rattle.mj_tree.proofs.Puts.{records_rise_left, records_left}
use Rattle.mj_tree.proofs.plain.PlainTree.drop_record.Goals as goal

pub invariant_of-self : goal.invariant_of-self
invariant_of-self c =
    let t = c.args.self.now in
    record { records_rise = records_rise_left c.args.ino t.records c.drop_record.new.records c.drop_record.ensures t.records_rise; links_rise = t.links_rise; opens_rise = t.opens_rise; sessions_rise = t.sessions_rise }

pub returns : goal.returns
returns c =
    let t = c.args.self.now in
    ap (λ m. record (state_of t) { records = m }) (records_left c.args.ino t.records c.drop_record.new.records c.drop_record.ensures)
