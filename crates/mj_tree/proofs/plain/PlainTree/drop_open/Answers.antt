use Rattle.std.proofs.Common.{ap}
use Rattle.mj_tree.specs.Meaning.{state_of}
use Rattle.mj_tree.proofs.Puts.{opens_rise_left, opens_left}
use Rattle.mj_tree.proofs.plain.PlainTree.drop_open.Goals as goal

pub invariant_of-self : goal.invariant_of-self
invariant_of-self c =
    let t = c.args.self.now in
    record { records_rise = t.records_rise; links_rise = t.links_rise; opens_rise = opens_rise_left c.args.client c.args.ino t.opens c.drop_open.new.opens c.drop_open.ensures t.opens_rise; sessions_rise = t.sessions_rise }

pub returns : goal.returns
returns c =
    let t = c.args.self.now in
    ap (λ m. record (state_of t) { opens = m }) (opens_left c.args.client c.args.ino t.opens c.drop_open.new.opens c.drop_open.ensures)
