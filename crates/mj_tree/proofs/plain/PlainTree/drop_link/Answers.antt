use Rattle.std.proofs.Common.{ap}
use Rattle.mj_tree.specs.Meaning.{state_of}
use Rattle.mj_tree.proofs.Puts.{links_rise_left, links_left}
use Rattle.mj_tree.proofs.plain.PlainTree.drop_link.Goals as goal

pub invariant_of-self : goal.invariant_of-self
invariant_of-self c =
    let t = c.args.self.now in
    record { records_rise = t.records_rise; links_rise = links_rise_left c.args.place.now t.links c.drop_link.new.links c.drop_link.ensures t.links_rise; opens_rise = t.opens_rise; sessions_rise = t.sessions_rise }

pub returns : goal.returns
returns c =
    let t = c.args.self.now in
    ap (λ m. record (state_of t) { links = m }) (links_left c.args.place.now t.links c.drop_link.new.links c.drop_link.ensures)
