use Rattle.std.proofs.Common.{ap}
use Rattle.mj_tree.specs.Meaning.{state_of}
use Rattle.mj_tree.proofs.Puts.{sessions_rise_over, sessions_over}
use Rattle.mj_tree.proofs.plain.PlainTree.replace_session.Goals as goal

pub invariant_of-self : goal.invariant_of-self
invariant_of-self c =
    let t = c.args.self.now in
    record { records_rise = t.records_rise; links_rise = t.links_rise; opens_rise = t.opens_rise; sessions_rise = sessions_rise_over c.args.session t.sessions c.replace.new.items c.replace.ensures t.sessions_rise }

pub returns : goal.returns
returns c =
    let t = c.args.self.now in
    ap (λ m. record (state_of t) { sessions = m }) (sessions_over c.args.session t.sessions c.replace.new.items c.replace.ensures c.requires)
