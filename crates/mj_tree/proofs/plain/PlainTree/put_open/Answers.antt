use Rattle.std.proofs.Common.{ap}
use Rattle.mj_tree.specs.Meaning.{state_of}
use Rattle.mj_tree.proofs.Entries.{on_ok}
use Rattle.mj_tree.proofs.Puts.{opens_rise_after, opens_after}
use Rattle.mj_tree.proofs.plain.PlainTree.put_open.Goals as goal

pub invariant_of-self : goal.invariant_of-self
invariant_of-self c =
    let t = c.args.self.now in
    record { records_rise = t.records_rise; links_rise = t.links_rise; opens_rise = opens_rise_after c.put.result (record { client = c.args.client; ino = c.args.ino }) t.opens c.put.new.items c.put.ensures.ok c.put.ensures.err t.opens_rise; sessions_rise = t.sessions_rise }

pub returns-clause-ok : goal.returns-clause-ok
returns-clause-ok c =
    let t = c.args.self.now in
    on_ok c.put.result (ap (λ m. record (state_of t) { opens = m })) (opens_after c.put.result (record { client = c.args.client; ino = c.args.ino }) t.opens c.put.new.items c.put.ensures.ok)
