use Rattle.mj_rank.proofs.StillReads.{stays_then}
use Rattle.mj_rank.proofs.Cuts.{passes_stays, looked_begins, looked_more, looked_found, looked_stays}
use Rattle.mj_rank.proofs.cutting.look.Goals as goal

pub loop-index-init : goal.loop-index-init
loop-index-init g c = looked_begins c.args.number c.args.layout.now c.args.tail c.args.from _ _ _

pub returns-in_err-size-clause-stays : goal.returns-in_err-size-clause-stays
returns-in_err-size-clause-stays g c = stays_then (passes_stays _ _ _ _ _ _ _ c.loop-index.invariant.passes) c.in_err-size.ensures.err

pub returns-in-Some-clause-looks : goal.returns-in-Some-clause-looks
returns-in-Some-clause-looks g c =
    looked_found c.args.number c.args.layout.now c.args.tail c.args.from c.loop-index.index _ _ _ _ _ _ _ c.loop-index.invariant _ c.in_ok-size.size c.journal_object.ensures c.in_ok-size.ensures.ok c.args.end c.unwrap_or.result _ c.loop-index-test.true c.unwrap_or.ensures c.in-Some.ensures

pub returns-in-Some-clause-stays : goal.returns-in-Some-clause-stays
returns-in-Some-clause-stays g c =
    looked_stays c.args.number c.args.layout.now c.args.tail c.args.from c.loop-index.index _ _ _ _ _ _ _ c.loop-index.invariant _ c.in_ok-size.size c.journal_object.ensures c.in_ok-size.ensures.ok

pub loop-index-preserved : goal.loop-index-preserved
loop-index-preserved g c =
    looked_more c.args.number c.args.layout.now c.args.tail c.args.from c.loop-index.index _ _ _ _ _ _ _ c.loop-index.invariant _ c.in_ok-size.size c.journal_object.ensures c.in_ok-size.ensures.ok _ _ c.unwrap_or.result c.size.ensures.same_list c.size.ensures.later c.unwrap_or.ensures c.in_default.ensures

pub returns-clause-stays : goal.returns-clause-stays
returns-clause-stays g c = passes_stays _ _ _ _ _ _ _ c.loop-index.invariant.passes
