use Rattle.std.proofs.Common.{ap, arith}
use Rattle.mj_base.specs.declared.object.ObjectName.{ObjectName}
use Rattle.mj_store.specs.declared.act.ObjectAct.TheVariants.{Truncate}
use Rattle.mj_store.specs.declared.act.ObjectOp.{ObjectOp}
use Rattle.mj_journaler.proofs.Cuts.{is_below, is_above}
use Rattle.mj_journaler.proofs.cutting.tail_cut.Goals as goal

pub returns-then-min-len : goal.returns-then-min-len
returns-then-min-len c =
    is_below c.args.layout.now c.args.tail c.args.index c.front_below-len.result c.args.size c.is_sound.ensures c.front_below-len.ensures (omega (arith, c.min.ensures, c.os.ensures, c.if-min-len.true))

pub returns : goal.returns
returns c =
    let op : ObjectOp = record { name = c.journal_object.result; act = Truncate c.front_below-len.result } in
    is_above c.args.rank c.args.layout.now c.args.tail c.args.index c.front_below-len.result c.args.size op c.is_sound.ensures c.front_below-len.ensures (omega (arith, c.min.ensures, c.os.ensures, c.if-min-len.false))
    (ap (λ (n : ObjectName). let made : ObjectOp = record { name = n; act = Truncate c.front_below-len.result } in made) c.journal_object.ensures)
