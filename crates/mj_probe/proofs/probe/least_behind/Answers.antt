use Rattle.std.proofs.Common.{◌^◌, arith}
use Rattle.mj_layout.proofs.Placed.{placing}
use Rattle.mj_probe.proofs.Behind.{below_cut, behind_there, behind_none}
use Rattle.mj_probe.proofs.probe.least_behind.Goals as goal

pub returns-then-last-offset : goal.returns-then-last-offset
returns-then-last-offset c =
    let s = c.args.layout.now in
    behind_none s (placing s c.is_sound.ensures) c.args.index c.args.size c.args.from c.front_below.result c.front_below-2.result c.max-offset.result c.requires c.front_below.ensures c.front_below-2.ensures
    (omega (arith, c.max-offset.ensures, c.min-held.ensures, c.os-os.ensures))
    (omega (arith, c.if-last-offset.true, c.min-last.ensures, c.os-os.ensures))

pub position_of-requires-clause-below : goal.position_of-requires-clause-below
position_of-requires-clause-below c =
    let s = c.args.layout.now in
    below_cut s (placing s c.is_sound.ensures) c.args.index (2 ^ 62) c.front_below-2.result c.max-offset.result c.front_below-2.ensures
    (omega (arith, c.if-last-offset.false, c.min-last.ensures, c.os-os.ensures))
    (omega (arith, c.if-last-offset.false, c.min-last.ensures))

pub returns : goal.returns
returns c =
    let s = c.args.layout.now in
    behind_there s (placing s c.is_sound.ensures) c.args.index c.args.size c.args.from c.front_below.result c.front_below-2.result c.max-offset.result c.position_of.result c.front_below.ensures c.front_below-2.ensures
    (omega (arith, c.max-offset.ensures, c.min-held.ensures, c.os-os.ensures))
    (omega (arith, c.if-last-offset.false, c.min-last.ensures, c.os-os.ensures))
    c.position_of.ensures.is
