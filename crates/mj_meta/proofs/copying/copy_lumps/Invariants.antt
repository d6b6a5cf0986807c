use Rattle.std.proofs.Common.{◌≡◌, take}
use Rattle.mj_meta.proofs.copying.copy_lumps.Given as goal

abbrev pub invariant-loop-lump : goal.invariant-loop-lump
invariant-loop-lump l = l.all.items ≡ take l.lump-index l.lump-items
