use Rattle.std.proofs.Common.{◌≡◌, take}
use Rattle.mj_meta.proofs.copying.copy_remotes.Given as goal

abbrev pub invariant-loop-bit : goal.invariant-loop-bit
invariant-loop-bit l = l.all.items ≡ take l.bit-index l.bit-items
