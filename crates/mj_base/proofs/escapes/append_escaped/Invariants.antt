use Rattle.std.proofs.Common.{◌≡◌, ◌++◌, take}
use Rattle.mj_base.specs.Name.{escaped}
use Rattle.mj_base.proofs.escapes.append_escaped.Given as goal

abbrev pub invariant-loop-byte : goal.invariant-loop-byte
invariant-loop-byte l = l.out.items ≡ l.fn.out.items ++ escaped (take l.byte-index l.bytes)
