use Rattle.std.proofs.Common.{◌≡◌, ◌++◌, take}
use Rattle.std.specs.List.{flat_map}
use Rattle.mj_meta.specs.Blob.{full_bytes}
use Rattle.mj_meta.proofs.writing.append_fulls.Given as goal

abbrev pub invariant-loop-bit : goal.invariant-loop-bit
invariant-loop-bit l = l.out.items ≡ l.initial.out.items ++ flat_map full_bytes (take l.bit-index l.bits)
