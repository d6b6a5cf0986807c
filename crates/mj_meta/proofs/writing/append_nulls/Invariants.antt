use Rattle.std.proofs.Common.{◌≡◌, ◌++◌, take}
use Rattle.std.specs.List.{flat_map}
use Rattle.mj_meta.specs.Blob.{null_bytes}
use Rattle.mj_meta.proofs.writing.append_nulls.Given as goal

abbrev pub invariant-loop-bit : goal.invariant-loop-bit
invariant-loop-bit l = l.out.items ≡ l.initial.out.items ++ flat_map null_bytes (take l.bit-index l.bits)
