use Rattle.std.proofs.Common.{◌≡◌, ◌++◌, take}
use Rattle.std.specs.List.{flat_map}
use Rattle.mj_meta.specs.Blob.{lump_bytes}
use Rattle.mj_meta.proofs.writing.append_lumps.Given as goal

abbrev pub invariant-loop-lump : goal.invariant-loop-lump
invariant-loop-lump l = l.out.items ≡ l.initial.out.items ++ flat_map lump_bytes (take l.lump-index l.lumps)
