use Rattle.std.proofs.Common.{◌≡◌, ◌-◌, ◌^◌, min, length, take}
use Rattle.std.specs.List.{flat_map}
use Rattle.mj_image.specs.Image.{pair_bytes}
use Rattle.mj_image.proofs.size.pairs_len.Given as goal

abbrev pub invariant-loop-pair : goal.invariant-loop-pair
invariant-loop-pair l = l.len ≡ min (length (flat_map pair_bytes (take l.pair-index l.pairs))) (2 ^ 64 - 1)
