use Rattle.std.proofs.Common.{◌≡◌, take}
use Rattle.mj_store.proofs.copies.copy_pairs.Given as goal

abbrev pub invariant-loop-pair : goal.invariant-loop-pair
invariant-loop-pair l = l.items.items ≡ take l.pair-index l.pairs
