use Rattle.std.proofs.Common.{◌≡◌, ◌++◌, take}
use Rattle.std.specs.List.{flat_map}
use Rattle.mj_tree.specs.declared.plain.PlainOpen.{PlainOpen}
use Rattle.mj_tree.specs.Listing.{open_line}
use Rattle.mj_tree.proofs.listing.put_opens.Given as goal

abbrev pub invariant-loop-open : goal.invariant-loop-open
invariant-loop-open l = l.out.items ≡ l.initial.out.items ++ flat_map (λ (x : PlainOpen). open_line ((x.client, x.ino), tt)) (take l.open-index l.open-items)
