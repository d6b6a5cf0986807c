use Rattle.std.proofs.Common.{◌≡◌, take}
use Rattle.mj_tree.proofs.copying.copy_links.Given as goal

abbrev pub invariant-loop-link : goal.invariant-loop-link
invariant-loop-link l = l.all.items ≡ take l.link-index l.link-items
