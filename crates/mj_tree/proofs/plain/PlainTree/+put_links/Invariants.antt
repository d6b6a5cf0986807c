use Rattle.std.proofs.Common.{◌≡◌, ◌++◌, ◌-◌, ◌==◌, length, take, filter}
use Rattle.std.specs.List.{flat_map}
use Rattle.mj_tree.specs.declared.plain.PlainLink.{PlainLink}
use Rattle.mj_tree.proofs.Texts.{below_link}
use Rattle.mj_tree.proofs.plain.PlainTree.+put_links.Given as goal

abbrev pub decreases-put_links : goal.decreases-put_links
decreases-put_links l = l.depth

abbrev pub invariant-loop-link : goal.invariant-loop-link
invariant-loop-link l = record {
  path : l.path.items ≡ l.fn.path.items;
  above : l.above ≡ length l.fn.path.items;
  text : l.out.items ≡ l.fn.out.items ++ flat_map (below_link l.self (l.depth - 1) l.fn.path.items) (filter (λ (x : PlainLink). x.parent == l.dir) (take l.link-index l.link-items));
}
