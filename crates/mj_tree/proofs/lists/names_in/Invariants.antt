use Rattle.std.proofs.Common.{◌≡◌, ◌==◌, take, map, filter}
use Rattle.mj_tree.specs.declared.plain.PlainLink.{PlainLink}
use Rattle.mj_tree.proofs.lists.names_in.Given as goal

abbrev pub invariant-loop-link : goal.invariant-loop-link
invariant-loop-link l = l.names.items ≡ map (λ (x : PlainLink). x.name) (filter (λ (x : PlainLink). x.parent == l.dir) (take l.link-index l.link-items))
