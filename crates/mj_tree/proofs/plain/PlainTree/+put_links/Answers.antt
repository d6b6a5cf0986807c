use Rattle.std.proofs.Common.{◌≡◌, ℕ, List, suc, ◌-◌, ◌++◌, ◌==◌, filter, ap, ◌∙◌, arith}
use Rattle.std.specs.List.{flat_map}
use Rattle.mj_tree.specs.declared.plain.PlainLink.{PlainLink}
use Rattle.mj_tree.specs.Listing.{links_below}
use Rattle.mj_tree.specs.Meaning.{state_of}
use Rattle.mj_tree.proofs.Texts.{below_link, below_is, take_all}
use Rattle.mj_tree.proofs.plain.PlainTree.+put_links.Goals as goal

pub returns-clause-text : goal.returns-clause-text
returns-clause-text t c =
    let tree = c.args.self.now in
    let path = c.args.path.now.items in
    let all = c.as_slice-link-items.result.now in
    let lines : List PlainLink → List ℕ = λ ls. c.args.out.now.items ++ flat_map (below_link tree (c.args.depth - 1) path) (filter (λ (x : PlainLink). x.parent == c.args.dir) ls) in
    let deeper : suc (c.args.depth - 1) ≡ c.args.depth = omega arith in
    c.loop-link.invariant.text
    ∙ ap lines (take_all all c.loop-link.link-index (omega arith) ∙ c.as_slice-link-items.ensures)
    ∙ ap (λ text. c.args.out.now.items ++ text) (below_is tree (c.args.depth - 1) path c.args.dir)
    ∙ ap (λ n. c.args.out.now.items ++ links_below n (state_of tree) path c.args.dir) deeper
