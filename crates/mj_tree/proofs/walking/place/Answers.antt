use Rattle.std.proofs.Common.{sym, ◌∙◌, Ok, rules}
use Rattle.mj_tree.proofs.Paths.{place_ok, place_not_dir, place_stops}
use Rattle.mj_tree.proofs.walking.place.Goals as goal

pub returns-in_err-dir-clause-place : goal.returns-in_err-dir-clause-place
returns-in_err-dir-clause-place g c =
    let w = place_stops (g.V.TreeView.tree c.args.view.now) c.args.path.now c.in-Some.dirs.now c.in-Some.name.now c.args.root c.in_err-dir.field-0.0
    (sym c.names.ensures ∙ c.in-Some.ensures.cases.0) c.in_err-dir.ensures in
    search (rules, w)

pub returns-then-not-is_dir-clause-place : goal.returns-then-not-is_dir-clause-place
returns-then-not-is_dir-clause-place g c =
    place_not_dir (g.V.TreeView.tree c.args.view.now) c.args.path.now c.in-Some.dirs.now c.in-Some.name.now c.args.root c.in_ok-dir.dir
    (sym c.names.ensures ∙ c.in-Some.ensures.cases.0) c.in_ok-dir.ensures (sym c.is_dir.ensures ∙ c.if-not-is_dir.true)

pub returns-clause-place : goal.returns-clause-place
returns-clause-place g c =
    place_ok (g.V.TreeView.tree c.args.view.now) c.args.path.now c.in-Some.dirs.now c.in-Some.name.now c.args.root c.in_ok-dir.dir
    (sym c.names.ensures ∙ c.in-Some.ensures.cases.0) c.in_ok-dir.ensures (sym c.is_dir.ensures ∙ c.if-not-is_dir.false)
    ∙ (λ z. Ok (c.in_ok-dir.dir, sym c.in_ok-copy.ensures.same z))
