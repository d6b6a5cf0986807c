use Rattle.std.proofs.Common.{arith, ℕ, List, length, ◌≡◌, sym, ap, subst, ◌∙◌}
use Rattle.std.specs.BTreeSet.{insert_key}
use Rattle.mj_maps.specs.Orders.{nat_cmp}
use Rattle.mj_judge.specs.Reached.{Edge, pass_dirs, pass_left, AreReached}
use Rattle.mj_judge.proofs.Passes.{SoFar, starts, passes_on, ends, pass_fewer}
use Rattle.mj_judge.proofs.reach.reach.Goals as goal

pub passes-init : goal.passes-init
passes-init c = starts c.args.edges.items c.insert.new.self.keys (c.in_ok-insert.ensures.keys ∙ ap (λ (ks : List ℕ). insert_key nat_cmp ks 1) c.new-dirs.ensures.empty)

pub passes-smaller : goal.passes-smaller
passes-smaller c =
    let left = c.in_ok-rest.ensures.left ∙ ap (pass_left c.passes.dirs.keys) c.deref.ensures.value in
    let fewer = pass_fewer c.passes.dirs.keys c.passes.left.items in
    let is = ap (λ (es : List Edge). length es) left in
    let rest = c.len.ensures in
    let was = c.len-in-passes.ensures in
    let other = c.if-len.false in
    grind (arith, fewer, is, rest, was, other)

pub passes-preserved : goal.passes-preserved
passes-preserved c =
    let edges : List Edge = c.args.edges.items in
    subst (λ (p : List ℕ × List Edge). SoFar edges p.0 p.1)
    (λ i. (sym (c.in_ok-rest.ensures.dirs ∙ ap (pass_dirs c.passes.dirs.keys) c.deref.ensures.value) i, sym (c.in_ok-rest.ensures.left ∙ ap (pass_left c.passes.dirs.keys) c.deref.ensures.value) i))
    (passes_on edges c.passes.dirs.keys c.passes.left.items c.passes.invariant)

pub returns : goal.returns
returns c =
    let left = c.in_ok-rest.ensures.left ∙ ap (pass_left c.passes.dirs.keys) c.deref.ensures.value in
    let is = ap (λ (es : List Edge). length es) left in
    let rest = c.len.ensures in
    let was = c.len-in-passes.ensures in
    let alike = c.if-len.true in
    let same : length (pass_left c.passes.dirs.keys c.passes.left.items) ≡ length c.passes.left.items = grind (arith, is, rest, was, alike) in
    subst (λ (ds : List ℕ). AreReached c.args.edges.items ds) (sym (c.in_ok-rest.ensures.dirs ∙ ap (pass_dirs c.passes.dirs.keys) c.deref.ensures.value))
    (ends c.args.edges.items c.passes.dirs.keys c.passes.left.items c.passes.invariant same)
