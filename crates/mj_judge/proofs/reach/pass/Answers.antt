use Rattle.std.proofs.Common.{ℕ, ◌++◌, ◌+◌, List, drop, sym, ap, ◌∙◌, append_assoc}
use Rattle.mj_judge.specs.Reached.{Edge, unled, pass_dirs, pass_left}
use Rattle.mj_judge.proofs.Passes.{pass_more}
use Rattle.mj_judge.proofs.reach.pass.Goals as goal

pub loop-edge-preserved : goal.loop-edge-preserved
loop-edge-preserved c =
    let more = pass_more c.args.edges.now c.loop-edge.dirs.keys c.loop-edge.edge-index c.edge-item.result c.loop-edge-test.true c.edge-item.is in (
      ap (λ (ds : List ℕ). pass_dirs ds (drop (c.loop-edge.edge-index + 1) c.args.edges.now)) c.in_ok-follow.ensures.dirs ∙ sym more.0 ∙ c.loop-edge.invariant.0,
      (λ i. c.in_ok-follow.ensures.left i ++ pass_left (c.in_ok-follow.ensures.dirs i) (drop (c.loop-edge.edge-index + 1) c.args.edges.now))
          ∙ append_assoc c.loop-edge.left.items (unled c.loop-edge.dirs.keys c.edge-item.result) _ ∙ ap (λ (es : List Edge). c.loop-edge.left.items ++ es) (sym more.1) ∙ c.loop-edge.invariant.1,
    )
