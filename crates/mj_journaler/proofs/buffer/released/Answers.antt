use Rattle.std.proofs.Common.{◌≡◌, ℕ, ◌+◌, ◌-◌, ◌<◌, ◌≤◌, List, ◌∷◌, ◌++◌, length, drop, ap, sym, subst, ◌∙◌, arith}
use Rattle.std.specs.Global.{Vec}
use Rattle.mj_journaler.specs.Buffered.{joined, first_block}
use Rattle.mj_journaler.proofs.Blocks.{opened, released_on}
use Rattle.mj_journaler.proofs.buffer.released.Goals as goal

pub blocks-2-preserved-else-left-here : goal.blocks-2-preserved-else-left-here
blocks-2-preserved-else-left-here c =
    let full : List (Vec ℕ) = c.blocks-2.full.items in
    let last : List ℕ = c.args.last.now in
    let block : Vec ℕ = c.in-Some.block.now in
    let more : List (Vec ℕ) = c.pop_front.new.self.items in
    let below : 0 < length full = c.in-Some.ensures.item.3.0 in
    let front : full ≡ block ∷ more = opened full 0 block below c.in-Some.ensures.lookup ∙ ap (λ (m : List (Vec ℕ)). block ∷ m) (sym c.pop_front.ensures.rest) in
    let step = released_on block more last c.blocks-2.start c.blocks-2.left (c.len.result - c.blocks-2.start)
    (subst (λ (m : List (Vec ℕ)). c.blocks-2.start ≤ length (first_block m last)) front c.blocks-2.invariant.inside)
    (subst (λ (m : List (Vec ℕ)). c.blocks-2.start + c.blocks-2.left ≤ length (joined m ++ last)) front c.blocks-2.invariant.enough)
    (ap (λ n. n - c.blocks-2.start) (c.len.ensures ∙ block.ok.0))
    c.if-left-here.false in
    record {
      inside = omega arith;
      enough = step.0;
      behind = step.1 ∙ subst (λ (m : List (Vec ℕ)). drop (c.blocks-2.start + c.blocks-2.left) (joined m ++ last) ≡ drop (c.args.taken + c.args.n) (joined c.args.full.now.items ++ last)) front c.blocks-2.invariant.behind;
    }
