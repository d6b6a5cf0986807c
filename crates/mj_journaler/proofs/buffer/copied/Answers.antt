use Rattle.std.proofs.Common.{◌≡◌, ℕ, ◌+◌, ◌-◌, ◌<◌, ◌≤◌, List, ◌∷◌, ◌++◌, length, take, drop, ap, subst, ◌∙◌, arith}
use Rattle.std.specs.Global.{Vec}
use Rattle.std.proofs.lemmas.List.{take_all, length-drop}
use Rattle.mj_journaler.specs.Buffered.{joined, first_block}
use Rattle.mj_journaler.proofs.Blocks.{opened, copied_on}
use Rattle.mj_journaler.proofs.buffer.copied.Goals as goal

-- what is behind the taken bytes of a block
part_is : (xs ys : List ℕ) (start : ℕ) → xs ≡ ys → take (length xs - start) (drop start xs) ≡ drop start ys
part_is xs ys start e = take_all (length xs - start) (drop start xs) (omega (arith, length-drop start xs)) ∙ ap (drop start) e

pub blocks-2-preserved : goal.blocks-2-preserved
blocks-2-preserved c =
    let full : List (Vec ℕ) = c.args.full.now.items in
    let i = c.blocks-2.i in
    let last : List ℕ = c.args.last.now in
    let block : Vec ℕ = c.in-Some.block.now in
    let below : i < length full = c.in-Some.ensures.item.3.0 in
    let front : drop i full ≡ block ∷ drop (i + 1) full = opened full i block below c.in-Some.ensures.lookup in
    let step = copied_on block (drop (i + 1) full) last c.blocks-2.bytes.items c.extend_from_slice-in-Some.new.self.items (take (length c.deref.result.now - c.blocks-2.start) (drop c.blocks-2.start c.deref.result.now)) (take c.args.n (drop c.args.taken (joined full ++ last))) c.blocks-2.start c.blocks-2.left
    (subst (λ (m : List (Vec ℕ)). c.blocks-2.start ≤ length (first_block m last)) front c.blocks-2.invariant.inside)
    (subst (λ (m : List (Vec ℕ)). c.blocks-2.start + c.blocks-2.left ≤ length (joined m ++ last)) front c.blocks-2.invariant.enough)
    (part_is c.deref.result.now block.items c.blocks-2.start c.deref.ensures.value)
    c.if-left-here.false
    c.in_ok-extend_from_slice-2.ensures.items
    (subst (λ (m : List (Vec ℕ)). c.blocks-2.bytes.items ++ take c.blocks-2.left (drop c.blocks-2.start (joined m ++ last)) ≡ take c.args.n (drop c.args.taken (joined full ++ last))) front c.blocks-2.invariant.front) in
    record { there = omega (arith, c.in-Some.ensures.variant.0); inside = omega arith; enough = step.0; front = step.1 }
