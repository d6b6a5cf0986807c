use Rattle.std.proofs.Common.{◌++◌, List, ℕ, drop, ap, ◌∙◌, arith}
use Rattle.mj_memstore.proofs.WriteLemmas.{written_is, tail_is}
use Rattle.mj_memstore.proofs.bytes.write.Goals as goal

pub returns : goal.returns
returns c =
    let new = c.args.new.now in
    let kept = c.min-kept.result in
    let f = c.fill_up.new.bytes.items in
    rw c.unwrap.ensures at c.extend_from_slice.ensures.items
    ∙ ap (λ (l : List ℕ). c.overwrite.new.bytes.items ++ l) (tail_is kept new)
    ∙ ap (λ (l : List ℕ). l ++ drop kept new) c.overwrite.ensures.items
    ∙ written_is c.args.at kept new c.args.bytes.now.items f c.fill_up.ensures.items (omega arith)
