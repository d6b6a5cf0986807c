use Rattle.std.proofs.Common.{◌+◌, ap, ◌∙◌, arith, set, get_or, length-set}
use Rattle.std.proofs.lemmas.List.{get_or_default}
use Rattle.mj_memstore.proofs.WriteLemmas.{overwrite_more}
use Rattle.mj_memstore.proofs.bytes.overwrite.Goals as goal

pub loop-i-preserved : goal.loop-i-preserved
loop-i-preserved c =
    let inv = c.loop-i.invariant in
    let x = get_or c.args.new.now c.loop-i.i 0 in
    record {
      items = ap (λ b. set b (c.args.at + c.loop-i.i) x) inv.items ∙ overwrite_more c.args.bytes.now.items c.args.new.now c.args.at c.loop-i.i x (omega arith) c.requires (get_or_default c.args.new.now c.loop-i.i 0 x (omega arith));
      same = length-set c.loop-i.bytes.items (c.args.at + c.loop-i.i) x ∙ inv.same;
      capacity = inv.capacity;
    }
