use Rattle.std.proofs.Common.{rules, ◌∙◌}
use Rattle.std.proofs.lemmas.Fn.{always_returns_same}
use Rattle.mj_base.specs.InOrder.{bytes_cmp}
use Rattle.mj_meta.specs.declared.FullBit.{FullBit}
use Rattle.mj_meta.proofs.Names.{found_is}
use Rattle.mj_meta.proofs.naming.full_has.Goals as goal

pub returns : goal.returns
returns c =
    c.is_ok.ensures.value ∙ found_is (λ (b : FullBit). b.name) c.args.name.now c.args.bits.now c.binary_search_by.result c.requires c.binary_search_by.ensures.bound
    (c.binary_search_by.ensures.position (λ b. bytes_cmp b.name c.args.name.now) (always_returns_same _ _ _ (λ a r f k. (search rules, search rules))))
