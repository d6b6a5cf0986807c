use Rattle.std.proofs.Common.{ℕ, List, nat_cmp, ap, ◌∙◌}
use Rattle.std.specs.Cmp.Lexicographic.{slice_cmp}
use Rattle.mj_base.specs.ObjectName.{object_text}
use Rattle.mj_base.proofs.ObjectLemmas.{object_order-text}
use Rattle.mj_base.proofs.object.ObjectNameOrd.cmp.Goals as goal

pub returns : goal.returns
returns c =
    let a = c.args.self.now in
    let b = c.args.other.now in
    c.cmp.ensures ∙ ap (λ (x : List ℕ). slice_cmp nat_cmp x c.as_slice-2.result.now) (c.as_slice.ensures ∙ c.short_text.ensures.text)
    ∙ ap (slice_cmp nat_cmp (object_text a)) (c.as_slice-2.ensures ∙ c.short_text-2.ensures.text) ∙ object_order-text a b c.short_text.ensures.in_range c.short_text-2.ensures.in_range
