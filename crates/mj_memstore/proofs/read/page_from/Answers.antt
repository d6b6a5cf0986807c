use Rattle.std.proofs.Common.{length, take, drop, ◌-◌, sym, ap, subst, ◌∙◌}
use Rattle.std.specs.Prelude.{option_copied, filter, IfSome, T}
use Rattle.std.specs.FinMap.Entries.{is_sorted}
use Rattle.mj_maps.specs.Orders.{bytes_cmp}
use Rattle.mj_store.specs.declared.act.Pair.{Pair}
use Rattle.mj_store.specs.Pages.{page_of, is_above}
use Rattle.mj_memstore.specs.Content.{held_content, map_of, IsShort}
use Rattle.mj_memstore.specs.Pairs.{entries_of}
use Rattle.mj_memstore.proofs.PageLemmas.{page_is, page_shape_of, tail_pairs}
use Rattle.mj_memstore.proofs.read.page_from.Goals as goal

pub returns-clause-page : goal.returns-clause-page
returns-clause-page c =
    let h = c.in-Some.object.now in
    let xs = c.as_slice-pairs.result.now in
    let start = c.place_above.result in
    let sorted = subst (λ o. IfSome o (λ h. T (is_sorted bytes_cmp (entries_of h.now.pairs)))) c.in-Some.is c.requires.sorted in
    let above = take (length xs - start) (drop start xs) in
    page_is h (option_copied c.args.after) c.args.most c.min-count.result above c.in_ok-copy_pairs.field-0 c.in_ok-copy_head.field-0 sorted
    (ap (filter (λ (p : Pair). is_above (option_copied c.args.after) p.key)) (sym c.as_slice-pairs.ensures) ∙ c.place_above.ensures.above ∙ sym (tail_pairs start xs))
    c.min-count.ensures c.in_ok-copy_pairs.ensures c.in_ok-copy_head.ensures
    ∙ ap (λ o. page_of (option_copied c.args.after) c.args.most (held_content (option_copied o))) (sym c.in-Some.is)

pub returns-clause-shape : goal.returns-clause-shape
returns-clause-shape c =
    let h = c.in-Some.object.now in
    let xs = c.as_slice-pairs.result.now in
    let start = c.place_above.result in
    let sorted = subst (λ o. IfSome o (λ h. T (is_sorted bytes_cmp (entries_of h.now.pairs)))) c.in-Some.is c.requires.sorted in
    let short = subst (λ o. IfSome o (λ h. IsShort (map_of h.now.pairs))) c.in-Some.is c.requires.short in
    page_shape_of h (option_copied c.args.after) c.args.most c.min-count.result start (take (length xs - start) (drop start xs)) c.in_ok-copy_pairs.field-0 c.in_ok-copy_head.field-0
    (tail_pairs start xs ∙ ap (drop start) c.as_slice-pairs.ensures) sorted short
    (ap (filter (λ (p : Pair). is_above (option_copied c.args.after) p.key)) (sym c.as_slice-pairs.ensures) ∙ c.place_above.ensures.above ∙ ap (drop start) c.as_slice-pairs.ensures)
    c.min-count.ensures c.in_ok-copy_pairs.ensures
