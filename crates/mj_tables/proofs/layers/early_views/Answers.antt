use Rattle.std.proofs.Common.{false, true, ◌++◌, List, map, sym, ap, subst, ◌∙◌}
use Rattle.std.specs.List.Sorted.{IsPermutation}
use Rattle.std.proofs.lemmas.List.Sorted.{IsPermutation-trans}
use Rattle.mj_maps.specs.Map.{entries, picked}
use Rattle.mj_cells.specs.declared.table.CellView.{CellView}
use Rattle.mj_cells.specs.Next.{cell_of}
use Rattle.mj_tables.specs.Slots.{slots_of, early_slots, early_entry}
use Rattle.mj_tables.proofs.EarlyViews.{early_gathered, both_kinds, of_kind}
use Rattle.mj_tables.proofs.layers.early_views.Goals as goal

pub returns : goal.returns
returns c =
    let all = entries (early_slots (slots_of c.args.slots.now)) in
    let shown = picked early_entry c.args.slots.now.entries in
    subst (IsPermutation all)
    (sym (c.in_ok-push_views-2.ensures ∙ ap (λ es. es ++ of_kind false shown) (c.in_ok-push_views.ensures ∙ ap (λ (xs : List CellView). map cell_of xs ++ of_kind true shown) c.in_ok-found.ensures.items)))
    (IsPermutation-trans all shown (of_kind true shown ++ of_kind false shown) (early_gathered c.args.slots.now.entries c.len.ensures.unique) (both_kinds shown))
