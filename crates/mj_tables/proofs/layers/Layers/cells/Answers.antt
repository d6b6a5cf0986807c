use Rattle.std.proofs.Common.{rules, map, ap, ◌∙◌}
use Rattle.std.proofs.lemmas.List.Sorted.{IsPermutation-map, IsPermutation-trans, ranks_by, answers_always}
use Rattle.mj_maps.specs.Map.{entries}
use Rattle.mj_cells.specs.Next.{cell_of}
use Rattle.mj_cells.proofs.Keys.{exact_key}
use Rattle.mj_tables.specs.Layered.{early_cells}
use Rattle.mj_tables.specs.Slots.{slots_of, early_slots}
use Rattle.mj_tables.proofs.EarlyViews.{key_of, key_below, sorted_views}
use Rattle.mj_tables.proofs.Laid.{early_is}
use Rattle.mj_tables.proofs.layers.Layers.cells.Goals as goal

pub returns : goal.returns
returns c =
    let m = early_slots (slots_of c.self.inside.slots) in
    sorted_views m c.sort_by.new.self.items
    (IsPermutation-trans (entries m) (map cell_of c.in_ok-found.found.items) (map cell_of c.sort_by.new.self.items) c.in_ok-found.ensures
    (IsPermutation-map cell_of c.in_ok-found.found.items c.sort_by.new.self.items c.sort_by.ensures.permutation))
    (c.in_ok-sort_by.ensures.sorted key_below (ranks_by exact_key.total key_of) (answers_always _ _ _ (λ f a r g h. search rules)))
    ∙ ap entries (early_is (slots_of c.self.inside.slots) c.self.inside.groups.items c.self.invariant.laid)
    ∙ ap (λ l. entries (early_cells l)) c.self.view_is
