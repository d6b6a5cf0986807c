use Rattle.std.proofs.Common.{List, map, sym, ap, ◌∙◌}
use Rattle.std.specs.Prelude.{filter_map, unwrap_or}
use Rattle.mj_maps.specs.Map.{picked}
use Rattle.mj_maps.proofs.MapLaws.{exact_nat, exact_place, exact_pair}
use Rattle.mj_tree.specs.Lists.{record_entries, link_entries, open_entries, session_entries}
use Rattle.mj_tables.specs.Layered.{early_cells}
use Rattle.mj_cells.specs.Table.{table_of}
use Rattle.mj_cache.specs.PlainParts.{with_unit}
use Rattle.mj_recovery.specs.Tree.{tree_of, bare_tree, session_in}
use Rattle.mj_judge.specs.Parts.{Cell, session_entry, done_entry, open_place}
use Rattle.mj_judge.proofs.PartMaps.{next_is}
use Rattle.mj_cache.specs.PlainLists.{link_of}
use Rattle.mj_cache.proofs.PlainMaps.{rises, map_is, replies_rise, places_are, sessions_of_cells, links_of_cells}
use Rattle.mj_cache.proofs.plain.tree_in.Goals as goal

pub plain_sessions-requires : goal.plain_sessions-requires
plain_sessions-requires c = replies_rise (early_cells c.args.layers.now) _ (c.deref-3.ensures.value ∙ c.in_ok-replies.ensures ∙ ap (λ (cs : List Cell). filter_map done_entry cs) c.requires)

pub invariant_of-result : goal.invariant_of-result
unfolding tree_of
invariant_of-result c =
    let m = early_cells c.args.layers.now in
    let dirs = c.in_ok-dirs.dirs.keys in
    let are_dirs = c.in_ok-dirs.ensures m c.requires in
    let records = ap record_entries c.from_vec.ensures ∙ c.in_ok-records.ensures m c.requires are_dirs in
    let links = ap link_entries c.from_vec-2.ensures ∙ c.in_ok-links.ensures ∙ ap (λ (cs : List Cell). filter_map (link_of dirs) cs) c.requires ∙ links_of_cells c.args.rank m dirs are_dirs in
    let opens = ap open_entries c.from_vec-3.ensures ∙ c.in_ok-opens.ensures ∙ ap (map with_unit) (c.deref.ensures.value ∙ c.in_ok-places.ensures ∙ ap (λ (cs : List Cell). filter_map open_place cs) c.requires) ∙ places_are m in
    let sessions = ap session_entries c.from_vec-4.ensures ∙ c.in_ok-sessions.ensures ∙ (λ i. picked (session_in ((c.deref-3.ensures.value ∙ c.in_ok-replies.ensures ∙ ap (λ (cs : List Cell). filter_map done_entry cs) c.requires) i)) ((c.deref-2.ensures.value ∙ c.in_ok-oldest.ensures ∙ ap (λ (cs : List Cell). filter_map session_entry cs) c.requires) i)) ∙ sessions_of_cells m in
    record {
      records_rise = rises (tree_of c.args.rank (table_of m)).records _ records;
      links_rise = rises (bare_tree (table_of m)).links _ links;
      opens_rise = rises (table_of m).opens _ opens;
      sessions_rise = rises (bare_tree (table_of m)).sessions _ sessions;
    }

pub returns : goal.returns
unfolding tree_of
returns c =
    let m = early_cells c.args.layers.now in
    let dirs = c.in_ok-dirs.dirs.keys in
    let are_dirs = c.in_ok-dirs.ensures m c.requires in
    let records = ap record_entries c.from_vec.ensures ∙ c.in_ok-records.ensures m c.requires are_dirs in
    let links = ap link_entries c.from_vec-2.ensures ∙ c.in_ok-links.ensures ∙ ap (λ (cs : List Cell). filter_map (link_of dirs) cs) c.requires ∙ links_of_cells c.args.rank m dirs are_dirs in
    let opens = ap open_entries c.from_vec-3.ensures ∙ c.in_ok-opens.ensures ∙ ap (map with_unit) (c.deref.ensures.value ∙ c.in_ok-places.ensures ∙ ap (λ (cs : List Cell). filter_map open_place cs) c.requires) ∙ places_are m in
    let sessions = ap session_entries c.from_vec-4.ensures ∙ c.in_ok-sessions.ensures ∙ (λ i. picked (session_in ((c.deref-3.ensures.value ∙ c.in_ok-replies.ensures ∙ ap (λ (cs : List Cell). filter_map done_entry cs) c.requires) i)) ((c.deref-2.ensures.value ∙ c.in_ok-oldest.ensures ∙ ap (λ (cs : List Cell). filter_map session_entry cs) c.requires) i)) ∙ sessions_of_cells m in
    let all_records = map_is (tree_of c.args.rank (table_of m)).records _ records exact_nat in
    let all_links = map_is (bare_tree (table_of m)).links _ links exact_place in
    let all_opens = map_is (table_of m).opens _ opens exact_pair in
    let all_sessions = map_is (bare_tree (table_of m)).sessions _ sessions exact_nat in
    let next = c.unwrap_or.ensures ∙ ap (λ o. unwrap_or o 0) (c.next_ino.ensures ∙ sym (next_is m)) in
    λ i. record { next = next i; records = all_records i; links = all_links i; opens = all_opens i; sessions = all_sessions i }
