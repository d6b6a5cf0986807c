-- The lists that are taken from cells are the entries of the tree's maps.
use Rattle.std.proofs.Common.{Ordering, ◌≡◌, ℕ, cond, List, [], ◌∷◌, map, Option, Some, None, T, refl, sym, ap, subst, ◌∙◌}
use Rattle.std.specs.Prelude.{IsTrue, filter_map}
use Rattle.std.specs.Option.{option_map}
use Rattle.std.specs.List.{cons_option}
use Rattle.std.specs.List.Sorted.{IsStrictlySortedBy}
use Rattle.std.specs.FinMap.Entries.{is_sorted}
use Rattle.mj_base.specs.declared.record.InodeRecord.{InodeRecord}
use Rattle.mj_maps.specs.Map.{Map, entries, entries_sorted, from_entries, collect, picked, with_some}
use Rattle.mj_maps.specs.Orders.{nat_cmp, pair_cmp}
use Rattle.mj_maps.proofs.MapLaws.{Exact, exact_nat, from_entries-entries, entries-from_entries}
use Rattle.mj_cells.specs.declared.cell.CellValue.{CellValue}
use Rattle.mj_cells.specs.Cell.{key_cmp}
use Rattle.mj_cells.specs.Table.{Dentry, Table, table_of}
use Rattle.mj_cache.specs.PlainParts.{with_unit}
use Rattle.mj_recovery.specs.Tree.{ino_of, link_in, reachable, holding, by_inode, primaries, session_in, record_in, bare_tree, tree_of}
use Rattle.mj_recovery.proofs.Bools.{true_from}
use Rattle.mj_recovery.proofs.Merges.{sorted_keys}
use Rattle.mj_judge.specs.Parts.{dentry_entry, session_entry, done_entry, open_entry, open_place}
use Rattle.mj_judge.specs.Reached.{AreDirs}
use Rattle.mj_judge.specs.Rows.{full_in}
use Rattle.mj_judge.specs.Judged.{held, link_times, open_times}
use Rattle.mj_judge.proofs.PartMaps.{dentries_are, sessions_are, done_are, opens_are}
use Rattle.mj_judge.proofs.Alike.{filter_map_twice, filter_map_map}
use Rattle.mj_judge.proofs.FoundRows.{records_are as fulls_are, link_at as link_times_are, open_at as open_times_are}
use Rattle.mj_cache.specs.PlainLists.{link_at, link_of, record_kept}

-- ---- a list that is the entries of a map

module _ {K X : Type 0} {R : K → K → Ordering} (m : Map R X) (es : List (K × X)) (is : es ≡ entries m) where
  pub rises : IsTrue (is_sorted R es)
  rises = true_from _ (subst (λ xs. T (is_sorted R xs)) (sym is) (entries_sorted m))

  pub map_is : Exact R → from_entries es ≡ m
  map_is o = ap from_entries is ∙ from_entries-entries o m

-- ---- what is picked from entries

as_picked : {K X Y : Type 0} (f : K → X → Option Y) (es : List (K × X)) → filter_map (λ e. option_map (λ y. (e.0, y)) (f e.0 e.1)) es ≡ picked f es
as_picked f [] = refl
as_picked f (e ∷ es) = elim (f e.0 e.1) as (λ o. cons_option (option_map (λ y. (e.0, y)) o) (filter_map (λ x. option_map (λ y. (x.0, y)) (f x.0 x.1)) es) ≡ with_some e.0 o (picked f es)) [
  | None ↦ as_picked f es
  | Some y ↦ ap (λ fs. (e.0, y) ∷ fs) (as_picked f es)
]

entries-collect : {K X Y : Type 0} {R : K → K → Ordering} (f : K → X → Option Y) (m : Map R X) → entries (collect f m) ≡ picked f (entries m)
unfolding entries collect
entries-collect f m = refl

with_units : (xs : List ((ℕ × ℕ) × Unit {0})) → map with_unit (map (λ o. o.0) xs) ≡ xs
with_units [] = refl
with_units (x ∷ xs) = ap (λ ys. x ∷ ys) (with_units xs)

-- ---- the maps of a tree

pub places_are : (m : Map key_cmp CellValue) → map with_unit (filter_map open_place (entries m)) ≡ entries (table_of m).opens
places_are m = ap (map with_unit) (filter_map_map open_entry (λ (o : (ℕ × ℕ) × Unit {0}). o.0) (entries m))
    ∙ ap (λ (xs : List ((ℕ × ℕ) × Unit {0})). map with_unit (map (λ o. o.0) xs)) (sym (opens_are m)) ∙ with_units (entries (table_of m).opens)

pub replies_rise : (m : Map key_cmp CellValue) (es : List ((ℕ × ℕ) × ℕ)) → es ≡ filter_map done_entry (entries m) → IsTrue (is_sorted pair_cmp es)
replies_rise m es is = rises (table_of m).done es (is ∙ sym (done_are m))

pub sessions_of_cells : (m : Map key_cmp CellValue) → picked (session_in (filter_map done_entry (entries m))) (filter_map session_entry (entries m)) ≡ entries (bare_tree (table_of m)).sessions
sessions_of_cells m = (λ j. picked (session_in (sym (done_are m) j)) (sym (sessions_are m) j)) ∙ sym (entries-collect (session_in (entries (table_of m).done)) (table_of m).sessions)

module _ (rank : ℕ) (m : Map key_cmp CellValue) (dirs : List ℕ) (is : AreDirs (table_of m) dirs) where
  abbrev t : Table
  t = table_of m

  pub links_of_cells : filter_map (link_of dirs) (entries m) ≡ entries (bare_tree (table_of m)).links
  links_of_cells = filter_map_twice dentry_entry (link_at dirs) (entries m) ∙ ap (filter_map (link_at dirs)) (sym (dentries_are m)) ∙ as_picked (link_in dirs) (entries t.dentries)
      ∙ (λ j. picked (λ (q : ℕ × List ℕ) (x : Dentry). cond (is q.0 j) (Some (ino_of x)) None) (entries t.dentries))
      ∙ sym (entries-collect (link_in (reachable t)) t.dentries)

  -- where the links and opens of each inode are counted
  module _ (links opens : ℕ → ℕ) (links_are : (i : ℕ) → links i ≡ link_times (entries m) dirs i) (opens_are : (i : ℕ) → opens i ≡ open_times (entries m) i) where
    pub records_of_cells : (es : List (ℕ × InodeRecord)) → from_entries {R = nat_cmp} es ≡ by_inode (filter_map (full_in (held rank dirs)) (entries m)) → IsStrictlySortedBy nat_cmp (map (λ e. e.0) es)
        → picked (record_kept links opens) es ≡ entries (tree_of rank (table_of m)).records
    unfolding tree_of
    records_of_cells es by_ino sorted =
        ap (picked (record_kept links opens)) (sym (entries-from_entries exact_nat es (sorted_keys nat_cmp es sorted)))
        ∙ (λ j. picked (record_kept (λ i. (links_are i ∙ link_times_are rank m dirs is i) j) (λ i. (opens_are i ∙ open_times_are rank m dirs is i) j)) (entries ((by_ino ∙ ap by_inode (fulls_are rank m dirs is)) j)))
        ∙ sym (entries-collect (record_in (bare_tree t)) (primaries (holding rank t) (entries t.dentries)))
