-- The cells that events leave over those of a new rank are of the root, of stray and of directories of lumps.
use Rattle.std.proofs.Common.{◌≡◌, ℕ, ◌≤◌, true, List, map, Option, Some, None, refl, sym, ap, subst, ◌∙◌, inl, inr, arith}
use Rattle.std.specs.List.{list_all}
use Rattle.mj_maps.specs.Map.{entries, get}
use Rattle.mj_maps.specs.Orders.{place_cmp}
use Rattle.mj_maps.proofs.MapLaws.{exact_nat, exact_place, eq_true, get_empty}
use Rattle.mj_tree.specs.State.{new_state}
use Rattle.mj_cells.specs.declared.cell.CellKey.TheVariants as key
use Rattle.mj_cells.specs.declared.cell.CellValue.{CellValue}
use Rattle.mj_cells.specs.declared.cell.CellWrite.{CellWrite}
use Rattle.mj_cells.specs.Table.{Dentry, Table, overlay, dentry_value, number_value, value_of}
use Rattle.mj_cells.specs.Table.Dentry.{Full, Remote}
use Rattle.mj_cells.proofs.Keys.{exact_key}
use Rattle.mj_cells.proofs.Tables.{value_of-overlay}
use Rattle.mj_event.specs.Writes.{write, writes_of}
use Rattle.mj_recovery.specs.declared.journal.LiveEvent.{LiveEvent}
use Rattle.mj_recovery.specs.Damage.{is_known, head_written, lump_dirs, cell_dirs}
use Rattle.mj_recovery.specs.Journal.{journal_writes}
use Rattle.mj_recovery.specs.Orderly.{IsOwn}
use Rattle.mj_recovery.specs.Tree.{Entry}
use Rattle.mj_delta.specs.Fresh.{fresh_table}
use Rattle.mj_delta.proofs.Fresh.{fresh_tree}
use Rattle.mj_delta.proofs.Lists.{Lies, in_append, in_map, to_filter_map, entry_at}
use Rattle.mj_delta.proofs.Plans.{in_flat_map, to_flat_map}
use Rattle.mj_delta.proofs.Sources.{found_last, head_beside}
use Rattle.mj_replay.specs.Lumps.{lumps_known}
use Rattle.mj_replay.proofs.Known.{all_at, at_all, own_known}

no_dentry : (d : Dentry) → dentry_value None ≡ dentry_value (Some d) → ⊥
no_dentry (Full v r) e = absurd cc
no_dentry (Remote v i k) e = absurd cc

number_at : (o : Option ℕ) (v : ℕ) → number_value o ≡ number_value (Some v) → o ≡ Some v
number_at None v e = absurd cc
number_at (Some n) v e = cc

module _ (rank : ℕ) (small : rank ≤ 15) (events : List LiveEvent) (next : ℕ) (all : lumps_known rank next (journal_writes events) ≡ true) where
  abbrev ws : List CellWrite
  ws = journal_writes events

  abbrev t : Table
  t = overlay (fresh_table rank) ws

  lump_known : (d : ℕ) (v : CellValue) → Lies (write (key.DirHead d) v) ws → is_known rank next d ≡ true
  lump_known d v l = all_at (is_known rank next) (lump_dirs ws) all d (to_filter_map head_written ws (write (key.DirHead d) v) d l refl)

  name_known : (d : ℕ) (n : List ℕ) (v : CellValue) → Lies (write (key.Dentry d n) v) ws → is_known rank next d ≡ true
  name_known d n v l =
      let x = in_flat_map (λ (e : LiveEvent). writes_of e.event) events (write (key.Dentry d n) v) l in
      let h = head_beside x.0.event d n v x.2 in
      lump_known d h.0 (to_flat_map (λ (e : LiveEvent). writes_of e.event) events x.0 (write (key.DirHead d) h.0) x.1 h.1)

  dentry_known : (q : ℕ × List ℕ) (d : Dentry) → get t.dentries q ≡ Some d → is_known rank next q.0 ≡ true
  dentry_known q d e =
      let k = key.Dentry q.0 q.1 in
      elim (found_last k ws (value_of (fresh_table rank) k) (dentry_value (Some d)) (sym (value_of-overlay (fresh_table rank) ws k) ∙ ap dentry_value e)) [
        | inl h ↦ absurd (no_dentry d (ap dentry_value (sym (get_empty place_cmp q)) ∙ h))
        | inr x ↦ name_known q.0 q.1 x.0.value (subst (λ k. Lies (write k x.0.value) ws) (sym (eq_true exact_key k x.0.key x.2)) x.1)
      ]

  fresh_known : (d v : ℕ) → get (fresh_table rank).heads d ≡ Some v → is_known rank next d ≡ true
  fresh_known d v e = own d ((fresh_tree rank small).dentries.own_heads d v e)
    where
      own : (d : ℕ) → IsOwn rank (new_state rank).next d → is_known rank next d ≡ true
      own d (inl is) = own_known rank next d (inl is)
      own d (inr (inl is)) = own_known rank next d (inr (inl is))
      own d (inr (inr given)) = absurd (omega (arith, given.0, given.1))

  head_known : (d v : ℕ) → get t.heads d ≡ Some v → is_known rank next d ≡ true
  head_known d v e =
      let k = key.DirHead d in
      elim (found_last k ws (value_of (fresh_table rank) k) (number_value (Some v)) (sym (value_of-overlay (fresh_table rank) ws k) ∙ ap number_value e)) [
        | inl h ↦ fresh_known d v (number_at (get (fresh_table rank).heads d) v h)
        | inr x ↦ lump_known d x.0.value (subst (λ k. Lies (write k x.0.value) ws) (sym (eq_true exact_key k x.0.key x.2)) x.1)
      ]

  pub cells_known : list_all (is_known rank next) (cell_dirs t) ≡ true
  cells_known = at_all (is_known rank next) (cell_dirs t) (λ d l. elim (in_append (map (λ (e : Entry). e.0.0) (entries t.dentries)) _ d l) [
    | inl a ↦ let w = in_map (λ (e : Entry). e.0.0) (entries t.dentries) d a in subst (λ d. is_known rank next d ≡ true) w.2 (dentry_known w.0.0 w.0.1 (entry_at exact_place t.dentries w.0 w.1))
    | inr b ↦ let w = in_map (λ (e : ℕ × ℕ). e.0) (entries t.heads) d b in subst (λ d. is_known rank next d ≡ true) w.2 (head_known w.0.0 w.0.1 (entry_at exact_nat t.heads w.0 w.1))
  ])
