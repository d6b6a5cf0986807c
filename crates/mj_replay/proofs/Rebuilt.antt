-- What a journal comes to over the cells of a formatted store, by the directories of its lumps and the damage of the table by itself.
use Rattle.std.proofs.Common.{◌≡◌, ℕ, ◌≤◌, Bool, true, false, not, List, [], ◌∷◌, Option, Some, None, Result, Ok, Err, refl, sym, ap, subst, ◌∙◌}
use Rattle.std.specs.Prelude.{if◌then◌else◌}
use Rattle.std.specs.List.{filter}
use Rattle.std.proofs.lemmas.Bool.{false≢true, eq-eqb}
use Rattle.mj_base.specs.declared.damage.Damage.{Damage}
use Rattle.mj_base.specs.declared.damage.Damage.TheVariants.{Unbuilt}
use Rattle.mj_base.specs.Reading.{◌>>=◌}
use Rattle.mj_maps.specs.Map.{Map}
use Rattle.mj_store.specs.Object.{Contents}
use Rattle.mj_layout.specs.Striping.{IsStriping, period}
use Rattle.mj_tree.specs.State.{new_state}
use Rattle.mj_tree.specs.Answer.{after_all}
use Rattle.mj_cells.specs.declared.cell.CellWrite.{CellWrite}
use Rattle.mj_cells.specs.declared.cell.CellValue.{CellValue}
use Rattle.mj_cells.specs.Cell.{key_cmp}
use Rattle.mj_cells.specs.Table.{Table, table_of, overlay}
use Rattle.mj_recovery.specs.declared.journal.LiveJournal.{LiveJournal}
use Rattle.mj_recovery.specs.Damage.{first_some, is_known, tree_damage, lump_dirs, cell_dirs}
use Rattle.mj_recovery.specs.Formatted.{formatted_objects}
use Rattle.mj_recovery.specs.Journal.{live_journal, journal_writes}
use Rattle.mj_recovery.specs.Objects.{Objects, objects_of}
use Rattle.mj_recovery.specs.Recovered.{Recovery, merged_table, or_damage, rebuilt}
use Rattle.mj_recovery.specs.Tree.{holding, tree_of}
use Rattle.mj_judge.specs.Own.{own_damage}
use Rattle.mj_cache.specs.Cached.{CacheValue, begun, early_table, early_tree}
use Rattle.mj_delta.specs.Cells.{next_of}
use Rattle.mj_delta.specs.Fresh.{fresh_table}
use Rattle.mj_delta.specs.Histories.{Turn, events, requests, all_writes, Carries}
use Rattle.mj_delta.specs.Recovering.{live_events}
use Rattle.mj_delta.specs.TreeOf.{IsTreeOf}
use Rattle.mj_delta.proofs.Fresh.{fresh_tree}
use Rattle.mj_delta.proofs.Fronts.{front_undamaged, same_writes, whole_tree}
use Rattle.mj_delta.proofs.NoRows as no_rows
use Rattle.mj_delta.proofs.TreeIs.{tree_is}
use Rattle.mj_replay.specs.Lumps.{none_strange, lumps_known}
use Rattle.mj_replay.specs.Replayed.{is_served, or_unbuilt, replayed_of, replayed_in, IsReplayOf, IsDamageOf}
use Rattle.mj_replay.specs.Replays.{Fails}
use Rattle.mj_replay.specs.declared.lumps.LumpDirs.{LumpDirs}
use Rattle.mj_replay.specs.declared.refusal.JournalRefusal.{JournalRefusal}
use Rattle.mj_replay.specs.declared.refusal.JournalRefusal.TheVariants as refusal
use Rattle.mj_replay.specs.declared.replaying.Replayed.{Replayed}
use Rattle.mj_replay.proofs.Formatted.{tables_inside, dirs_inside, stored_fresh}
use Rattle.mj_replay.proofs.FreshCells.{cells_known}
use Rattle.mj_replay.proofs.Known.{none_out, all_in}

-- the damage of a table depends on no directory of a lump that is known
same_unknown : (rank : ℕ) (t : Table) (xs ys : List ℕ) → filter (λ d. not (is_known rank (next_of t) d)) xs ≡ filter (λ d. not (is_known rank (next_of t) d)) ys → tree_damage rank t xs ≡ tree_damage rank t ys
unfolding tree_damage
same_unknown rank t xs ys e = rw e refl

alone : {A : Type 0} (o : Option A) → first_some (o ∷ []) ≡ o
alone None = refl
alone (Some x) = refl

pub not_served : (rank : ℕ) (j : LiveJournal) → is_served j ≡ false → replayed_of rank j ≡ Err Unbuilt
not_served rank j e = rw e refl

module _ (rank : ℕ) (small : rank ≤ 15) (j : LiveJournal) (sound : IsStriping j.header.layout) (served : is_served j ≡ true) where
  abbrev m : Objects
  m = objects_of (formatted_objects rank j.header.layout)

  abbrev ws : List CellWrite
  ws = journal_writes j.events

  abbrev t : Table
  t = overlay (fresh_table rank) ws

  abbrev found : Recovery
  found = record { journal = j; table = t; tree = tree_of rank t }

  abbrev damage : Option Damage
  damage = tree_damage rank t (lump_dirs ws)

  merged : merged_table rank m j.events ≡ t
  merged = ap (λ x. overlay x ws) (stored_fresh rank small j.header.layout sound)

  abbrev by_rows : Option Damage → Option Damage → Option Damage → Table → Result Recovery Damage
  by_rows a b c x = or_damage (first_some (a ∷ b ∷ c ∷ [])) (record { journal = j; table = x; tree = tree_of rank x })

  rebuilt_is : rebuilt rank m j ≡ or_damage damage found
  rebuilt_is =
      (λ z. by_rows (tables_inside rank small j.header.layout sound z) (dirs_inside rank small j.header.layout sound (holding rank (merged z)) z) (tree_damage rank (merged z) (lump_dirs ws)) (merged z))
      ∙ ap (λ o. or_damage o found) (alone damage)

  replayed_is : (o : Option Damage) → damage ≡ o → replayed_of rank j ≡ or_unbuilt (or_damage o found)
  replayed_is o e = ap (λ b. if b then or_unbuilt (rebuilt rank m j) else Err Unbuilt) served ∙ ap or_unbuilt rebuilt_is ∙ ap (λ o. or_unbuilt (or_damage o found)) e

  -- where the directories of lumps are known, the damage is the table's own
  own : lumps_known rank (next_of t) ws ≡ true → damage ≡ own_damage rank t
  own known = same_unknown rank t (lump_dirs ws) (cell_dirs t)
      (none_out (is_known rank (next_of t)) (lump_dirs ws) known ∙ sym (none_out (is_known rank (next_of t)) (cell_dirs t) (cells_known rank small j.events (next_of t) known)))

  pub has_tree : lumps_known rank (next_of t) ws ≡ true → own_damage rank t ≡ None → replayed_of rank j ≡ Ok found
  has_tree known none = replayed_is None (own known ∙ none)

  pub has_damage : (d : Damage) → lumps_known rank (next_of t) ws ≡ true → own_damage rank t ≡ Some d → replayed_of rank j ≡ Err Unbuilt
  has_damage d known some = replayed_is (Some d) (own known ∙ some)

  pub has_strange : lumps_known rank (next_of t) ws ≡ false → replayed_of rank j ≡ Err Unbuilt
  has_strange strange = by_damage damage refl
    where
      by_damage : (o : Option Damage) → damage ≡ o → replayed_of rank j ≡ Err Unbuilt
      by_damage None e = absurd (false≢true (sym strange ∙ all_in (is_known rank (next_of t)) (lump_dirs ws) (no_rows.lumps_known rank t (lump_dirs ws) e)))
      by_damage (Some d) e = replayed_is (Some d) e

  -- ---- as a cache

  pub known_is : (b : Bool) (next : ℕ) (cells : Table) (dirs : LumpDirs) → b ≡ none_strange next dirs → ((n : ℕ) → none_strange n dirs ≡ lumps_known rank n ws) → next ≡ next_of cells → cells ≡ t → b ≡ lumps_known rank (next_of t) ws
  known_is b next cells dirs e f g h = e ∙ f next ∙ ap (λ n. lumps_known rank n ws) (g ∙ ap next_of h)

  pub cached : (x : Replayed) (cells : Map key_cmp CellValue) → x.header ≡ j.header → x.tail ≡ j.tail → x.cache ≡ begun rank cells → table_of cells ≡ t → own_damage rank (table_of cells) ≡ None → lumps_known rank (next_of t) ws ≡ true
      → IsReplayOf rank x (replayed_of rank j)
  cached x cells header tail holds is none known = subst (IsReplayOf rank x) (sym (has_tree known (ap (own_damage rank) (sym is) ∙ none))) (record {
    of_rank = ap (λ (c : CacheValue). c.rank) holds;
    header = header;
    tail = tail;
    table = ap early_table holds ∙ is;
    tree = ap early_tree holds ∙ ap (tree_of rank) is;
  })

  pub uncached : (d : Damage) (cells : Map key_cmp CellValue) → table_of cells ≡ t → own_damage rank (table_of cells) ≡ Some d → lumps_known rank (next_of t) ws ≡ true → replayed_of rank j ≡ Err Unbuilt
  uncached d cells is some known = has_damage d known (ap (own_damage rank) (sym is) ∙ some)

-- ---- of a store

pub journal_replayed : (rank : ℕ) (image : Contents) (j : LiveJournal) → live_journal image rank ≡ Ok j → replayed_in rank image ≡ replayed_of rank j
unfolding replayed_in
journal_replayed rank image j e = ap (λ (r : Result LiveJournal Damage). r >>= replayed_of rank) e

pub journal_refused : (why : JournalRefusal) (rank : ℕ) (image : Contents) → Fails why (live_journal image rank) → IsDamageOf why (replayed_in rank image)
unfolding replayed_in
journal_refused (refusal.Damage d) rank image e = ap (λ (r : Result LiveJournal Damage). r >>= replayed_of rank) e
journal_refused (refusal.Store fault) rank image e = tt
journal_refused refusal.Memory rank image e = tt

-- ---- histories

pub history_replayed : (rank : ℕ) (j : LiveJournal) (turns : List Turn) → rank ≤ 15 → IsStriping j.header.layout → j.header.expire ≡ period j.header.layout → Carries rank (fresh_table rank) (new_state rank) turns → live_events j ≡ events turns
    → replayed_of rank j ≡ Ok (record { journal = j; table = overlay (fresh_table rank) (all_writes turns); tree = after_all (new_state rank) (requests turns) })
history_replayed rank j turns small sound expire carries are =
    let same = same_writes j turns are in
    let fresh = fresh_tree rank small in
    let is : IsTreeOf rank (overlay (fresh_table rank) (all_writes turns)) (after_all (new_state rank) (requests turns)) = whole_tree rank (fresh_table rank) (new_state rank) turns fresh carries in
    let undamaged = (λ z. tree_damage rank (overlay (fresh_table rank) (same z)) (lump_dirs (same z))) ∙ front_undamaged rank (fresh_table rank) (new_state rank) [] turns fresh carries in
    replayed_is rank small j sound (eq-eqb j.header.expire (period j.header.layout) expire) None undamaged
    ∙ (λ z. Ok (record { journal = j; table = overlay (fresh_table rank) (same z); tree = tree_of rank (overlay (fresh_table rank) (same z)) }))
    ∙ (λ z. Ok (record { journal = j; table = overlay (fresh_table rank) (all_writes turns); tree = tree_is rank _ _ is z }))
