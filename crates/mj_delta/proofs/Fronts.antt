-- Each front of a history leaves a table with the tree after its requests, undamaged.
use Rattle.std.proofs.Common.{◌≡◌, ℕ, true, ◌≤◌, List, [], ◌∷◌, ◌++◌, map, Option, Some, None, Ok, refl, sym, ap, subst, ◌∙◌, inl, inr, arith}
use Rattle.std.specs.List.{flat_map, filter, AllByRecursion}
use Rattle.std.specs.Option.{option_and_then, option_map}
use Rattle.std.specs.Prelude.{is_some, Result}
use Rattle.std.proofs.lemmas.Bool.{false≢true}
use Rattle.std.proofs.lemmas.Grind.{flat_map-append}
use Rattle.std.proofs.lemmas.List.Elements.{filter_map-append}
use Rattle.mj_base.specs.Reading.{◌>>=◌}
use Rattle.mj_base.specs.declared.damage.Damage.{Damage}
use Rattle.mj_base.specs.declared.damage.Damage.TheVariants as damage
use Rattle.mj_maps.specs.Map.{get}
use Rattle.mj_tree.specs.declared.request.ClientRequest.{ClientRequest}
use Rattle.mj_tree.specs.State.{PlainState, new_state}
use Rattle.mj_tree.specs.Answer.{after, after_all}
use Rattle.mj_cells.specs.declared.cell.CellWrite.{CellWrite}
use Rattle.mj_cells.specs.Table.{Table, overlay}
use Rattle.mj_cells.proofs.Tables.{overlay-append}
use Rattle.mj_event.specs.Event.{IsEvent}
use Rattle.mj_event.specs.Writes.{writes_of}
use Rattle.mj_recovery.specs.declared.journal.LiveEvent.{LiveEvent}
use Rattle.mj_recovery.specs.declared.journal.LiveJournal.{LiveJournal}
use Rattle.mj_recovery.specs.Objects.{Objects}
use Rattle.mj_recovery.specs.Journal.{journal_writes}
use Rattle.mj_recovery.specs.Tree.{holding}
use Rattle.mj_recovery.specs.Damage.{tree_damage, lump_dirs, head_written, first_some, least}
use Rattle.mj_recovery.specs.Orderly.{IsOwn}
use Rattle.mj_recovery.specs.Recovered.{bad_table, bad_key_of, bad_dirfrag, stored_table, merged_table, merged_with, merged_damage, gathered, recovered}
use Rattle.mj_recovery.proofs.Wholly.{recovered_ok}
use Rattle.mj_delta.specs.TreeOf.{IsTreeOf}
use Rattle.mj_delta.specs.Steps.{IsOrderlyWrite}
use Rattle.mj_delta.specs.Fresh.{fresh_table}
use Rattle.mj_delta.specs.Histories.{Turn, events, requests, all_writes, Carries}
use Rattle.mj_delta.specs.Recovering.{live_events, bare, HoldsHistory, HoldsFirst}
use Rattle.mj_delta.proofs.Lists.{Lies, no_items, in_filter, lies_all, all_lies}
use Rattle.mj_delta.proofs.TreeIs.{tree_is}
use Rattle.mj_delta.proofs.Sound.{no_damage}
use Rattle.mj_delta.proofs.Fresh.{fresh_tree}
use Rattle.std.specs.Prelude.{◌==◌, ◌||◌, if◌then◌else◌}
use Rattle.std.proofs.lemmas.Bool.{eq-eqb}
use Rattle.mj_base.specs.declared.object.ObjectName.{ObjectName}
use Rattle.mj_base.specs.declared.object.ObjectName.TheVariants.{File, InoTable, SessionMap}
use Rattle.mj_store.specs.Object.{Content}
use Rattle.mj_layout.specs.Striping.{Striping, IsStriping}
use Rattle.mj_cells.specs.declared.cell.CellKey.{CellKey}
use Rattle.mj_cells.specs.declared.cell.CellKey.TheVariants as key
use Rattle.mj_cells.proofs.Tables.{same_table}
use Rattle.mj_recovery.specs.Objects.{objects_of}
use Rattle.mj_recovery.specs.Stored.{among, stored_cell, bad_key}
use Rattle.mj_recovery.specs.Recovered.{is_bad, lacks_head}
use Rattle.mj_recovery.specs.ListedObjects.{listed_bad_table}
use Rattle.mj_recovery.specs.Orderly.{IsOfRank}
use Rattle.mj_recovery.specs.Formatted.{formatted_objects}
use Rattle.mj_recovery.proofs.Stores.{merged_look}
use Rattle.mj_recovery.proofs.BadObjects.{table_is}
use Rattle.mj_recovery.proofs.Bools.{second}
use Rattle.mj_recovery.proofs.Formatting.{held, formatted_is}
use Rattle.mj_delta.proofs.Facts.{held_cases}
use Rattle.mj_delta.proofs.Lists.{lies_among}
use Rattle.mj_delta.proofs.TreeIs.{among_held}
use Rattle.mj_delta.proofs.NewEntry.{own_dir}
use Rattle.mj_delta.proofs.Fresh.{formatted_fresh}

-- what writes nothing comes before
nothing_first : (t : Table) (ws vs : List CellWrite) → ws ≡ [] → overlay t (ws ++ vs) ≡ overlay t vs
nothing_first t ws vs e = ap (λ ws. overlay t (ws ++ vs)) e

pub after_all-append : (s : PlainState) (rs qs : List ClientRequest) → after_all s (rs ++ qs) ≡ after_all (after_all s rs) qs
after_all-append s [] qs = refl
after_all-append s (r ∷ rs) qs = after_all-append (after s r) rs qs

pub writes-append : (xs ys : List Turn) → all_writes (xs ++ ys) ≡ all_writes xs ++ all_writes ys
writes-append xs ys = flat_map-append (λ (x : Turn). writes_of x.0) xs ys

pub requests-append : (xs ys : List Turn) → requests (xs ++ ys) ≡ requests xs ++ requests ys
requests-append xs ys = filter_map-append (λ (x : Turn). x.1) xs ys

pub carries_front : (rank : ℕ) (t : Table) (s : PlainState) (xs ys : List Turn) → Carries rank t s (xs ++ ys) → Carries rank t s xs
carries_front rank t s [] ys c = tt
carries_front rank t s ((e, None) ∷ xs) ys c = (c.0, carries_front rank t s xs ys c.1)
carries_front rank t s ((e, Some r) ∷ xs) ys c = (c.0, carries_front rank (overlay t (writes_of e)) (after s r) xs ys c.1)

pub carries_rest : (rank : ℕ) (t : Table) (s : PlainState) (xs ys : List Turn) → Carries rank t s (xs ++ ys) → Carries rank (overlay t (all_writes xs)) (after_all s (requests xs)) ys
carries_rest rank t s [] ys c = c
carries_rest rank t s ((e, None) ∷ xs) ys c = subst (λ x. Carries rank x (after_all s (requests xs)) ys) (sym (nothing_first t (writes_of e) (all_writes xs) c.0.1)) (carries_rest rank t s xs ys c.1)
carries_rest rank t s ((e, Some r) ∷ xs) ys c = subst (λ x. Carries rank x (after_all (after s r) (requests xs)) ys) (sym (overlay-append t (writes_of e) (all_writes xs))) (carries_rest rank (overlay t (writes_of e)) (after s r) xs ys c.1)

pub carries_on : (rank : ℕ) (t : Table) (s : PlainState) (xs ys : List Turn) → Carries rank t s xs → Carries rank (overlay t (all_writes xs)) (after_all s (requests xs)) ys → Carries rank t s (xs ++ ys)
carries_on rank t s [] ys c d = d
carries_on rank t s ((e, None) ∷ xs) ys c d = (c.0, carries_on rank t s xs ys c.1 (subst (λ x. Carries rank x (after_all s (requests xs)) ys) (nothing_first t (writes_of e) (all_writes xs) c.0.1) d))
carries_on rank t s ((e, Some r) ∷ xs) ys c d = (c.0, carries_on rank (overlay t (writes_of e)) (after s r) xs ys c.1 (subst (λ x. Carries rank x (after_all (after s r) (requests xs)) ys) (overlay-append t (writes_of e) (all_writes xs)) d))

-- the table with all that a history writes has the tree after its requests
pub whole_tree : (rank : ℕ) (t : Table) (s : PlainState) (xs : List Turn) → IsTreeOf rank t s → Carries rank t s xs → IsTreeOf rank (overlay t (all_writes xs)) (after_all s (requests xs))
whole_tree rank t s [] is c = is
whole_tree rank t s ((e, None) ∷ xs) is c = subst (λ x. IsTreeOf rank x (after_all s (requests xs))) (sym (nothing_first t (writes_of e) (all_writes xs) c.0.1)) (whole_tree rank t s xs is c.1)
whole_tree rank t s ((e, Some r) ∷ xs) is c = subst (λ x. IsTreeOf rank x (after_all (after s r) (requests xs))) (sym (overlay-append t (writes_of e) (all_writes xs))) (whole_tree rank (overlay t (writes_of e)) (after s r) xs c.0.tree c.1)

pub front_tree : (rank : ℕ) (t : Table) (s : PlainState) (front rest : List Turn) → IsTreeOf rank t s → Carries rank t s (front ++ rest) → IsTreeOf rank (overlay t (all_writes front)) (after_all s (requests front))
front_tree rank t s front rest is c = whole_tree rank t s front is (carries_front rank t s front rest c)

-- ---- lumps

rises : (rank : ℕ) (t : Table) (s : PlainState) (xs : List Turn) → Carries rank t s xs → s.next ≤ (after_all s (requests xs)).next
rises rank t s [] c = omega arith
rises rank t s ((e, None) ∷ xs) c = rises rank t s xs c.1
rises rank t s ((e, Some r) ∷ xs) c = let more = rises rank (overlay t (writes_of e)) (after s r) xs c.1 in omega (arith, more, c.0.next)

own_up : (rank n m d : ℕ) → n ≤ m → IsOwn rank n d → IsOwn rank m d
own_up rank n m d le (inl e) = inl e
own_up rank n m d le (inr (inl e)) = inr (inl e)
own_up rank n m d le (inr (inr given)) = inr (inr (given.0, omega (arith, given.1, le)))

all_append : {A : Type 0} (P : A → Type 0) (xs ys : List A) → AllByRecursion P xs → AllByRecursion P ys → AllByRecursion P (xs ++ ys)
all_append P [] ys h k = k
all_append P (x ∷ xs) ys h k = (h.0, all_append P xs ys h.1 k)

pub all_own : (rank : ℕ) (t : Table) (s : PlainState) (xs : List Turn) → Carries rank t s xs → AllByRecursion (IsOwn rank (after_all s (requests xs)).next) (lump_dirs (all_writes xs))
all_own rank t s [] c = tt
all_own rank t s ((e, None) ∷ xs) c = subst (λ ws. AllByRecursion (IsOwn rank (after_all s (requests xs)).next) (lump_dirs (ws ++ all_writes xs))) (sym c.0.1) (all_own rank t s xs c.1)
all_own rank t s ((e, Some r) ∷ xs) c =
    let next = (after_all (after s r) (requests xs)).next in
    let up = rises rank (overlay t (writes_of e)) (after s r) xs c.1 in
    let here = lies_all (IsOwn rank next) (lump_dirs (writes_of e)) (λ d l. own_up rank (after s r).next next d up (all_lies (IsOwn rank (after s r).next) (lump_dirs (writes_of e)) c.0.lumps d l)) in
    subst (AllByRecursion (IsOwn rank next)) (sym (filter_map-append head_written (writes_of e) (all_writes xs)))
    (all_append (IsOwn rank next) (lump_dirs (writes_of e)) (lump_dirs (all_writes xs)) here (all_own rank (overlay t (writes_of e)) (after s r) xs c.1))

pub all_orderly : (rank : ℕ) (t : Table) (s : PlainState) (xs : List Turn) → Carries rank t s xs → AllByRecursion (IsOrderlyWrite rank) (all_writes xs)
all_orderly rank t s [] c = tt
all_orderly rank t s ((e, None) ∷ xs) c = subst (λ ws. AllByRecursion (IsOrderlyWrite rank) (ws ++ all_writes xs)) (sym c.0.1) (all_orderly rank t s xs c.1)
all_orderly rank t s ((e, Some r) ∷ xs) c = all_append (IsOrderlyWrite rank) (writes_of e) (all_writes xs) c.0.orderly (all_orderly rank (overlay t (writes_of e)) (after s r) xs c.1)

pub all_events : (rank : ℕ) (t : Table) (s : PlainState) (xs : List Turn) → Carries rank t s xs → AllByRecursion IsEvent (events xs)
all_events rank t s [] c = tt
all_events rank t s ((e, None) ∷ xs) c = (c.0.0, all_events rank t s xs c.1)
all_events rank t s ((e, Some r) ∷ xs) c = (c.0.grammar, all_events rank (overlay t (writes_of e)) (after s r) xs c.1)

-- the lumps of the turns from any place on
pub rest_own : (rank : ℕ) (t : Table) (s : PlainState) (older live : List Turn) → Carries rank t s (older ++ live) → AllByRecursion (IsOwn rank (after_all s (requests (older ++ live))).next) (lump_dirs (all_writes live))
rest_own rank t s older live c =
    let whole = ap (after_all s) (requests-append older live) ∙ after_all-append s (requests older) (requests live) in
    subst (λ (x : PlainState). AllByRecursion (IsOwn rank x.next) (lump_dirs (all_writes live))) (sym whole) (all_own rank (overlay t (all_writes older)) (after_all s (requests older)) live (carries_rest rank t s older live c))

pub front_undamaged : (rank : ℕ) (t : Table) (s : PlainState) (older live : List Turn) → IsTreeOf rank t s → Carries rank t s (older ++ live) → tree_damage rank (overlay t (all_writes (older ++ live))) (lump_dirs (all_writes live)) ≡ None
front_undamaged rank t s older live is c =
    no_damage rank (overlay t (all_writes (older ++ live))) (after_all s (requests (older ++ live))) (whole_tree rank t s (older ++ live) is c) (lump_dirs (all_writes live)) (rest_own rank t s older live c)

-- ---- recovery

live_writes : (es : List LiveEvent) → journal_writes es ≡ flat_map writes_of (map (λ (e : LiveEvent). e.event) es)
live_writes [] = refl
live_writes (e ∷ es) = ap (λ ws. writes_of e.event ++ ws) (live_writes es)

turn_writes : (xs : List Turn) → all_writes xs ≡ flat_map writes_of (events xs)
turn_writes [] = refl
turn_writes (x ∷ xs) = ap (λ ws. writes_of x.0 ++ ws) (turn_writes xs)

pub same_writes : (j : LiveJournal) (live : List Turn) → live_events j ≡ events live → journal_writes j.events ≡ all_writes live
same_writes j live e = live_writes j.events ∙ ap (flat_map writes_of) e ∙ sym (turn_writes live)

module _ (rank : ℕ) (m : Objects) (j : LiveJournal) (t : Table) (s : PlainState) (older live : List Turn) (is : IsTreeOf rank t s) (c : Carries rank t s (older ++ live)) (h : HoldsHistory rank m j t older live) where
  abbrev table : Table
  table = merged_table rank m j.events

  abbrev tree : PlainState
  tree = after_all s (requests (older ++ live))

  has_tree : IsTreeOf rank table tree
  has_tree = subst (λ x. IsTreeOf rank x tree) (sym h.merged) (whole_tree rank t s (older ++ live) is c)

  of_rank : (n d : ℕ) → IsOwn rank n d → IsOfRank rank d
  of_rank n d (inl e) = inl e
  of_rank n d (inr (inl e)) = inr (inl e)
  of_rank n d (inr (inr given)) = inr (inr given.0)

  held_of_rank : (d : ℕ) → Lies d (holding rank table) → IsOfRank rank d
  held_of_rank d l = elim (held_cases rank table tree has_tree.primary has_tree.dentries d (sym (among_held rank table tree has_tree d) ∙ lies_among (holding rank table) d l)) [
    | inl dir ↦ of_rank tree.next d (own_dir rank table tree has_tree.primary has_tree.dentries d dir)
    | inr e ↦ inr (inl e)
  ]

  dirs_fine : bad_dirfrag (get m) (holding rank table) ≡ None
  dirs_fine = ap (λ ds. option_and_then (λ d. option_map (damage.DirfragBad d) (bad_key_of (get m) d)) (least ds)) (no_items (filter (λ d. is_some (bad_key_of (get m) d)) (holding rank table)) (λ d l.
      let w = in_filter (λ d. is_some (bad_key_of (get m) d)) (holding rank table) d l in false≢true (sym (ap is_some (h.dirfrags d (held_of_rank d w.0))) ∙ w.1)))

  undamaged : tree_damage rank table (lump_dirs (journal_writes j.events)) ≡ None
  undamaged = no_damage rank table tree has_tree (lump_dirs (journal_writes j.events)) (subst (λ ws. AllByRecursion (IsOwn rank tree.next) (lump_dirs ws)) (sym (same_writes j live h.events_are)) (rest_own rank t s older live c))

  no_merged : merged_damage rank m j table ≡ None
  no_merged = λ z. first_some (h.tables z ∷ dirs_fine z ∷ undamaged z ∷ [])

  gathered_is : gathered rank m ≡ Ok (record { journal = j; table = table; tree = tree })
  gathered_is = ap (λ (r : Result LiveJournal Damage). r >>= λ x. Ok (merged_with rank m x)) h.journal ∙ (λ z. Ok (record { journal = j; table = table; tree = tree_is rank table tree has_tree z }))

  pub history_recovers : recovered rank m ≡ Ok (record { journal = j; table = merged_table rank m j.events; tree = after_all s (requests (older ++ live)) })
  history_recovers = recovered_ok rank m (record { journal = j; table = table; tree = tree }) gathered_is (sym no_merged)

-- ---- a formatted store

bare_among : (k : CellKey) (name : ObjectName) (o : Option Content) → among k name o ≡ among k name (bare o)
bare_among k name None = refl
bare_among k name (Some c) = refl

bare_bad : (name : ObjectName) (o : Option Content) → option_and_then (bad_key name) o ≡ option_and_then (bad_key name) (bare o)
bare_bad name None = refl
bare_bad name (Some c) = refl

bare_is_bad : (name : ObjectName) (o : Option Content) → is_bad name o ≡ is_bad name (bare o)
bare_is_bad name None = refl
bare_is_bad name (Some c) = refl

bare_lacks : (o : Option Content) → lacks_head o ≡ lacks_head (bare o)
bare_lacks None = refl
bare_lacks (Some c) = refl

module _ (rank : ℕ) (small : rank ≤ 15) (layout : Striping) (sound : IsStriping layout) (m : Objects) (j : LiveJournal) (live : List Turn) (h : HoldsFirst rank layout m j live) where
  abbrev first : Objects
  first = objects_of (formatted_objects rank layout)

  same_among : (k : CellKey) (name : ObjectName) → bare (get m name) ≡ bare (get first name) → among k name (get m name) ≡ among k name (get first name)
  same_among k name e = bare_among k name (get m name) ∙ ap (among k name) e ∙ sym (bare_among k name (get first name))

  same_cell : (k : CellKey) → stored_cell (get m) rank k ≡ stored_cell (get first) rank k
  same_cell (key.Dentry d name) = same_among (key.Dentry d name) (File d 0) (h.dirfrags d)
  same_cell (key.DirHead d) = same_among (key.DirHead d) (File d 0) (h.dirfrags d)
  same_cell key.NextIno = same_among key.NextIno (InoTable rank) h.inodes
  same_cell (key.Session c) = same_among (key.Session c) (SessionMap rank) h.sessions
  same_cell (key.Done c tid) = same_among (key.Done c tid) (SessionMap rank) h.sessions
  same_cell (key.OpenOf c i) = refl

  same_stored : stored_table rank m ≡ stored_table rank first
  same_stored = same_table _ _ (λ k. merged_look rank m [] k ∙ same_cell k ∙ sym (merged_look rank first [] k))

  stored_fresh : stored_table rank m ≡ fresh_table rank
  stored_fresh = same_stored ∙ formatted_fresh rank small layout sound

  listed_fine : listed_bad_table rank (formatted_objects rank layout) ≡ None
  unfolding formatted_objects
  listed_fine = let same : (rank == rank) ≡ true = eq-eqb rank rank refl in rw same refl

  tables_first : bad_table (get first) rank ≡ None
  tables_first = sym (table_is (formatted_objects rank layout) (second _ _ (held rank small layout sound)) rank) ∙ listed_fine

  tables_fine : bad_table (get m) rank ≡ None
  tables_fine =
      let lacks : lacks_head (get m (InoTable rank)) ≡ lacks_head (get first (InoTable rank)) = bare_lacks (get m (InoTable rank)) ∙ ap lacks_head h.inodes ∙ sym (bare_lacks (get first (InoTable rank))) in
      let inodes : is_bad (InoTable rank) (get m (InoTable rank)) ≡ is_bad (InoTable rank) (get first (InoTable rank)) = bare_is_bad (InoTable rank) (get m (InoTable rank)) ∙ ap (is_bad (InoTable rank)) h.inodes ∙ sym (bare_is_bad (InoTable rank) (get first (InoTable rank))) in
      let sessions : is_bad (SessionMap rank) (get m (SessionMap rank)) ≡ is_bad (SessionMap rank) (get first (SessionMap rank)) = bare_is_bad (SessionMap rank) (get m (SessionMap rank)) ∙ ap (is_bad (SessionMap rank)) h.sessions ∙ sym (bare_is_bad (SessionMap rank) (get first (SessionMap rank))) in
      (λ z. if lacks z || inodes z then Some (damage.TableBad (InoTable rank)) else (if sessions z then Some (damage.TableBad (SessionMap rank)) else None)) ∙ tables_first

  dir_first : (d : ℕ) (o : Option Content) → get first (File d 0) ≡ o → IsOfRank rank d → option_and_then (bad_key (File d 0)) o ≡ None
  dir_first d None e of = refl
  dir_first d (Some c) e of = (formatted_is rank small layout sound (get first) (λ _. refl)).orderly.inside d c of e

  dirs_known : (d : ℕ) → IsOfRank rank d → bad_key_of (get m) d ≡ None
  dirs_known d of = bare_bad (File d 0) (get m (File d 0)) ∙ ap (option_and_then (bad_key (File d 0))) (h.dirfrags d) ∙ sym (bare_bad (File d 0) (get first (File d 0))) ∙ dir_first d (get first (File d 0)) refl of

  pub first_recovers : Carries rank (fresh_table rank) (new_state rank) live → recovered rank m ≡ Ok (record { journal = j; table = merged_table rank m j.events; tree = after_all (new_state rank) (requests live) })
  first_recovers c = history_recovers rank m j (fresh_table rank) (new_state rank) [] live (fresh_tree rank small) c (record {
    tables = tables_fine;
    dirfrags = dirs_known;
    journal = h.journal;
    events_are = h.events_are;
    merged = (λ z. overlay (stored_fresh z) (same_writes j live h.events_are z));
  })
