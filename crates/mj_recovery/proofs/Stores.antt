-- What objects store at a key is what the key's object stores there, whatever the order of the objects.
use Rattle.std.proofs.Common.{Ordering, ◌≡◌, ℕ, zero, suc, Bool, true, false, cond, ◌&&◌, ◌||◌, ◌==◌, not, List, [], ◌∷◌, ◌++◌, Option, Some, None, T, refl, sym, ap, subst, ◌∙◌, inl, inr}
use Rattle.std.specs.Prelude.{IsTrue, length, take, drop, slice_index, filter_map, if◌then◌else◌}
use Rattle.std.specs.List.{flat_map, list_any, list_all, cons_option, AllByRecursion}
use Rattle.std.specs.Option.{option_map, option_and_then}
use Rattle.std.specs.declared.cmp.Ordering.TheVariants.{Less, Equal, Greater}
use Rattle.std.specs.Ordering.{eq_by_cmp, is_eq, is_lt, nat_cmp, ordering_then}
use Rattle.std.specs.Cmp.{on_total, unsigned_ties, nat_eq_equiv}
use Rattle.std.specs.Cmp.Lexicographic.{nat_list_cmp_total}
use Rattle.std.specs.FinMap.{slice_cmp-IsAntisymmetric, nat_cmp-IsAntisymmetric}
use Rattle.std.specs.FinMap.Entries.{find, below_all, is_sorted}
use Rattle.std.proofs.lemmas.Bool.{eqb-true}
use Rattle.mj_base.specs.ObjectName.{name_numbers, name_cmp}
use Rattle.mj_base.specs.declared.object.ObjectName.{ObjectName}
use Rattle.mj_base.specs.declared.object.ObjectName.TheVariants.{File, InoTable, SessionMap}
use Rattle.mj_maps.specs.Map.{entries, entries_sorted, get, left_true, right_true}
use Rattle.mj_maps.specs.Orders.{bytes_cmp}
use Rattle.mj_maps.proofs.MapLaws.{Exact, exact_bytes, cases_key, eq_true, apart, some_same, none_some, get-from_entries, get-entries, entries-from_entries}
use Rattle.mj_store.specs.Object.{Content, same_name}
use Rattle.mj_store.specs.declared.held.HeldObject.{HeldObject}
use Rattle.mj_cells.specs.declared.cell.CellKey.{CellKey}
use Rattle.mj_cells.specs.declared.cell.CellKey.TheVariants as key
use Rattle.mj_cells.specs.declared.cell.CellValue.{CellValue}
use Rattle.mj_cells.specs.declared.cell.CellValue.TheVariants as value
use Rattle.mj_cells.specs.declared.cell.CellWrite.{CellWrite}
use Rattle.mj_cells.specs.Cell.{same_key}
use Rattle.mj_cells.specs.Table.{no_cells, overlay, value_of, last_of, shown}
use Rattle.mj_cells.proofs.Keys.{exact_key}
use Rattle.mj_cells.proofs.Tables.{value_of-overlay, value_of-no_cells, same_table}
use Rattle.mj_event.specs.Writes.{write}
use Rattle.mj_recovery.specs.declared.journal.LiveEvent.{LiveEvent}
use Rattle.mj_recovery.specs.Objects.{Objects, pair_entries, content_of, object_entries, objects_of, are_apart, AreHeld}
use Rattle.mj_recovery.specs.Listed.{found, image_of, listed_cells, all_listed}
use Rattle.mj_recovery.specs.Journal.{journal_writes}
use Rattle.mj_recovery.specs.Stored.{object_of, name_in, dentry_in, number_in, hex_number, reply_in, session_in, cell, pair_cell, head_cell, head_cells, object_cells, among, stored_cell}
use Rattle.mj_recovery.specs.Recovered.{is_of_rank, rank_cells, stored_table, merged_table}
use Rattle.mj_recovery.proofs.Bools.{from_true, first, second}

-- ---- the order of names

same_numbers : (a b : ObjectName) → name_numbers a ≡ name_numbers b → a ≡ b
same_numbers (File a i) (File b j) is = cc
same_numbers (InoTable r) (InoTable s) is = cc
same_numbers (SessionMap r) (SessionMap s) is = cc
same_numbers _ _ is = absurd cc

pub exact_name : Exact name_cmp
exact_name = record {
  total = on_total name_numbers nat_list_cmp_total;
  same = λ a b e. same_numbers a b (slice_cmp-IsAntisymmetric nat_cmp-IsAntisymmetric (name_numbers a) (name_numbers b) e);
}

then_equal : (o : Ordering) → is_eq o ≡ is_eq (ordering_then o Equal)
then_equal Less = refl
then_equal Equal = refl
then_equal Greater = refl

eq_then : (a b : Ordering) → (is_eq a && is_eq b) ≡ is_eq (ordering_then a (ordering_then b Equal))
eq_then Less b = refl
eq_then Equal b = then_equal b
eq_then Greater b = refl

pub name_ties : (a b : ObjectName) → same_name a b ≡ eq_by_cmp name_cmp a b
name_ties (File a i) (File b j) = (λ k. unsigned_ties a b k && unsigned_ties i j k) ∙ eq_then (nat_cmp a b) (nat_cmp i j)
name_ties (InoTable r) (InoTable s) = unsigned_ties r s ∙ then_equal (nat_cmp r s)
name_ties (SessionMap r) (SessionMap s) = unsigned_ties r s ∙ then_equal (nat_cmp r s)
name_ties (File a i) (InoTable s) = refl
name_ties (File a i) (SessionMap s) = refl
name_ties (InoTable r) (File b j) = refl
name_ties (InoTable r) (SessionMap s) = refl
name_ties (SessionMap r) (File b j) = refl
name_ties (SessionMap r) (InoTable s) = refl

-- ---- look-ups of a list

find_found : (name : ObjectName) (hs : List HeldObject) → option_map content_of (found name hs) ≡ find name_cmp name (object_entries hs)
find_found name [] = refl
find_found name (h ∷ hs) =
    elim (same_name name h.name) as (λ b. same_name name h.name ≡ b → option_map content_of (cond b (Some h) (found name hs)) ≡ cond (eq_by_cmp name_cmp name h.name) (Some (content_of h)) (find name_cmp name (object_entries hs))) [
      | true ↦ λ e. sym (ap (λ b. cond b (Some (content_of h)) (find name_cmp name (object_entries hs))) (sym (name_ties name h.name) ∙ e))
      | false ↦ λ e. find_found name hs ∙ sym (ap (λ b. cond b (Some (content_of h)) (find name_cmp name (object_entries hs))) (sym (name_ties name h.name) ∙ e))
    ] refl

pub image_is : (hs : List HeldObject) → image_of hs ≡ get (objects_of hs)
image_is hs = λ i name. (find_found name hs ∙ sym (get-from_entries exact_name (object_entries hs) name)) i

-- ---- names that stand once

abbrev pub Distinct : List (ObjectName × Content) → Type 0
Distinct [] = Unit {0}
Distinct (e ∷ es) = (find name_cmp e.0 es ≡ None) × Distinct es

find_below : (q : ObjectName) (es : List (ObjectName × Content)) → T (below_all name_cmp q es) → find name_cmp q es ≡ None
find_below q [] h = refl
find_below q (e ∷ es) h = ap (λ b. cond b (Some e.1) (find name_cmp q es)) (not_tied (name_cmp q e.0) (left_true _ _ h)) ∙ find_below q es (right_true _ _ h)
  where
    not_tied : (o : Ordering) → T (is_lt o) → is_eq o ≡ false
    not_tied Less p = refl
    not_tied Equal p = absurd p
    not_tied Greater p = absurd p

distinct_sorted : (es : List (ObjectName × Content)) → T (is_sorted name_cmp es) → Distinct es
distinct_sorted [] h = tt
distinct_sorted (e ∷ es) h = (find_below e.0 es (left_true _ _ h), distinct_sorted es (right_true _ _ h))

not_any : (name : ObjectName) (hs : List HeldObject) → IsTrue (not (list_any (λ (g : HeldObject). same_name name g.name) hs)) → find name_cmp name (object_entries hs) ≡ None
not_any name [] h = refl
not_any name (g ∷ hs) h =
    elim (same_name name g.name) as (λ b. same_name name g.name ≡ b → IsTrue (not (b || list_any (λ (g : HeldObject). same_name name g.name) hs)) → find name_cmp name (object_entries (g ∷ hs)) ≡ None) [
      | true ↦ λ e k. absurd cc
      | false ↦ λ e k. ap (λ b. cond b (Some (content_of g)) (find name_cmp name (object_entries hs))) (sym (name_ties name g.name) ∙ e) ∙ not_any name hs k
    ] refl h

distinct_apart : (hs : List HeldObject) → IsTrue (are_apart hs) → Distinct (object_entries hs)
distinct_apart [] h = tt
distinct_apart (g ∷ hs) h = (not_any g.name hs (first _ _ h), distinct_apart hs (second _ _ h))

-- ---- the cells of an object are its own

last-append : (k : CellKey) (xs ys : List CellWrite) (v : CellValue) → last_of k (xs ++ ys) v ≡ last_of k ys (last_of k xs v)
last-append k [] ys v = refl
last-append k (x ∷ xs) ys v = last-append k xs ys (if same_key k x.key then shown x.key x.value else v)

module _ (rank : ℕ) where
  abbrev IsOf : ObjectName → CellWrite → Type 0
  IsOf name w = object_of rank w.key ≡ Some name

  key_is : (name : ObjectName) (k : CellKey) (v : CellValue) (w : CellWrite) → object_of rank k ≡ Some name → Some (write k v) ≡ Some w → IsOf name w
  key_is name k v w is e = ap (λ (x : CellWrite). object_of rank x.key) (sym (some_same _ _ e)) ∙ is

  cell_is : (name : ObjectName) (k : Option CellKey) (v : Option CellValue) (w : CellWrite) → ((l : CellKey) → k ≡ Some l → object_of rank l ≡ Some name) → cell k v ≡ Some w → IsOf name w
  cell_is name None v w is e = absurd (none_some w e)
  cell_is name (Some k) None w is e = absurd (none_some w e)
  cell_is name (Some k) (Some v) w is e = key_is name k v w (is k refl) e

  named : (dir : ℕ) (o : Option (List ℕ)) (l : CellKey) → option_map (key.Dentry dir) o ≡ Some l → object_of rank l ≡ Some (File dir 0)
  named dir None l e = absurd (none_some l e)
  named dir (Some n) l e = ap (object_of rank) (sym (some_same _ _ e))

  of_client : (o : Option ℕ) (l : CellKey) → option_map key.Session o ≡ Some l → object_of rank l ≡ Some (SessionMap rank)
  of_client None l e = absurd (none_some l e)
  of_client (Some n) l e = ap (object_of rank) (sym (some_same _ _ e))

  of_reply : (client tid : Option ℕ) (l : CellKey) → option_and_then (λ c. option_map (λ t. key.Done c t) tid) client ≡ Some l → object_of rank l ≡ Some (SessionMap rank)
  of_reply None tid l e = absurd (none_some l e)
  of_reply (Some c) None l e = absurd (none_some l e)
  of_reply (Some c) (Some t) l e = ap (object_of rank) (sym (some_same _ _ e))

  of_session : (a b : Bool) (s r : Option CellKey) (l : CellKey) → ((l : CellKey) → s ≡ Some l → object_of rank l ≡ Some (SessionMap rank)) → ((l : CellKey) → r ≡ Some l → object_of rank l ≡ Some (SessionMap rank))
      → (if a then s else if b then r else None) ≡ Some l → object_of rank l ≡ Some (SessionMap rank)
  of_session true b s r l f g e = f l e
  of_session false true s r l f g e = g l e
  of_session false false s r l f g e = absurd (none_some l e)

  pair_is : (name : ObjectName) → is_of_rank rank name ≡ true → (p : List ℕ × List ℕ) (w : CellWrite) → pair_cell name p ≡ Some w → IsOf name w
  pair_is (File dir zero) own p w e = cell_is (File dir 0) (option_map (key.Dentry dir) (name_in p.0)) (dentry_in p.1) w (named dir (name_in p.0)) e
  pair_is (File dir (suc i)) own p w e = absurd (none_some w e)
  pair_is (InoTable r) own p w e = absurd (none_some w e)
  pair_is (SessionMap r) own p w e = subst (λ n. IsOf (SessionMap n) w) (sym (eqb-true r rank own))
      (cell_is (SessionMap rank) (session_in p.0) (number_in p.1) w (λ l. of_session (length p.0 == 8) ((length p.0 == 25) && (slice_index p.0 8 == 46)) (option_map key.Session (hex_number p.0)) (reply_in p.0) l
      (of_client (hex_number p.0)) (of_reply (hex_number (take 8 p.0)) (hex_number (drop 9 p.0)))) e)

  head_is : (name : ObjectName) → is_of_rank rank name ≡ true → (h : List ℕ) (w : CellWrite) → head_cell name h ≡ Some w → IsOf name w
  head_is (File dir zero) own h w e = cell_is (File dir 0) (Some (key.DirHead dir)) (number_in h) w (λ l q. ap (object_of rank) (sym (some_same _ _ q))) e
  head_is (File dir (suc i)) own h w e = absurd (none_some w e)
  head_is (InoTable r) own h w e = subst (λ n. IsOf (InoTable n) w) (sym (eqb-true r rank own)) (cell_is (InoTable rank) (Some key.NextIno) (number_in h) w (λ l q. ap (object_of rank) (sym (some_same _ _ q))) e)
  head_is (SessionMap r) own h w e = absurd (none_some w e)

  all_cells : {A : Type 0} (name : ObjectName) (f : A → Option CellWrite) → ((x : A) (w : CellWrite) → f x ≡ Some w → IsOf name w) → (xs : List A) → AllByRecursion (IsOf name) (filter_map f xs)
  all_cells name f is [] = tt
  all_cells name f is (x ∷ xs) = elim (f x) as (λ o. f x ≡ o → AllByRecursion (IsOf name) (cons_option o (filter_map f xs))) [
    | None ↦ λ e. all_cells name f is xs
    | Some w ↦ λ e. (is x w e, all_cells name f is xs)
  ] refl

  both_all : (name : ObjectName) (xs ys : List CellWrite) → AllByRecursion (IsOf name) xs → AllByRecursion (IsOf name) ys → AllByRecursion (IsOf name) (xs ++ ys)
  both_all name [] ys h g = g
  both_all name (x ∷ xs) ys h g = (h.0, both_all name xs ys h.1 g)

  heads_all : (name : ObjectName) → is_of_rank rank name ≡ true → (h : Option (List ℕ)) → AllByRecursion (IsOf name) (head_cells name h)
  heads_all name own None = tt
  heads_all name own (Some h) = all_cells name (head_cell name) (head_is name own) (h ∷ [])

  object_all : (name : ObjectName) (o : Content) → is_of_rank rank name ≡ true → AllByRecursion (IsOf name) (object_cells name o)
  object_all name o own = both_all name _ _ (heads_all name own o.head) (all_cells name (pair_cell name) (pair_is name own) (entries o.pairs))

  skipped : (name : ObjectName) (k : CellKey) (v : CellValue) (ws : List CellWrite) → AllByRecursion (IsOf name) ws → (object_of rank k ≡ Some name → ⊥) → last_of k ws v ≡ v
  skipped name k v [] h other = refl
  skipped name k v (w ∷ ws) h other = elim (cases_key exact_key k w.key) [
    | inl e ↦ absurd (other (ap (object_of rank) e ∙ h.0))
    | inr e ↦ ap (λ b. last_of k ws (if b then shown w.key w.value else v)) e ∙ skipped name k v ws h.1 other
  ]

  foreign : (e : ObjectName × Content) (k : CellKey) (v : CellValue) → (object_of rank k ≡ Some e.0 → ⊥) → last_of k (rank_cells rank e) v ≡ v
  foreign e k v other = elim (is_of_rank rank e.0) as (λ b. is_of_rank rank e.0 ≡ b → last_of k (if b then object_cells e.0 e.1 else []) v ≡ v) [
    | true ↦ λ own. skipped e.0 k v (object_cells e.0 e.1) (object_all e.0 e.1 own) other
    | false ↦ λ own. refl
  ] refl

  -- ---- a key's cells among those of all objects

  abbrev found_cells : ObjectName → Option Content → List CellWrite
  found_cells name None = []
  found_cells name (Some o) = rank_cells rank (name, o)

  abbrev pub cells_in : List (ObjectName × Content) → Option ObjectName → List CellWrite
  cells_in es None = []
  cells_in es (Some name) = found_cells name (find name_cmp name es)

  none_in : (o : Option ObjectName) → cells_in [] o ≡ []
  none_in None = refl
  none_in (Some n) = refl

  step : (e : ObjectName × Content) (es : List (ObjectName × Content)) → find name_cmp e.0 es ≡ None → (k : CellKey) (v : CellValue)
      → last_of k (cells_in es (object_of rank k)) (last_of k (rank_cells rank e) v) ≡ last_of k (cells_in (e ∷ es) (object_of rank k)) v
  step e es fresh k v = elim (object_of rank k) as (λ o. object_of rank k ≡ o → last_of k (cells_in es o) (last_of k (rank_cells rank e) v) ≡ last_of k (cells_in (e ∷ es) o) v) [
    | None ↦ λ q. foreign e k v (λ p. none_some e.0 (sym q ∙ p))
    | Some n ↦ λ q. elim (eq_by_cmp name_cmp n e.0) as (λ b. eq_by_cmp name_cmp n e.0 ≡ b → last_of k (found_cells n (find name_cmp n es)) (last_of k (rank_cells rank e) v) ≡ last_of k (found_cells n (cond b (Some e.1) (find name_cmp n es))) v) [
      | true ↦ λ b.
          let same : n ≡ e.0 = eq_true exact_name n e.0 b in
          ap (λ o. last_of k (found_cells n o) (last_of k (rank_cells rank e) v)) (ap (λ m. find name_cmp m es) same ∙ fresh)
          ∙ ap (λ m. last_of k (rank_cells rank (m, e.1)) v) (sym same)
      | false ↦ λ b. ap (last_of k (found_cells n (find name_cmp n es))) (foreign e k v (λ p. apart exact_name n e.0 b (some_same _ _ (sym q ∙ p))))
    ] refl
  ] refl

  pub last_in : (es : List (ObjectName × Content)) → Distinct es → (k : CellKey) (v : CellValue) → last_of k (flat_map (rank_cells rank) es) v ≡ last_of k (cells_in es (object_of rank k)) v
  last_in [] d k v = sym (ap (λ ws. last_of k ws v) (none_in (object_of rank k)))
  last_in (e ∷ es) d k v = last-append k (rank_cells rank e) (flat_map (rank_cells rank) es) v ∙ last_in es d.1 k (last_of k (rank_cells rank e) v) ∙ step e es d.0 k v

  same_in : (es fs : List (ObjectName × Content)) → ((n : ObjectName) → find name_cmp n es ≡ find name_cmp n fs) → (o : Option ObjectName) → cells_in es o ≡ cells_in fs o
  same_in es fs is None = refl
  same_in es fs is (Some n) = ap (found_cells n) (is n)

  pub same_stored : (es fs : List (ObjectName × Content)) → Distinct es → Distinct fs → ((n : ObjectName) → find name_cmp n es ≡ find name_cmp n fs)
      → overlay no_cells (flat_map (rank_cells rank) es) ≡ overlay no_cells (flat_map (rank_cells rank) fs)
  same_stored es fs d e is = same_table _ _ (λ k.
      value_of-overlay no_cells (flat_map (rank_cells rank) es) k ∙ last_in es d k (value_of no_cells k) ∙ ap (λ ws. last_of k ws (value_of no_cells k)) (same_in es fs is (object_of rank k))
      ∙ sym (value_of-overlay no_cells (flat_map (rank_cells rank) fs) k ∙ last_in fs e k (value_of no_cells k)))

  -- ---- a list of objects

  listed_is : (h : HeldObject) → IsTrue (is_sorted bytes_cmp (pair_entries h.pairs)) → listed_cells rank h ≡ rank_cells rank (h.name, content_of h)
  listed_is h sorted = ap (λ ps. if is_of_rank rank h.name then head_cells h.name h.head ++ filter_map (pair_cell h.name) ps else []) (sym (entries-from_entries exact_bytes (pair_entries h.pairs) (from_true _ sorted)))

  all_is : (hs : List HeldObject) → IsTrue (list_all (λ (h : HeldObject). is_sorted bytes_cmp (pair_entries h.pairs)) hs) → all_listed rank hs ≡ flat_map (rank_cells rank) (object_entries hs)
  all_is [] s = refl
  all_is (h ∷ hs) s = λ i. listed_is h (first _ _ s) i ++ all_is hs (second _ _ s) i

  pub stored_is : (hs : List HeldObject) → AreHeld hs → overlay no_cells (all_listed rank hs) ≡ stored_table rank (objects_of hs)
  unfolding stored_table
  stored_is hs held =
      ap (overlay no_cells) (all_is hs (second _ _ held))
      ∙ same_stored (object_entries hs) (entries (objects_of hs)) (distinct_apart hs (first _ _ held)) (distinct_sorted _ (entries_sorted (objects_of hs)))
      (λ n. sym (get-from_entries exact_name (object_entries hs) n) ∙ get-entries (objects_of hs) n)

module _ (rank : ℕ) (m : Objects) where
  look : (k : CellKey) (name : ObjectName) → is_of_rank rank name ≡ true → last_of k (cells_in rank (entries m) (Some name)) value.Gone ≡ among k name (get m name)
  look k name own = ap (λ o. last_of k (found_cells rank name o) value.Gone) (sym (get-entries m name))
      ∙ elim (get m name) as (λ o. last_of k (found_cells rank name o) value.Gone ≡ among k name o) [
        | None ↦ refl
        | Some o ↦ ap (λ b. last_of k (if b then object_cells name o else []) value.Gone) own
      ]

  look_at : (k : CellKey) → last_of k (cells_in rank (entries m) (object_of rank k)) value.Gone ≡ stored_cell (get m) rank k
  look_at (key.Dentry d n) = look (key.Dentry d n) (File d 0) refl
  look_at (key.DirHead d) = look (key.DirHead d) (File d 0) refl
  look_at key.NextIno = look key.NextIno (InoTable rank) (nat_eq_equiv.refl rank)
  look_at (key.Session c) = look (key.Session c) (SessionMap rank) (nat_eq_equiv.refl rank)
  look_at (key.Done c t) = look (key.Done c t) (SessionMap rank) (nat_eq_equiv.refl rank)
  look_at (key.OpenOf c i) = refl

  -- what is stored at a key is what its object holds there
  pub stored_look : (k : CellKey) → value_of (stored_table rank m) k ≡ stored_cell (get m) rank k
  unfolding stored_table
  stored_look k = value_of-overlay no_cells (flat_map (rank_cells rank) (entries m)) k ∙ last_in rank (entries m) (distinct_sorted _ (entries_sorted m)) k (value_of no_cells k)
      ∙ ap (last_of k (cells_in rank (entries m) (object_of rank k))) (value_of-no_cells k) ∙ look_at k

  -- for each key the last write in the journal, and else what is stored
  pub merged_look : (events : List LiveEvent) (k : CellKey) → value_of (merged_table rank m events) k ≡ last_of k (journal_writes events) (stored_cell (get m) rank k)
  merged_look events k = value_of-overlay (stored_table rank m) (journal_writes events) k ∙ ap (last_of k (journal_writes events)) (stored_look k)
