-- A formatted store recovers to the tree of a new rank, and a script may begin with it.
use Rattle.std.proofs.Common.{◌≡◌, ℕ, ◌+◌, ◌^◌, ◌<◌, ◌≤◌, true, false, cond, ◌==◌, List, [], ◌∷◌, Option, Some, None, Ok, refl, sym, ap, subst, ◌∙◌, arith}
use Rattle.std.specs.Prelude.{nat_lt, nat_le}
use Rattle.std.specs.Option.{option_map}
use Rattle.std.specs.Cmp.{nat_eq_equiv}
use Rattle.std.specs.List.{AllByRecursion, cons_option}
use Rattle.std.proofs.lemmas.List.{append-nil}
use Rattle.std.proofs.lemmas.Bool.{ne_eqb, le-ltb, le-leb, lt-ltb, and_from}
use Rattle.mj_base.specs.Reading.{Read, ◌>>=◌, eight}
use Rattle.mj_base.specs.ObjectName.{journal_ino, stray_ino, first_ino}
use Rattle.mj_base.specs.declared.object.ObjectName.{ObjectName}
use Rattle.mj_base.specs.declared.object.ObjectName.TheVariants.{File, InoTable, SessionMap}
use Rattle.mj_base.specs.declared.damage.Damage.TheVariants as damage
use Rattle.mj_base.proofs.Codec.{u64_codec}
use Rattle.mj_maps.specs.Map.{Map, entries, get, insert, empty, len, collect}
use Rattle.mj_maps.specs.Orders.{nat_cmp}
use Rattle.mj_maps.proofs.MapLaws.{exact_nat, none_some, some_same, eq_true, insert_same, insert_other, eq_false}
use Rattle.mj_store.specs.Object.{Content, Contents, same_name}
use Rattle.mj_store.specs.declared.held.HeldObject.{HeldObject}
use Rattle.mj_layout.specs.Striping.{Striping, IsStriping, period}
use Rattle.mj_layout.specs.Place.{object_of, offset_of}
use Rattle.mj_layout.specs.Header.{IsHeader, header_bytes}
use Rattle.mj_layout.proofs.HeaderLaw.{header_back}
use Rattle.mj_layout.proofs.Striped.{sizes}
use Rattle.mj_layout.proofs.Placed.{placing}
use Rattle.mj_entry.specs.Entry.{entry_at}
use Rattle.mj_entry.specs.Entry.EntryCase.{Part}
use Rattle.mj_tree.specs.State.{root, new_state}
use Rattle.mj_cells.specs.declared.cell.CellKey.TheVariants as key
use Rattle.mj_cells.specs.declared.cell.CellValue.{CellValue}
use Rattle.mj_cells.specs.declared.cell.CellValue.TheVariants as value
use Rattle.mj_cells.specs.declared.cell.CellWrite.{CellWrite}
use Rattle.mj_cells.specs.Table.{Table, no_cells, overlay}
use Rattle.mj_event.specs.Writes.{write}
use Rattle.mj_recovery.specs.Stream.{byte_in, byte_at, journal_object, stream}
use Rattle.mj_recovery.specs.Objects.{Holds, content_of, objects_of, AreHeld}
use Rattle.mj_recovery.specs.Listed.{found, image_of, all_listed}
use Rattle.mj_recovery.specs.ListedObjects.{listed_bad_table, listed_bad_dirfrag}
use Rattle.mj_recovery.specs.Stored.{cell, number_in, entire, object_cells, bad_key}
use Rattle.mj_recovery.specs.Journal.{entries_in, nothing_at, header_in, of_format, live_header, live_entries, live_journal}
use Rattle.mj_recovery.specs.Tree.{reachable, holding, tree_of}
use Rattle.mj_recovery.specs.Damage.{first_some, least, headless, out_of_range, over_limit, tree_damage}
use Rattle.mj_recovery.specs.Recovered.{bad_table, bad_dirfrag, merged_table, merged_damage, merged_with, gathered, recovered}
use Rattle.mj_recovery.specs.Orderly.{HasHighInode, HasNoZeroHead, IsOrderly, HasRecoveredTree}
use Rattle.mj_recovery.specs.Formatted.{keyless, formatted_header, formatted_objects, formatted_recovery}
use Rattle.mj_recovery.proofs.Probing.{stream_ends}
use Rattle.mj_recovery.proofs.Steps.{journal_ok}
use Rattle.mj_recovery.proofs.Bools.{second}
use Rattle.mj_recovery.proofs.BadObjects.{table_is, dirfrag_is}
use Rattle.mj_recovery.proofs.Stores.{exact_name, name_ties, stored_is, image_is}
use Rattle.mj_recovery.proofs.Wholly.{recovered_ok}

number_again : (n : ℕ) → n < 2 ^ 64 → number_in (eight n) ≡ Some (value.Number n)
number_again n lt = ap number_in (sym (append-nil (eight n))) ∙ ap (λ (r : Read ℕ). option_map value.Number (entire r)) (u64_codec.again n [] lt)

itself : (n : ℕ) → (n == n) ≡ true
itself n = nat_eq_equiv.refl n

module _ (rank : ℕ) (small : rank ≤ 15) where
  -- ---- names apart

  root_stray : (root == stray_ino rank) ≡ false
  root_stray = ne_eqb root (stray_ino rank) (λ e. omega arith)

  stray_root : (stray_ino rank == root) ≡ false
  stray_root = ne_eqb (stray_ino rank) root (λ e. omega arith)

  root_journal : (root == journal_ino rank) ≡ false
  root_journal = ne_eqb root (journal_ino rank) (λ e. omega arith)

  journal_root : (journal_ino rank == root) ≡ false
  journal_root = ne_eqb (journal_ino rank) root (λ e. omega arith)

  stray_journal : (stray_ino rank == journal_ino rank) ≡ false
  stray_journal = ne_eqb (stray_ino rank) (journal_ino rank) (λ e. omega arith)

  journal_stray : (journal_ino rank == stray_ino rank) ≡ false
  journal_stray = ne_eqb (journal_ino rank) (stray_ino rank) (λ e. omega arith)

  first_fits : first_ino rank < 2 ^ 64
  first_fits = omega arith

  first_again : number_in (eight (first_ino rank)) ≡ Some (value.Number (first_ino rank))
  first_again = number_again (first_ino rank) first_fits

  -- ---- the cells

  abbrev cells : List CellWrite
  cells = write (key.DirHead root) (value.Number 1) ∷ write (key.DirHead (stray_ino rank)) (value.Number 1) ∷ write key.NextIno (value.Number (first_ino rank)) ∷ []

  abbrev heads : Map nat_cmp ℕ
  heads = insert (insert empty root 1) (stray_ino rank) 1

  abbrev table : Table
  table = record { dentries = empty; heads = heads; next = Some (first_ino rank); sessions = empty; done = empty; opens = empty }

  overlaid : overlay no_cells cells ≡ table
  unfolding no_cells
  overlaid = refl

  stray_head : get heads (stray_ino rank) ≡ Some 1
  stray_head = insert_same exact_nat (insert empty root 1) (stray_ino rank) 1

  root_head : get heads root ≡ Some 1
  root_head = insert_other exact_nat (insert empty root 1) (stray_ino rank) 1 root (eq_false exact_nat root (stray_ino rank) (λ e. omega arith)) ∙ insert_same exact_nat empty root 1

  -- ---- the tree

  root_alone : reachable table ≡ root ∷ []
  unfolding reachable entries empty
  root_alone = refl

  planted : tree_of rank table ≡ new_state rank
  unfolding tree_of entries empty collect
  planted = refl

  -- ---- no damage of the table

  no_head_missing : option_map damage.DirfragMissing (least (headless (get heads) (holding rank table))) ≡ None
  no_head_missing = ap (λ ds. option_map damage.DirfragMissing (least (headless (get heads) (stray_ino rank ∷ ds)))) root_alone ∙ rw (stray_head, root_head) refl

  next_is_first : nat_lt (first_ino rank) (first_ino rank) ≡ false
  next_is_first = le-ltb (first_ino rank) (first_ino rank) (omega arith)

  within_limits : over_limit (tree_of rank table) (reachable table) ≡ None
  unfolding entries empty len
  within_limits = (λ i. over_limit (planted i) (root_alone i)) ∙ refl

  no_bad_next : out_of_range rank (first_ino rank) [] [] [] ≡ []
  no_bad_next = rw next_is_first refl

  undamaged : tree_damage rank table [] ≡ None
  unfolding tree_damage entries empty
  undamaged = λ i. first_some (
      no_head_missing i
      ∷ None
      ∷ None
      ∷ None
      ∷ option_map damage.BadNext (least (no_bad_next i))
      ∷ None
      ∷ None
      ∷ option_map damage.OverLimit (within_limits i)
      ∷ [])

-- ---- the journal

nothing_read : (at : ℕ) → entry_at [] at ≡ Part
unfolding entry_at
nothing_read at = refl

no_entries : (at : ℕ) → entries_in 1 [] at at ≡ Ok (nothing_at at)
unfolding entries_in
no_entries at = let same : nat_lt at at ≡ false = le-ltb at at (omega arith) in rw (nothing_read at, same) refl

live_nothing : (at : ℕ) → live_entries [] at at ≡ Ok (nothing_at at)
live_nothing at = let no_hole : nat_lt (at + 0) at ≡ false = le-ltb (at + 0) at (omega arith) in rw (no_hole, no_entries at) refl

module _ (rank : ℕ) (small : rank ≤ 15) (layout : Striping) (sound : IsStriping layout) where
  abbrev objects : List HeldObject
  objects = formatted_objects rank layout

  pub held : AreHeld objects
  unfolding formatted_objects
  held = rw (root_stray rank small, root_journal rank small, stray_journal rank small) refl

  journal_there : found (journal_object rank 0) objects ≡ Some (keyless (journal_object rank 0) (header_bytes (formatted_header layout)) None)
  unfolding formatted_objects
  journal_there = rw (journal_root rank small, journal_stray rank small, itself (journal_ino rank)) refl

  none_later : (n : ℕ) → 1 ≤ n → found (journal_object rank n) objects ≡ None
  unfolding formatted_objects
  none_later n le = let later : (n == 0) ≡ false = ne_eqb n 0 (λ e. omega arith) in rw (journal_root rank small, journal_stray rank small, itself (journal_ino rank), later) refl

  header_sound : IsHeader (formatted_header layout)
  header_sound =
      let z = sizes layout sound in
      let p = period layout in
      let same : nat_le p p ≡ true = le-leb p p (omega arith) in
      record {
        layout = sound;
        format = omega arith;
        epoch = omega arith;
        order = and_from _ _ (and_from _ _ (and_from _ _ same same) same) (lt-ltb p (2 ^ 62) (omega (arith, z.period_most)));
      }

  header_there : live_header (image_of objects) rank ≡ Ok (formatted_header layout)
  header_there = ap (λ o. header_in (option_map content_of o)) journal_there ∙ ap of_format (header_back (formatted_header layout) header_sound)

  nothing_there : stream (image_of objects) rank layout (period layout) ≡ []
  unfolding byte_at
  nothing_there =
      let z = sizes layout sound in
      let p = placing layout sound in
      stream_ends (image_of objects) rank layout (period layout) (omega (arith, z.period_most))
      (ap (λ o. byte_in (offset_of layout (period layout)) (option_map content_of o)) (none_later (object_of layout (period layout)) (p.first (period layout) (omega arith))))

  journal_read : live_journal (get (objects_of objects)) rank ≡ Ok (formatted_recovery rank layout).journal
  journal_read = ap (λ image. live_journal image rank) (sym (image_is objects))
      ∙ journal_ok (image_of objects) rank (formatted_header layout) [] (nothing_at (period layout)) header_there (sym nothing_there) (live_nothing (period layout))

  -- ---- the cells and their damage

  listed : all_listed rank objects ≡ cells rank small
  unfolding formatted_objects
  listed = rw (itself rank) (ap (λ (o : Option CellValue). write (key.DirHead root) (value.Number 1) ∷ write (key.DirHead (stray_ino rank)) (value.Number 1) ∷ cons_option (cell (Some key.NextIno) o) []) (first_again rank small))

  stored : merged_table rank (objects_of objects) [] ≡ table rank small
  stored = sym (stored_is rank objects held) ∙ ap (overlay no_cells) listed ∙ overlaid rank small

  listed_tables : listed_bad_table rank objects ≡ None
  unfolding formatted_objects
  listed_tables = rw (itself rank) refl

  listed_dirs : listed_bad_dirfrag objects (stray_ino rank ∷ root ∷ []) ≡ None
  unfolding formatted_objects
  listed_dirs = rw (stray_root rank small, itself (stray_ino rank)) refl

  no_damage : merged_damage rank (objects_of objects) (formatted_recovery rank layout).journal (table rank small) ≡ None
  no_damage =
      let sorted = second _ _ held in
      let tables : bad_table (get (objects_of objects)) rank ≡ None = sym (table_is objects sorted rank) ∙ listed_tables in
      let dirs : bad_dirfrag (get (objects_of objects)) (holding rank (table rank small)) ≡ None =
      ap (λ ds. bad_dirfrag (get (objects_of objects)) (stray_ino rank ∷ ds)) (root_alone rank small) ∙ sym (dirfrag_is objects sorted (stray_ino rank ∷ root ∷ [])) ∙ listed_dirs in
      λ i. first_some (tables i ∷ dirs i ∷ undamaged rank small i ∷ [])

  tree_is : tree_of rank (merged_table rank (objects_of objects) []) ≡ new_state rank
  tree_is = ap (tree_of rank) stored ∙ planted rank small

  gathered_is : gathered rank (objects_of objects) ≡ Ok (formatted_recovery rank layout)
  gathered_is = ap (λ r. r >>= λ j. Ok (merged_with rank (objects_of objects) j)) journal_read
      ∙ (λ i. Ok (record { journal = (formatted_recovery rank layout).journal; table = merged_table rank (objects_of objects) []; tree = tree_is i }))

  recovered_is : recovered rank (objects_of objects) ≡ Ok (formatted_recovery rank layout)
  recovered_is = recovered_ok rank (objects_of objects) (formatted_recovery rank layout) gathered_is
      (sym (ap (merged_damage rank (objects_of objects) (formatted_recovery rank layout).journal) stored ∙ no_damage))

  -- ---- each object

  -- an object that a script may begin with
  record Fine (h : HeldObject) : Type 0 where
    inside : bad_key h.name (content_of h) ≡ None
    inodes : AllByRecursion (HasHighInode rank) (object_cells h.name (content_of h))
    versions : AllByRecursion HasNoZeroHead (object_cells h.name (content_of h))
    low : (d : ℕ) → h.name ≡ File d 0 → d < first_ino rank

  dir_fine : (d : ℕ) → d < first_ino rank → Fine (keyless (File d 0) [] (Some (eight 1)))
  unfolding entries empty
  dir_fine d lt = record { inside = refl; inodes = (tt, tt); versions = (λ e. omega arith, tt); low = λ e is. let same : d ≡ e = cc in omega arith }

  inodes_fine : Fine (keyless (InoTable rank) [] (Some (eight (first_ino rank))))
  unfolding entries empty
  inodes_fine = record { inside = refl; inodes = (tt, tt); versions = (tt, tt); low = λ e is. absurd cc }

  sessions_fine : Fine (keyless (SessionMap rank) [] None)
  unfolding entries empty
  sessions_fine = record { inside = refl; inodes = tt; versions = tt; low = λ e is. absurd cc }

  header_fine : (bytes : List ℕ) → Fine (keyless (journal_object rank 0) bytes None)
  unfolding entries empty
  header_fine bytes = record { inside = refl; inodes = tt; versions = tt; low = λ e is. let same : journal_ino rank ≡ e = cc in omega arith }

  all_fine : AllByRecursion Fine objects
  unfolding formatted_objects
  all_fine = (dir_fine root (omega arith), (dir_fine (stray_ino rank) (omega arith), (inodes_fine, (sessions_fine, (header_fine (header_bytes (formatted_header layout)), tt)))))

  found_fine : (hs : List HeldObject) → AllByRecursion Fine hs → (name : ObjectName) (h : HeldObject) → found name hs ≡ Some h → (name ≡ h.name) × Fine h
  found_fine [] all name h e = absurd (none_some h e)
  found_fine (g ∷ hs) all name h e = elim (same_name name g.name) as (λ b. same_name name g.name ≡ b → cond b (Some g) (found name hs) ≡ Some h → (name ≡ h.name) × Fine h) [
    | true ↦ λ t q. let same : g ≡ h = some_same g h q in (eq_true exact_name name g.name (sym (name_ties name g.name) ∙ t) ∙ ap (λ (x : HeldObject). x.name) same, subst Fine same all.0)
    | false ↦ λ t q. found_fine hs all.1 name h q
  ] refl e

  module _ (image : Contents) (holds : Holds image (objects_of objects)) where
    -- a held object, as the image has it
    record Shown (name : ObjectName) (o : Content) : Type 0 where
      object : HeldObject
      named : name ≡ object.name
      fine : Fine object
      same : content_of object ≡ o

    image_at : (name : ObjectName) → image_of objects name ≡ image name
    image_at name = ap (λ (f : Contents). f name) (image_is objects) ∙ holds name

    shown_in : (name : ObjectName) (o : Content) (f : Option HeldObject) → found name objects ≡ f → option_map content_of f ≡ Some o → Shown name o
    shown_in name o None e is = absurd (none_some o is)
    shown_in name o (Some h) e is = let g = found_fine objects all_fine name h e in record { object = h; named = g.0; fine = g.1; same = some_same (content_of h) o is }

    shown : (name : ObjectName) (o : Content) → image name ≡ Some o → Shown name o
    shown name o e = shown_in name o (found name objects) refl (image_at name ∙ e)

    orderly : IsOrderly rank image [] (first_ino rank)
    orderly = record {
      lumps = tt;
      live_inodes = tt;
      stored_inodes = λ name o e. let s = shown name o e in subst (λ c. AllByRecursion (HasHighInode rank) (object_cells name c)) s.same (subst (λ n. AllByRecursion (HasHighInode rank) (object_cells n (content_of s.object))) (sym s.named) s.fine.inodes);
      inside = λ d o own e. let s = shown (File d 0) o e in (λ i. bad_key (s.named i) (sym s.same i)) ∙ s.fine.inside;
      given = λ d o high e. let s = shown (File d 0) o e in s.fine.low d (sym s.named);
      stray_names = tt;
      live_heads = tt;
      stored_heads = λ name o e. let s = shown name o e in subst (λ c. AllByRecursion HasNoZeroHead (object_cells name c)) s.same (subst (λ n. AllByRecursion HasNoZeroHead (object_cells n (content_of s.object))) (sym s.named) s.fine.versions);
      made = tt;
    }

    pub formatted_is : HasRecoveredTree rank image (formatted_recovery rank layout)
    formatted_is =
        let z = sizes layout sound in
        record {
          recovers = record { objects = objects_of objects; holds = holds; recovers = recovered_is };
          tail = omega (arith, z.period_most);
          clear = λ index o lt e. absurd (none_some o (sym (ap (option_map content_of) (none_later index (omega arith))) ∙ image_at (journal_object rank index) ∙ e));
          next = omega arith;
          orderly = orderly;
        }
