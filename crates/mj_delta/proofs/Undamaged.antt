-- A table without damage has a tree, where each cell has a spelling and each directory with a cell is the rank's own.
use Rattle.std.proofs.Common.{◌≡◌, ℕ, ◌+◌, ◌<◌, ◌≤◌, ◌^◌, Bool, true, false, cond, List, [], ◌∷◌, length, map, Option, Some, None, refl, sym, ap, subst, ◌∙◌, ◌⊎◌, inl, inr, arith}
use Rattle.std.specs.Prelude.{◌==◌, nat_eq, IsSome, unwrap_or, if◌then◌else◌}
use Rattle.std.specs.Option.{option_and_then, option_map_or}
use Rattle.std.specs.List.{filter_map}
use Rattle.std.proofs.lemmas.Bool.{false≢true, cases_Bool, eqb-true, eq-eqb, or_cases, or_left, or_right, lt-ltb, ltb-true}
use Rattle.mj_base.specs.ObjectName.{hex, stray_ino, first_ino}
use Rattle.mj_base.specs.Record.{same_kind}
use Rattle.mj_base.specs.declared.record.Kind.{Kind}
use Rattle.mj_base.specs.declared.record.Kind.TheVariants.{Dir, File, Symlink}
use Rattle.mj_base.specs.declared.record.InodeRecord.{InodeRecord}
use Rattle.mj_maps.specs.Map.{Map, entries, entries_sorted, get, remove, len, from_entries}
use Rattle.mj_maps.specs.Orders.{nat_cmp, pair_cmp}
use Rattle.mj_maps.proofs.MapLaws.{exact_nat, exact_place, exact_pair, none_some, some_same, cases_key, remove_other, count-remove, count_some, count_cases, count_none, get-collect, get-entries, get-from_entries, len-from_entries}
use Rattle.mj_tree.specs.declared.change.Attributes.{Attributes}
use Rattle.mj_tree.specs.State.{PlainState, Session, root, is_dir, is_kind, is_kept, link_count, open_count, entry_count, attributes_of}
use Rattle.mj_tree.specs.Sessions.{oldest_of}
use Rattle.mj_tree.specs.Row.{most_entries}
use Rattle.mj_tree.specs.Answer.{most_kept}
use Rattle.mj_cells.specs.Table.{Dentry, Table}
use Rattle.mj_cells.specs.Table.Dentry.{Full, Remote}
use Rattle.mj_recovery.specs.Tree.{Entry, ino_of, subdir, is_among, reachable, holding, full_record, full_records, primaries, IsReachable, reply_of, session_in, link_in, record_in, bare_tree, tree_of}
use Rattle.mj_recovery.specs.Tree.IsReachable.{at_root as top, below as under}
use Rattle.mj_recovery.specs.Damage.{replies, tree_damage, cell_dirs}
use Rattle.mj_recovery.specs.Orderly.{IsOwn}
use Rattle.mj_recovery.proofs.Reaching.{reached_sound, reached_complete}
use Rattle.mj_delta.specs.Reads.{Places, names, full_of, said_by, stored_links, remote_of, cell_of, kind_of, is_held}
use Rattle.mj_delta.specs.TreeOf.{IsReached, HasDentries, HasSessions, IsTreeOf}
use Rattle.mj_delta.specs.TreeOf.IsReached.{at_root, below}
use Rattle.mj_delta.specs.Cells.{next_of, HasSpelling, HasOwnCells}
use Rattle.mj_delta.proofs.Facts.{ids, cases_option, cond_same, cond_is, some_is, is_some_at, full_cell, named_cases, kind_record}
use Rattle.mj_delta.proofs.OneTree.{same_bool, subdir_full, full_subdir}
use Rattle.mj_delta.proofs.Lists.{Lies, in_map, to_map, in_filter_map, to_filter_map, entry_at, at_entry, found_in, found_some, passing_option}
use Rattle.mj_delta.proofs.Plans.{to_left, to_right}
use Rattle.mj_delta.proofs.TreeIs.{full_entry, entry_full, same_find}
use Rattle.mj_delta.proofs.Sound.{times_passing, replies_passing, sorted_in}
use Rattle.mj_delta.proofs.NoRows.{head_there, stands_once, full_of_remote, links_counted, next_high, full_given, lump_own, stray_named, open_good, reply_good, few_in, few_records, few_clients, few_held}

-- the place of a full dentry in these directories, by its inode
abbrev full_place_of : List ℕ → Entry → Option (ℕ × (ℕ × List ℕ))
full_place_of dirs e = option_and_then (λ (r : InodeRecord). Some (r.ino, e.0)) (full_record dirs e)

module _ (rank : ℕ) (t : Table) (lumps : List ℕ) (none : tree_damage rank t lumps ≡ None) (own : HasOwnCells rank t) where
  abbrev s : PlainState
  s = tree_of rank t

  abbrev es : List Entry
  es = entries t.dentries

  abbrev dirs : List ℕ
  dirs = holding rank t

  abbrev all_rs : List InodeRecord
  all_rs = full_records dirs es

  abbrev place_list : List (ℕ × (ℕ × List ℕ))
  place_list = filter_map (full_place_of dirs) es

  abbrev places : Places
  places = from_entries place_list

  -- ---- full dentries

  full_lies : (q : ℕ × List ℕ) (v : ℕ) (r : InodeRecord) → is_among dirs q.0 ≡ true → get t.dentries q ≡ Some (Full v r) → Lies r all_rs
  full_lies q v r h e = to_filter_map (full_record dirs) es (q, Full v r) r (at_entry exact_place t.dentries q (Full v r) e) (entry_full dirs q v r h)

  abbrev is_of : ℕ → Entry → Bool
  is_of i e = option_map_or (λ (r : InodeRecord). i == r.ino) (full_record dirs e) false

  is_of_full : (q : ℕ × List ℕ) (v : ℕ) (r : InodeRecord) (i : ℕ) → is_among dirs q.0 ≡ true → r.ino ≡ i → is_of i (q, Full v r) ≡ true
  is_of_full q v r i h same = ap (λ o. option_map_or (λ (r : InodeRecord). i == r.ino) o false) (entry_full dirs q v r h) ∙ eq-eqb i r.ino (sym same)

  -- no two are of one inode
  one_place : (p q : ℕ × List ℕ) (v w : ℕ) (x y : InodeRecord) → is_among dirs p.0 ≡ true → is_among dirs q.0 ≡ true → get t.dentries p ≡ Some (Full v x) → get t.dentries q ≡ Some (Full w y) → x.ino ≡ y.ino → p ≡ q
  one_place p q v w x y hp hq ep eq same = elim (cases_key exact_place q p) [
    | inl e ↦ sym e
    | inr ne ↦
        let once = stands_once rank t lumps none y (full_lies q w y hq eq) in
        let all = times_passing y.ino all_rs ∙ passing_option (full_record dirs) (λ (r : InodeRecord). y.ino == r.ino) es in
        let less = count-remove exact_place (is_of y.ino) t.dentries p (Full v x) ep in
        let first : cond (is_of y.ino (p, Full v x)) 1 0 ≡ 1 = ap (λ b. cond {A = ℕ} b 1 0) (is_of_full p v x y.ino hp same) in
        let second = count_some exact_place (is_of y.ino) (remove t.dentries p) q (Full w y) (remove_other exact_place t.dentries p q ne ∙ eq) (is_of_full q w y y.ino hq refl) in
        absurd (omega (arith, once, all, less, first, second))
  ]

  place_parts : (i : ℕ) (q : ℕ × List ℕ) → Lies (i, q) place_list → (is_among dirs q.0 ≡ true) × (v : ℕ) × (r : InodeRecord) × (get t.dentries q ≡ Some (Full v r)) × (r.ino ≡ i)
  place_parts i q l =
      let x = in_filter_map (full_place_of dirs) es (i, q) l in
      let e = x.0 in
      elim (cases_option (full_record dirs e)) [
        | inl none ↦ absurd (none_some (i, q) (ap (option_and_then (λ (r : InodeRecord). Some (r.ino, e.0))) (sym none) ∙ x.2))
        | inr u ↦
            let pair = some_same (u.0.ino, e.0) (i, q) (ap (option_and_then (λ (r : InodeRecord). Some (r.ino, e.0))) (sym u.1) ∙ x.2) in
            let f = full_entry dirs e.0 e.1 u.0 u.1 in
            let at : e.0 ≡ q = ap (λ (p : ℕ × (ℕ × List ℕ)). p.1) pair in
            (ap (λ (q : ℕ × List ℕ). is_among dirs q.0) (sym at) ∙ f.0, f.1.0, u.0, ap (get t.dentries) (sym at) ∙ entry_at exact_place t.dentries e x.1 ∙ ap Some f.1.1, ap (λ (p : ℕ × (ℕ × List ℕ)). p.0) pair)
      ]

  place_is : (i : ℕ) (q : ℕ × List ℕ) → get places i ≡ Some q → (is_among dirs q.0 ≡ true) × (v : ℕ) × (r : InodeRecord) × (get t.dentries q ≡ Some (Full v r)) × (r.ino ≡ i)
  place_is i q e = place_parts i q (found_in exact_nat place_list i q (sym (get-from_entries exact_nat place_list i) ∙ e))

  is_place : (i : ℕ) (q : ℕ × List ℕ) (v : ℕ) (r : InodeRecord) → is_among dirs q.0 ≡ true → get t.dentries q ≡ Some (Full v r) → r.ino ≡ i → get places i ≡ Some q
  is_place i q v r h e same =
      let l : Lies (i, q) place_list = to_filter_map (full_place_of dirs) es (q, Full v r) (i, q) (at_entry exact_place t.dentries q (Full v r) e) (ap (option_and_then (λ (r : InodeRecord). Some (r.ino, q))) (entry_full dirs q v r h) ∙ ap (λ i. Some (i, q)) same) in
      let w = found_some exact_nat place_list i q l in
      let x = place_parts i w.0 (found_in exact_nat place_list i w.0 w.1) in
      get-from_entries exact_nat place_list i ∙ w.1 ∙ ap Some (one_place w.0 q x.1 v x.2 r x.0 h x.3 e (x.4 ∙ sym same))

  -- ---- the state that is computed

  links_at : (q : ℕ × List ℕ) → get s.links q ≡ cond (is_among (reachable t) q.0) (names (get t.dentries q)) None
  unfolding tree_of
  links_at q = get-collect exact_place (link_in (reachable t)) t.dentries q ∙ link_is (get t.dentries q)
    where
      link_is : (o : Option Dentry) → option_and_then (link_in (reachable t) q) o ≡ cond (is_among (reachable t) q.0) (names o) None
      link_is None = sym (cond_same (is_among (reachable t) q.0) None)
      link_is (Some d) = refl

  opens_are : s.opens ≡ t.opens
  unfolding tree_of
  opens_are = refl

  next_is : s.next ≡ next_of t
  unfolding tree_of
  next_is = refl

  records_at : (i : ℕ) → get s.records i ≡ option_and_then (λ (r : InodeRecord). if is_kept s i then Some (attributes_of r) else None) (get (primaries dirs es) i)
  unfolding tree_of
  records_at i = get-collect exact_nat (record_in (bare_tree t)) (primaries dirs es) i

  session_at : (client : ℕ) → get s.sessions client ≡ option_and_then (session_in (entries t.done) client) (get t.sessions client)
  unfolding tree_of
  session_at client = get-collect exact_nat (session_in (entries t.done)) t.sessions client

  abbrev keyed : InodeRecord → ℕ × InodeRecord
  keyed r = (r.ino, r)

  primary_lies : (i : ℕ) (r : InodeRecord) → get (primaries dirs es) i ≡ Some r → Lies r all_rs × (r.ino ≡ i)
  primary_lies i r e =
      let back = in_map keyed all_rs (i, r) (found_in exact_nat (map keyed all_rs) i r (sym (get-from_entries exact_nat (map keyed all_rs) i) ∙ e)) in
      let same : back.0 ≡ r = ap (λ (x : ℕ × InodeRecord). x.1) back.2 in
      (subst (λ x. Lies x all_rs) same back.1, ap (λ (x : InodeRecord). x.ino) (sym same) ∙ ap (λ (x : ℕ × InodeRecord). x.0) back.2)

  lies_full : (r : InodeRecord) → Lies r all_rs → (q : ℕ × List ℕ) × (v : ℕ) × (is_among dirs q.0 ≡ true) × (get t.dentries q ≡ Some (Full v r))
  lies_full r l =
      let w = in_filter_map (full_record dirs) es r l in
      let f = full_entry dirs w.0.0 w.0.1 r w.2 in
      (w.0.0, f.1.0, f.0, entry_at exact_place t.dentries w.0 w.1 ∙ ap Some f.1.1)

  -- the record of the full dentry at the place of an inode
  primary_at : (i : ℕ) (q : ℕ × List ℕ) (v : ℕ) (r : InodeRecord) → is_among dirs q.0 ≡ true → get t.dentries q ≡ Some (Full v r) → r.ino ≡ i → get (primaries dirs es) i ≡ Some r
  primary_at i q v r h e same =
      let lies : Lies (i, r) (map keyed all_rs) = subst (λ (j : ℕ). Lies (j, r) (map keyed all_rs)) same (to_map keyed all_rs r (full_lies q v r h e)) in
      let w = found_some exact_nat (map keyed all_rs) i r lies in
      let there = get-from_entries exact_nat (map keyed all_rs) i ∙ w.1 in
      let x = primary_lies i w.0 there in
      let f = lies_full w.0 x.0 in
      let at = one_place f.0 q f.1 v w.0 r f.2 h f.3 e (x.1 ∙ sym same) in
      there ∙ ap Some (one_full (some_same (Full f.1 w.0) (Full v r) (sym f.3 ∙ ap (get t.dentries) at ∙ e)))
    where
      one_full : {a b : ℕ} {x y : InodeRecord} → Full a x ≡ Full b y → x ≡ y
      one_full f = cc

  records_are : (i : ℕ) → get s.records i ≡ cond (is_kept s i) (said_by (cell_of t places i)) None
  records_are i = records_at i ∙ elim (cases_option (get places i)) [
    | inr w ↦
        let x = place_is i w.0 w.1 in
        ap (option_and_then (λ (r : InodeRecord). if is_kept s i then Some (attributes_of r) else None)) (primary_at i w.0 x.1 x.2 x.0 x.3 x.4)
        ∙ sym (ap (λ o. cond (is_kept s i) (said_by o) None) (ap (option_and_then (get t.dentries)) w.1 ∙ x.3))
    | inl none ↦ elim (cases_option (get (primaries dirs es) i)) [
      | inl e ↦ ap (option_and_then (λ (r : InodeRecord). if is_kept s i then Some (attributes_of r) else None)) e
          ∙ sym (ap (λ o. cond (is_kept s i) (said_by (option_and_then (get t.dentries) o)) None) none ∙ cond_same (is_kept s i) None)
      | inr w ↦
          let x = primary_lies i w.0 w.1 in
          let f = lies_full w.0 x.0 in
          absurd (none_some f.0 (sym none ∙ is_place i f.0 f.1 w.0 f.2 f.3 x.1))
    ]
  ]

  -- ---- directories

  abbrev reach : ℕ → Bool
  reach d = is_among (reachable t) d

  in_holding : (d : ℕ) → reach d ≡ true → is_among dirs d ≡ true
  in_holding d h = or_right (nat_eq (stray_ino rank) d) (reach d) h

  holding_cases : (d : ℕ) → is_among dirs d ≡ true → (reach d ≡ true) ⊎ (d ≡ stray_ino rank)
  holding_cases d h = elim (or_cases (nat_eq (stray_ino rank) d) (reach d) h) [ inl e ↦ inr (sym (eqb-true (stray_ino rank) d e)) | inr e ↦ inl e ]

  linked_kept : (q : ℕ × List ℕ) (i : ℕ) → get s.links q ≡ Some i → is_kept s i ≡ true
  linked_kept q i e = let some = count_some exact_place (λ (e : (ℕ × List ℕ) × ℕ). e.1 == i) s.links q i e (eq-eqb i i refl) in lt-ltb 0 (link_count s i + open_count s i) (omega (arith, some))

  -- a full dentry of a reachable directory is a link, and its record is that of the inode
  full_linked : (q : ℕ × List ℕ) (v : ℕ) (r : InodeRecord) → reach q.0 ≡ true → get t.dentries q ≡ Some (Full v r) → (get s.links q ≡ Some r.ino) × (get s.records r.ino ≡ Some (attributes_of r))
  full_linked q v r h e =
      let l : get s.links q ≡ Some r.ino = links_at q ∙ (λ z. cond (h z) (names (e z)) None) in
      (l, records_at r.ino ∙ ap (option_and_then (λ (x : InodeRecord). if is_kept s r.ino then Some (attributes_of x) else None)) (primary_at r.ino q v r (in_holding q.0 h) e refl) ∙ ap (λ b. if b then Some (attributes_of r) else None) (linked_kept q r.ino l))

  subdir_cell : (o : Option Dentry) (i : ℕ) → option_and_then subdir o ≡ Some i → (v : ℕ) × (r : InodeRecord) × (o ≡ Some (Full v r)) × (r.ino ≡ i) × (same_kind r.kind Dir ≡ true)
  subdir_cell o i e =
      let f = subdir_full o i e in
      let c = full_cell o i f.0 in
      (c.0, c.1, c.2, c.3, sym (ap (λ o. is_kind Dir (said_by o)) c.2) ∙ f.1)

  reach_dir : (d : ℕ) → IsReachable t d → is_dir s d ≡ true
  reach_dir _ top = refl
  reach_dir _ (under d n i r e) =
      let c = subdir_cell (get t.dentries (d, n)) i e in
      let f = full_linked (d, n) c.0 c.1 (reached_complete t d r) c.2 in
      or_right (i == root) _ (ap (λ j. is_kind Dir (get s.records j)) (sym c.3) ∙ ap (is_kind Dir) f.1 ∙ c.4)

  -- a record of a directory is that of a full dentry in one that is reachable: none in stray is kept
  kept_in_stray : (q : ℕ × List ℕ) (v : ℕ) (r : InodeRecord) → q.0 ≡ stray_ino rank → reach q.0 ≡ false → is_among dirs q.0 ≡ true → get t.dentries q ≡ Some (Full v r) → same_kind r.kind Dir ≡ true → is_kept s r.ino ≡ true → get s.records r.ino ≡ Some (attributes_of r) → ⊥
  kept_in_stray q v r st out held e dir kept said = elim (count_cases exact_place (λ (e : (ℕ × List ℕ) × ℕ). e.1 == r.ino) s.links) [
    | inr x ↦
        let l = x.2 ∙ ap Some (eqb-true x.1 r.ino x.3) in
        let c = cond_is (reach x.0.0) (names (get t.dentries x.0)) r.ino (sym (links_at x.0) ∙ l) in
        elim (named_cases (get t.dentries x.0) r.ino c.1) [
          | inl full ↦
              let f = full_cell (get t.dentries x.0) r.ino full in
              let same = one_place x.0 q f.0 v f.1 r (in_holding x.0.0 c.0) held f.2 e f.3 in
              false≢true (sym out ∙ ap (λ (p : ℕ × List ℕ). reach p.0) (sym same) ∙ c.0)
          | inr rem ↦
              let cell = remote_cell (get t.dentries x.0) r.ino rem.0 rem.1 in
              let y = full_of_remote rank t lumps none x.0 cell.0 r.ino rem.0 c.0 cell.1 in
              let f = lies_full y.0 y.1 in
              let same = one_place f.0 q f.1 v y.0 r f.2 held f.3 e y.2 in
              let one : y.0 ≡ r = one_full (some_same (Full f.1 y.0) (Full v r) (sym f.3 ∙ ap (get t.dentries) same ∙ e)) in
              false≢true (sym (own.spelled.remote_no_dir x.0 r.ino rem.0 rem.1) ∙ ap (λ k. same_kind k Dir) (sym y.3 ∙ ap (λ (x : InodeRecord). x.kind) one) ∙ dir)
        ]
    | inl no_links ↦ elim (count_cases exact_pair (λ (e : (ℕ × ℕ) × Unit {0}). e.0.1 == r.ino) s.opens) [
      | inl no_opens ↦ let some = ltb-true 0 (link_count s r.ino + open_count s r.ino) kept in omega (arith, some, no_links, no_opens)
      | inr x ↦
          let there : IsSome (get t.opens (x.0.0, x.0.1)) = is_some_at _ x.1 (ap (λ (m : Map pair_cmp (Unit {0})). get m x.0) (sym opens_are) ∙ x.2) in
          let good = open_good rank t lumps none x.0.0 x.0.1 there in
          false≢true (sym (dir_no_file r.kind dir) ∙ sym (ap (is_kind File) said) ∙ ap (λ i. is_kind File (get s.records i)) (sym (eqb-true x.0.1 r.ino x.3)) ∙ good.1)
    ]
  ]
    where
      remote_cell : (o : Option Dentry) (i : ℕ) (k : Kind) → remote_of o ≡ Some (i, k) → (w : ℕ) × (o ≡ Some (Remote w i k))
      remote_cell None i k f = absurd (none_some (i, k) f)
      remote_cell (Some (Full w y)) i k f = absurd (none_some (i, k) f)
      remote_cell (Some (Remote w j l)) i k f = let pair = some_same (j, l) (i, k) f in (w, λ z. Some (Remote w (pair z).0 (pair z).1))

      one_full : {a b : ℕ} {x y : InodeRecord} → Full a x ≡ Full b y → x ≡ y
      one_full f = cc

      dir_no_file : (k : Kind) → same_kind k Dir ≡ true → same_kind k File ≡ false
      dir_no_file Dir f = refl
      dir_no_file File f = absurd (false≢true f)
      dir_no_file Symlink f = absurd (false≢true f)

  dir_reach : (d : ℕ) → is_dir s d ≡ true → reach d ≡ true
  dir_reach d h = elim (or_cases (d == root) (is_kind Dir (get s.records d)) h) [
    | inl e ↦ ap reach (eqb-true d root e) ∙ reached_complete t root top
    | inr kind ↦
        let a = kind_record Dir (get s.records d) kind in
        let c = cond_is (is_kept s d) (said_by (cell_of t places d)) a.0 (sym (records_are d) ∙ a.1) in
        elim (cases_option (get places d)) [
          | inl no_place ↦ absurd (none_some a.0 (ap (λ (o : Option (ℕ × List ℕ)). said_by (option_and_then (get t.dentries) o)) (sym no_place) ∙ c.1))
          | inr w ↦
              let x = place_is d w.0 w.1 in
              let is_a : attributes_of x.2 ≡ a.0 = some_same (attributes_of x.2) a.0 (sym (ap said_by x.3) ∙ ap (λ (o : Option (ℕ × List ℕ)). said_by (option_and_then (get t.dentries) o)) (sym w.1) ∙ c.1) in
              let dir : same_kind x.2.kind Dir ≡ true = ap (λ (a : Attributes). same_kind a.kind Dir) is_a ∙ sym (ap (is_kind Dir) a.1) ∙ kind in
              elim (cases_Bool (reach w.0.0)) [
                | inl here ↦ reached_complete t d (under w.0.0 w.0.1 d (reached_sound t w.0.0 here) (full_subdir (get t.dentries w.0) d (ap full_of x.3 ∙ ap Some x.4) (ap (λ o. is_kind Dir (said_by o)) x.3 ∙ dir)))
                | inr out ↦ absurd (elim (holding_cases w.0.0 x.0) [
                  | inl here ↦ false≢true (sym out ∙ here)
                  | inr st ↦ kept_in_stray w.0 x.1 x.2 st out x.0 x.3 dir (ap (is_kept s) x.4 ∙ c.0) (ap (get s.records) x.4 ∙ a.1 ∙ ap Some (sym is_a))
                ])
              ]
        ]
  ]

  is_dirs : (d : ℕ) → is_dir s d ≡ reach d
  is_dirs d = same_bool (is_dir s d) (reach d) (dir_reach d) (λ h. reach_dir d (reached_sound t d h))

  held_is : (d : ℕ) → is_held rank s d ≡ true → is_among dirs d ≡ true
  held_is d h = elim (or_cases (is_dir s d) (d == stray_ino rank) h) [
    | inl e ↦ in_holding d (dir_reach d e)
    | inr e ↦ or_left (nat_eq (stray_ino rank) d) (reach d) (eq-eqb (stray_ino rank) d (sym (eqb-true d (stray_ino rank) e)))
  ]

  is_held_by : (d : ℕ) → is_among dirs d ≡ true → is_held rank s d ≡ true
  is_held_by d h = elim (holding_cases d h) [
    | inl e ↦ or_left (is_dir s d) _ (is_dirs d ∙ e)
    | inr e ↦ or_right (is_dir s d) _ (eq-eqb d (stray_ino rank) e)
  ]

  reached_by : (d : ℕ) → IsReachable t d → IsReached s d
  reached_by _ top = at_root
  reached_by _ (under d n i r e) =
      let c = subdir_cell (get t.dentries (d, n)) i e in
      let f = full_linked (d, n) c.0 c.1 (reached_complete t d r) c.2 in
      below d n i (reached_by d r) (f.0 ∙ ap Some c.3) (reach_dir i (under d n i r e))

  -- ---- together

  next_there : t.next ≡ Some s.next
  next_there = some_next t.next refl
    where
      some_next : (o : Option ℕ) → t.next ≡ o → t.next ≡ Some s.next
      some_next None e = absurd (let low : next_of t ≡ 0 = ap (λ o. unwrap_or o 0) e in omega (arith, low, next_high rank t lumps none, (ids rank).root))
      some_next (Some n) e = e ∙ ap Some (sym (next_is ∙ ap (λ o. unwrap_or o 0) e))

  few_everywhere : (d : ℕ) → entry_count s d ≤ most_entries
  few_everywhere d = elim (cases_Bool (reach d)) [
    | inl h ↦ few_in rank t lumps none d h
    | inr out ↦
        let zero : entry_count s d ≡ 0 = count_none exact_place (λ (e : (ℕ × List ℕ) × ℕ). e.0.0 == d) s.links (λ q i e at.
        false≢true (sym out ∙ ap reach (sym (eqb-true q.0 d at)) ∙ (cond_is (reach q.0) (names (get t.dentries q)) i (sym (links_at q) ∙ e)).0)) in
        omega (arith, zero)
  ]

  undamaged_dentries : HasDentries rank t s places
  undamaged_dentries = record {
    links = λ q. links_at q ∙ ap (λ b. cond b (names (get t.dentries q)) None) (sym (is_dirs q.0));
    records = records_are;
    primary_held = λ i q e. is_held_by q.0 (place_is i q e).0;
    primary_full = λ i q e. let x = place_is i q e in ap full_of x.3 ∙ ap Some x.4;
    each_primary = λ i q h f. let c = full_cell (get t.dentries q) i f in is_place i q c.0 c.1 (held_is q.0 h) c.2 c.3;
    remote_kind = λ q i k dir e.
        let cell = remote_cell (get t.dentries q) i k e in
        let y = full_of_remote rank t lumps none q cell.0 i k (dir_reach q.0 dir) cell.1 in
        let f = lies_full y.0 y.1 in
        ap (λ o. kind_of (said_by (option_and_then (get t.dentries) o))) (is_place i f.0 f.1 y.0 f.2 f.3 y.2) ∙ ap (λ o. kind_of (said_by o)) f.3 ∙ ap Some y.3;
    remote_no_dir = λ q i k _ e. own.spelled.remote_no_dir q i k e;
    counts = λ i q e. let x = place_is i q e in ap stored_links x.3 ∙ links_counted rank t lumps none x.2 (full_lies q x.1 x.2 x.0 x.3) ∙ ap (link_count s) x.4;
    next = next_there;
    first_next = subst (λ n. first_ino rank ≤ n) (sym next_is) (next_high rank t lumps none);
    next_fits = subst (λ n. n < 2 ^ 64) (sym next_is) own.spelled.next_fits;
    above = λ i q e. let x = place_is i q e in subst (λ i. first_ino rank ≤ i) x.4 (full_given rank t lumps none x.2 (full_lies q x.1 x.2 x.0 x.3)).0;
    beneath = λ i q e. let x = place_is i q e in subst (λ n. i < n) (sym next_is) (subst (λ i. i < next_of t) x.4 (full_given rank t lumps none x.2 (full_lies q x.1 x.2 x.0 x.3)).1);
    own_cells = λ q h. subst (λ n. IsOwn rank n q.0) (sym next_is) (own.own_cells q h);
    stray_names = λ n i e. let d = some_named (get t.dentries (stray_ino rank, n)) i e in stray_named rank t lumps none (stray_ino rank, n) d.0 d.1 refl ∙ ap hex d.2;
    heads = λ d h. head_there rank t lumps none d (held_is d h);
    own_heads = λ d v e. subst (λ n. IsOwn rank n d) (sym next_is) (own.own_heads d v e);
    opens = sym opens_are;
    open_files = λ c i h. (open_good rank t lumps none c i (subst (λ (m : Map pair_cmp (Unit {0})). IsSome (get m (c, i))) opens_are h)).1;
    few_entries = few_everywhere;
    few_inodes = few_records rank t lumps none;
    few_opens = few_held rank t lumps none;
    names_fit = own.spelled.names_fit;
    records_fit = own.spelled.records_fit;
  }
    where
      remote_cell : (o : Option Dentry) (i : ℕ) (k : Kind) → remote_of o ≡ Some (i, k) → (w : ℕ) × (o ≡ Some (Remote w i k))
      remote_cell None i k f = absurd (none_some (i, k) f)
      remote_cell (Some (Full w y)) i k f = absurd (none_some (i, k) f)
      remote_cell (Some (Remote w j l)) i k f = let pair = some_same (j, l) (i, k) f in (w, λ z. Some (Remote w (pair z).0 (pair z).1))

      some_named : (o : Option Dentry) (i : ℕ) → names o ≡ Some i → (d : Dentry) × (o ≡ Some d) × (ino_of d ≡ i)
      some_named None i f = absurd (none_some i f)
      some_named (Some d) i f = (d, refl, some_same (ino_of d) i f)

  -- ---- sessions

  session_of : (client : ℕ) (c : Session) → get s.sessions client ≡ Some c → (oldest : ℕ) × (get t.sessions client ≡ Some oldest) × (c ≡ record { oldest = oldest; kept = from_entries (filter_map (reply_of client) (entries t.done)) })
  session_of client c e = elim (cases_option (get t.sessions client)) [
    | inl no_session ↦ absurd (none_some c (sym (session_at client ∙ ap (option_and_then (session_in (entries t.done) client)) no_session) ∙ e))
    | inr w ↦ (w.0, w.1, sym (some_same _ c (sym (session_at client ∙ ap (option_and_then (session_in (entries t.done) client)) w.1) ∙ e)))
  ]

  kept_at : (client tid : ℕ) → get (from_entries {R = nat_cmp} (filter_map (reply_of client) (entries t.done))) tid ≡ get t.done (client, tid)
  kept_at client tid = get-from_entries exact_nat (filter_map (reply_of client) (entries t.done)) tid ∙ same_find client tid (entries t.done) ∙ sym (get-entries t.done (client, tid))

  reply_kept : (client : ℕ) (c : Session) (tid i : ℕ) → get s.sessions client ≡ Some c → get c.kept tid ≡ Some i → get t.done (client, tid) ≡ Some i
  reply_kept client c tid i e k = let x = session_of client c e in sym (kept_at client tid) ∙ ap (λ (c : Session). get c.kept tid) (sym x.2) ∙ k

  replies_few : (client : ℕ) → length (filter_map (reply_of client) (entries t.done)) ≤ most_kept
  replies_few client = by (filter_map (reply_of client) (entries t.done)) refl
    where
      by : (xs : List (ℕ × ℕ)) → filter_map (reply_of client) (entries t.done) ≡ xs → length (filter_map (reply_of client) (entries t.done)) ≤ most_kept
      by [] e = let zero : length (filter_map (reply_of client) (entries t.done)) ≡ 0 = ap length e in omega (arith, zero)
      by (x ∷ xs) e =
          let w = in_filter_map (reply_of client) (entries t.done) x (subst (λ ys. Lies x ys) (sym e) (inl refl)) in
          let at : w.0.0.0 ≡ client = client_is w.0 x w.2 in
          let there = entry_at exact_pair t.done w.0 w.1 in
          let good = reply_good rank t lumps none w.0.0.0 w.0.0.1 w.0.1 there in
          let few : replies (entries t.done) client ≤ most_kept = subst (λ c. replies (entries t.done) c ≤ most_kept) at good.3 in
          omega (arith, few, replies_passing client (entries t.done))
        where
          client_is : (e : (ℕ × ℕ) × ℕ) (x : ℕ × ℕ) → reply_of client e ≡ Some x → e.0.0 ≡ client
          client_is e x = elim (e.0.0 == client) as (λ b. (e.0.0 == client) ≡ b → (if b then Some (e.0.1, e.1) else None) ≡ Some x → e.0.0 ≡ client) [
            | true ↦ λ h _. eqb-true e.0.0 client h
            | false ↦ λ _ f. absurd (none_some x f)
          ] refl

  undamaged_sessions : HasSessions t s
  undamaged_sessions = record {
    sessions = λ client. elim (cases_option (get t.sessions client)) [
      | inl no_session ↦ no_session ∙ sym (ap oldest_of (session_at client ∙ ap (option_and_then (session_in (entries t.done) client)) no_session))
      | inr w ↦ w.1 ∙ sym (ap oldest_of (session_at client ∙ ap (option_and_then (session_in (entries t.done) client)) w.1))
    ];
    replies = λ client tid. elim (cases_option (get t.sessions client)) [
      | inr w ↦ sym (kept_at client tid) ∙ sym (ap (option_and_then (λ (c : Session). get c.kept tid)) (session_at client ∙ ap (option_and_then (session_in (entries t.done) client)) w.1))
      | inl no_session ↦ elim (cases_option (get t.done (client, tid))) [
        | inl no_reply ↦ no_reply ∙ sym (ap (option_and_then (λ (c : Session). get c.kept tid)) (session_at client ∙ ap (option_and_then (session_in (entries t.done) client)) no_session))
        | inr u ↦ let good = reply_good rank t lumps none client tid u.0 u.1 in absurd (none_some good.0 (sym no_session ∙ good.1))
      ]
    ];
    not_below = λ client c tid i e k.
        let x = session_of client c e in
        let good = reply_good rank t lumps none client tid i (reply_kept client c tid i e k) in
        let same : c.oldest ≡ good.0 = ap (λ (c : Session). c.oldest) x.2 ∙ some_same x.0 good.0 (sym x.1 ∙ good.1) in
        omega (arith, same, good.2);
    few_replies = λ client c e.
        let x = session_of client c e in
        let l = len-from_entries exact_nat (filter_map (reply_of client) (entries t.done)) (sorted_in client (entries t.done) (entries_sorted t.done)) in
        let same : len c.kept ≡ len (from_entries {R = nat_cmp} (filter_map (reply_of client) (entries t.done))) = ap (λ (c : Session). len c.kept) x.2 in
        omega (arith, same, l, replies_few client);
    tids_fit = λ client c tid i e k. own.spelled.tids_fit client tid i (reply_kept client c tid i e k);
    few_sessions = few_clients rank t lumps none;
    open_sessions = λ client i h.
        let w = some_is (get t.sessions client) (open_good rank t lumps none client i (subst (λ (m : Map pair_cmp (Unit {0})). IsSome (get m (client, i))) opens_are h)).0 in
        is_some_at _ _ (session_at client ∙ ap (option_and_then (session_in (entries t.done) client)) w.1);
  }

  pub undamaged_tree : IsTreeOf rank t (tree_of rank t)
  undamaged_tree = record { primary = places; dentries = undamaged_dentries; sessions = undamaged_sessions; reached = λ d h. reached_by d (reached_sound t d (dir_reach d h)) }

-- where each cell has a spelling, and each directory with a cell counts as one of a lump
module _ (rank : ℕ) (t : Table) (none : tree_damage rank t (cell_dirs t) ≡ None) (spelled : HasSpelling t) where
  own_cells : HasOwnCells rank t
  own_cells = record {
    spelled = spelled;
    own_cells = λ q h.
        let w = some_is (get t.dentries q) h in
        let l = to_map (λ (e : Entry). e.0.0) (entries t.dentries) (q, w.0) (at_entry exact_place t.dentries q w.0 w.1) in
        lump_own rank t (cell_dirs t) none q.0 (to_left _ (map (λ (e : ℕ × ℕ). e.0) (entries t.heads)) q.0 l);
    own_heads = λ d v e.
        let l = to_map (λ (e : ℕ × ℕ). e.0) (entries t.heads) (d, v) (at_entry exact_nat t.heads d v e) in
        lump_own rank t (cell_dirs t) none d (to_right (map (λ (e : Entry). e.0.0) (entries t.dentries)) _ d l);
  }

  pub spelled_tree : IsTreeOf rank t (tree_of rank t)
  spelled_tree = undamaged_tree rank t (cell_dirs t) none own_cells
