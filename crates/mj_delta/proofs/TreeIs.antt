-- The tree that a table stands for is the one that is computed of it.
use Rattle.std.proofs.Common.{◌≡◌, ℕ, ◌+◌, Bool, true, false, cond, ◌||◌, List, [], ◌∷◌, map, Option, Some, None, refl, sym, ap, subst, ◌∙◌, inl, inr}
use Rattle.std.specs.Prelude.{◌==◌, nat_lt, if◌then◌else◌, unwrap_or}
use Rattle.std.specs.Option.{option_and_then}
use Rattle.std.specs.List.{filter_map, cons_option}
use Rattle.std.specs.Ordering.{eq_by_cmp}
use Rattle.std.specs.FinMap.Entries.{find}
use Rattle.std.proofs.lemmas.Bool.{eqb-true, eq-eqb, false≢true}
use Rattle.mj_base.specs.ObjectName.{stray_ino}
use Rattle.mj_base.specs.declared.record.InodeRecord.{InodeRecord}
use Rattle.mj_maps.specs.Map.{entries, get, collect, from_entries, count}
use Rattle.mj_maps.specs.Orders.{nat_cmp, pair_cmp}
use Rattle.mj_maps.proofs.MapLaws.{exact_nat, exact_place, exact_pair, none_some, some_same, cases_key, eq_same, eq_false, apart, same_map, get-collect, get-entries, get-from_entries}
use Rattle.mj_tree.specs.State.{PlainState, Session, is_dir, is_kept, attributes_of}
use Rattle.mj_tree.specs.Sessions.{oldest_of}
use Rattle.mj_cells.specs.Table.{Dentry, Table}
use Rattle.mj_cells.specs.Table.Dentry.{Full, Remote}
use Rattle.mj_recovery.specs.Tree.{ino_of, is_among, reachable, holding, full_record, full_records, primaries, reply_of, session_in, link_in, record_in, bare_tree, tree_of}
use Rattle.mj_recovery.proofs.Reaching.{reached_sound, reached_complete}
use Rattle.mj_delta.specs.Reads.{names, full_of, said_by, cell_of, is_held}
use Rattle.mj_delta.specs.TreeOf.{HasDentries, IsTreeOf}
use Rattle.mj_delta.proofs.Facts.{cases_option, cond_same, full_cell}
use Rattle.mj_delta.proofs.OneTree.{reach_in, in_reach, reach_dir, same_bool}
use Rattle.mj_delta.proofs.Lists.{Lies, in_filter_map, to_filter_map, in_map, to_map, entry_at, at_entry, found_in, found_some}

-- the entry of a full dentry in these directories, and back
pub full_entry : (dirs : List ℕ) (q : ℕ × List ℕ) (d : Dentry) (r : InodeRecord) → full_record dirs (q, d) ≡ Some r → (is_among dirs q.0 ≡ true) × ((v : ℕ) × (d ≡ Full v r))
full_entry dirs q (Full v x) r h = elim (is_among dirs q.0) as (λ b. (if b then Some x else None) ≡ Some r → (b ≡ true) × ((w : ℕ) × (Full v x ≡ Full w r))) [
  | true ↦ λ f. (refl, (v, ap (Full v) (some_same x r f)))
  | false ↦ λ f. absurd (none_some r f)
] h
full_entry dirs q (Remote v i k) r h = absurd (none_some r (sym (cond_same (is_among dirs q.0) None) ∙ h))

pub entry_full : (dirs : List ℕ) (q : ℕ × List ℕ) (v : ℕ) (r : InodeRecord) → is_among dirs q.0 ≡ true → full_record dirs (q, Full v r) ≡ Some r
entry_full dirs q v r h = ap (λ b. if b then Some r else None) h

pub same_find : (client tid : ℕ) (es : List ((ℕ × ℕ) × ℕ)) → find nat_cmp tid (filter_map (reply_of client) es) ≡ find pair_cmp (client, tid) es
same_find client tid [] = refl
same_find client tid (e ∷ es) =
    let rest = same_find client tid es in
    elim (e.0.0 == client) as (λ b. (e.0.0 == client) ≡ b → find nat_cmp tid (cons_option (if b then Some (e.0.1, e.1) else None) (filter_map (reply_of client) es)) ≡ cond (eq_by_cmp pair_cmp (client, tid) e.0) (Some e.1) (find pair_cmp (client, tid) es)) [
      | false ↦ λ h. rest ∙ sym (ap (λ b. cond b (Some e.1) (find pair_cmp (client, tid) es)) (eq_false exact_pair (client, tid) e.0 (λ same. false≢true (sym h ∙ eq-eqb e.0.0 client (ap (λ (k : ℕ × ℕ). k.0) (sym same))))))
      | true ↦ λ h. elim (cases_key exact_nat tid e.0.1) [
        | inl same ↦
            let key : (client, tid) ≡ e.0 = λ i. (sym (eqb-true e.0.0 client h) i, same i) in
            ap (λ b. cond b (Some e.1) (find nat_cmp tid (filter_map (reply_of client) es))) (ap (λ k. eq_by_cmp nat_cmp k e.0.1) same ∙ eq_same exact_nat e.0.1)
            ∙ sym (ap (λ b. cond b (Some e.1) (find pair_cmp (client, tid) es)) (ap (λ k. eq_by_cmp pair_cmp k e.0) key ∙ eq_same exact_pair e.0))
        | inr ne ↦ ap (λ b. cond b (Some e.1) (find nat_cmp tid (filter_map (reply_of client) es))) ne ∙ rest
            ∙ sym (ap (λ b. cond b (Some e.1) (find pair_cmp (client, tid) es)) (eq_false exact_pair (client, tid) e.0 (λ same. apart exact_nat tid e.0.1 ne (ap (λ (k : ℕ × ℕ). k.1) same))))
      ]
    ] refl

module _ (rank : ℕ) (t : Table) (s : PlainState) (is : IsTreeOf rank t s) where
  abbrev m : HasDentries rank t s is.primary
  m = is.dentries

  -- the reachable directories are those of the state
  pub among_dirs : (d : ℕ) → is_among (reachable t) d ≡ is_dir s d
  among_dirs d = same_bool _ _
      (λ h. reach_dir rank t s is.primary m d (in_reach rank t s is.primary m d (reached_sound t d h)))
      (λ h. reached_complete t d (reach_in rank t s is.primary m d (is.reached d h)))

  swap : (a b : Bool) → (a || b) ≡ (b || a)
  swap true true = refl
  swap true false = refl
  swap false true = refl
  swap false false = refl

  turned : (x y : ℕ) → (x == y) ≡ (y == x)
  turned x y = same_bool _ _ (λ h. eq-eqb y x (sym (eqb-true x y h))) (λ h. eq-eqb x y (sym (eqb-true y x h)))

  pub among_held : (d : ℕ) → is_among (holding rank t) d ≡ is_held rank s d
  among_held d = (λ i. (turned (stray_ino rank) d i || among_dirs d i)) ∙ swap (d == stray_ino rank) (is_dir s d)

  -- ---- links

  link_is : (q : ℕ × List ℕ) (o : Option Dentry) → option_and_then (link_in (reachable t) q) o ≡ cond (is_dir s q.0) (names o) None
  link_is q None = sym (cond_same (is_dir s q.0) None)
  link_is q (Some d) = ap (λ b. if b then Some (ino_of d) else None) (among_dirs q.0)

  links_are : collect (link_in (reachable t)) t.dentries ≡ s.links
  links_are = same_map exact_place _ _ (λ q. get-collect exact_place (link_in (reachable t)) t.dentries q ∙ link_is q (get t.dentries q) ∙ sym (m.links q))

  -- ---- sessions

  pub kept_are : (client : ℕ) (x : Session) → get s.sessions client ≡ Some x → from_entries (filter_map (reply_of client) (entries t.done)) ≡ x.kept
  kept_are client x e = same_map exact_nat _ _ (λ tid.
      get-from_entries exact_nat (filter_map (reply_of client) (entries t.done)) tid ∙ same_find client tid (entries t.done) ∙ sym (get-entries t.done (client, tid)) ∙ is.sessions.replies client tid
      ∙ ap (option_and_then (λ (c : Session). get c.kept tid)) e)

  session_is : (client : ℕ) → option_and_then (session_in (entries t.done) client) (get t.sessions client) ≡ get s.sessions client
  session_is client = elim (cases_option (get s.sessions client)) [
    | inl none ↦ ap (option_and_then (session_in (entries t.done) client)) (is.sessions.sessions client ∙ ap oldest_of none) ∙ sym none
    | inr w ↦ ap (option_and_then (session_in (entries t.done) client)) (is.sessions.sessions client ∙ ap oldest_of w.1) ∙ (λ i. Some (record { oldest = w.0.oldest; kept = kept_are client w.0 w.1 i })) ∙ sym w.1
  ]

  sessions_are : collect (session_in (entries t.done)) t.sessions ≡ s.sessions
  sessions_are = same_map exact_nat _ _ (λ client. get-collect exact_nat (session_in (entries t.done)) t.sessions client ∙ session_is client)

  -- ---- records

  abbrev pub fulls : List InodeRecord
  fulls = full_records (holding rank t) (entries t.dentries)

  -- a full record that is listed stands at the place of its inode
  pub listed_full : (r : InodeRecord) → Lies r fulls → (q : ℕ × List ℕ) × (v : ℕ) × (get t.dentries q ≡ Some (Full v r)) × (get is.primary r.ino ≡ Some q)
  listed_full r l =
      let w = in_filter_map (full_record (holding rank t)) (entries t.dentries) r l in
      let f = full_entry (holding rank t) w.0.0 w.0.1 r w.2 in
      let at = entry_at exact_place t.dentries w.0 w.1 ∙ ap Some f.1.1 in
      (w.0.0, f.1.0, at, m.each_primary r.ino w.0.0 (sym (among_held w.0.0.0) ∙ f.0) (ap full_of at))

  pub full_listed : (q : ℕ × List ℕ) (v : ℕ) (r : InodeRecord) → is_held rank s q.0 ≡ true → get t.dentries q ≡ Some (Full v r) → Lies r fulls
  full_listed q v r held e = to_filter_map (full_record (holding rank t)) (entries t.dentries) (q, Full v r) r (at_entry exact_place t.dentries q (Full v r) e) (entry_full (holding rank t) q v r (among_held q.0 ∙ held))

  abbrev keyed : InodeRecord → ℕ × InodeRecord
  keyed r = (r.ino, r)

  -- the record of an inode
  pub primary_record : (i : ℕ) (q : ℕ × List ℕ) (v : ℕ) (r : InodeRecord) → get is.primary i ≡ Some q → get t.dentries q ≡ Some (Full v r) → r.ino ≡ i → get (primaries (holding rank t) (entries t.dentries)) i ≡ Some r
  primary_record i q v r p e same =
      let lies : Lies (i, r) (map keyed fulls) = subst (λ (j : ℕ). Lies (j, r) (map keyed fulls)) same (to_map keyed fulls r (full_listed q v r (m.primary_held i q p) e)) in
      let w = found_some exact_nat (map keyed fulls) i r lies in
      let back = in_map keyed fulls (i, w.0) (found_in exact_nat (map keyed fulls) i w.0 w.1) in
      let ino : back.0.ino ≡ i = ap (λ (x : ℕ × InodeRecord). x.0) back.2 in
      let at = listed_full back.0 back.1 in
      let there : at.0 ≡ q = some_same at.0 q (sym at.3 ∙ ap (get is.primary) ino ∙ p) in
      let one : Full at.1 back.0 ≡ Full v r = some_same _ _ (sym at.2 ∙ ap (get t.dentries) there ∙ e) in
      get-from_entries exact_nat (map keyed fulls) i ∙ w.1 ∙ ap Some (sym (ap (λ (x : ℕ × InodeRecord). x.1) back.2) ∙ full_same one)
    where
      full_same : {a b : ℕ} {x y : InodeRecord} → Full a x ≡ Full b y → x ≡ y
      full_same f = cc

  no_primary : (i : ℕ) → get is.primary i ≡ None → get (primaries (holding rank t) (entries t.dentries)) i ≡ None
  no_primary i none = elim (cases_option (get (primaries (holding rank t) (entries t.dentries)) i)) [
    | inl e ↦ e
    | inr w ↦
        let back = in_map keyed fulls (i, w.0) (found_in exact_nat (map keyed fulls) i w.0 (sym (get-from_entries exact_nat (map keyed fulls) i) ∙ w.1)) in
        let at = listed_full back.0 back.1 in
        absurd (none_some at.0 (sym none ∙ sym (ap (get is.primary) (ap (λ (x : ℕ × InodeRecord). x.0) back.2)) ∙ at.3))
  ]

  kept_is : (i : ℕ) → is_kept (bare_tree t) i ≡ is_kept s i
  kept_is i = λ z. nat_lt 0 (count (λ (e : (ℕ × List ℕ) × ℕ). e.1 == i) (links_are z) + count (λ (e : (ℕ × ℕ) × Unit {0}). e.0.1 == i) (m.opens z))

  record_is : (i : ℕ) → option_and_then (record_in (bare_tree t) i) (get (primaries (holding rank t) (entries t.dentries)) i) ≡ cond (is_kept s i) (said_by (cell_of t is.primary i)) None
  record_is i = elim (cases_option (get is.primary i)) [
    | inl none ↦ ap (option_and_then (record_in (bare_tree t) i)) (no_primary i none) ∙ sym (ap (λ o. cond (is_kept s i) (said_by (option_and_then (get t.dentries) o)) None) none ∙ cond_same (is_kept s i) None)
    | inr w ↦
        let f = full_cell (get t.dentries w.0) i (m.primary_full i w.0 w.1) in
        ap (option_and_then (record_in (bare_tree t) i)) (primary_record i w.0 f.0 f.1 w.1 f.2 f.3)
        ∙ ap (λ b. if b then Some (attributes_of f.1) else None) (kept_is i)
        ∙ sym (ap (λ o. cond (is_kept s i) (said_by o) None) (ap (option_and_then (get t.dentries)) w.1 ∙ f.2))
  ]

  records_are : collect (record_in (bare_tree t)) (primaries (holding rank t) (entries t.dentries)) ≡ s.records
  records_are = same_map exact_nat _ _ (λ i. get-collect exact_nat (record_in (bare_tree t)) (primaries (holding rank t) (entries t.dentries)) i ∙ record_is i ∙ sym (m.records i))

  pub tree_is : tree_of rank t ≡ s
  unfolding tree_of
  tree_is = λ z. record { next = ap (λ o. unwrap_or o 0) m.next z; records = records_are z; links = links_are z; opens = m.opens z; sessions = sessions_are z }
