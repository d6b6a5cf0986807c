-- The event of a second link gives the tree after the request.
use Rattle.std.proofs.Common.{◌≡◌, ℕ, ◌+◌, ◌<◌, ◌≤◌, ◌^◌, Bool, true, false, cond, ◌&&◌, ◌||◌, not, List, [], ◌∷◌, Option, Some, None, Ok, refl, sym, ap, subst, ◌∙◌, inl, inr, arith}
use Rattle.std.specs.Prelude.{◌==◌, nat_lt, IsSome, IsTrue, is_some, if◌then◌else◌}
use Rattle.std.specs.Option.{option_and_then}
use Rattle.std.specs.List.{flat_map, AllByRecursion}
use Rattle.std.specs.Ordering.{eq_by_cmp}
use Rattle.std.proofs.lemmas.Bool.{false≢true, cases_Bool, cases_eq, eqb-true, eq-eqb, ne_eqb, eqb-false, and_from, ltb-true, ltb-false, lt-ltb}
use Rattle.mj_base.specs.InOrder.{same_bytes}
use Rattle.mj_base.specs.Name.{is_name}
use Rattle.mj_base.specs.ObjectName.{hex, stray_ino, first_ino}
use Rattle.mj_base.specs.Record.{IsRecord, same_kind}
use Rattle.mj_base.specs.declared.record.Kind.{Kind}
use Rattle.mj_base.specs.declared.record.Kind.TheVariants.{Dir}
use Rattle.mj_base.specs.declared.record.InodeRecord.{InodeRecord}
use Rattle.mj_maps.specs.Map.{get, insert}
use Rattle.mj_maps.specs.Orders.{place_cmp}
use Rattle.mj_maps.proofs.MapLaws.{exact_nat, exact_place, none_some, some_same, insert_same, insert_other, insert-insert, insert_swap, cases_key, eq_false, apart, count-insert_new}
use Rattle.mj_maps.proofs.Kept.{place_ties}
use Rattle.mj_tree.specs.declared.change.Attributes.{Attributes}
use Rattle.mj_tree.specs.declared.change.Change.TheVariants as change
use Rattle.mj_tree.specs.declared.change.Decision.TheVariants.{Accepted}
use Rattle.mj_tree.specs.declared.request.ClientRequest.{ClientRequest}
use Rattle.mj_tree.specs.State.{PlainState, root, is_dir, is_kind, is_kept, link_count, open_count, entry_count, record_of, attributes_of}
use Rattle.mj_tree.specs.Row.{most_entries}
use Rattle.mj_tree.specs.Change.{with_link}
use Rattle.mj_tree.specs.Answer.{decision}
use Rattle.mj_cells.specs.Table.{Dentry, Table, overlay}
use Rattle.mj_cells.specs.Table.Dentry.{Full, Remote}
use Rattle.mj_meta.specs.Blob.{IsBlob, IsLump, is_no_dir}
use Rattle.mj_meta.specs.declared.DirLump.{DirLump}
use Rattle.mj_event.specs.Writes.{lump_writes}
use Rattle.mj_recovery.specs.Damage.{lump_dirs}
use Rattle.mj_recovery.specs.Orderly.{IsOwn}
use Rattle.mj_delta.specs.Reads.{names, full_of, said_by, stored_links, remote_of, cell_of, kind_of}
use Rattle.mj_delta.specs.TreeOf.{IsReached, HasDentries, IsTreeOf}
use Rattle.mj_delta.specs.TreeOf.IsReached.{at_root, below}
use Rattle.mj_delta.specs.Fits.{IsSent}
use Rattle.mj_delta.specs.Events.{next_version, full_lump, remote_lump, both_lump, second_lumps, link_lumps, link_event, full_place}
use Rattle.mj_delta.specs.Steps.{IsOrderlyWrite, GivesTree}
use Rattle.mj_delta.proofs.Facts.{ids, by_key, cases_option, is_some_at, stray_no_dir}
use Rattle.mj_delta.proofs.OneTree.{link_kept}
use Rattle.mj_delta.proofs.NewEntry.{own_dir, more_in}
use Rattle.mj_delta.proofs.Decided.{CanLink, meant, effect_found}
use Rattle.mj_delta.proofs.Updated.{IsPlan, update_gives}
use Rattle.mj_delta.proofs.Held.{HasRecord, linked_record, linked_fits}
use Rattle.mj_delta.proofs.Placed.{place_is}

pub own_fits : (rank n d : ℕ) → first_ino rank ≤ n → n < 2 ^ 64 → IsOwn rank n d → d < 2 ^ 64
own_fits rank n d first fits (inl e) = omega (arith, e)
own_fits rank n d first fits (inr (inl e)) = omega (arith, e, (ids rank).below, first, fits)
own_fits rank n d first fits (inr (inr given)) = omega (arith, given.1, fits)

module _ (rank : ℕ) (t : Table) (s : PlainState) (is : IsTreeOf rank t s) (q : ℕ × List ℕ) (i : ℕ) (can : CanLink s q i) where
  abbrev m : HasDentries rank t s is.primary
  m = is.dentries

  abbrev pub its : HasRecord t s is.primary i
  its = linked_record rank t s is.primary m i can.linked

  abbrev p : ℕ × List ℕ
  p = its.place

  abbrev old : InodeRecord
  old = its.inode

  abbrev a : Attributes
  a = attributes_of old

  abbrev y : InodeRecord
  y = record_of i (link_count s i + 1) a

  abbrev v : ℕ
  v = next_version t p.0

  abbrev w : ℕ
  w = next_version t q.0

  abbrev s1 : PlainState
  s1 = with_link s q i

  abbrev t1 : Table
  t1 = record t { heads = insert (insert t.heads p.0 v) q.0 w; dentries = insert (insert t.dentries p (Full v y)) q (Remote w i a.kind) }

  free_cell : names (get t.dentries q) ≡ None
  free_cell = sym (ap (λ b. cond b (names (get t.dentries q)) None) can.parent) ∙ sym (m.links q) ∙ can.free

  p_not_q : eq_by_cmp place_cmp p q ≡ false
  p_not_q = eq_false exact_place p q (λ same. none_some old.ino (sym free_cell ∙ ap (λ q. names (get t.dentries q)) (sym same) ∙ ap names its.full))

  q_not_p : eq_by_cmp place_cmp q p ≡ false
  q_not_p = eq_false exact_place q p (λ same. apart exact_place p q p_not_q (sym same))

  at_q : get t1.dentries q ≡ Some (Remote w i a.kind)
  at_q = insert_same exact_place (insert t.dentries p (Full v y)) q (Remote w i a.kind)

  not_q : (z : ℕ × List ℕ) → eq_by_cmp place_cmp z q ≡ false → get t1.dentries z ≡ get (insert t.dentries p (Full v y)) z
  not_q z ne = insert_other exact_place (insert t.dentries p (Full v y)) q (Remote w i a.kind) z ne

  at_p : get t1.dentries p ≡ Some (Full v y)
  at_p = not_q p p_not_q ∙ insert_same exact_place t.dentries p (Full v y)

  -- a view of cells that does not tell the two records apart, away from the new name
  view_same : {A : Type 0} (f : Option Dentry → A) → f (Some (Full v y)) ≡ f (Some (Full its.version old)) → (z : ℕ × List ℕ) → eq_by_cmp place_cmp z q ≡ false → f (get t1.dentries z) ≡ f (get t.dentries z)
  view_same f e z ne = elim (cases_key exact_place z p) [
    | inl same ↦ ap (λ z. f (get t1.dentries z)) same ∙ ap f at_p ∙ e ∙ sym (ap (λ z. f (get t.dentries z)) same ∙ ap f its.full)
    | inr far ↦ ap f (not_q z ne ∙ insert_other exact_place t.dentries p (Full v y) z far)
  ]

  -- no full dentry stands at the new name
  primary_not_q : (j : ℕ) (z : ℕ × List ℕ) → get is.primary j ≡ Some z → eq_by_cmp place_cmp z q ≡ false
  primary_not_q j z e = eq_false exact_place z q (λ same. none_some j (sym (full_none (get t.dentries q) free_cell) ∙ ap (λ z. full_of (get t.dentries z)) (sym same) ∙ m.primary_full j z e))
    where
      full_none : (o : Option Dentry) → names o ≡ None → full_of o ≡ None
      full_none None h = refl
      full_none (Some d) h = absurd (none_some _ (sym h))

  said_same : (j : ℕ) → said_by (cell_of t1 is.primary j) ≡ said_by (cell_of t is.primary j)
  said_same j = elim (cases_option (get is.primary j)) [
    | inl none ↦ ap (λ o. said_by (option_and_then (get t1.dentries) o)) none ∙ sym (ap (λ o. said_by (option_and_then (get t.dentries) o)) none)
    | inr x ↦ ap (λ o. said_by (option_and_then (get t1.dentries) o)) x.1 ∙ view_same said_by refl x.0 (primary_not_q j x.0 x.1) ∙ sym (ap (λ o. said_by (option_and_then (get t.dentries) o)) x.1)
  ]

  count_more : (j : ℕ) → link_count s1 j ≡ link_count s j + cond (i == j) 1 0
  count_more j = count-insert_new exact_place (λ (e : (ℕ × List ℕ) × ℕ). e.1 == j) s.links q i can.free

  count_here : link_count s1 i ≡ link_count s i + 1
  count_here = let one : cond (i == i) 1 0 ≡ 1 = ap (λ b. cond {A = ℕ} b 1 0) (eq-eqb i i refl) in omega (arith, count_more i, one)

  count_other : (j : ℕ) → (i ≡ j → ⊥) → link_count s1 j ≡ link_count s j
  count_other j ne = let none : cond (i == j) 1 0 ≡ 0 = ap (λ b. cond {A = ℕ} b 1 0) (ne_eqb i j ne) in omega (arith, count_more j, none)

  kept_same : (j : ℕ) → is_kept s1 j ≡ is_kept s j
  kept_same j = elim (cases_eq i j) [
    | inl same ↦ subst (λ j. is_kept s1 j ≡ is_kept s j) same (lt-ltb 0 (link_count s1 i + open_count s i) (omega (arith, count_here)) ∙ sym (link_kept rank t s is.primary m can.linked.place i can.linked.link))
    | inr ne ↦ ap (λ n. nat_lt 0 (n + open_count s j)) (count_other j ne)
  ]

  no_dir_kind : same_kind a.kind Dir ≡ false
  no_dir_kind = or_none (i == root) _ (sym (ap (λ o. (i == root) || is_kind Dir o) its.said) ∙ can.no_dir)
    where
      or_none : (b c : Bool) → (b || c) ≡ false → c ≡ false
      or_none true c e = absurd (false≢true (sym e))
      or_none false c e = e

  old_fits : IsRecord old
  old_fits = m.records_fit p its.version old its.full

  y_fits : IsRecord y
  y_fits = record { ino = linked_fits rank t s is.primary m i can.linked; mode = old_fits.mode; uid = old_fits.uid; gid = old_fits.gid; size = old_fits.size; mtime = old_fits.mtime; links = omega (arith, can.links); target = old_fits.target }

  p_own : IsOwn rank s.next p.0
  p_own = m.own_cells p (is_some_at _ (Full its.version old) its.full)

  q_own : IsOwn rank s.next q.0
  q_own = own_dir rank t s is.primary m q.0 can.parent

  v_fits : v < 2 ^ 64
  v_fits = omega arith

  w_fits : w < 2 ^ 64
  w_fits = omega arith

  v_not_zero : 0 < v
  v_not_zero = omega arith

  w_not_zero : 0 < w
  w_not_zero = omega arith

  own_heads : (d n : ℕ) → get t1.heads d ≡ Some n → IsOwn rank s.next d
  own_heads d n e = elim (cases_key exact_nat d q.0) [
    | inl same ↦ subst (IsOwn rank s.next) (sym same) q_own
    | inr ne ↦
        let e = sym (insert_other exact_nat (insert t.heads p.0 v) q.0 w d ne) ∙ e in
        elim (cases_key exact_nat d p.0) [
          | inl same ↦ subst (IsOwn rank s.next) (sym same) p_own
          | inr far ↦ m.own_heads d n (sym (insert_other exact_nat t.heads p.0 v d far) ∙ e)
        ]
  ]

  head_there : (d : ℕ) → IsSome (get t.heads d) → IsSome (get t1.heads d)
  head_there d h = elim (cases_key exact_nat d q.0) [
    | inl same ↦ is_some_at _ w (ap (get t1.heads) same ∙ insert_same exact_nat (insert t.heads p.0 v) q.0 w)
    | inr ne ↦ subst (λ o. IsSome o) (sym (insert_other exact_nat (insert t.heads p.0 v) q.0 w d ne)) (elim (cases_key exact_nat d p.0) [
      | inl same ↦ is_some_at _ v (ap (get (insert t.heads p.0 v)) same ∙ insert_same exact_nat t.heads p.0 v)
      | inr far ↦ subst (λ o. IsSome o) (sym (insert_other exact_nat t.heads p.0 v d far)) h
    ])
  ]

  link_dentries : HasDentries rank t1 s1 is.primary
  link_dentries = record {
    links = by_key exact_place q (λ z. get s1.links z ≡ cond (is_dir s z.0) (names (get t1.dentries z)) None)
        (insert_same exact_place s.links q i ∙ sym ((λ z. cond (can.parent z) (names (at_q z)) None)))
        (λ z ne. insert_other exact_place s.links q i z ne ∙ m.links z ∙ ap (λ o. cond (is_dir s z.0) o None) (sym (view_same names (ap Some (sym its.ino)) z ne)));
    records = λ j. m.records j ∙ (λ z. cond (sym (kept_same j) z) (sym (said_same j) z) None);
    primary_held = m.primary_held;
    primary_full = λ j z e. view_same full_of (ap Some (sym its.ino)) z (primary_not_q j z e) ∙ m.primary_full j z e;
    each_primary = λ j z h f. elim (cases_key exact_place z q) [
      | inl same ↦ absurd (none_some j (sym (ap full_of at_q) ∙ ap (λ z. full_of (get t1.dentries z)) (sym same) ∙ f))
      | inr ne ↦ m.each_primary j z h (sym (view_same full_of (ap Some (sym its.ino)) z ne) ∙ f)
    ];
    remote_kind = λ z j k d e. elim (cases_key exact_place z q) [
      | inl same ↦
          let pair = some_same (i, a.kind) (j, k) (sym (ap remote_of at_q) ∙ ap (λ z. remote_of (get t1.dentries z)) (sym same) ∙ e) in
          subst (λ (x : ℕ × Kind). kind_of (said_by (cell_of t1 is.primary x.0)) ≡ Some x.1) pair (ap kind_of (said_same i ∙ ap (λ o. said_by (option_and_then (get t.dentries) o)) its.stands ∙ ap said_by its.full))
      | inr ne ↦ ap kind_of (said_same j) ∙ m.remote_kind z j k d (sym (view_same remote_of refl z ne) ∙ e)
    ];
    remote_no_dir = λ z j k d e. elim (cases_key exact_place z q) [
      | inl same ↦
          let pair = some_same (i, a.kind) (j, k) (sym (ap remote_of at_q) ∙ ap (λ z. remote_of (get t1.dentries z)) (sym same) ∙ e) in
          subst (λ (x : ℕ × Kind). same_kind x.1 Dir ≡ false) pair no_dir_kind
      | inr ne ↦ m.remote_no_dir z j k d (sym (view_same remote_of refl z ne) ∙ e)
    ];
    counts = λ j z e. elim (cases_eq i j) [
      | inl same ↦
          let there = some_same p z (sym its.stands ∙ ap (get is.primary) same ∙ e) in
          ap (λ z. stored_links (get t1.dentries z)) (sym there) ∙ ap stored_links at_p ∙ sym count_here ∙ ap (link_count s1) same
      | inr ne ↦
          let far = eq_false exact_place z p (λ same. ne (some_same i j (sym (m.primary_full i p its.stands) ∙ ap (λ z. full_of (get t.dentries z)) (sym same) ∙ m.primary_full j z e))) in
          ap stored_links (not_q z (primary_not_q j z e) ∙ insert_other exact_place t.dentries p (Full v y) z far) ∙ m.counts j z e ∙ sym (count_other j ne)
    ];
    next = m.next;
    first_next = m.first_next;
    next_fits = m.next_fits;
    above = m.above;
    beneath = m.beneath;
    own_cells = λ z h. elim (cases_key exact_place z q) [
      | inl same ↦ subst (λ (z : ℕ × List ℕ). IsOwn rank s.next z.0) (sym same) q_own
      | inr ne ↦ m.own_cells z (sym (view_same is_some refl z ne) ∙ h)
    ];
    stray_names = λ n j e. m.stray_names n j (sym (view_same names (ap Some (sym its.ino)) (stray_ino rank, n) (eq_false exact_place (stray_ino rank, n) q (λ same.
        false≢true (sym (stray_no_dir rank t s is.primary m) ∙ ap (λ (z : ℕ × List ℕ). is_dir s z.0) same ∙ can.parent)))) ∙ e);
    heads = λ d h. head_there d (m.heads d h);
    own_heads = own_heads;
    opens = m.opens;
    open_files = m.open_files;
    few_entries = λ d. more_in (entry_count s d) most_entries (q.0 == d) (entry_count s1 d) (count-insert_new exact_place (λ (e : (ℕ × List ℕ) × ℕ). e.0.0 == d) s.links q i can.free)
        (m.few_entries d) (λ h. subst (λ d. entry_count s d < most_entries) (eqb-true q.0 d h) can.entries);
    few_inodes = m.few_inodes;
    few_opens = m.few_opens;
    names_fit = λ z h. elim (cases_key exact_place z q) [
      | inl same ↦ subst (λ (z : ℕ × List ℕ). IsTrue (is_name z.1)) (sym same) can.name
      | inr ne ↦ m.names_fit z (sym (view_same is_some refl z ne) ∙ h)
    ];
    records_fit = λ z n x e. elim (cases_key exact_place z q) [
      | inl same ↦ absurd (other_kind (some_same _ _ (sym at_q ∙ ap (get t1.dentries) (sym same) ∙ e)))
      | inr ne ↦ elim (cases_key exact_place z p) [
        | inl same ↦ subst IsRecord (one_record (some_same _ _ (sym at_p ∙ ap (get t1.dentries) (sym same) ∙ e))) y_fits
        | inr far ↦ m.records_fit z n x (sym (not_q z ne ∙ insert_other exact_place t.dentries p (Full v y) z far) ∙ e)
      ]
    ];
  }
    where
      one_record : {b c : ℕ} {r z : InodeRecord} → Full b r ≡ Full c z → r ≡ z
      one_record f = cc

      other_kind : {b c j : ℕ} {k : Kind} {z : InodeRecord} → Remote b j k ≡ Full c z → ⊥
      other_kind f = absurd cc

  link_reached : (d : ℕ) → IsReached s d → IsReached s1 d
  link_reached _ at_root = at_root
  link_reached _ (below d n j r l h) = below d n j (link_reached d r) (insert_other exact_place s.links q i (d, n) (eq_false exact_place (d, n) q (λ e. none_some j (sym can.free ∙ ap (get s.links) (sym e) ∙ l))) ∙ l) h

  -- ---- the lumps, by which directory comes first

  abbrev full_first : List DirLump
  full_first = full_lump p.0 v p.1 y ∷ remote_lump q.0 w q.1 i a.kind ∷ []

  abbrev remote_first : List DirLump
  remote_first = remote_lump q.0 w q.1 i a.kind ∷ full_lump p.0 v p.1 y ∷ []

  abbrev in_one : List DirLump
  in_one = both_lump q.0 w p.1 y q.1 ∷ []

  high : first_ino rank ≤ i
  high = m.above i p its.stands

  p_stray : p.0 ≡ stray_ino rank → p.1 ≡ hex i
  p_stray e = m.stray_names p.1 i ((λ z. names (get t.dentries (sym e z, p.1))) ∙ ap names its.full ∙ ap Some its.ino)

  q_stray : q.0 ≡ stray_ino rank → q.1 ≡ hex i
  q_stray e = absurd (false≢true (sym (stray_no_dir rank t s is.primary m) ∙ ap (is_dir s) (sym e) ∙ can.parent))

  p_name : IsTrue (is_name p.1)
  p_name = m.names_fit p (is_some_at _ (Full its.version old) its.full)

  full_lump_fits : IsLump (full_lump p.0 v p.1 y)
  full_lump_fits = record {
    dir = own_fits rank s.next p.0 m.first_next m.next_fits p_own;
    head = v_fits;
    counts = (omega arith, omega arith, omega arith);
    full = (((v_fits, y_fits), tt), and_from _ _ (and_from _ _ (and_from _ _ p_name refl) refl) refl);
    remote = (tt, refl);
    null = (tt, refl);
  }

  no_dir_bit : IsTrue (is_no_dir a.kind)
  no_dir_bit = ap not no_dir_kind

  remote_lump_fits : IsLump (remote_lump q.0 w q.1 i a.kind)
  remote_lump_fits = record {
    dir = own_fits rank s.next q.0 m.first_next m.next_fits q_own;
    head = w_fits;
    counts = (omega arith, omega arith, omega arith);
    full = (tt, refl);
    remote = (((w_fits, linked_fits rank t s is.primary m i can.linked, no_dir_bit), tt), and_from _ _ (and_from _ _ (and_from _ _ can.name refl) refl) refl);
    null = (tt, refl);
  }

  -- what is said of the lumps in each of the orders
  record LumpsDo (lumps : List DirLump) : Type 0 where
    table : overlay t (flat_map lump_writes lumps) ≡ t1
    blob : IsBlob (record { lumps = lumps })
    own : AllByRecursion (IsOwn rank s.next) (lump_dirs (flat_map lump_writes lumps))
    orderly : AllByRecursion (IsOrderlyWrite rank) (flat_map lump_writes lumps)

  head_orderly : (n : ℕ) → 0 < n → n ≡ 0 → ⊥
  head_orderly n lt e = omega (arith, lt, e)

  full_first_do : p.0 < q.0 → LumpsDo full_first
  full_first_do lt = record {
    table = refl;
    blob = record { count = omega arith; lumps = ((full_lump_fits, (remote_lump_fits, tt)), and_from _ _ refl (and_from _ _ (lt-ltb p.0 q.0 lt) refl)) };
    own = (p_own, (q_own, tt));
    orderly = ((tt, tt, head_orderly v v_not_zero), ((high, p_stray, tt), ((tt, tt, head_orderly w w_not_zero), ((tt, q_stray, tt), tt))));
  }

  remote_first_do : q.0 < p.0 → LumpsDo remote_first
  remote_first_do lt = record {
    table = λ z. record t {
      heads = insert_swap exact_nat t.heads q.0 p.0 w v (eq_false exact_nat q.0 p.0 (λ e. omega (arith, lt, e))) z;
      dentries = insert_swap exact_place t.dentries q p (Remote w i a.kind) (Full v y) q_not_p z;
    };
    blob = record { count = omega arith; lumps = ((remote_lump_fits, (full_lump_fits, tt)), and_from _ _ refl (and_from _ _ (lt-ltb q.0 p.0 lt) refl)) };
    own = (q_own, (p_own, tt));
    orderly = ((tt, tt, head_orderly w w_not_zero), ((tt, q_stray, tt), ((tt, tt, head_orderly v v_not_zero), ((high, p_stray, tt), tt))));
  }

  in_one_do : p.0 ≡ q.0 → LumpsDo in_one
  in_one_do e =
      let apart_names : same_bytes q.1 p.1 ≡ false = ap (λ b. b && same_bytes q.1 p.1) (sym (eq-eqb q.0 p.0 (sym e))) ∙ place_ties q p ∙ q_not_p in
      record {
        table = λ z. record t {
          heads = (sym (insert-insert exact_nat t.heads q.0 w w) ∙ (λ x. insert (insert t.heads (sym e x) (next_version t (sym e x))) q.0 w)) z;
          dentries = insert (insert t.dentries (sym e z, p.1) (Full (next_version t (sym e z)) y)) q (Remote w i a.kind);
        };
        blob = record {
          count = omega arith;
          lumps = (
            (
              record {
                dir = own_fits rank s.next q.0 m.first_next m.next_fits q_own;
                head = w_fits;
                counts = (omega arith, omega arith, omega arith);
                full = (((w_fits, y_fits), tt), and_from _ _ (and_from _ _ (and_from _ _ p_name refl) refl) refl);
                remote = (((w_fits, linked_fits rank t s is.primary m i can.linked, no_dir_bit), tt), and_from _ _ (and_from _ _ (and_from _ _ can.name refl) (ap (λ b. not (b || false)) apart_names)) refl);
                null = (tt, refl);
              },
              tt,
            ),
            refl,
          );
        };
        own = (q_own, tt);
        orderly = ((tt, tt, head_orderly w w_not_zero), ((high, (λ at. p_stray (e ∙ at)), tt), ((tt, q_stray, tt), tt)));
      }

  lumps_do : LumpsDo (second_lumps t p q y)
  lumps_do = elim (cases_Bool (p.0 == q.0)) [
    | inl same ↦ subst LumpsDo (ap (λ b. if b then in_one else (if nat_lt p.0 q.0 then full_first else remote_first)) (sym same)) (in_one_do (eqb-true p.0 q.0 same))
    | inr other ↦ elim (cases_Bool (nat_lt p.0 q.0)) [
      | inl lt ↦ subst LumpsDo (λ z. if sym other z then in_one else (if sym lt z then full_first else remote_first)) (full_first_do (ltb-true p.0 q.0 lt))
      | inr ge ↦ subst LumpsDo (λ z. if sym other z then in_one else (if sym ge z then full_first else remote_first)) (remote_first_do (below_it (ltb-false p.0 q.0 ge) (eqb-false p.0 q.0 other)))
    ]
  ]
    where
      below_it : q.0 ≤ p.0 → (p.0 ≡ q.0 → ⊥) → q.0 < p.0
      below_it le ne = omega (arith, le, ne)

  link_plan_some : (r : ClientRequest) → IsPlan rank t s r i (change.Link q i) None None None (second_lumps t p q y)
  link_plan_some r =
      let d = lumps_do in
      record {
        primary = is.primary;
        dentries = subst (λ x. HasDentries rank x s1 is.primary) (sym d.table) link_dentries;
        reached = λ j h. link_reached j (is.reached j h);
        sessions = refl;
        opens = is.sessions.open_sessions;
        inode = linked_fits rank t s is.primary m i can.linked;
        optionals = (tt, tt, tt);
        blob = d.blob;
        own = d.own;
        rises = omega arith;
        orderly = d.orderly;
      }

  pub link_plan : (r : ClientRequest) → IsPlan rank t s r i (change.Link q i) None None None (link_lumps t s (full_place rank t r i) q i (get s.records i))
  link_plan r = subst (λ p. IsPlan rank t s r i (change.Link q i) None None None (link_lumps t s p q i (get s.records i))) (sym (place_is rank t s is r i p its.stands))
      (subst (λ o. IsPlan rank t s r i (change.Link q i) None None None (link_lumps t s p q i o)) (sym its.said) (link_plan_some r))

pub link_gives : (rank : ℕ) (t : Table) (s : PlainState) (r : ClientRequest) (i j : ℕ) (q : ℕ × List ℕ) → IsTreeOf rank t s → IsSent r → decision s r ≡ Accepted i (change.Link q j) → GivesTree rank t s r (link_event rank t s r q i)
link_gives rank t s r i j q is sent d =
    let can = meant s r (Accepted i (change.Link q j)) d in
    let found = effect_found s r sent is.dentries.next_fits (Ok (i, change.Link q j)) can.done in
    let lumps : ℕ → List DirLump = λ k. link_lumps t s (full_place rank t r k) q k (get s.records k) in
    let plan : IsPlan rank t s r i (change.Link q j) None None None (lumps i) = subst (λ k. IsPlan rank t s r k (change.Link q j) None None None (lumps k)) found.0 (link_plan rank t s is q j found.1 r) in
    update_gives rank t s is r sent i (change.Link q j) can None None None (lumps i) plan d
