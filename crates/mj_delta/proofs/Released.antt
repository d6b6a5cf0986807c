-- The event of a file that is let go gives the tree after the request: its record goes from stray where nothing else keeps it.
use Rattle.std.proofs.Common.{◌≡◌, ℕ, ◌+◌, ◌<◌, ◌≤◌, ◌^◌, true, false, cond, ◌||◌, List, [], ◌∷◌, Option, Some, None, Ok, refl, sym, ap, subst, ◌∙◌, inl, inr, arith}
use Rattle.std.specs.Prelude.{◌==◌, nat_lt, IsSome, IsTrue, is_some, if◌then◌else◌}
use Rattle.std.specs.Option.{option_and_then}
use Rattle.std.specs.Ordering.{eq_by_cmp}
use Rattle.std.proofs.lemmas.Bool.{false≢true, cases_Bool, cases_eq, eq-eqb, ne_eqb, and_from, ltb-false}
use Rattle.mj_base.specs.Name.{is_name}
use Rattle.mj_base.specs.ObjectName.{hex, stray_ino}
use Rattle.mj_base.specs.Record.{same_kind}
use Rattle.mj_base.specs.declared.record.Kind.{Kind}
use Rattle.mj_base.specs.declared.record.Kind.TheVariants.{Dir, File, Symlink}
use Rattle.mj_maps.specs.Map.{Set, get, insert, remove, len}
use Rattle.mj_maps.specs.Orders.{place_cmp, pair_cmp}
use Rattle.mj_maps.proofs.MapLaws.{exact_nat, exact_place, exact_pair, none_some, some_same, insert_same, insert_other, remove_same, remove_other, cases_key, eq_false, apart, count-remove, count_some, len-remove}
use Rattle.mj_tree.specs.declared.change.Change.TheVariants as change
use Rattle.mj_tree.specs.declared.change.Decision.TheVariants.{Accepted}
use Rattle.mj_tree.specs.declared.request.ClientRequest.{ClientRequest}
use Rattle.mj_tree.specs.State.{PlainState, root, is_dir, is_file, is_kind, is_kept, link_count, open_count}
use Rattle.mj_tree.specs.Change.{settled}
use Rattle.mj_tree.specs.Answer.{decision}
use Rattle.mj_cells.specs.Table.{Dentry, Table}
use Rattle.mj_cells.specs.Table.Dentry.{Full}
use Rattle.mj_event.specs.declared.Event.TheVariants as event
use Rattle.mj_recovery.specs.Orderly.{IsOwn}
use Rattle.mj_delta.specs.Reads.{Places, names, full_of, said_by, stored_links, remote_of, cell_of, kind_of, is_held}
use Rattle.mj_delta.specs.TreeOf.{IsReached, HasDentries, IsTreeOf}
use Rattle.mj_delta.specs.TreeOf.IsReached.{at_root, below}
use Rattle.mj_delta.specs.Fits.{IsSent}
use Rattle.mj_delta.specs.Events.{next_version, null_lump, release_lumps, release_event, update_of}
use Rattle.mj_delta.specs.Steps.{GivesTree}
use Rattle.mj_delta.proofs.Facts.{ids, cases_option, some_is, is_some_at, kind_record, record_primary, full_named, remote_named, held_cases, stray_no_dir}
use Rattle.mj_delta.proofs.Decided.{meant, effect_found}
use Rattle.mj_delta.proofs.Updated.{IsPlan, update_gives}

module _ (rank : ℕ) (t : Table) (s : PlainState) (is : IsTreeOf rank t s) (client i : ℕ) (there : IsSome (get s.opens (client, i))) where
  abbrev m : HasDentries rank t s is.primary
  m = is.dentries

  abbrev pub less : PlainState
  less = record s { opens = remove s.opens (client, i) }

  pub file : is_file s i ≡ true
  file = m.open_files client i there

  pub its : (p : ℕ × List ℕ) × (get is.primary i ≡ Some p)
  its = let r = kind_record File (get s.records i) file in record_primary rank t s is.primary m i r.0 r.1

  fits : i < 2 ^ 64
  fits = omega (arith, m.beneath i its.0 its.1, m.next_fits)

  still_open : (c j : ℕ) → IsSome (get less.opens (c, j)) → IsSome (get s.opens (c, j))
  still_open c j h = elim (cases_key exact_pair (c, j) (client, i)) [
    | inl same ↦ absurd (false≢true (sym (ap (λ k. is_some (get less.opens k)) same ∙ ap is_some (remove_same exact_pair s.opens (client, i))) ∙ h))
    | inr ne ↦ subst (λ o. IsSome o) (remove_other exact_pair s.opens (client, i) (c, j) ne) h
  ]

  open_less : (j : ℕ) → open_count less j + cond (i == j) 1 0 ≡ open_count s j
  open_less j = let u = some_is (get s.opens (client, i)) there in count-remove exact_pair (λ (e : (ℕ × ℕ) × Unit {0}). e.0.1 == j) s.opens (client, i) u.0 u.1

  open_other : (j : ℕ) → (i ≡ j → ⊥) → open_count less j ≡ open_count s j
  open_other j ne = let none : cond (i == j) 1 0 ≡ 0 = ap (λ b. cond {A = ℕ} b 1 0) (ne_eqb i j ne) in omega (arith, open_less j, none)

  pub kept_other : (j : ℕ) → (i ≡ j → ⊥) → is_kept less j ≡ is_kept s j
  kept_other j ne = ap (λ n. nat_lt 0 (link_count s j + n)) (open_other j ne)

  pub was_kept : is_kept s i ≡ true
  was_kept =
      let r = kind_record File (get s.records i) file in
      elim (cases_Bool (is_kept s i)) [
        | inl h ↦ h
        | inr h ↦ absurd (none_some r.0 (sym (m.records i ∙ ap (λ b. cond b (said_by (cell_of t is.primary i)) None) h) ∙ r.1))
      ]

  few : len less.opens ≤ len s.opens
  few = let u = some_is (get s.opens (client, i)) there in omega (arith, len-remove exact_pair s.opens (client, i) u.0 u.1)

  -- ---- something else keeps the record

  module _ (kept : is_kept less i ≡ true) where
    kept_same : (j : ℕ) → is_kept less j ≡ is_kept s j
    kept_same j = elim (cases_eq i j) [
      | inl same ↦ subst (λ j. is_kept less j ≡ is_kept s j) same (kept ∙ sym was_kept)
      | inr ne ↦ kept_other j ne
    ]

    less_dentries : HasDentries rank (record t { opens = remove t.opens (client, i) }) less is.primary
    less_dentries = record {
      links = m.links;
      records = λ j. m.records j ∙ ap (λ b. cond b (said_by (cell_of t is.primary j)) None) (sym (kept_same j));
      primary_held = m.primary_held;
      primary_full = m.primary_full;
      each_primary = m.each_primary;
      remote_kind = m.remote_kind;
      remote_no_dir = m.remote_no_dir;
      counts = m.counts;
      next = m.next;
      first_next = m.first_next;
      next_fits = m.next_fits;
      above = m.above;
      beneath = m.beneath;
      own_cells = m.own_cells;
      stray_names = m.stray_names;
      heads = m.heads;
      own_heads = m.own_heads;
      opens = ap (λ (x : Set pair_cmp). remove x (client, i)) m.opens;
      open_files = λ c j h. m.open_files c j (still_open c j h);
      few_entries = m.few_entries;
      few_inodes = m.few_inodes;
      few_opens = omega (arith, few, m.few_opens);
      names_fit = m.names_fit;
      records_fit = m.records_fit;
    }

  less_reached : (d : ℕ) → IsReached s d → IsReached less d
  less_reached _ at_root = at_root
  less_reached _ (below d n j r l h) = below d n j (less_reached d r) l h

  -- ---- nothing keeps it any more

  module _ (gone : is_kept less i ≡ false) where
    abbrev p : ℕ × List ℕ
    p = its.0

    abbrev v : ℕ
    v = next_version t (stray_ino rank)

    abbrev pub s1 : PlainState
    s1 = record less { records = remove s.records i }

    no_count : link_count s i + open_count less i ≡ 0
    no_count = let le = ltb-false 0 (link_count s i + open_count less i) gone in omega (arith, le)

    no_link : (q : ℕ × List ℕ) → get s.links q ≡ Some i → ⊥
    no_link q e = let some = count_some exact_place (λ (e : (ℕ × List ℕ) × ℕ). e.1 == i) s.links q i e (eq-eqb i i refl) in omega (arith, some, no_count)

    not_open : (c j : ℕ) → IsSome (get less.opens (c, j)) → i ≡ j → ⊥
    not_open c j h same =
        let u = some_is (get less.opens (c, j)) h in
        let some = count_some exact_pair (λ (e : (ℕ × ℕ) × Unit {0}). e.0.1 == i) less.opens (c, j) u.0 u.1 (eq-eqb j i (sym same)) in
        omega (arith, some, no_count)

    named_link : (q : ℕ × List ℕ) (j : ℕ) → is_dir s q.0 ≡ true → names (get t.dentries q) ≡ Some j → get s.links q ≡ Some j
    named_link q j h e = m.links q ∙ (λ z. cond (h z) (names (get t.dentries q)) None) ∙ e

    -- it stands in stray, under its inode's name
    in_stray : p.0 ≡ stray_ino rank
    in_stray = elim (held_cases rank t s is.primary m p.0 (m.primary_held i p its.1)) [
      | inl dir ↦ absurd (no_link p (named_link p i dir (full_named _ i (m.primary_full i p its.1))))
      | inr e ↦ e
    ]

    named : p.1 ≡ hex i
    named = m.stray_names p.1 i ((λ z. names (get t.dentries (sym in_stray z, p.1))) ∙ full_named _ i (m.primary_full i p its.1))

    pub place : p ≡ (stray_ino rank, hex i)
    place = λ z. (in_stray z, named z)

    abbrev t1 : Table
    t1 = record t { opens = remove t.opens (client, i); heads = insert t.heads (stray_ino rank) v; dentries = remove t.dentries (stray_ino rank, hex i) }

    abbrev z0 : ℕ × List ℕ
    z0 = (stray_ino rank, hex i)

    at_z0 : get t1.dentries z0 ≡ None
    at_z0 = remove_same exact_place t.dentries z0

    other : (q : ℕ × List ℕ) → eq_by_cmp place_cmp q z0 ≡ false → get t1.dentries q ≡ get t.dentries q
    other q ne = remove_other exact_place t.dentries z0 q ne

    -- what is there now was there
    still : {A : Type 0} (f : Option Dentry → Option A) → f None ≡ None → (q : ℕ × List ℕ) (x : A) → f (get t1.dentries q) ≡ Some x → (eq_by_cmp place_cmp q z0 ≡ false) × (f (get t.dentries q) ≡ Some x)
    still f none q x e = elim (cases_key exact_place q z0) [
      | inl same ↦ absurd (none_some x (sym none ∙ ap f (sym at_z0) ∙ ap (λ q. f (get t1.dentries q)) (sym same) ∙ e))
      | inr ne ↦ (ne, ap f (sym (other q ne)) ∙ e)
    ]

    some_still : (q : ℕ × List ℕ) → IsSome (get t1.dentries q) → IsSome (get t.dentries q)
    some_still q h = elim (cases_key exact_place q z0) [
      | inl same ↦ absurd (false≢true (sym (ap (λ q. is_some (get t1.dentries q)) same ∙ ap is_some at_z0) ∙ h))
      | inr ne ↦ subst (λ o. IsSome o) (other q ne) h
    ]

    kind_same : (kind : Kind) (j : ℕ) → (i ≡ j → ⊥) → is_kind kind (get s1.records j) ≡ is_kind kind (get s.records j)
    kind_same kind j ne = ap (is_kind kind) (remove_other exact_nat s.records i j (eq_false exact_nat j i (λ e. ne (sym e))))

    pub no_dir : is_kind Dir (get s.records i) ≡ false
    no_dir = let r = kind_record File (get s.records i) file in ap (is_kind Dir) r.1 ∙ file_no_dir r.0.kind (sym (ap (is_kind File) r.1) ∙ file)
      where
        file_no_dir : (k : Kind) → same_kind k File ≡ true → same_kind k Dir ≡ false
        file_no_dir Dir e = absurd (false≢true e)
        file_no_dir File e = refl
        file_no_dir Symlink e = refl

    dir_same : (d : ℕ) → is_dir s1 d ≡ is_dir s d
    dir_same d = elim (cases_eq i d) [
      | inl same ↦ subst (λ d. is_dir s1 d ≡ is_dir s d) same (ap (λ b. (i == root) || b) (ap (is_kind Dir) (remove_same exact_nat s.records i) ∙ sym no_dir))
      | inr ne ↦ ap (λ b. (d == root) || b) (kind_same Dir d ne)
    ]

    pub held_same : (d : ℕ) → is_held rank s1 d ≡ is_held rank s d
    held_same d = ap (λ b. b || (d == stray_ino rank)) (dir_same d)

    abbrev primary1 : Places
    primary1 = remove is.primary i

    primary_cases : (j : ℕ) (q : ℕ × List ℕ) → get primary1 j ≡ Some q → (i ≡ j → ⊥) × (get is.primary j ≡ Some q)
    primary_cases j q e = elim (cases_key exact_nat j i) [
      | inl same ↦ absurd (none_some q (sym (remove_same exact_nat is.primary i) ∙ ap (get primary1) (sym same) ∙ e))
      | inr ne ↦ ((λ x. apart exact_nat j i ne (sym x)), sym (remove_other exact_nat is.primary i j ne) ∙ e)
    ]

    -- no other full dentry stands at its place
    pub far : (j : ℕ) (q : ℕ × List ℕ) → (i ≡ j → ⊥) → get is.primary j ≡ Some q → eq_by_cmp place_cmp q z0 ≡ false
    far j q ne e = eq_false exact_place q z0 (λ same. ne (some_same i j (sym (m.primary_full i p its.1) ∙ ap (λ q. full_of (get t.dentries q)) (place ∙ sym same) ∙ m.primary_full j q e)))

    cell_other : (j : ℕ) → (i ≡ j → ⊥) → cell_of t1 primary1 j ≡ cell_of t is.primary j
    cell_other j ne = ap (option_and_then (get t1.dentries)) (remove_other exact_nat is.primary i j (eq_false exact_nat j i (λ e. ne (sym e)))) ∙ elim (cases_option (get is.primary j)) [
      | inl none ↦ ap (option_and_then (get t1.dentries)) none ∙ sym (ap (option_and_then (get t.dentries)) none)
      | inr w ↦ ap (option_and_then (get t1.dentries)) w.1 ∙ other w.0 (far j w.0 ne w.1) ∙ sym (ap (option_and_then (get t.dentries)) w.1)
    ]

    not_zero : 0 < v
    not_zero = omega arith

    own_heads : (d n : ℕ) → get t1.heads d ≡ Some n → IsOwn rank s.next d
    own_heads d n e = elim (cases_key exact_nat d (stray_ino rank)) [
      | inl same ↦ inr (inl same)
      | inr ne ↦ m.own_heads d n (sym (insert_other exact_nat t.heads (stray_ino rank) v d ne) ∙ e)
    ]

    link_named : (q : ℕ × List ℕ) → is_dir s q.0 ≡ true → eq_by_cmp place_cmp q z0 ≡ false
    link_named q h = eq_false exact_place q z0 (λ same. false≢true (sym (stray_no_dir rank t s is.primary m) ∙ ap (λ (q : ℕ × List ℕ). is_dir s q.0) (sym same) ∙ h))

    gone_dentries : HasDentries rank t1 s1 primary1
    gone_dentries = record {
      links = λ q. m.links q ∙ elim (cases_Bool (is_dir s q.0)) [
        | inl h ↦ (λ z. cond (sym (dir_same q.0) z) (names (sym (other q (link_named q h)) z)) None)
        | inr h ↦ ap (λ b. cond b (names (get t.dentries q)) None) h ∙ sym (ap (λ b. cond b (names (get t1.dentries q)) None) (dir_same q.0 ∙ h))
      ];
      records = λ j. elim (cases_eq i j) [
        | inl same ↦ subst (λ j. get s1.records j ≡ cond (is_kept less j) (said_by (cell_of t1 primary1 j)) None) same (remove_same exact_nat s.records i ∙ sym (ap (λ b. cond b (said_by (cell_of t1 primary1 i)) None) gone))
        | inr ne ↦ remove_other exact_nat s.records i j (eq_false exact_nat j i (λ e. ne (sym e))) ∙ m.records j ∙ (λ z. cond (sym (kept_other j ne) z) (said_by (sym (cell_other j ne) z)) None)
      ];
      primary_held = λ j q e. held_same q.0 ∙ m.primary_held j q (primary_cases j q e).1;
      primary_full = λ j q e. let w = primary_cases j q e in ap full_of (other q (far j q w.0 w.1)) ∙ m.primary_full j q w.1;
      each_primary = λ j q h f.
          let w = still full_of refl q j f in
          let e = m.each_primary j q (sym (held_same q.0) ∙ h) w.1 in
          let ne : i ≡ j → ⊥ = λ same. apart exact_place q z0 w.0 (some_same q p (sym e ∙ ap (get is.primary) (sym same) ∙ its.1) ∙ place) in
          remove_other exact_nat is.primary i j (eq_false exact_nat j i (λ x. ne (sym x))) ∙ e;
      remote_kind = λ q j k h e.
          let w = still remote_of refl q (j, k) e in
          let dir = sym (dir_same q.0) ∙ h in
          let ne : i ≡ j → ⊥ = λ same. no_link q (named_link q j dir (remote_named _ j k w.1) ∙ ap Some (sym same)) in
          ap (λ o. kind_of (said_by o)) (cell_other j ne) ∙ m.remote_kind q j k dir w.1;
      remote_no_dir = λ q j k h e. m.remote_no_dir q j k (sym (dir_same q.0) ∙ h) (still remote_of refl q (j, k) e).1;
      counts = λ j q e. let w = primary_cases j q e in ap stored_links (other q (far j q w.0 w.1)) ∙ m.counts j q w.1;
      next = m.next;
      first_next = m.first_next;
      next_fits = m.next_fits;
      above = λ j q e. m.above j q (primary_cases j q e).1;
      beneath = λ j q e. m.beneath j q (primary_cases j q e).1;
      own_cells = λ q h. m.own_cells q (some_still q h);
      stray_names = λ n j e. m.stray_names n j (still names refl (stray_ino rank, n) j e).1;
      heads = λ d h. elim (cases_key exact_nat d (stray_ino rank)) [
        | inl same ↦ is_some_at _ v (ap (get t1.heads) same ∙ insert_same exact_nat t.heads (stray_ino rank) v)
        | inr ne ↦ subst (λ o. IsSome o) (sym (insert_other exact_nat t.heads (stray_ino rank) v d ne)) (m.heads d (sym (held_same d) ∙ h))
      ];
      own_heads = own_heads;
      opens = ap (λ (x : Set pair_cmp). remove x (client, i)) m.opens;
      open_files = λ c j h. kind_same File j (not_open c j h) ∙ m.open_files c j (still_open c j h);
      few_entries = m.few_entries;
      few_inodes = let r = kind_record File (get s.records i) file in omega (arith, len-remove exact_nat s.records i r.0 r.1, m.few_inodes);
      few_opens = omega (arith, few, m.few_opens);
      names_fit = λ q h. m.names_fit q (some_still q h);
      records_fit = λ q n x e. m.records_fit q n x (still (λ o. o) refl q (Full n x) e).1;
    }

    gone_reached : (d : ℕ) → IsReached s d → IsReached s1 d
    gone_reached _ at_root = at_root
    gone_reached _ (below d n j r l h) = below d n j (gone_reached d r) l (dir_same j ∙ h)

    name_fits : IsTrue (is_name (hex i))
    name_fits = subst (λ n. IsTrue (is_name n)) named (m.names_fit p (elim (cases_option (get t.dentries p)) [
      | inl none ↦ absurd (none_some i (ap full_of (sym none) ∙ m.primary_full i p its.1))
      | inr w ↦ is_some_at _ w.0 w.1
    ]))

  pub release_plan : (r : ClientRequest) → client ≡ r.client → IsPlan rank t s r i (change.Release client i) None None (Some i) (release_lumps rank t s client i)
  release_plan r whose = elim (is_kept less i) as (λ b. is_kept less i ≡ b → IsPlan rank t s r i (change.Release client i) None None (Some i) (if b then [] else null_lump (stray_ino rank) (next_version t (stray_ino rank)) (hex i) ∷ [])) [
    | true ↦ λ kept.
        let state : less ≡ settled less i = sym (ap (λ b. if b then less else record less { records = remove s.records i }) kept) in
        record {
          primary = is.primary;
          dentries = subst (λ z. HasDentries rank (record t { opens = remove t.opens (r.client, i) }) z is.primary) state (subst (λ c. HasDentries rank (record t { opens = remove t.opens (c, i) }) less is.primary) whose (less_dentries kept));
          reached = subst (λ z. (d : ℕ) → is_dir z d ≡ true → IsReached z d) state (λ d h. less_reached d (is.reached d h));
          sessions = ap (λ (z : PlainState). z.sessions) (sym state);
          opens = subst (λ (z : PlainState). (c j : ℕ) → IsSome (get z.opens (c, j)) → IsSome (get s.sessions c)) state (λ c j h. is.sessions.open_sessions c j (still_open c j h));
          inode = fits;
          optionals = (tt, tt, fits);
          blob = record { count = omega arith; lumps = (tt, refl) };
          own = tt;
          rises = subst (λ (z : PlainState). s.next ≤ z.next) state (omega arith);
          orderly = tt;
        }
    | false ↦ λ gone.
        let state : s1 gone ≡ settled less i = sym (ap (λ b. if b then less else record less { records = remove s.records i }) gone) in
        record {
          primary = primary1 gone;
          dentries = subst (λ z. HasDentries rank (record t { opens = remove t.opens (r.client, i); heads = insert t.heads (stray_ino rank) (v gone); dentries = remove t.dentries (stray_ino rank, hex i) }) z (primary1 gone)) state
              (subst (λ c. HasDentries rank (record t { opens = remove t.opens (c, i); heads = insert t.heads (stray_ino rank) (v gone); dentries = remove t.dentries (stray_ino rank, hex i) }) (s1 gone) (primary1 gone)) whose (gone_dentries gone));
          reached = subst (λ z. (d : ℕ) → is_dir z d ≡ true → IsReached z d) state (λ d h. gone_reached gone d (is.reached d (sym (dir_same gone d) ∙ h)));
          sessions = ap (λ (z : PlainState). z.sessions) (sym state);
          opens = subst (λ (z : PlainState). (c j : ℕ) → IsSome (get z.opens (c, j)) → IsSome (get s.sessions c)) state (λ c j h. is.sessions.open_sessions c j (still_open c j h));
          inode = fits;
          optionals = (tt, tt, fits);
          blob = record {
            count = omega arith;
            lumps = (
              (
                record {
                  dir = omega (arith, (ids rank).below, m.first_next, m.next_fits);
                  head = omega arith;
                  counts = (omega arith, omega arith, omega arith);
                  full = (tt, refl);
                  remote = (tt, refl);
                  null = ((omega arith, tt), and_from _ _ (and_from _ _ (and_from _ _ (name_fits gone) refl) refl) refl);
                },
                tt,
              ),
              refl,
            );
          };
          own = (inr (inl refl), tt);
          rises = subst (λ (z : PlainState). s.next ≤ z.next) state (omega arith);
          orderly = ((tt, tt, λ e. omega (arith, e, not_zero gone)), ((tt, tt, tt), tt));
        }
  ] refl

pub release_gives : (rank : ℕ) (t : Table) (s : PlainState) (r : ClientRequest) (i client j : ℕ) → IsTreeOf rank t s → IsSent r → decision s r ≡ Accepted i (change.Release client j) → GivesTree rank t s r (release_event rank t s r i)
release_gives rank t s r i client j is sent d =
    let can = meant s r (Accepted i (change.Release client j)) d in
    let found = effect_found s r sent is.dentries.next_fits (Ok (i, change.Release client j)) can.done in
    let plan : IsPlan rank t s r i (change.Release client j) None None (Some i) (release_lumps rank t s client i) =
    subst (λ k. IsPlan rank t s r k (change.Release client j) None None (Some k) (release_lumps rank t s client k)) found.0 (release_plan rank t s is client j found.2 r found.1) in
    subst (λ c. GivesTree rank t s r (event.Update (update_of s r i None None (Some i) (release_lumps rank t s c i)))) found.1
    (update_gives rank t s is r sent i (change.Release client j) can None None (Some i) (release_lumps rank t s client i) plan d)
