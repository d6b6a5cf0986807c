-- A link moves: the dentries once its dentry has.
use Rattle.std.proofs.Common.{◌≡◌, ℕ, ◌+◌, ◌<◌, ◌≤◌, true, false, cond, List, Option, Some, None, refl, sym, ap, subst, ◌∙◌, inl, inr, arith}
use Rattle.std.specs.Prelude.{IsSome, IsTrue, is_some, ◌==◌, nat_lt}
use Rattle.std.specs.Option.{option_and_then, option_map}
use Rattle.std.specs.Ordering.{eq_by_cmp}
use Rattle.std.proofs.lemmas.Bool.{false≢true, cases_Bool, eqb-true}
use Rattle.mj_base.specs.Name.{is_name}
use Rattle.mj_base.specs.ObjectName.{hex, stray_ino}
use Rattle.mj_base.specs.Record.{IsRecord}
use Rattle.mj_base.specs.declared.record.Kind.{Kind}
use Rattle.mj_base.specs.declared.record.InodeRecord.{InodeRecord}
use Rattle.mj_maps.specs.Map.{get, remove, collect}
use Rattle.mj_maps.specs.Orders.{place_cmp}
use Rattle.mj_maps.proofs.MapLaws.{exact_nat, exact_place, none_some, some_same, cases_key, insert_same, insert_other, remove_same, remove_other, count-remove, count-insert_new, eq_false, eq_same, apart, get-collect}
use Rattle.mj_tree.specs.State.{PlainState, is_dir, is_kept, link_count, open_count, entry_count}
use Rattle.mj_tree.specs.Row.{most_entries}
use Rattle.mj_tree.specs.Change.{with_moved}
use Rattle.mj_cells.specs.Table.{Dentry, Table}
use Rattle.mj_cells.specs.Table.Dentry.{Full as FullAt, Remote as RemoteAt}
use Rattle.mj_recovery.specs.Orderly.{IsOwn}
use Rattle.mj_delta.specs.Reads.{Places, names, full_of, said_by, stored_links, remote_of, cell_of, kind_of, is_held}
use Rattle.mj_delta.specs.TreeOf.{HasDentries}
use Rattle.mj_delta.specs.Plan.Naming.{Full, Remote}
use Rattle.mj_delta.specs.Plan.{Naming, naming}
use Rattle.mj_delta.proofs.Facts.{by_key, cases_option, cond_same, held_dir, link_parent, stray_no_dir}
use Rattle.mj_delta.proofs.NewEntry.{own_dir, more_in}
use Rattle.mj_delta.proofs.Ending.{Beside}

-- a dentry that says this
abbrev pub saying : Option Naming → Option Dentry
saying None = None
saying (Some (Full r)) = Some (FullAt 0 r)
saying (Some (Remote i k)) = Some (RemoteAt 0 i k)

-- a view that does not tell versions apart sees only what is said
module _ {A : Type 0} (f : Option Dentry → A) (full : (v : ℕ) (r : InodeRecord) → f (Some (FullAt v r)) ≡ f (Some (FullAt 0 r))) (remote : (v i : ℕ) (k : Kind) → f (Some (RemoteAt v i k)) ≡ f (Some (RemoteAt 0 i k))) where
  view_said : (o : Option Dentry) → f o ≡ f (saying (naming o))
  view_said None = refl
  view_said (Some (FullAt v r)) = full v r
  view_said (Some (RemoteAt v i k)) = remote v i k

  pub view_alike : (x y : Option Dentry) → naming x ≡ naming y → f x ≡ f y
  view_alike x y e = view_said x ∙ ap (λ n. f (saying n)) e ∙ sym (view_said y)

pub same_names_of : (x y : Option Dentry) → naming x ≡ naming y → names x ≡ names y
same_names_of = view_alike names (λ v r. refl) (λ v i k. refl)

pub same_full : (x y : Option Dentry) → naming x ≡ naming y → full_of x ≡ full_of y
same_full = view_alike full_of (λ v r. refl) (λ v i k. refl)

pub same_said : (x y : Option Dentry) → naming x ≡ naming y → said_by x ≡ said_by y
same_said = view_alike said_by (λ v r. refl) (λ v i k. refl)

pub same_links : (x y : Option Dentry) → naming x ≡ naming y → stored_links x ≡ stored_links y
same_links = view_alike stored_links (λ v r. refl) (λ v i k. refl)

pub same_remote : (x y : Option Dentry) → naming x ≡ naming y → remote_of x ≡ remote_of y
same_remote = view_alike remote_of (λ v r. refl) (λ v i k. refl)

pub same_there : (x y : Option Dentry) → naming x ≡ naming y → is_some x ≡ is_some y
same_there = view_alike is_some (λ v r. refl) (λ v i k. refl)

no_name : (o : Option Dentry) → names o ≡ None → full_of o ≡ None
no_name None e = refl
no_name (Some d) e = absurd (none_some _ (sym e))

full_naming : (v : ℕ) (r : InodeRecord) (o : Option Dentry) → naming o ≡ Some (Full r) → (w : ℕ) × (o ≡ Some (FullAt w r))
full_naming v r None e = absurd (none_some _ e)
full_naming v r (Some (FullAt w z)) e = (w, ap (λ z. Some (FullAt w z)) (one (some_same _ _ e)))
  where
    one : Full z ≡ Full r → z ≡ r
    one f = cc
full_naming v r (Some (RemoteAt w i k)) e = absurd (other (some_same _ _ e))
  where
    other : Remote i k ≡ Full r → ⊥
    other f = absurd cc

-- the place after the move
abbrev pub placed : ℕ × List ℕ → ℕ × List ℕ → ℕ × List ℕ → ℕ × List ℕ
placed q r x = cond (eq_by_cmp place_cmp x q) r x

-- the places of full dentries after it
abbrev pub moved_places : Places → ℕ × List ℕ → ℕ × List ℕ → Places
moved_places primary q r = collect (λ (_ : ℕ) (x : ℕ × List ℕ). Some (placed q r x)) primary

module _ (rank : ℕ) (t : Table) (s : PlainState) (primary : Places) (m : HasDentries rank t s primary) (q r : ℕ × List ℕ) (i : ℕ) (link : get s.links q ≡ Some i) (free : get s.links r ≡ None)
    (r_dir : is_dir s r.0 ≡ true) (r_name : IsTrue (is_name r.1)) (room : (q.0 == r.0) ≡ false → entry_count s r.0 < most_entries)
    (t1 : Table) (at_q : get t1.dentries q ≡ None) (at_r : naming (get t1.dentries r) ≡ naming (get t.dentries q))
    (at_other : (x : ℕ × List ℕ) → (x ≡ q → ⊥) → (x ≡ r → ⊥) → get t1.dentries x ≡ get t.dentries x) (beside : Beside rank t (with_moved s q r i) t1) where
  abbrev moved : PlainState
  moved = with_moved s q r i

  abbrev primary1 : Places
  primary1 = moved_places primary q r

  shift : (j : ℕ) → get primary1 j ≡ option_map (placed q r) (get primary j)
  shift j = get-collect exact_nat (λ (_ : ℕ) (x : ℕ × List ℕ). Some (placed q r x)) primary j ∙ as_map (get primary j)
    where
      as_map : (o : Option (ℕ × List ℕ)) → option_and_then (λ x. Some (placed q r x)) o ≡ option_map (placed q r) o
      as_map None = refl
      as_map (Some x) = refl

  q_not_r : q ≡ r → ⊥
  q_not_r e = none_some i (sym free ∙ ap (get s.links) (sym e) ∙ link)

  q_dir : is_dir s q.0 ≡ true
  q_dir = (link_parent rank t s primary m q i link).0

  r_names : names (get t.dentries r) ≡ None
  r_names = sym (m.links r ∙ ap (λ b. cond b (names (get t.dentries r)) None) r_dir) ∙ free

  by_place : (P : ℕ × List ℕ → Type 0) → P q → P r → ((x : ℕ × List ℕ) → (x ≡ q → ⊥) → (x ≡ r → ⊥) → P x) → (x : ℕ × List ℕ) → P x
  by_place P here there other = by_key exact_place q P here (λ x nq. elim (cases_key exact_place x r) [ inl e ↦ subst P (sym e) there | inr nr ↦ other x (apart exact_place x q nq) (apart exact_place x r nr) ])

  placed_q : placed q r q ≡ r
  placed_q = ap (λ b. cond b r q) (eq_same exact_place q)

  placed_other : (x : ℕ × List ℕ) → (x ≡ q → ⊥) → placed q r x ≡ x
  placed_other x ne = ap (λ b. cond b r x) (eq_false exact_place x q ne)

  -- a full dentry says at its new place what it said
  full_moved : (j : ℕ) (x : ℕ × List ℕ) → get primary j ≡ Some x → naming (get t1.dentries (placed q r x)) ≡ naming (get t.dentries x)
  full_moved j x e = elim (cases_key exact_place x q) [
    | inl same ↦ ap (λ x. naming (get t1.dentries (placed q r x))) same ∙ ap (λ x. naming (get t1.dentries x)) placed_q ∙ at_r ∙ ap (λ x. naming (get t.dentries x)) (sym same)
    | inr ne ↦
        let nq = apart exact_place x q ne in
        let nr : x ≡ r → ⊥ = λ z. none_some j (sym (no_name (get t.dentries r) r_names) ∙ ap (λ x. full_of (get t.dentries x)) (sym z) ∙ m.primary_full j x e) in
        ap naming (ap (get t1.dentries) (placed_other x nq) ∙ at_other x nq nr)
  ]

  cell_moved : (j : ℕ) → naming (cell_of t1 primary1 j) ≡ naming (cell_of t primary j)
  cell_moved j = ap (λ o. naming (option_and_then (get t1.dentries) o)) (shift j) ∙ elim (cases_option (get primary j)) [
    | inl none ↦ ap (λ o. naming (option_and_then (get t1.dentries) (option_map (placed q r) o))) none ∙ sym (ap (λ o. naming (option_and_then (get t.dentries) o)) none)
    | inr u ↦ ap (λ o. naming (option_and_then (get t1.dentries) (option_map (placed q r) o))) u.1 ∙ full_moved j u.0 u.1 ∙ sym (ap (λ o. naming (option_and_then (get t.dentries) o)) u.1)
  ]

  said_moved : (j : ℕ) → said_by (cell_of t1 primary1 j) ≡ said_by (cell_of t primary j)
  said_moved j = same_said _ _ (cell_moved j)

  r_free : get (remove s.links q) r ≡ None
  r_free = remove_other exact_place s.links q r (eq_false exact_place r q (λ e. q_not_r (sym e))) ∙ free

  pub count_moved : (j : ℕ) → link_count moved j ≡ link_count s j
  count_moved j =
      count-insert_new exact_place (λ (e : (ℕ × List ℕ) × ℕ). e.1 == j) (remove s.links q) r i r_free
      ∙ count-remove exact_place (λ (e : (ℕ × List ℕ) × ℕ). e.1 == j) s.links q i link

  kept_moved : (j : ℕ) → is_kept moved j ≡ is_kept s j
  kept_moved j = ap (λ n. nat_lt 0 (n + open_count s j)) (count_moved j)

  moved_cases : (j : ℕ) (x : ℕ × List ℕ) → get primary1 j ≡ Some x → (y : ℕ × List ℕ) × (get primary j ≡ Some y) × (x ≡ placed q r y)
  moved_cases j x e = elim (cases_option (get primary j)) [
    | inl none ↦ absurd (none_some x (ap (option_map (placed q r)) (sym none) ∙ sym (shift j) ∙ e))
    | inr u ↦ (u.0, u.1, some_same x (placed q r u.0) (sym e ∙ shift j ∙ ap (option_map (placed q r)) u.1))
  ]

  placed_held : (y : ℕ × List ℕ) → is_held rank s y.0 ≡ true → is_held rank s (placed q r y).0 ≡ true
  placed_held y h = elim (cases_key exact_place y q) [
    | inl same ↦ ap (λ (y : ℕ × List ℕ). is_held rank s (placed q r y).0) same ∙ ap (λ (y : ℕ × List ℕ). is_held rank s y.0) placed_q ∙ held_dir rank t s primary m r.0 r_dir
    | inr ne ↦ ap (λ (y : ℕ × List ℕ). is_held rank s y.0) (placed_other y (apart exact_place y q ne)) ∙ h
  ]

  old_remote : (x : ℕ × List ℕ) (j : ℕ) (k : Kind) → is_dir s x.0 ≡ true → remote_of (get t1.dentries x) ≡ Some (j, k) → (y : ℕ × List ℕ) × (is_dir s y.0 ≡ true) × (remote_of (get t.dentries y) ≡ Some (j, k))
  old_remote x j k = by_place (λ x. is_dir s x.0 ≡ true → remote_of (get t1.dentries x) ≡ Some (j, k) → (y : ℕ × List ℕ) × (is_dir s y.0 ≡ true) × (remote_of (get t.dentries y) ≡ Some (j, k)))
      (λ _ f. absurd (none_some (j, k) (sym (ap remote_of at_q) ∙ f)))
      (λ _ f. (q, q_dir, sym (same_remote _ _ at_r) ∙ f))
      (λ x nq nr d f. (x, d, sym (ap remote_of (at_other x nq nr)) ∙ f)) x

  dir_not_stray : (d : ℕ) → is_dir s d ≡ true → d ≡ stray_ino rank → ⊥
  dir_not_stray d h e = false≢true (sym (stray_no_dir rank t s primary m) ∙ ap (is_dir s) (sym e) ∙ h)

  -- where a directory got an entry, it lost one or had room
  entries_moved : (d : ℕ) → entry_count moved d ≤ most_entries
  entries_moved d =
      let more = count-insert_new exact_place (λ (e : (ℕ × List ℕ) × ℕ). e.0.0 == d) (remove s.links q) r i r_free in
      let less = count-remove exact_place (λ (e : (ℕ × List ℕ) × ℕ). e.0.0 == d) s.links q i link in
      more_in (entry_count (record s { links = remove s.links q }) d) most_entries (r.0 == d) (entry_count moved d) more (omega (arith, less, m.few_entries d)) (λ here. elim (cases_Bool (q.0 == d)) [
        | inl from ↦ let one : cond (q.0 == d) 1 0 ≡ 1 = ap (λ b. cond {A = ℕ} b 1 0) from in omega (arith, less, one, m.few_entries d)
        | inr other ↦
            let same = eqb-true r.0 d here in
            let few : entry_count s d < most_entries = subst (λ d. entry_count s d < most_entries) same (room (ap (λ d. q.0 == d) same ∙ other)) in
            omega (arith, less, few)
      ])

  no_cell_q : IsSome (get t1.dentries q) → ⊥
  no_cell_q h = false≢true (sym (ap is_some at_q) ∙ h)

  pub moved_dentries : HasDentries rank t1 (with_moved s q r i) (moved_places primary q r)
  moved_dentries = record {
    links = by_place (λ x. get moved.links x ≡ cond (is_dir s x.0) (names (get t1.dentries x)) None)
        (insert_other exact_place (remove s.links q) r i q (eq_false exact_place q r q_not_r) ∙ remove_same exact_place s.links q ∙ sym (ap (λ o. cond (is_dir s q.0) (names o) None) at_q ∙ cond_same (is_dir s q.0) None))
        (insert_same exact_place (remove s.links q) r i ∙ sym ((λ z. cond (r_dir z) (names (get t1.dentries r)) None) ∙ same_names_of _ _ at_r ∙ (link_parent rank t s primary m q i link).1))
        (λ x nq nr. insert_other exact_place (remove s.links q) r i x (eq_false exact_place x r nr) ∙ remove_other exact_place s.links q x (eq_false exact_place x q nq) ∙ m.links x ∙ sym (ap (λ o. cond (is_dir s x.0) (names o) None) (at_other x nq nr)));
    records = λ j. m.records j ∙ sym (λ z. cond (kept_moved j z) (said_moved j z) None);
    primary_held = λ j x e. let u = moved_cases j x e in ap (λ (x : ℕ × List ℕ). is_held rank s x.0) u.2 ∙ placed_held u.0 (m.primary_held j u.0 u.1);
    primary_full = λ j x e. let u = moved_cases j x e in ap (λ x. full_of (get t1.dentries x)) u.2 ∙ same_full _ _ (full_moved j u.0 u.1) ∙ m.primary_full j u.0 u.1;
    each_primary = λ j. by_place (λ x. is_held rank s x.0 ≡ true → full_of (get t1.dentries x) ≡ Some j → get primary1 j ≡ Some x)
        (λ _ f. absurd (none_some j (sym (ap full_of at_q) ∙ f)))
        (λ _ f. shift j ∙ ap (option_map (placed q r)) (m.each_primary j q (held_dir rank t s primary m q.0 q_dir) (sym (same_full _ _ at_r) ∙ f)) ∙ ap Some placed_q)
        (λ x nq nr held f. shift j ∙ ap (option_map (placed q r)) (m.each_primary j x held (sym (ap full_of (at_other x nq nr)) ∙ f)) ∙ ap Some (placed_other x nq));
    remote_kind = λ x j k dir rem. let u = old_remote x j k dir rem in ap kind_of (said_moved j) ∙ m.remote_kind u.0 j k u.1 u.2;
    remote_no_dir = λ x j k dir rem. let u = old_remote x j k dir rem in m.remote_no_dir u.0 j k u.1 u.2;
    counts = λ j x e. let u = moved_cases j x e in ap (λ x. stored_links (get t1.dentries x)) u.2 ∙ same_links _ _ (full_moved j u.0 u.1) ∙ m.counts j u.0 u.1 ∙ sym (count_moved j);
    next = beside.next ∙ m.next;
    first_next = m.first_next;
    next_fits = m.next_fits;
    above = λ j x e. let u = moved_cases j x e in m.above j u.0 u.1;
    beneath = λ j x e. let u = moved_cases j x e in m.beneath j u.0 u.1;
    own_cells = by_place (λ x. IsSome (get t1.dentries x) → IsOwn rank s.next x.0)
        (λ h. absurd (no_cell_q h))
        (λ _. own_dir rank t s primary m r.0 r_dir)
        (λ x nq nr h. m.own_cells x (subst (λ o. IsSome o) (at_other x nq nr) h));
    stray_names = λ n j. by_place (λ x. x.0 ≡ stray_ino rank → names (get t1.dentries x) ≡ Some j → x.1 ≡ hex j)
        (λ e _. absurd (dir_not_stray q.0 q_dir e))
        (λ e _. absurd (dir_not_stray r.0 r_dir e))
        (λ x nq nr e f. m.stray_names x.1 j (ap (λ d. names (get t.dentries (d, x.1))) (sym e) ∙ sym (ap names (at_other x nq nr)) ∙ f)) (stray_ino rank, n) refl;
    heads = beside.heads.held;
    own_heads = beside.heads.own;
    opens = beside.opens ∙ m.opens;
    open_files = m.open_files;
    few_entries = entries_moved;
    few_inodes = m.few_inodes;
    few_opens = m.few_opens;
    names_fit = by_place (λ x. IsSome (get t1.dentries x) → IsTrue (is_name x.1))
        (λ h. absurd (no_cell_q h))
        (λ _. r_name)
        (λ x nq nr h. m.names_fit x (subst (λ o. IsSome o) (at_other x nq nr) h));
    records_fit = λ x n z. by_place (λ x. get t1.dentries x ≡ Some (FullAt n z) → IsRecord z)
        (λ e. absurd (none_some (FullAt n z) (sym at_q ∙ e)))
        (λ e. let w = full_naming n z (get t.dentries q) (sym at_r ∙ ap naming e) in m.records_fit q w.0 z w.1)
        (λ x nq nr e. m.records_fit x n z (sym (at_other x nq nr) ∙ e)) x;
  }
