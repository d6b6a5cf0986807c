-- A link ends, and its inode's record stays: the dentries once its name is gone.
use Rattle.std.proofs.Common.{◌≡◌, ℕ, ◌+◌, ◌-◌, ◌≤◌, Bool, true, false, cond, List, Some, None, refl, sym, ap, subst, ◌∙◌, ◌⊎◌, inl, inr, arith}
use Rattle.std.specs.Prelude.{IsSome, IsTrue, is_some, ◌==◌, nat_lt}
use Rattle.std.specs.Option.{option_and_then}
use Rattle.std.proofs.lemmas.Bool.{false≢true, cases_eq, cases_Bool, ne_eqb, eq-eqb, lt-ltb}
use Rattle.mj_base.specs.Name.{is_name}
use Rattle.mj_base.specs.ObjectName.{hex, stray_ino}
use Rattle.mj_base.specs.Record.{IsRecord}
use Rattle.mj_base.specs.declared.record.Kind.{Kind}
use Rattle.mj_base.specs.declared.record.InodeRecord.{InodeRecord}
use Rattle.mj_maps.specs.Map.{get, insert, remove}
use Rattle.mj_maps.proofs.MapLaws.{exact_nat, exact_place, none_some, some_same, cases_key, insert_same, insert_other, remove_same, remove_other, count-remove, eq_false, apart}
use Rattle.mj_tree.specs.declared.change.Attributes.{Attributes}
use Rattle.mj_tree.specs.State.{PlainState, is_dir, is_kept, link_count, open_count, entry_count, record_of}
use Rattle.mj_cells.specs.Table.{Table}
use Rattle.mj_cells.specs.Table.Dentry.{Full}
use Rattle.mj_recovery.specs.Orderly.{IsOwn}
use Rattle.mj_delta.specs.Reads.{Places, names, full_of, said_by, stored_links, remote_of, cell_of, kind_of, is_held}
use Rattle.mj_delta.specs.TreeOf.{IsReached, HasDentries}
use Rattle.mj_delta.specs.TreeOf.IsReached.{at_root, below}
use Rattle.mj_delta.proofs.Facts.{ids, by_key, cases_option, cond_same, full_named, held_cases, link_parent, stray_no_dir}
use Rattle.mj_delta.proofs.NewEntry.{AreHeadsOf, own_dir}

-- what a table has beside dentries, after a change of these
pub record Beside (rank : ℕ) (t : Table) (s1 : PlainState) (t1 : Table) : Type 0 where
  pub next : t1.next ≡ t.next
  pub opens : t1.opens ≡ t.opens
  pub heads : AreHeadsOf rank s1 t1.heads

one_less : (a b : ℕ) (x : Bool) → x ≡ true → a + cond x 1 0 ≡ b → a + 1 ≡ b
one_less a b x h e = omega (arith, ap (λ x. a + cond x 1 0) (sym h) ∙ e)

none_less : (a b : ℕ) (x : Bool) → x ≡ false → a + cond x 1 0 ≡ b → a ≡ b
none_less a b x h e = omega (arith, ap (λ x. a + cond x 1 0) (sym h) ∙ e)

pub held_own : (rank : ℕ) (t : Table) (s : PlainState) (primary : Places) (m : HasDentries rank t s primary) (d : ℕ) → is_held rank s d ≡ true → IsOwn rank s.next d
held_own rank t s primary m d h = elim (held_cases rank t s primary m d h) [ inl e ↦ own_dir rank t s primary m d e | inr e ↦ inr (inl e) ]

-- where the full dentry stands once the link at q is gone
pub record IsLeft (rank : ℕ) (t : Table) (s : PlainState) (q : ℕ × List ℕ) (i : ℕ) (p r : ℕ × List ℕ) : Type 0 where
  pub not_q : r ≡ q → ⊥
  pub moved : (p ≡ r) ⊎ (p ≡ q)
  pub held : is_held rank s r.0 ≡ true
  pub own : (j : ℕ) → full_of (get t.dentries r) ≡ Some j → j ≡ i
  pub link : is_dir s r.0 ≡ true → names (get t.dentries r) ≡ Some i
  pub stray : r.0 ≡ stray_ino rank → r.1 ≡ hex i
  pub name : IsTrue (is_name r.1)

module _ (rank : ℕ) (t : Table) (s : PlainState) (primary : Places) (m : HasDentries rank t s primary) (q : ℕ × List ℕ) (i : ℕ) (link : get s.links q ≡ Some i) (p : ℕ × List ℕ) (at : get primary i ≡ Some p) where
  abbrev pub cut : PlainState
  cut = record s { links = remove s.links q }

  count_cut : (j : ℕ) → link_count cut j + cond (i == j) 1 0 ≡ link_count s j
  count_cut j = count-remove exact_place (λ (e : (ℕ × List ℕ) × ℕ). e.1 == j) s.links q i link

  pub cut_other : (j : ℕ) → (j ≡ i → ⊥) → link_count cut j ≡ link_count s j
  cut_other j ne = none_less _ _ (i == j) (ne_eqb i j (λ e. ne (sym e))) (count_cut j)

  pub cut_same : link_count cut i + 1 ≡ link_count s i
  cut_same = one_less _ _ (i == i) (eq-eqb i i refl) (count_cut i)

  pub kept_cut_other : (j : ℕ) → (j ≡ i → ⊥) → is_kept cut j ≡ is_kept s j
  kept_cut_other j ne = ap (λ n. nat_lt 0 (n + open_count s j)) (cut_other j ne)

  pub entries_cut : (d : ℕ) → entry_count cut d ≤ entry_count s d
  entries_cut d = let c = count-remove exact_place (λ (e : (ℕ × List ℕ) × ℕ). e.0.0 == d) s.links q i link in omega (arith, c)

  pub parent_is : is_dir s q.0 ≡ true
  parent_is = (link_parent rank t s primary m q i link).0

  pub not_root : i ≡ 1 → ⊥
  not_root e = omega (arith, (ids rank).root, m.above i p at, e)

  -- what full dentries at q and at p are of
  pub q_own : (j : ℕ) → full_of (get t.dentries q) ≡ Some j → j ≡ i
  q_own j f = some_same j i (sym (full_named _ j f) ∙ (link_parent rank t s primary m q i link).1)

  pub p_own : (j : ℕ) → full_of (get t.dentries p) ≡ Some j → j ≡ i
  p_own j f = some_same j i (sym f ∙ m.primary_full i p at)

  pub link_at : (x : ℕ × List ℕ) (j : ℕ) → is_dir s x.0 ≡ true → names (get t.dentries x) ≡ Some j → get s.links x ≡ Some j
  link_at x j d e = m.links x ∙ (λ z. cond (d z) (names (get t.dentries x)) None) ∙ e

  pub dir_not_stray : (d : ℕ) → is_dir s d ≡ true → d ≡ stray_ino rank → ⊥
  dir_not_stray d h e = false≢true (sym (stray_no_dir rank t s primary m) ∙ ap (is_dir s) (sym e) ∙ h)

  -- ---- the record stays, with its full dentry at r

  module _ (stays : is_kept cut i ≡ true) (no_dir : is_dir s i ≡ false) (a : Attributes) (said : said_by (get t.dentries p) ≡ Some a) (fits : IsRecord (record_of i (link_count s i - 1) a))
      (r : ℕ × List ℕ) (left : IsLeft rank t s q i p r) (t1 : Table) (w : ℕ) (at_q : get t1.dentries q ≡ None) (at_r : get t1.dentries r ≡ Some (Full w (record_of i (link_count s i - 1) a)))
      (at_other : (x : ℕ × List ℕ) → (x ≡ q → ⊥) → (x ≡ r → ⊥) → get t1.dentries x ≡ get t.dentries x) (beside : Beside rank t cut t1) where
    abbrev pub primary_cut : Places
    primary_cut = insert primary i r

    abbrev y : InodeRecord
    y = record_of i (link_count s i - 1) a

    -- by the three kinds of places
    by_place : (P : ℕ × List ℕ → Type 0) → P q → P r → ((x : ℕ × List ℕ) → (x ≡ q → ⊥) → (x ≡ r → ⊥) → P x) → (x : ℕ × List ℕ) → P x
    by_place P here there other = by_key exact_place q P here (λ x nq. elim (cases_key exact_place x r) [ inl e ↦ subst P (sym e) there | inr nr ↦ other x (apart exact_place x q nq) (apart exact_place x r nr) ])

    own_apart : (j : ℕ) (x : ℕ × List ℕ) → (j ≡ i → ⊥) → get primary j ≡ Some x → (x ≡ q → ⊥) × (x ≡ r → ⊥)
    own_apart j x ne e = (
      λ z. ne (q_own j (subst (λ x. full_of (get t.dentries x) ≡ Some j) z (m.primary_full j x e))),
      λ z. ne (left.own j (subst (λ x. full_of (get t.dentries x) ≡ Some j) z (m.primary_full j x e))),
    )

    cell_other : (j : ℕ) → (j ≡ i → ⊥) → cell_of t1 primary_cut j ≡ cell_of t primary j
    cell_other j ne =
        ap (option_and_then (get t1.dentries)) (insert_other exact_nat primary i r j (eq_false exact_nat j i ne))
        ∙ elim (cases_option (get primary j)) [
          | inl none ↦ ap (option_and_then (get t1.dentries)) none ∙ sym (ap (option_and_then (get t.dentries)) none)
          | inr u ↦ let z = own_apart j u.0 ne u.1 in ap (option_and_then (get t1.dentries)) u.1 ∙ at_other u.0 z.0 z.1 ∙ sym (ap (option_and_then (get t.dentries)) u.1)
        ]

    said_here : said_by (cell_of t1 primary_cut i) ≡ said_by (cell_of t primary i)
    said_here = ap (λ o. said_by (option_and_then (get t1.dentries) o)) (insert_same exact_nat primary i r) ∙ ap said_by at_r ∙ sym (ap (λ o. said_by (option_and_then (get t.dentries) o)) at ∙ said)

    said_same : (j : ℕ) → said_by (cell_of t1 primary_cut j) ≡ said_by (cell_of t primary j)
    said_same j = elim (cases_eq j i) [
      | inl e ↦ subst (λ j. said_by (cell_of t1 primary_cut j) ≡ said_by (cell_of t primary j)) (sym e) said_here
      | inr ne ↦ ap said_by (cell_other j ne)
    ]

    kept_same : (j : ℕ) → is_kept cut j ≡ is_kept s j
    kept_same j = elim (cases_eq j i) [
      | inl e ↦ subst (λ j. is_kept cut j ≡ is_kept s j) (sym e) (stays ∙ sym (lt-ltb 0 (link_count s i + open_count s i) (omega (arith, cut_same))))
      | inr ne ↦ kept_cut_other j ne
    ]

    cut_cases : (j : ℕ) (x : ℕ × List ℕ) → get primary_cut j ≡ Some x → ((j ≡ i) × (x ≡ r)) ⊎ ((j ≡ i → ⊥) × (get primary j ≡ Some x))
    cut_cases j x e = elim (cases_key exact_nat j i) [
      | inl same ↦ inl (same, some_same x r (sym e ∙ ap (get primary_cut) same ∙ insert_same exact_nat primary i r))
      | inr ne ↦ inr (apart exact_nat j i ne, sym (insert_other exact_nat primary i r j ne) ∙ e)
    ]

    r_cond : cond (is_dir s r.0) (names (get t.dentries r)) None ≡ cond (is_dir s r.0) (names (get t1.dentries r)) None
    r_cond = elim (cases_Bool (is_dir s r.0)) [
      | inl d ↦ ap (λ o. cond (is_dir s r.0) o None) (left.link d ∙ sym (ap names at_r))
      | inr d ↦ ap (λ b. cond b (names (get t.dentries r)) None) d ∙ sym (ap (λ b. cond b (names (get t1.dentries r)) None) d)
    ]

    old_remote : (x : ℕ × List ℕ) (j : ℕ) (k : Kind) → remote_of (get t1.dentries x) ≡ Some (j, k) → remote_of (get t.dentries x) ≡ Some (j, k)
    old_remote x j k = by_place (λ x. remote_of (get t1.dentries x) ≡ Some (j, k) → remote_of (get t.dentries x) ≡ Some (j, k))
        (λ f. absurd (none_some (j, k) (sym (ap remote_of at_q) ∙ f)))
        (λ f. absurd (none_some (j, k) (sym (ap remote_of at_r) ∙ f)))
        (λ x nq nr f. sym (ap remote_of (at_other x nq nr)) ∙ f) x

    no_cell_q : IsSome (get t1.dentries q) → ⊥
    no_cell_q h = false≢true (sym (ap is_some at_q) ∙ h)

    pub cut_dentries : HasDentries rank t1 cut primary_cut
    cut_dentries = record {
      links = by_place (λ x. get cut.links x ≡ cond (is_dir s x.0) (names (get t1.dentries x)) None)
          (remove_same exact_place s.links q ∙ sym (ap (λ o. cond (is_dir s q.0) (names o) None) at_q ∙ cond_same (is_dir s q.0) None))
          (remove_other exact_place s.links q r (eq_false exact_place r q left.not_q) ∙ m.links r ∙ r_cond)
          (λ x nq nr. remove_other exact_place s.links q x (eq_false exact_place x q nq) ∙ m.links x ∙ sym (ap (λ o. cond (is_dir s x.0) (names o) None) (at_other x nq nr)));
      records = λ j. m.records j ∙ sym (λ z. cond (kept_same j z) (said_same j z) None);
      primary_held = λ j x e. elim (cut_cases j x e) [ inl u ↦ ap (λ (x : ℕ × List ℕ). is_held rank s x.0) u.1 ∙ left.held | inr u ↦ m.primary_held j x u.1 ];
      primary_full = λ j x e. elim (cut_cases j x e) [
        | inl u ↦ ap (λ x. full_of (get t1.dentries x)) u.1 ∙ ap full_of at_r ∙ ap Some (sym u.0)
        | inr u ↦ let z = own_apart j x u.0 u.1 in ap full_of (at_other x z.0 z.1) ∙ m.primary_full j x u.1
      ];
      each_primary = λ j. by_place (λ x. is_held rank s x.0 ≡ true → full_of (get t1.dentries x) ≡ Some j → get primary_cut j ≡ Some x)
          (λ _ f. absurd (none_some j (sym (ap full_of at_q) ∙ f)))
          (λ _ f. ap (get primary_cut) (some_same j i (sym f ∙ ap full_of at_r)) ∙ insert_same exact_nat primary i r)
          (λ x nq nr held f.
          let e = m.each_primary j x held (sym (ap full_of (at_other x nq nr)) ∙ f) in
          insert_other exact_nat primary i r j (eq_false exact_nat j i (λ z.
          let same = some_same x p (sym e ∙ ap (get primary) z ∙ at) in
          elim left.moved [ inl pr ↦ nr (same ∙ pr) | inr pq ↦ nq (same ∙ pq) ])) ∙ e);
      remote_kind = λ x j k dir rem. ap kind_of (said_same j) ∙ m.remote_kind x j k dir (old_remote x j k rem);
      remote_no_dir = λ x j k dir rem. m.remote_no_dir x j k dir (old_remote x j k rem);
      counts = λ j x e. elim (cut_cases j x e) [
        | inl u ↦ ap (λ x. stored_links (get t1.dentries x)) u.1 ∙ ap stored_links at_r ∙ sym (omega (arith, cut_same)) ∙ ap (link_count cut) (sym u.0)
        | inr u ↦ let z = own_apart j x u.0 u.1 in ap stored_links (at_other x z.0 z.1) ∙ m.counts j x u.1 ∙ sym (cut_other j u.0)
      ];
      next = beside.next ∙ m.next;
      first_next = m.first_next;
      next_fits = m.next_fits;
      above = λ j x e. elim (cut_cases j x e) [ inl u ↦ omega (arith, u.0, m.above i p at) | inr u ↦ m.above j x u.1 ];
      beneath = λ j x e. elim (cut_cases j x e) [ inl u ↦ omega (arith, u.0, m.beneath i p at) | inr u ↦ m.beneath j x u.1 ];
      own_cells = by_place (λ x. IsSome (get t1.dentries x) → IsOwn rank s.next x.0)
          (λ h. absurd (no_cell_q h))
          (λ _. held_own rank t s primary m r.0 left.held)
          (λ x nq nr h. m.own_cells x (subst (λ o. IsSome o) (at_other x nq nr) h));
      stray_names = λ n j. by_place (λ x. x.0 ≡ stray_ino rank → names (get t1.dentries x) ≡ Some j → x.1 ≡ hex j)
          (λ e _. absurd (dir_not_stray q.0 parent_is e))
          (λ e f. left.stray e ∙ ap hex (some_same i j (sym (ap names at_r) ∙ f)))
          (λ x nq nr e f. m.stray_names x.1 j (ap (λ d. names (get t.dentries (d, x.1))) (sym e) ∙ sym (ap names (at_other x nq nr)) ∙ f)) (stray_ino rank, n) refl;
      heads = beside.heads.held;
      own_heads = beside.heads.own;
      opens = beside.opens ∙ m.opens;
      open_files = m.open_files;
      few_entries = λ d. omega (arith, entries_cut d, m.few_entries d);
      few_inodes = m.few_inodes;
      few_opens = m.few_opens;
      names_fit = by_place (λ x. IsSome (get t1.dentries x) → IsTrue (is_name x.1))
          (λ h. absurd (no_cell_q h))
          (λ _. left.name)
          (λ x nq nr h. m.names_fit x (subst (λ o. IsSome o) (at_other x nq nr) h));
      records_fit = λ x n z. by_place (λ x. get t1.dentries x ≡ Some (Full n z) → IsRecord z)
          (λ e. absurd (none_some (Full n z) (sym at_q ∙ e)))
          (λ e. subst IsRecord (one_record (some_same _ _ (sym at_r ∙ e))) fits)
          (λ x nq nr e. m.records_fit x n z (sym (at_other x nq nr) ∙ e)) x;
    }
      where
        one_record : {b c : ℕ} {u v : InodeRecord} → Full b u ≡ Full c v → u ≡ v
        one_record f = cc

    reach_cut : (d : ℕ) → IsReached s d → IsReached cut d
    reach_cut _ at_root = at_root
    reach_cut _ (below d n j u l h) = below d n j (reach_cut d u) (remove_other exact_place s.links q (d, n) (eq_false exact_place (d, n) q (λ e.
        false≢true (sym no_dir ∙ ap (is_dir s) (some_same i j (sym link ∙ ap (get s.links) (sym e) ∙ l)) ∙ h))) ∙ l) h

    pub reached_cut : ((d : ℕ) → is_dir s d ≡ true → IsReached s d) → (d : ℕ) → is_dir s d ≡ true → IsReached (record s { links = remove s.links q }) d
    reached_cut reached d h = reach_cut d (reached d h)
