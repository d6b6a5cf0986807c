-- A link ends, and its inode's record goes with its full dentry.
use Rattle.std.proofs.Common.{◌≡◌, ℕ, ◌+◌, Bool, true, false, cond, ◌||◌, List, Option, Some, None, refl, sym, ap, subst, ◌∙◌, inl, inr, arith}
use Rattle.std.specs.Prelude.{IsSome, is_some, ◌==◌}
use Rattle.std.specs.Option.{option_and_then}
use Rattle.std.proofs.lemmas.Bool.{false≢true, cases_eq, cases_Bool, ne_eqb, eq-eqb, or_cases, or_right, ltb-false}
use Rattle.mj_base.specs.ObjectName.{stray_ino}
use Rattle.mj_base.specs.declared.record.Kind.{Kind}
use Rattle.mj_base.specs.declared.record.Kind.TheVariants.{Dir, File}
use Rattle.mj_maps.specs.Map.{get, remove}
use Rattle.mj_maps.proofs.MapLaws.{exact_nat, exact_place, exact_pair, none_some, some_same, cases_key, remove_same, remove_other, count_some, eq_false, apart, len-remove}
use Rattle.mj_tree.specs.declared.change.Attributes.{Attributes}
use Rattle.mj_tree.specs.State.{PlainState, is_dir, is_kind, is_kept, link_count, open_count}
use Rattle.mj_cells.specs.Table.{Dentry, Table}
use Rattle.mj_cells.specs.Table.Dentry.{Full}
use Rattle.mj_delta.specs.Reads.{Places, names, full_of, said_by, stored_links, remote_of, cell_of, kind_of, is_held}
use Rattle.mj_delta.specs.TreeOf.{IsReached, HasDentries}
use Rattle.mj_delta.specs.TreeOf.IsReached.{at_root, below}
use Rattle.mj_delta.proofs.Facts.{ids, by_key, cases_option, some_is, full_named, remote_named, held_cases, held_dir}
use Rattle.mj_delta.proofs.Ending.{Beside, cut, cut_other, kept_cut_other, entries_cut, not_root, q_own, p_own, link_at}

module _ (rank : ℕ) (t : Table) (s : PlainState) (primary : Places) (m : HasDentries rank t s primary) (q : ℕ × List ℕ) (i : ℕ) (link : get s.links q ≡ Some i) (p : ℕ × List ℕ) (at : get primary i ≡ Some p) where
  abbrev less : PlainState
  less = cut rank t s primary m q i link p at

  abbrev pub gone : PlainState
  gone = record s { records = remove s.records i; links = remove s.links q }

  pub dir_gone : (d : ℕ) → (d ≡ i → ⊥) → is_dir gone d ≡ is_dir s d
  dir_gone d ne = ap (λ o. (d == 1) || is_kind Dir o) (remove_other exact_nat s.records i d (eq_false exact_nat d i ne))

  pub no_dir_gone : is_dir gone i ≡ false
  no_dir_gone = (λ z. ne_eqb i 1 (not_root rank t s primary m q i link p at) z || is_kind Dir (remove_same exact_nat s.records i z))

  pub dir_was : (d : ℕ) → is_dir gone d ≡ true → (d ≡ i → ⊥) × (is_dir s d ≡ true)
  dir_was d h = elim (cases_eq d i) [
    | inl e ↦ absurd (false≢true (sym no_dir_gone ∙ ap (is_dir gone) (sym e) ∙ h))
    | inr ne ↦ (ne, sym (dir_gone d ne) ∙ h)
  ]

  pub held_was : (d : ℕ) → is_held rank gone d ≡ true → is_held rank s d ≡ true
  held_was d h = elim (or_cases (is_dir gone d) (d == stray_ino rank) h) [
    | inl e ↦ held_dir rank t s primary m d (dir_was d e).1
    | inr e ↦ or_right (is_dir s d) (d == stray_ino rank) e
  ]

  held_kept : (d : ℕ) → (d ≡ i → ⊥) → is_held rank s d ≡ true → is_held rank gone d ≡ true
  held_kept d ne h = ap (λ b. b || (d == stray_ino rank)) (dir_gone d ne) ∙ h

  module _ (goes : is_kept less i ≡ false) (no_entries : (n : List ℕ) → get s.links (i, n) ≡ None) (a : Attributes) (was : get s.records i ≡ Some a)
      (t1 : Table) (at_q : get t1.dentries q ≡ None) (at_p : get t1.dentries p ≡ None)
      (at_other : (x : ℕ × List ℕ) → (x ≡ q → ⊥) → (x ≡ p → ⊥) → get t1.dentries x ≡ get t.dentries x) (beside : Beside rank t gone t1) where
    abbrev pub primary_gone : Places
    primary_gone = remove primary i

    no_more : link_count less i + open_count s i ≡ 0
    no_more = let le = ltb-false 0 (link_count less i + open_count s i) goes in omega (arith, le)

    one_link : (x : ℕ × List ℕ) → get s.links x ≡ Some i → x ≡ q
    one_link x e = elim (cases_key exact_place x q) [
      | inl same ↦ same
      | inr ne ↦
          let some = count_some exact_place (λ (e : (ℕ × List ℕ) × ℕ). e.1 == i) less.links x i (remove_other exact_place s.links q x ne ∙ e) (eq-eqb i i refl) in
          absurd (omega (arith, no_more, some))
    ]

    open_gone : (c j : ℕ) → IsSome (get s.opens (c, j)) → j ≡ i → ⊥
    open_gone c j h same =
        let u = some_is (get s.opens (c, j)) h in
        let some = count_some exact_pair (λ (e : (ℕ × ℕ) × Unit {0}). e.0.1 == i) s.opens (c, j) u.0 u.1 (eq-eqb j i same) in
        omega (arith, some, no_more)

    by_place : (P : ℕ × List ℕ → Type 0) → P q → P p → ((x : ℕ × List ℕ) → (x ≡ q → ⊥) → (x ≡ p → ⊥) → P x) → (x : ℕ × List ℕ) → P x
    by_place P here there other = by_key exact_place q P here (λ x nq. elim (cases_key exact_place x p) [ inl e ↦ subst P (sym e) there | inr np ↦ other x (apart exact_place x q nq) (apart exact_place x p np) ])

    -- what is there now was there, at another place
    still : {A : Type 0} (f : Option Dentry → Option A) → f None ≡ None → (x : ℕ × List ℕ) (z : A) → f (get t1.dentries x) ≡ Some z → ((x ≡ q → ⊥) × (x ≡ p → ⊥)) × (f (get t.dentries x) ≡ Some z)
    still f none x z = by_place (λ x. f (get t1.dentries x) ≡ Some z → ((x ≡ q → ⊥) × (x ≡ p → ⊥)) × (f (get t.dentries x) ≡ Some z))
        (λ e. absurd (none_some z (sym none ∙ ap f (sym at_q) ∙ e)))
        (λ e. absurd (none_some z (sym none ∙ ap f (sym at_p) ∙ e)))
        (λ x nq np e. ((nq, np), ap f (sym (at_other x nq np)) ∙ e)) x

    some_still : (x : ℕ × List ℕ) → IsSome (get t1.dentries x) → IsSome (get t.dentries x)
    some_still = by_place (λ x. IsSome (get t1.dentries x) → IsSome (get t.dentries x))
        (λ h. absurd (false≢true (sym (ap is_some at_q) ∙ h)))
        (λ h. absurd (false≢true (sym (ap is_some at_p) ∙ h)))
        (λ x nq np h. subst (λ o. IsSome o) (at_other x nq np) h)

    -- the same test of a directory's dentries, but where the record's own are none
    own_none : (n : List ℕ) → cond (is_dir s i) (names (get t.dentries (i, n))) None ≡ None
    own_none n = sym (m.links (i, n)) ∙ no_entries n

    cond_gone : (x : ℕ × List ℕ) → cond (is_dir s x.0) (names (get t.dentries x)) None ≡ cond (is_dir gone x.0) (names (get t.dentries x)) None
    cond_gone x = elim (cases_eq x.0 i) [
      | inl e ↦
          ap (λ d. cond (is_dir s d) (names (get t.dentries (d, x.1))) None) e ∙ own_none x.1
          ∙ sym (ap (λ d. cond (is_dir gone d) (names (get t.dentries (d, x.1))) None) e ∙ ap (λ b. cond b (names (get t.dentries (i, x.1))) None) no_dir_gone)
      | inr ne ↦ ap (λ b. cond b (names (get t.dentries x)) None) (sym (dir_gone x.0 ne))
    ]

    cond_none : (b : Bool) (o : Option Dentry) → o ≡ None → cond b (names o) None ≡ None
    cond_none true o e = ap names e
    cond_none false o e = refl

    -- the full dentry was at the link, or in no directory
    p_link : get less.links p ≡ None
    p_link = elim (cases_key exact_place p q) [
      | inl same ↦ ap (get less.links) same ∙ remove_same exact_place s.links q
      | inr ne ↦ remove_other exact_place s.links q p ne ∙ elim (cases_option (get s.links p)) [ inl none ↦ none | inr w ↦ absurd (apart exact_place p q ne (one_link p (w.1 ∙ ap Some (other w.0 w.1)))) ]
    ]
      where
        other : (j : ℕ) → get s.links p ≡ Some j → j ≡ i
        other j l = elim (cases_Bool (is_dir s p.0)) [
          | inl d ↦ some_same j i (sym l ∙ link_at rank t s primary m q i link p at p i d (full_named _ i (m.primary_full i p at)))
          | inr d ↦ absurd (none_some j (sym (m.links p ∙ ap (λ b. cond b (names (get t.dentries p)) None) d) ∙ l))
        ]

    gone_cases : (j : ℕ) (x : ℕ × List ℕ) → get primary_gone j ≡ Some x → (j ≡ i → ⊥) × (get primary j ≡ Some x)
    gone_cases j x e = elim (cases_key exact_nat j i) [
      | inl same ↦ absurd (none_some x (sym (remove_same exact_nat primary i) ∙ ap (get primary_gone) (sym same) ∙ e))
      | inr ne ↦ (apart exact_nat j i ne, sym (remove_other exact_nat primary i j ne) ∙ e)
    ]

    gone_apart : (j : ℕ) (x : ℕ × List ℕ) → (j ≡ i → ⊥) → get primary j ≡ Some x → (x ≡ q → ⊥) × (x ≡ p → ⊥)
    gone_apart j x ne e = (
      λ z. ne (q_own rank t s primary m q i link p at j (subst (λ x. full_of (get t.dentries x) ≡ Some j) z (m.primary_full j x e))),
      λ z. ne (p_own rank t s primary m q i link p at j (subst (λ x. full_of (get t.dentries x) ≡ Some j) z (m.primary_full j x e))),
    )

    cell_gone : (j : ℕ) → (j ≡ i → ⊥) → cell_of t1 primary_gone j ≡ cell_of t primary j
    cell_gone j ne =
        ap (option_and_then (get t1.dentries)) (remove_other exact_nat primary i j (eq_false exact_nat j i ne))
        ∙ elim (cases_option (get primary j)) [
          | inl none ↦ ap (option_and_then (get t1.dentries)) none ∙ sym (ap (option_and_then (get t.dentries)) none)
          | inr u ↦ let z = gone_apart j u.0 ne u.1 in ap (option_and_then (get t1.dentries)) u.1 ∙ at_other u.0 z.0 z.1 ∙ sym (ap (option_and_then (get t.dentries)) u.1)
        ]

    remote_gone : (x : ℕ × List ℕ) (j : ℕ) (k : Kind) → is_dir gone x.0 ≡ true → remote_of (get t1.dentries x) ≡ Some (j, k) → (j ≡ i → ⊥) × (remote_of (get t.dentries x) ≡ Some (j, k))
    remote_gone x j k d f =
        let w = still remote_of refl x (j, k) f in
        let l = link_at rank t s primary m q i link p at x j (dir_was x.0 d).1 (remote_named _ j k w.1) in
        (λ e. w.0.0 (one_link x (l ∙ ap Some e)), w.1)

    primary_dir : (j : ℕ) (x : ℕ × List ℕ) → get primary j ≡ Some x → x.0 ≡ i → ⊥
    primary_dir j x e z = elim (held_cases rank t s primary m x.0 (m.primary_held j x e)) [
      | inl d ↦ none_some j (sym (no_entries x.1) ∙ ap (λ d. get s.links (d, x.1)) (sym z) ∙ link_at rank t s primary m q i link p at x j d (full_named _ j (m.primary_full j x e)))
      | inr st ↦ omega (arith, (ids rank).below, m.above i p at, z, st)
    ]

    pub gone_dentries : HasDentries rank t1 gone primary_gone
    gone_dentries = record {
      links = by_place (λ x. get less.links x ≡ cond (is_dir gone x.0) (names (get t1.dentries x)) None)
          (remove_same exact_place s.links q ∙ sym (cond_none (is_dir gone q.0) _ at_q))
          (p_link ∙ sym (cond_none (is_dir gone p.0) _ at_p))
          (λ x nq np. remove_other exact_place s.links q x (eq_false exact_place x q nq) ∙ m.links x ∙ cond_gone x ∙ sym (ap (λ o. cond (is_dir gone x.0) (names o) None) (at_other x nq np)));
      records = λ j. elim (cases_eq j i) [
        | inl e ↦ subst (λ j. get gone.records j ≡ cond (is_kept less j) (said_by (cell_of t1 primary_gone j)) None) (sym e) (remove_same exact_nat s.records i ∙ sym (ap (λ b. cond b (said_by (cell_of t1 primary_gone i)) None) goes))
        | inr ne ↦ remove_other exact_nat s.records i j (eq_false exact_nat j i ne) ∙ m.records j ∙ sym (λ z. cond (kept_cut_other rank t s primary m q i link p at j ne z) (said_by (cell_gone j ne z)) None)
      ];
      primary_held = λ j x e. let u = gone_cases j x e in held_kept x.0 (primary_dir j x u.1) (m.primary_held j x u.1);
      primary_full = λ j x e. let u = gone_cases j x e in let z = gone_apart j x u.0 u.1 in ap full_of (at_other x z.0 z.1) ∙ m.primary_full j x u.1;
      each_primary = λ j x held f.
          let w = still full_of refl x j f in
          let e = m.each_primary j x (held_was x.0 held) w.1 in
          remove_other exact_nat primary i j (eq_false exact_nat j i (λ z. w.0.1 (some_same x p (sym e ∙ ap (get primary) z ∙ at)))) ∙ e;
      remote_kind = λ x j k dir rem. let u = remote_gone x j k dir rem in ap (λ o. kind_of (said_by o)) (cell_gone j u.0) ∙ m.remote_kind x j k (dir_was x.0 dir).1 u.1;
      remote_no_dir = λ x j k dir rem. m.remote_no_dir x j k (dir_was x.0 dir).1 (remote_gone x j k dir rem).1;
      counts = λ j x e. let u = gone_cases j x e in let z = gone_apart j x u.0 u.1 in ap stored_links (at_other x z.0 z.1) ∙ m.counts j x u.1 ∙ sym (cut_other rank t s primary m q i link p at j u.0);
      next = beside.next ∙ m.next;
      first_next = m.first_next;
      next_fits = m.next_fits;
      above = λ j x e. m.above j x (gone_cases j x e).1;
      beneath = λ j x e. m.beneath j x (gone_cases j x e).1;
      own_cells = λ x h. m.own_cells x (some_still x h);
      stray_names = λ n j e. m.stray_names n j (still names refl (stray_ino rank, n) j e).1;
      heads = beside.heads.held;
      own_heads = beside.heads.own;
      opens = beside.opens ∙ m.opens;
      open_files = λ c j h. ap (is_kind File) (remove_other exact_nat s.records i j (eq_false exact_nat j i (open_gone c j h))) ∙ m.open_files c j h;
      few_entries = λ d. omega (arith, entries_cut rank t s primary m q i link p at d, m.few_entries d);
      few_inodes = omega (arith, len-remove exact_nat s.records i a was, m.few_inodes);
      few_opens = m.few_opens;
      names_fit = λ x h. m.names_fit x (some_still x h);
      records_fit = λ x n z e. m.records_fit x n z (still (λ o. o) refl x (Full n z) e).1;
    }

    reach_gone : (d : ℕ) → IsReached s d → (d ≡ i → ⊥) → IsReached gone d
    reach_gone _ at_root ne = at_root
    reach_gone _ (below d n j u l h) ne =
        below d n j (reach_gone d u (λ e. none_some j (sym (no_entries n) ∙ ap (λ d. get s.links (d, n)) (sym e) ∙ l)))
        (remove_other exact_place s.links q (d, n) (eq_false exact_place (d, n) q (λ e. ne (some_same j i (sym l ∙ ap (get s.links) e ∙ link)))) ∙ l)
        (dir_gone j ne ∙ h)

    pub reached_gone : ((d : ℕ) → is_dir s d ≡ true → IsReached s d) → (d : ℕ) → is_dir gone d ≡ true → IsReached gone d
    reached_gone reached d h = let u = dir_was d h in reach_gone d (reached d u.1) u.0
