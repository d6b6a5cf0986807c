-- A new rank's table has the empty tree, and it is what a formatted store holds.
use Rattle.std.proofs.Common.{◌≡◌, ℕ, ◌^◌, ◌<◌, ◌≤◌, true, cond, List, [], ◌∷◌, Option, Some, None, refl, sym, ap, subst, ◌∙◌, ◌⊎◌, inl, inr, arith}
use Rattle.std.specs.Prelude.{◌==◌, IsSome, is_some}
use Rattle.std.specs.Option.{option_and_then}
use Rattle.std.specs.List.{cons_option}
use Rattle.std.specs.declared.cmp.Ordering.{Ordering}
use Rattle.std.proofs.lemmas.Bool.{false≢true, or_cases, eqb-true, eq-eqb}
use Rattle.std.proofs.lemmas.List.{append-nil}
use Rattle.std.specs.Option.{option_map}
use Rattle.mj_base.specs.Reading.{Read, eight}
use Rattle.mj_base.proofs.Codec.{u64_codec}
use Rattle.mj_base.specs.ObjectName.{stray_ino, first_ino}
use Rattle.mj_base.specs.declared.record.Kind.TheVariants.{Dir}
use Rattle.mj_maps.specs.Map.{get, insert, empty}
use Rattle.mj_maps.specs.Orders.{nat_cmp, place_cmp, pair_cmp}
use Rattle.mj_maps.proofs.MapLaws.{exact_nat, exact_place, none_some, insert_same, insert_other, cases_key, count_none, len_empty, get_empty}
use Rattle.mj_layout.specs.Striping.{Striping, IsStriping}
use Rattle.mj_tree.specs.declared.change.Attributes.{Attributes}
use Rattle.mj_tree.specs.State.{PlainState, Session, root, new_state, is_dir, is_kind, is_kept}
use Rattle.mj_tree.specs.Sessions.{oldest_of}
use Rattle.mj_cells.specs.declared.cell.CellKey.TheVariants as key
use Rattle.mj_cells.specs.declared.cell.CellValue.{CellValue}
use Rattle.mj_cells.specs.declared.cell.CellValue.TheVariants as value
use Rattle.mj_cells.specs.declared.cell.CellWrite.{CellWrite}
use Rattle.mj_cells.specs.Table.{Dentry, Table, no_cells, overlay}
use Rattle.mj_event.specs.Writes.{write}
use Rattle.mj_recovery.specs.Stored.{cell, number_in, entire}
use Rattle.mj_recovery.specs.Listed.{all_listed}
use Rattle.mj_recovery.specs.Objects.{objects_of}
use Rattle.mj_recovery.specs.Recovered.{merged_table}
use Rattle.mj_recovery.specs.Formatted.{formatted_objects}
use Rattle.mj_recovery.proofs.Stores.{stored_is}
use Rattle.mj_recovery.proofs.Formatting.{held}
use Rattle.mj_recovery.specs.Orderly.{IsOwn}
use Rattle.mj_delta.specs.Reads.{names, full_of, said_by, remote_of, is_held}
use Rattle.mj_delta.specs.TreeOf.{IsReached, HasDentries, HasSessions, IsTreeOf}
use Rattle.mj_delta.specs.TreeOf.IsReached.{at_root}
use Rattle.mj_delta.specs.Fresh.{fresh_table}
use Rattle.mj_delta.proofs.Facts.{cond_same, is_some_at}

-- nothing is at a key of an empty map
nothing : {K X : Type 0} (R : K → K → Ordering) (q : K) (x : X) → get (empty {X = X} {R = R}) q ≡ Some x → ⊥
nothing R q x e = none_some x (sym (get_empty R q) ∙ e)

not_there : {K : Type 0} (X : Type 0) (R : K → K → Ordering) (q : K) → IsSome (get (empty {X = X} {R = R}) q) → ⊥
not_there X R q h = false≢true (sym (ap is_some (get_empty R q)) ∙ h)

module _ (rank : ℕ) (small : rank ≤ 15) where
  abbrev t : Table
  t = fresh_table rank

  abbrev s : PlainState
  s = new_state rank

  no_cell : {A : Type 0} (f : Option Dentry → Option A) → f None ≡ None → (q : ℕ × List ℕ) (x : A) → f (get t.dentries q) ≡ Some x → ⊥
  no_cell f e q x h = none_some x (sym e ∙ ap f (sym (get_empty place_cmp q)) ∙ h)

  only_root : (d : ℕ) → is_dir s d ≡ true → d ≡ root
  only_root d h = elim (or_cases (d == root) (is_kind Dir (get s.records d)) h) [
    | inl e ↦ eqb-true d root e
    | inr e ↦ absurd (false≢true (sym (ap (is_kind Dir) (get_empty nat_cmp d)) ∙ e))
  ]

  stray_head : get t.heads (stray_ino rank) ≡ Some 1
  stray_head = insert_same exact_nat (insert empty root 1) (stray_ino rank) 1

  head_cases : (d v : ℕ) → get t.heads d ≡ Some v → (d ≡ root) ⊎ (d ≡ stray_ino rank)
  head_cases d v e = elim (cases_key exact_nat d (stray_ino rank)) [
    | inl same ↦ inr same
    | inr ne ↦
        let e = sym (insert_other exact_nat (insert empty root 1) (stray_ino rank) 1 d ne) ∙ e in
        elim (cases_key exact_nat d root) [
          | inl same ↦ inl same
          | inr far ↦ absurd (nothing nat_cmp d v (sym (insert_other exact_nat empty root 1 d far) ∙ e))
        ]
  ]

  head_there : (d : ℕ) → is_held rank s d ≡ true → IsSome (get t.heads d)
  head_there d h = elim (cases_key exact_nat d (stray_ino rank)) [
    | inl same ↦ is_some_at _ 1 (ap (get t.heads) same ∙ stray_head)
    | inr ne ↦ elim (or_cases (is_dir s d) (d == stray_ino rank) h) [
      | inl e ↦ is_some_at _ 1 (insert_other exact_nat (insert empty root 1) (stray_ino rank) 1 d ne ∙ ap (get (insert {R = nat_cmp} empty root 1)) (only_root d e) ∙ insert_same exact_nat empty root 1)
      | inr e ↦ is_some_at _ 1 (ap (get t.heads) (eqb-true d (stray_ino rank) e) ∙ stray_head)
    ]
  ]

  own : (d : ℕ) → (d ≡ root) ⊎ (d ≡ stray_ino rank) → IsOwn rank s.next d
  own d (inl e) = inl e
  own d (inr e) = inr (inl e)

  fresh_dentries : HasDentries rank t s empty
  fresh_dentries = record {
    links = λ q. get_empty place_cmp q ∙ sym (ap (λ o. cond (is_dir s q.0) (names o) None) (get_empty place_cmp q) ∙ cond_same (is_dir s q.0) None);
    records = λ i. get_empty nat_cmp i ∙ sym (ap (λ o. cond (is_kept s i) (said_by (option_and_then (get t.dentries) o)) None) (get_empty nat_cmp i) ∙ cond_same (is_kept s i) None);
    primary_held = λ i q e. absurd (nothing nat_cmp i q e);
    primary_full = λ i q e. absurd (nothing nat_cmp i q e);
    each_primary = λ i q _ f. absurd (no_cell full_of refl q i f);
    remote_kind = λ q i k _ e. absurd (no_cell remote_of refl q (i, k) e);
    remote_no_dir = λ q i k _ e. absurd (no_cell remote_of refl q (i, k) e);
    counts = λ i q e. absurd (nothing nat_cmp i q e);
    next = refl;
    first_next = omega arith;
    next_fits = omega (arith, small);
    above = λ i q e. absurd (nothing nat_cmp i q e);
    beneath = λ i q e. absurd (nothing nat_cmp i q e);
    own_cells = λ q h. absurd (not_there _ place_cmp q h);
    stray_names = λ n i e. absurd (no_cell names refl (stray_ino rank, n) i e);
    heads = head_there;
    own_heads = λ d v e. own d (head_cases d v e);
    opens = refl;
    open_files = λ c i h. absurd (not_there _ pair_cmp (c, i) h);
    few_entries = λ d. omega (arith, count_none exact_place (λ (e : (ℕ × List ℕ) × ℕ). e.0.0 == d) empty (λ k v e _. nothing place_cmp k v e));
    few_inodes = omega (arith, len_empty Attributes nat_cmp);
    few_opens = omega (arith, len_empty (Unit {0}) pair_cmp);
    names_fit = λ q h. absurd (not_there _ place_cmp q h);
    records_fit = λ q v r e. absurd (nothing place_cmp q _ e);
  }

  fresh_sessions : HasSessions t s
  fresh_sessions = record {
    sessions = λ c. get_empty nat_cmp c ∙ sym (ap oldest_of (get_empty nat_cmp c));
    replies = λ c tid. get_empty pair_cmp (c, tid) ∙ sym (ap (option_and_then (λ (x : Session). get x.kept tid)) (get_empty nat_cmp c));
    not_below = λ c x tid i e _. absurd (nothing nat_cmp c x e);
    few_replies = λ c x e. absurd (nothing nat_cmp c x e);
    tids_fit = λ c x tid i e _. absurd (nothing nat_cmp c x e);
    few_sessions = omega (arith, len_empty Session nat_cmp);
    open_sessions = λ c i h. absurd (not_there _ pair_cmp (c, i) h);
  }

  pub fresh_tree : IsTreeOf rank (fresh_table rank) (new_state rank)
  fresh_tree = record { primary = empty; dentries = fresh_dentries; sessions = fresh_sessions; reached = λ d h. subst (IsReached s) (sym (only_root d h)) at_root }

  -- ---- formatted stores

  abbrev cells : List CellWrite
  cells = write (key.DirHead root) (value.Number 1) ∷ write (key.DirHead (stray_ino rank)) (value.Number 1) ∷ write key.NextIno (value.Number (first_ino rank)) ∷ []

  overlaid : overlay no_cells cells ≡ fresh_table rank
  unfolding no_cells
  overlaid = refl

  first_fits : first_ino rank < 2 ^ 64
  first_fits = omega (arith, small)

  first_again : number_in (eight (first_ino rank)) ≡ Some (value.Number (first_ino rank))
  first_again = ap number_in (sym (append-nil (eight (first_ino rank)))) ∙ ap (λ (r : Read ℕ). option_map value.Number (entire r)) (u64_codec.again (first_ino rank) [] first_fits)

  module _ (layout : Striping) (sound : IsStriping layout) where
    listed : all_listed rank (formatted_objects rank layout) ≡ cells
    unfolding formatted_objects
    listed = let same : (rank == rank) ≡ true = eq-eqb rank rank refl in rw same (ap (λ (o : Option CellValue). write (key.DirHead root) (value.Number 1) ∷ write (key.DirHead (stray_ino rank)) (value.Number 1) ∷ cons_option (cell (Some key.NextIno) o) []) first_again)

    pub formatted_fresh : merged_table rank (objects_of (formatted_objects rank layout)) [] ≡ fresh_table rank
    formatted_fresh = sym (stored_is rank (formatted_objects rank layout) (held rank small layout sound)) ∙ ap (overlay no_cells) listed ∙ overlaid
