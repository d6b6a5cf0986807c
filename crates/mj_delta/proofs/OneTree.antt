-- A table has one tree, and its directories are those that the cells reach.
use Rattle.std.proofs.Common.{◌≡◌, ℕ, ◌+◌, Bool, true, false, cond, ◌||◌, List, Option, Some, None, refl, sym, ap, subst, ◌∙◌, inl, inr, arith}
use Rattle.std.specs.Prelude.{◌==◌, nat_lt, if◌then◌else◌}
use Rattle.std.specs.Option.{option_and_then}
use Rattle.std.proofs.lemmas.Bool.{true≢false, cases_eq, eqb-true, eq-eqb, or_cases, or_right, lt-ltb}
use Rattle.mj_base.specs.ObjectName.{stray_ino}
use Rattle.mj_base.specs.Record.{same_kind}
use Rattle.mj_base.specs.declared.record.Kind.{Kind}
use Rattle.mj_base.specs.declared.record.Kind.TheVariants.{Dir}
use Rattle.mj_maps.specs.Map.{get, count}
use Rattle.mj_maps.proofs.MapLaws.{exact_nat, exact_place, none_some, some_same, count_some, same_map}
use Rattle.mj_tree.specs.declared.change.Attributes.{Attributes}
use Rattle.mj_tree.specs.State.{PlainState, Session, is_dir, is_kind, is_kept}
use Rattle.mj_tree.specs.Sessions.{oldest_of}
use Rattle.mj_cells.specs.Table.{Dentry, Table}
use Rattle.mj_cells.specs.Table.Dentry.{Full, Remote}
use Rattle.mj_recovery.specs.Tree.{IsReachable, subdir}
use Rattle.mj_recovery.specs.Tree.IsReachable.{at_root as top, below as under}
use Rattle.mj_delta.specs.Reads.{Places, names, full_of, said_by, cell_of, kind_of, is_held}
use Rattle.mj_delta.specs.TreeOf.{IsReached, HasDentries, HasSessions, IsTreeOf}
use Rattle.mj_delta.specs.TreeOf.IsReached.{at_root, below}
use Rattle.mj_delta.proofs.Facts.{cond_is, full_named, named_cases}

abbrev pub dir_in : Option Dentry → Option ℕ
dir_in o = option_and_then subdir o

pub subdir_full : (o : Option Dentry) (i : ℕ) → dir_in o ≡ Some i → (full_of o ≡ Some i) × (is_kind Dir (said_by o) ≡ true)
subdir_full None i e = absurd (none_some i e)
subdir_full (Some (Full v r)) i e = elim (same_kind r.kind Dir) as (λ b. (if b then Some r.ino else None) ≡ Some i → (Some r.ino ≡ Some i) × (b ≡ true)) [ true ↦ λ e. (e, refl) | false ↦ λ e. absurd (none_some i e) ] e
subdir_full (Some (Remote v j k)) i e = absurd (none_some i e)

pub full_subdir : (o : Option Dentry) (i : ℕ) → full_of o ≡ Some i → is_kind Dir (said_by o) ≡ true → dir_in o ≡ Some i
full_subdir None i e d = absurd (none_some i e)
full_subdir (Some (Full v r)) i e d = (λ z. if d z then Some r.ino else None) ∙ e
full_subdir (Some (Remote v j k)) i e d = absurd (none_some i e)

kind_dir : (o : Option Attributes) (k : Kind) → kind_of o ≡ Some k → same_kind k Dir ≡ false → is_kind Dir o ≡ false
kind_dir None k e h = absurd (none_some k e)
kind_dir (Some a) k e h = ap (λ x. same_kind x Dir) (some_same a.kind k e) ∙ h

module _ (rank : ℕ) (t : Table) (s : PlainState) (primary : Places) (m : HasDentries rank t s primary) where
  pub link_kept : (q : ℕ × List ℕ) (i : ℕ) → get s.links q ≡ Some i → is_kept s i ≡ true
  link_kept q i e = lt-ltb 0 _ (omega (arith, count_some exact_place (λ (e : (ℕ × List ℕ) × ℕ). e.1 == i) s.links q i e (eq-eqb i i refl)))

  record_at : (q : ℕ × List ℕ) (i : ℕ) → get s.links q ≡ Some i → get s.records i ≡ said_by (cell_of t primary i)
  record_at q i e = m.records i ∙ ap (λ b. cond b (said_by (cell_of t primary i)) None) (link_kept q i e)

  dir_attrs : (q : ℕ × List ℕ) (i : ℕ) → (i ≡ 1 → ⊥) → get s.links q ≡ Some i → is_dir s i ≡ true → is_kind Dir (said_by (cell_of t primary i)) ≡ true
  dir_attrs q i ne e h = elim (or_cases (i == 1) (is_kind Dir (get s.records i)) h) [
    | inl one ↦ absurd (ne (eqb-true i 1 one))
    | inr d ↦ sym (ap (is_kind Dir) (record_at q i e)) ∙ d
  ]

  -- a link to a directory is a full dentry of it
  pub dir_link : (q : ℕ × List ℕ) (i : ℕ) → (i ≡ 1 → ⊥) → get s.links q ≡ Some i → is_dir s i ≡ true → dir_in (get t.dentries q) ≡ Some i
  dir_link q i ne e h =
      let c = cond_is (is_dir s q.0) (names (get t.dentries q)) i (sym (m.links q) ∙ e) in
      elim (named_cases (get t.dentries q) i c.1) [
        | inl f ↦ full_subdir _ i f (sym (ap (λ o. is_kind Dir (said_by (option_and_then (get t.dentries) o))) (m.each_primary i q (ap (λ b. b || (q.0 == stray_ino rank)) c.0) f)) ∙ dir_attrs q i ne e h)
        | inr w ↦ absurd (true≢false (sym (dir_attrs q i ne e h) ∙ kind_dir _ w.0 (m.remote_kind q i w.0 c.0 w.1) (m.remote_no_dir q i w.0 c.0 w.1)))
      ]

  -- and a full dentry of a directory is a link to one
  pub link_dir : (q : ℕ × List ℕ) (i : ℕ) → is_dir s q.0 ≡ true → dir_in (get t.dentries q) ≡ Some i → (get s.links q ≡ Some i) × (is_dir s i ≡ true)
  link_dir q i d e =
      let f = subdir_full _ i e in
      let l : get s.links q ≡ Some i = m.links q ∙ ap (λ b. cond b (names (get t.dentries q)) None) d ∙ full_named _ i f.0 in
      let p = m.each_primary i q (ap (λ b. b || (q.0 == stray_ino rank)) d) f.0 in
      (l, or_right (i == 1) (is_kind Dir (get s.records i)) (ap (is_kind Dir) (record_at q i l) ∙ ap (λ o. is_kind Dir (said_by (option_and_then (get t.dentries) o))) p ∙ f.1))

  pub reach_dir : (d : ℕ) → IsReached s d → is_dir s d ≡ true
  reach_dir _ at_root = refl
  reach_dir _ (below d n i r l h) = h

  pub reach_in : (d : ℕ) → IsReached s d → IsReachable t d
  reach_in _ at_root = top
  reach_in _ (below d n i r l h) = elim (cases_eq i 1) [
    | inl e ↦ subst (IsReachable t) (sym e) top
    | inr ne ↦ under d n i (reach_in d r) (dir_link (d, n) i ne l h)
  ]

  pub in_reach : (d : ℕ) → IsReachable t d → IsReached s d
  in_reach _ top = at_root
  in_reach _ (under d n i r e) = let above = in_reach d r in let l = link_dir (d, n) i (reach_dir d above) e in below d n i above l.0 l.1

-- the first says no where the second does
pub same_bool : (a b : Bool) → (a ≡ true → b ≡ true) → (b ≡ true → a ≡ true) → a ≡ b
same_bool true b f g = sym (f refl)
same_bool false true f g = g refl
same_bool false false f g = refl

pub same_option : {A : Type 0} (a b : Option A) → ((x : A) → a ≡ Some x → b ≡ Some x) → ((x : A) → b ≡ Some x → a ≡ Some x) → a ≡ b
same_option None None f g = refl
same_option None (Some y) f g = g y refl
same_option (Some x) b f g = sym (f x refl)

-- ---- sessions

abbrev kept_of : Option Session → ℕ → Option ℕ
kept_of o tid = option_and_then (λ (c : Session). get c.kept tid) o

one_session : (a b : Option Session) → oldest_of a ≡ oldest_of b → ((tid : ℕ) → kept_of a tid ≡ kept_of b tid) → a ≡ b
one_session None None e f = refl
one_session None (Some d) e f = absurd (none_some d.oldest e)
one_session (Some c) None e f = absurd (none_some c.oldest (sym e))
one_session (Some c) (Some d) e f = let oldest = some_same c.oldest d.oldest e in let kept : c.kept ≡ d.kept = same_map exact_nat c.kept d.kept f in λ z. Some (record { oldest = oldest z; kept = kept z })

pub one_sessions : (t : Table) (a b : PlainState) → HasSessions t a → HasSessions t b → a.sessions ≡ b.sessions
one_sessions t a b ha hb = same_map exact_nat _ _ (λ c. one_session (get a.sessions c) (get b.sessions c) (sym (ha.sessions c) ∙ hb.sessions c) (λ tid. sym (ha.replies c tid) ∙ hb.replies c tid))

module _ (rank : ℕ) (t : Table) (a b : PlainState) (ta : IsTreeOf rank t a) (tb : IsTreeOf rank t b) where
  same_dir : (d : ℕ) → is_dir a d ≡ is_dir b d
  same_dir d = same_bool _ _
      (λ h. reach_dir rank t b tb.primary tb.dentries d (in_reach rank t b tb.primary tb.dentries d (reach_in rank t a ta.primary ta.dentries d (ta.reached d h))))
      (λ h. reach_dir rank t a ta.primary ta.dentries d (in_reach rank t a ta.primary ta.dentries d (reach_in rank t b tb.primary tb.dentries d (tb.reached d h))))

  same_links : a.links ≡ b.links
  same_links = same_map exact_place _ _ (λ q. ta.dentries.links q ∙ ap (λ x. cond x (names (get t.dentries q)) None) (same_dir q.0) ∙ sym (tb.dentries.links q))

  same_opens : a.opens ≡ b.opens
  same_opens = sym ta.dentries.opens ∙ tb.dentries.opens

  same_held : (d : ℕ) → is_held rank a d ≡ is_held rank b d
  same_held d = ap (λ x. x || (d == stray_ino rank)) (same_dir d)

  same_primary : ta.primary ≡ tb.primary
  same_primary = same_map exact_nat _ _ (λ i. same_option _ _
      (λ q e. tb.dentries.each_primary i q (sym (same_held q.0) ∙ ta.dentries.primary_held i q e) (ta.dentries.primary_full i q e))
      (λ q e. ta.dentries.each_primary i q (same_held q.0 ∙ tb.dentries.primary_held i q e) (tb.dentries.primary_full i q e)))

  same_records : a.records ≡ b.records
  same_records = same_map exact_nat _ _ (λ i. ta.dentries.records i
      ∙ (λ z. cond (nat_lt 0 (count (λ (e : (ℕ × List ℕ) × ℕ). e.1 == i) (same_links z) + count (λ (e : (ℕ × ℕ) × Unit {0}). e.0.1 == i) (same_opens z))) (said_by (cell_of t (same_primary z) i)) None)
      ∙ sym (tb.dentries.records i))

  same_next : a.next ≡ b.next
  same_next = some_same _ _ (sym ta.dentries.next ∙ tb.dentries.next)

  same_sessions : a.sessions ≡ b.sessions
  same_sessions = one_sessions t a b ta.sessions tb.sessions

  pub same_state : a ≡ b
  same_state = λ z. record { next = same_next z; records = same_records z; links = same_links z; opens = same_opens z; sessions = same_sessions z }
