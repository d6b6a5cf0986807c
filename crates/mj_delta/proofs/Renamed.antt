-- The event of a name that moves to a free place gives the tree after the request.
use Rattle.std.proofs.Common.{◌≡◌, ℕ, ◌<◌, ◌^◌, true, cond, List, Option, Some, None, Ok, refl, sym, ap, subst, ◌∙◌, inl, inr, arith}
use Rattle.std.specs.Prelude.{IsTrue}
use Rattle.std.proofs.lemmas.Bool.{false≢true}
use Rattle.mj_base.specs.Name.{is_name}
use Rattle.mj_maps.specs.Map.{get}
use Rattle.mj_maps.proofs.MapLaws.{none_some}
use Rattle.mj_tree.specs.declared.change.Change.TheVariants as change
use Rattle.mj_tree.specs.declared.change.Decision.TheVariants.{Accepted}
use Rattle.mj_tree.specs.declared.request.ClientRequest.{ClientRequest}
use Rattle.mj_tree.specs.State.{PlainState, is_dir}
use Rattle.mj_tree.specs.Change.{with_moved}
use Rattle.mj_tree.specs.Answer.{decision}
use Rattle.mj_cells.specs.Table.{Dentry, Table, dentry_of}
use Rattle.mj_cells.specs.Table.Dentry.{Full as FullAt, Remote as RemoteAt}
use Rattle.mj_recovery.specs.Orderly.{IsOwn}
use Rattle.mj_delta.specs.Reads.{Places, names, full_of, remote_of}
use Rattle.mj_delta.specs.TreeOf.{IsReached, HasDentries, IsTreeOf}
use Rattle.mj_delta.specs.Fits.{IsSent}
use Rattle.mj_delta.specs.Events.{next_version}
use Rattle.mj_delta.specs.Plan.Naming.{Full, Remote}
use Rattle.mj_delta.specs.Plan.{Naming, naming, Plan, lumps_of, move_plan, move_event}
use Rattle.mj_delta.specs.Steps.{GivesTree}
use Rattle.mj_delta.proofs.Facts.{ids, held_dir, link_parent, link_range, remote_named, stray_no_dir}
use Rattle.mj_delta.proofs.NewEntry.{own_dir}
use Rattle.mj_delta.proofs.Decided.{CanMove, meant, effect_found}
use Rattle.mj_delta.proofs.Updated.{IsPlan, update_gives}
use Rattle.mj_delta.proofs.Plans.{written, laid, laid_at, laid_other}
use Rattle.mj_delta.proofs.Planned.{NamingFits, PlanFits, PlanDoes, plan_is}
use Rattle.mj_delta.proofs.Laid.{laid_beside, two_gone, two_there, two_other, two_cases, two_few}
use Rattle.mj_delta.proofs.Ending.{Beside}
use Rattle.mj_delta.proofs.Unlinked.{dir_once, q_name, its_fits}
use Rattle.mj_delta.proofs.Moves.{away_apart, reached_moved_dir, reached_moved_file}
use Rattle.mj_delta.proofs.Moved.{moved_places, moved_dentries}

pub naming_written : (v : ℕ) (n : Option Naming) → naming (dentry_of (written v n)) ≡ n
naming_written v None = refl
naming_written v (Some (Full r)) = refl
naming_written v (Some (Remote i k)) = refl

module _ (rank : ℕ) (t : Table) (s : PlainState) (primary : Places) (m : HasDentries rank t s primary) where
  pub no_root_link : (x : ℕ × List ℕ) → get s.links x ≡ Some 1 → ⊥
  no_root_link x e = omega (arith, (ids rank).root, (link_range rank t s primary m x 1 e).0)

  pub one_dir_link : (x y : ℕ × List ℕ) (i : ℕ) → is_dir s i ≡ true → get s.links x ≡ Some i → get s.links y ≡ Some i → x ≡ y
  one_dir_link x y i h a b = dir_once rank t s primary m y i b x h a

  -- what a dentry of a directory says has a spelling at each place of a directory
  said_fits : (x r : ℕ × List ℕ) → is_dir s x.0 ≡ true → is_dir s r.0 ≡ true → (d : Option Dentry) → get t.dentries x ≡ d → NamingFits rank r (naming d)
  said_fits x r from to None e = tt
  said_fits x r from to (Some (FullAt v z)) e = (m.records_fit x v z e, m.above z.ino x (m.each_primary z.ino x (held_dir rank t s primary m x.0 from) (ap full_of e)), λ st. absurd (false≢true (sym (stray_no_dir rank t s primary m) ∙ ap (is_dir s) (sym st) ∙ to)))
  said_fits x r from to (Some (RemoteAt v j k)) e =
      let rem : remote_of (get t.dentries x) ≡ Some (j, k) = ap remote_of e in
      let l : get s.links x ≡ Some j = m.links x ∙ (λ z. cond (from z) (names (get t.dentries x)) None) ∙ remote_named _ j k rem in
      let range = link_range rank t s primary m x j l in
      (omega (arith, range.1, m.next_fits), m.remote_no_dir x j k from rem, λ st. absurd (false≢true (sym (stray_no_dir rank t s primary m) ∙ ap (is_dir s) (sym st) ∙ to)))

  pub moving_fits : (x r : ℕ × List ℕ) → is_dir s x.0 ≡ true → is_dir s r.0 ≡ true → NamingFits rank r (naming (get t.dentries x))
  moving_fits x r from to = said_fits x r from to (get t.dentries x) refl

module _ (rank : ℕ) (t : Table) (s : PlainState) (is : IsTreeOf rank t s) (q r : ℕ × List ℕ) (i : ℕ) (can : CanMove s q r i) where
  abbrev m : HasDentries rank t s is.primary
  m = is.dentries

  abbrev s1 : PlainState
  s1 = with_moved s q r i

  abbrev n : Option Naming
  n = naming (get t.dentries q)

  abbrev plan : Plan
  plan = move_plan t q r

  parent : is_dir s q.0 ≡ true
  parent = (link_parent rank t s is.primary m q i can.link).0

  r_not_q : r ≡ q → ⊥
  r_not_q e = none_some i (sym can.free ∙ ap (get s.links) e ∙ can.link)

  fits : PlanFits rank s1 plan
  fits = record {
    few = two_few r n q;
    names = λ z o e. elim (two_cases r n q z o e) [
      | inl w ↦ subst (λ (z : ℕ × List ℕ). IsTrue (is_name z.1)) (sym w.0) (q_name rank t s is.primary m q i can.link)
      | inr w ↦ subst (λ (z : ℕ × List ℕ). IsTrue (is_name z.1)) (sym w.0) can.name
    ];
    fit = λ z o e. elim (two_cases r n q z o e) [
      | inl w ↦ subst (λ o. NamingFits rank z o) (sym w.1) tt
      | inr w ↦ subst (λ o. NamingFits rank z o) (sym w.1) (subst (λ z. NamingFits rank z n) (sym w.0) (moving_fits rank t s is.primary m q r parent can.parent))
    ];
    own = λ z o e. elim (two_cases r n q z o e) [
      | inl w ↦ subst (λ (z : ℕ × List ℕ). IsOwn rank s.next z.0) (sym w.0) (own_dir rank t s is.primary m q.0 parent)
      | inr w ↦ subst (λ (z : ℕ × List ℕ). IsOwn rank s.next z.0) (sym w.0) (own_dir rank t s is.primary m r.0 can.parent)
    ];
    gone = λ d e. absurd (none_some d e);
    first = m.first_next;
    next = m.next_fits;
  }

  abbrev t1 : Table
  t1 = laid t plan

  at_q : get t1.dentries q ≡ None
  at_q = laid_at t plan q None (two_gone r n q)

  at_r : naming (get t1.dentries r) ≡ naming (get t.dentries q)
  at_r = ap naming (laid_at t plan r n (two_there r n q r_not_q)) ∙ naming_written (next_version t r.0) n

  at_other : (x : ℕ × List ℕ) → (x ≡ q → ⊥) → (x ≡ r → ⊥) → get t1.dentries x ≡ get t.dentries x
  at_other x nq nr = laid_other t plan x (two_other r n q x nq nr)

  beside : Beside rank t s1 t1
  beside = laid_beside rank t s is.primary m plan s1 refl fits (λ d h. (h, λ e. none_some d e))

  all_reached : (d : ℕ) → is_dir s1 d ≡ true → IsReached s1 d
  all_reached = elim can.away [
    | inl no_dir ↦ reached_moved_file s (no_root_link rank t s is.primary m) (one_dir_link rank t s is.primary m) q r i can.link can.free no_dir is.reached
    | inr w ↦
        let u = away_apart s q r w in
        reached_moved_dir s (no_root_link rank t s is.primary m) (one_dir_link rank t s is.primary m) q r i can.link can.free u.trail_to u.way u.trail_is u.way_is can.parent u.not_through is.reached
  ]

  pub move_does : PlanDoes rank t s (with_moved s q r i) (move_plan t q r)
  move_does = record {
    primary = moved_places is.primary q r;
    dentries = moved_dentries rank t s is.primary m q r i can.link can.free can.parent can.name can.room t1 at_q at_r at_other beside;
    reached = all_reached;
    sessions = refl;
    opens = refl;
    next = refl;
    fits = fits;
  }

pub move_gives : (rank : ℕ) (t : Table) (s : PlainState) (r : ClientRequest) (i j : ℕ) (from to : ℕ × List ℕ) → IsTreeOf rank t s → IsSent r → decision s r ≡ Accepted i (change.Move from to j) → GivesTree rank t s r (move_event t s r from to i)
move_gives rank t s r i j from to is sent d =
    let can = meant s r (Accepted i (change.Move from to j)) d in
    let found = effect_found s r sent is.dentries.next_fits (Ok (i, change.Move from to j)) can.done in
    let fits : j < 2 ^ 64 = its_fits rank t s is.primary is.dentries from j found.1.link in
    let is_plan : IsPlan rank t s r i (change.Move from to j) None None None (lumps_of t (move_plan t from to)) = subst (λ k. IsPlan rank t s r k (change.Move from to j) None None None (lumps_of t (move_plan t from to))) found.0 (plan_is rank t s is r j (change.Move from to j) (move_plan t from to) fits (move_does rank t s is from to j found.1)) in
    update_gives rank t s is r sent i (change.Move from to j) can None None None (lumps_of t (move_plan t from to)) is_plan d
