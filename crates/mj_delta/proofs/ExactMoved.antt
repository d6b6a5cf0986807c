-- The event of a name that moves to a free place is the exact one.
use Rattle.std.proofs.Common.{◌≡◌, ℕ, ◌<◌, ◌^◌, true, cond, ◌||◌, List, Option, Some, None, Ok, refl, sym, ap, subst, ◌∙◌, inl, inr}
use Rattle.std.specs.Prelude.{◌==◌}
use Rattle.std.specs.List.{flat_map}
use Rattle.mj_base.specs.ObjectName.{stray_ino}
use Rattle.mj_maps.specs.Map.{get, remove}
use Rattle.mj_maps.proofs.MapLaws.{exact_place, none_some, some_same, insert_same, insert_other, remove_same, remove_other, cases_key, eq_false, apart}
use Rattle.mj_tree.specs.declared.change.Change.TheVariants as change
use Rattle.mj_tree.specs.declared.change.Decision.TheVariants.{Accepted}
use Rattle.mj_tree.specs.declared.request.ClientRequest.{ClientRequest}
use Rattle.mj_tree.specs.State.{PlainState, is_dir}
use Rattle.mj_tree.specs.Change.{with_moved}
use Rattle.mj_tree.specs.Answer.{decision}
use Rattle.mj_cells.specs.Table.{Dentry, Table}
use Rattle.mj_cells.specs.Table.Dentry.{Full as FullAt, Remote as RemoteAt}
use Rattle.mj_event.specs.Writes.{lump_writes}
use Rattle.mj_machine.specs.Delta.{IsExactDelta, new_place}
use Rattle.mj_delta.specs.Reads.{names, full_of}
use Rattle.mj_delta.specs.TreeOf.{HasDentries, IsTreeOf}
use Rattle.mj_delta.specs.Fits.{IsSent}
use Rattle.mj_delta.specs.Events.{next_version}
use Rattle.mj_delta.specs.Plan.Naming.{Full, Remote}
use Rattle.mj_delta.specs.Plan.{Naming, naming, Plan, lumps_of, move_plan, move_event}
use Rattle.mj_delta.proofs.Facts.{full_named, record_primary, link_parent}
use Rattle.mj_delta.proofs.TreeIs.{tree_is}
use Rattle.mj_delta.proofs.Decided.{CanChange, CanMove, meant, effect_found}
use Rattle.mj_delta.proofs.Updated.{IsPlan, planned}
use Rattle.mj_delta.proofs.Planned.{plan_is}
use Rattle.mj_delta.proofs.Laid.{two_there, two_other, two_cases}
use Rattle.mj_delta.proofs.Moved.{same_full}
use Rattle.mj_delta.proofs.Unlinked.{its_fits}
use Rattle.mj_delta.proofs.Renamed.{naming_written, move_does}
use Rattle.mj_delta.proofs.Told.{told}
use Rattle.mj_delta.proofs.Operations.{op_suits, new_place_is}
use Rattle.mj_delta.proofs.Exact.{AreSaid}
use Rattle.mj_delta.proofs.ExactUpdates.OpensAre.{as_before}
use Rattle.mj_delta.proofs.ExactParts.{plan_said, planned_at, planned_other, quiet_records, recorded_kept}
use Rattle.mj_delta.proofs.ExactChange.{IsExactChange, change_exact, dir_far, unmoved}
use Rattle.mj_delta.proofs.ExactLeft.{link_known, none_known}
use Rattle.mj_delta.proofs.Primaries.{moves_along}

module _ (rank : ℕ) (t : Table) (s : PlainState) (is : IsTreeOf rank t s) (r : ClientRequest) (sent : IsSent r) (q to : ℕ × List ℕ) (i : ℕ) (can : CanChange s r i (change.Move q to i)) (decided : decision s r ≡ Accepted i (change.Move q to i)) (move : CanMove s q to i) where
  abbrev m : HasDentries rank t s is.primary
  m = is.dentries

  abbrev s1 : PlainState
  s1 = with_moved s q to i

  abbrev n : Option Naming
  n = naming (get t.dentries q)

  abbrev plan : Plan
  plan = move_plan t q to

  abbrev t1 : Table
  t1 = planned t r None None None (lumps_of t plan)

  parent : is_dir s q.0 ≡ true
  parent = (link_parent rank t s is.primary m q i move.link).0

  q_named : names (get t.dentries q) ≡ Some i
  q_named = (link_parent rank t s is.primary m q i move.link).1

  to_named : names (get t.dentries to) ≡ None
  to_named = sym (ap (λ b. cond b (names (get t.dentries to)) None) move.parent) ∙ sym (m.links to) ∙ move.free

  to_not_q : to ≡ q → ⊥
  to_not_q e = none_some i (sym move.free ∙ ap (get s.links) e ∙ move.link)

  q_not_to : q ≡ to → ⊥
  q_not_to e = to_not_q (sym e)

  moves_to : new_place rank t r r.op ≡ Some to
  moves_to = new_place_is rank t s r to (tree_is rank t s is) (op_suits s r (Ok (i, change.Move q to i)) can.done)

  said : AreSaid t plan None (flat_map lump_writes (lumps_of t plan))
  said = plan_said t plan (λ z o e g. none_some z.0 g)

  at_to : naming (get t1.dentries to) ≡ naming (get t.dentries q)
  at_to = ap naming (planned_at t r None None None (lumps_of t plan) plan None said to n (two_there to n q to_not_q)) ∙ naming_written (next_version t to.0) n

  at_other : (x : ℕ × List ℕ) → (x ≡ q → ⊥) → (x ≡ to → ⊥) → get t1.dentries x ≡ get t.dentries x
  at_other x nq nt = planned_other t r None None None (lumps_of t plan) plan None said x (two_other to n q x nq nt)

  link_other : (x : ℕ × List ℕ) (j : ℕ) → (x ≡ q → ⊥) → (x ≡ to → ⊥) → get s.links x ≡ Some j → get s1.links x ≡ Some j
  link_other x j nq nt e = insert_other exact_place (remove s.links q) to i x (eq_false exact_place x to nt) ∙ remove_other exact_place s.links q x (eq_false exact_place x q nq) ∙ e

  gone_at_q : (j : ℕ) → get s1.links q ≡ Some j → ⊥
  gone_at_q j e = none_some j (sym (insert_other exact_place (remove s.links q) to i q (eq_false exact_place q to q_not_to) ∙ remove_same exact_place s.links q) ∙ e)

  -- no full dentry stands at the place to which it moves
  full_not_to : (j : ℕ) (x : ℕ × List ℕ) → get is.primary j ≡ Some x → x ≡ to → ⊥
  full_not_to j x e same = none_some j (sym to_named ∙ ap (λ x. names (get t.dentries x)) (sym same) ∙ full_named _ j (m.primary_full j x e))

  module _ (is_plan : IsPlan rank t s r i (change.Move q to i) None None None (lumps_of t plan)) where
    change_is : IsExactChange rank t s r s1 t1 plan None
    change_is = record {
      records = quiet_records s s1 plan refl (record { there = λ j. refl; dirs = λ d. refl });
      empty = λ d which o. elim which [ inl e ↦ absurd (none_some d e) | inr e ↦ absurd (none_some d e) ];
      stray = λ z v x none e st. refl;
      seen = λ z o e. elim (two_cases to n q z o e) [
        | inl w ↦ inl (λ st. dir_far rank t s is.primary m q.0 parent (ap (λ (x : ℕ × List ℕ). x.0) (sym w.0) ∙ st), ap (λ (x : ℕ × List ℕ). is_dir s x.0) w.0 ∙ parent)
        | inr w ↦ inl (λ st. dir_far rank t s is.primary m to.0 move.parent (ap (λ (x : ℕ × List ℕ). x.0) (sym w.0) ∙ st), ap (λ (x : ℕ × List ℕ). is_dir s x.0) w.0 ∙ move.parent)
      ];
      differs = λ z o e k. elim (two_cases to n q z o e) [
        | inl w ↦ let known = link_known rank t s q i (dir_far rank t s is.primary m q.0 parent) parent q_named in none_some known.0 (sym w.1 ∙ sym k ∙ ap (told rank t s) w.0 ∙ known.1)
        | inr w ↦
            let none = none_known rank t s to (dir_far rank t s is.primary m to.0 move.parent) move.parent to_named in
            let some = some_naming (get t.dentries q) q_named in
            none_some some.0 (sym none ∙ ap (told rank t s) (sym w.0) ∙ k ∙ w.1 ∙ some.1)
      ];
      places = λ links opens j a e.
          let x = record_primary rank t s is.primary m j a e in
          let nt = full_not_to j x.0 x.1 in
          elim (cases_key exact_place x.0 q) [
            | inr far ↦
                let nq = apart exact_place x.0 q far in
                unmoved rank t s is r s1 t1 links opens j x.0 x.1 (recorded_kept rank t1 s1 is_plan.primary is_plan.dentries j a e) (m.primary_held j x.0 x.1) (ap full_of (at_other x.0 nq nt) ∙ m.primary_full j x.0 x.1) (link_other x.0 j nq nt)
            | inl same ↦
                let it : j ≡ i = some_same j i (sym (full_named _ j (m.primary_full j x.0 x.1)) ∙ ap (λ x. names (get t.dentries x)) same ∙ q_named) in
                record {
                  place = to;
                  wanted = moves_along rank t s is r s1 links opens j x.0 to x.1 (λ st. dir_far rank t s is.primary m q.0 parent (ap (λ (x : ℕ × List ℕ). x.0) (sym same) ∙ st)) (λ l. gone_at_q j (ap (get s1.links) (sym same) ∙ l)) moves_to
                      (insert_same exact_place (remove s.links q) to i ∙ ap Some (sym it));
                  held = ap (λ b. b || (to.0 == stray_ino rank)) move.parent;
                  full = same_full _ _ at_to ∙ ap (λ x. full_of (get t.dentries x)) (sym same) ∙ m.primary_full j x.0 x.1;
                }
          ];
    }
      where
        some_naming : (o : Option Dentry) → names o ≡ Some i → (n : Naming) × (naming o ≡ Some n)
        some_naming None f = absurd (none_some i f)
        some_naming (Some (FullAt v y)) f = (Full y, refl)
        some_naming (Some (RemoteAt v j k)) f = (Remote j k, refl)

    move_bare : IsExactDelta rank t r (move_event t s r q to i)
    move_bare = change_exact rank t s is r sent i (change.Move q to i) can None None None (lumps_of t plan) is_plan decided (inl (refl, refl)) (as_before refl) plan None said change_is

pub move_exact : (rank : ℕ) (t : Table) (s : PlainState) (r : ClientRequest) (i j : ℕ) (q to : ℕ × List ℕ) → IsTreeOf rank t s → IsSent r → decision s r ≡ Accepted i (change.Move q to j) → IsExactDelta rank t r (move_event t s r q to i)
move_exact rank t s r i j q to is sent d =
    let found = effect_found s r sent is.dentries.next_fits (Ok (i, change.Move q to j)) (meant s r (Accepted i (change.Move q to j)) d).done in
    let same : decision s r ≡ Accepted i (change.Move q to i) = d ∙ ap (λ k. Accepted i (change.Move q to k)) found.0 in
    let move : CanMove s q to i = subst (λ k. CanMove s q to k) found.0 found.1 in
    let fits : i < 2 ^ 64 = its_fits rank t s is.primary is.dentries q i move.link in
    move_bare rank t s is r sent q to i (meant s r (Accepted i (change.Move q to i)) same) same move (plan_is rank t s is r i (change.Move q to i) (move_plan t q to) fits (move_does rank t s is q to i move))
