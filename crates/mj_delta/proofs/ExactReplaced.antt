-- The event of a name that moves over another is the exact one.
use Rattle.std.proofs.Common.{◌≡◌, ℕ, ◌<◌, ◌^◌, true, false, ◌||◌, List, Option, Some, None, Ok, refl, sym, ap, subst, ◌∙◌, inl, inr}
use Rattle.std.specs.Prelude.{◌==◌, is_some, if◌then◌else◌}
use Rattle.std.specs.List.{flat_map}
use Rattle.std.proofs.lemmas.Bool.{cases_eq, eq-eqb, or_right}
use Rattle.mj_base.specs.ObjectName.{stray_ino}
use Rattle.mj_base.specs.declared.record.InodeRecord.{InodeRecord}
use Rattle.mj_maps.specs.Map.{get, insert, remove}
use Rattle.mj_maps.proofs.MapLaws.{exact_nat, exact_place, none_some, some_same, insert_same, insert_other, remove_same, remove_other, cases_key, eq_false, apart}
use Rattle.mj_tree.specs.declared.change.Change.TheVariants as change
use Rattle.mj_tree.specs.declared.change.Decision.TheVariants.{Accepted}
use Rattle.mj_tree.specs.declared.request.ClientRequest.{ClientRequest}
use Rattle.mj_tree.specs.State.{PlainState, is_dir, is_kept, attributes_of}
use Rattle.mj_tree.specs.Change.{settled, with_moved}
use Rattle.mj_tree.specs.Answer.{decision, after}
use Rattle.mj_cells.specs.Table.{Table}
use Rattle.mj_cells.specs.Table.Dentry.{Full as FullAt}
use Rattle.mj_event.specs.Writes.{lump_writes}
use Rattle.mj_recovery.specs.Tree.{tree_of}
use Rattle.mj_machine.specs.Delta.{IsExactDelta, new_place}
use Rattle.mj_delta.specs.Reads.{Places, names, full_of, is_held}
use Rattle.mj_delta.specs.TreeOf.{HasDentries, IsTreeOf}
use Rattle.mj_delta.specs.Fits.{IsSent}
use Rattle.mj_delta.specs.Events.{next_version}
use Rattle.mj_delta.specs.Plan.Naming.{Full}
use Rattle.mj_delta.specs.Plan.{Naming, naming, Plan, lumps_of, left_dentries, where_dir, with_dentry, replace_plan, plan_event, replace_event}
use Rattle.mj_delta.proofs.Facts.{full_named, record_primary, link_parent, held_cases}
use Rattle.mj_delta.proofs.TreeIs.{tree_is}
use Rattle.mj_delta.proofs.Decided.{CanChange, CanReplace, meant, effect_found}
use Rattle.mj_delta.proofs.Held.{HasRecord}
use Rattle.mj_delta.proofs.Placed.{place_is}
use Rattle.mj_delta.proofs.Updated.{IsPlan, planned}
use Rattle.mj_delta.proofs.Planned.{plan_is}
use Rattle.mj_delta.proofs.Laid.{two, three, three_there, three_first, three_other, three_cases}
use Rattle.mj_delta.proofs.Ending.{IsLeft}
use Rattle.mj_delta.proofs.Vanishing.{dir_gone}
use Rattle.mj_delta.proofs.Moved.{same_full, same_names_of}
use Rattle.mj_delta.proofs.Unlinked.{its, less, left, lessened, kept_no_dir, no_entries, i_not_root, its_fits, is_left, where_none, where_it}
use Rattle.mj_delta.proofs.Renamed.{naming_written}
use Rattle.mj_delta.proofs.Replaced.{replace_does}
use Rattle.mj_delta.proofs.Told.{told}
use Rattle.mj_delta.proofs.Operations.{op_suits, new_place_is}
use Rattle.mj_delta.proofs.Exact.{AreSaid}
use Rattle.mj_delta.proofs.ExactUpdates.OpensAre.{as_before}
use Rattle.mj_delta.proofs.ExactParts.{plan_said, planned_at, planned_other, IsVisible, told_in_dir, quiet_records, gone_records, recorded_kept}
use Rattle.mj_delta.proofs.ExactChange.{StandsRight, IsExactChange, change_exact, dir_far, told_record, unmoved}
use Rattle.mj_delta.proofs.ExactLeft.{link_known, left_differs, link_not_in, full_not_in, no_cells, dir_of, left_wanted}
use Rattle.mj_delta.proofs.Primaries.{moves_along}

module _ (rank : ℕ) (t : Table) (s : PlainState) (is : IsTreeOf rank t s) (r : ClientRequest) (sent : IsSent r) (q to : ℕ × List ℕ) (i j : ℕ) (can : CanChange s r i (change.Replace q to i j)) (decided : decision s r ≡ Accepted i (change.Replace q to i j)) (replace : CanReplace s q to i j) where
  abbrev m : HasDentries rank t s is.primary
  m = is.dentries

  abbrev it : HasRecord t s is.primary j
  it = its rank t s is.primary m to j replace.target

  abbrev p : ℕ × List ℕ
  p = it.place

  abbrev cut : PlainState
  cut = less rank t s is.primary m to j replace.target

  abbrev gone : PlainState
  gone = record s { records = remove s.records j; links = remove s.links to }

  abbrev l : ℕ × List ℕ
  l = left rank t s is.primary m to j replace.target

  abbrev y : InodeRecord
  y = lessened rank t s is.primary m to j replace.target

  abbrev n : Option Naming
  n = naming (get t.dentries q)

  parent : is_dir s q.0 ≡ true
  parent = (link_parent rank t s is.primary m q i replace.link).0

  q_named : names (get t.dentries q) ≡ Some i
  q_named = (link_parent rank t s is.primary m q i replace.link).1

  to_parent : is_dir s to.0 ≡ true
  to_parent = (link_parent rank t s is.primary m to j replace.target).0

  to_named : names (get t.dentries to) ≡ Some j
  to_named = (link_parent rank t s is.primary m to j replace.target).1

  to_not_q : to ≡ q → ⊥
  to_not_q e = replace.other (some_same i j (sym replace.link ∙ ap (get s.links) (sym e) ∙ replace.target))

  q_not_to : q ≡ to → ⊥
  q_not_to e = to_not_q (sym e)

  moves_to : new_place rank t r r.op ≡ Some to
  moves_to = new_place_is rank t s r to (tree_is rank t s is) (op_suits s r (Ok (i, change.Replace q to i j)) can.done)

  far_q : q.0 ≡ stray_ino rank → ⊥
  far_q = dir_far rank t s is.primary m q.0 parent

  far_to : to.0 ≡ stray_ino rank → ⊥
  far_to = dir_far rank t s is.primary m to.0 to_parent

  -- what stands at a place names one inode
  names_one : (x z : ℕ × List ℕ) (a b : ℕ) → x ≡ z → names (get t.dentries x) ≡ Some a → names (get t.dentries z) ≡ Some b → a ≡ b
  names_one x z a b same e f = some_same a b (sym e ∙ ap (λ x. names (get t.dentries x)) same ∙ f)

  full_names : (k : ℕ) (x : ℕ × List ℕ) → get is.primary k ≡ Some x → names (get t.dentries x) ≡ Some k
  full_names k x e = full_named _ k (m.primary_full k x e)

  -- ---- links afterwards, in either case

  link_other : (x : ℕ × List ℕ) (k : ℕ) → (x ≡ q → ⊥) → (x ≡ to → ⊥) → get s.links x ≡ Some k → get (insert (remove (remove s.links to) q) to i) x ≡ Some k
  link_other x k nq nt e = insert_other exact_place (remove (remove s.links to) q) to i x (eq_false exact_place x to nt) ∙ remove_other exact_place (remove s.links to) q x (eq_false exact_place x q nq) ∙ remove_other exact_place s.links to x (eq_false exact_place x to nt) ∙ e

  link_here : get (insert (remove (remove s.links to) q) to i) to ≡ Some i
  link_here = insert_same exact_place (remove (remove s.links to) q) to i

  gone_at_q : (k : ℕ) → get (insert (remove (remove s.links to) q) to i) q ≡ Some k → ⊥
  gone_at_q k e = none_some k (sym (insert_other exact_place (remove (remove s.links to) q) to i q (eq_false exact_place q to q_not_to) ∙ remove_same exact_place (remove s.links to) q) ∙ e)

  -- what moves is known at its new place as another thing than before
  moved_differs : told rank t s to ≡ n → ⊥
  moved_differs e = replace.other (some_same i j (sym q_named ∙ sym (same_names_of (get t.dentries to) (get t.dentries q) (sym (told_in_dir rank s s to far_to to_parent (get t.dentries to)) ∙ e)) ∙ to_named))

  moves_it : (s1 : PlainState) (t1 : Table) → (after (tree_of rank t) r).links ≡ s1.links → (after (tree_of rank t) r).opens ≡ s1.opens → s1.links ≡ insert (remove (remove s.links to) q) to i → is_held rank s1 to.0 ≡ true
      → naming (get t1.dentries to) ≡ n → (x : ℕ × List ℕ) → get is.primary i ≡ Some x → x ≡ q → StandsRight rank t r s1 t1 i
  moves_it s1 t1 links opens are held at x e same = record {
    place = to;
    wanted = moves_along rank t s is r s1 links opens i x to e (λ st. far_q (ap (λ (x : ℕ × List ℕ). x.0) (sym same) ∙ st)) (λ k. gone_at_q i (ap (λ l. get l q) (sym are) ∙ ap (get s1.links) (sym same) ∙ k)) moves_to (ap (λ l. get l to) are ∙ link_here);
    held = held;
    full = same_full _ _ at ∙ ap (λ x. full_of (get t.dentries x)) (sym same) ∙ m.primary_full i x e;
  }

  -- ---- the other record stays

  module _ (stays : is_kept cut j ≡ true) where
    abbrev kept_after : PlainState
    kept_after = with_moved cut q to i

    abbrev kept_plan : Plan
    kept_plan = record { dentries = three l (Some (Full y)) to n q; removed = None }

    abbrev kept_table : Table
    kept_table = planned t r None None None (lumps_of t kept_plan)

    place_left : IsLeft rank t s to j p l
    place_left = is_left rank t s is.primary m to j replace.target

    l_not_q : l ≡ q → ⊥
    l_not_q e = replace.other (sym (names_one l q j i e (place_left.link (ap (λ (x : ℕ × List ℕ). is_dir s x.0) e ∙ parent)) q_named))

    kept_said : AreSaid t kept_plan None (flat_map lump_writes (lumps_of t kept_plan))
    kept_said = plan_said t kept_plan (λ z o e g. none_some z.0 g)

    kept_at_to : naming (get kept_table.dentries to) ≡ n
    kept_at_to = ap naming (planned_at t r None None None (lumps_of t kept_plan) kept_plan None kept_said to n (three_there l (Some (Full y)) to n q to_not_q)) ∙ naming_written (next_version t to.0) n

    kept_at_l : get kept_table.dentries l ≡ Some (FullAt (next_version t l.0) y)
    kept_at_l = planned_at t r None None None (lumps_of t kept_plan) kept_plan None kept_said l (Some (Full y)) (three_first l (Some (Full y)) to n q l_not_q place_left.not_q)

    kept_other : (x : ℕ × List ℕ) → (x ≡ q → ⊥) → (x ≡ to → ⊥) → (x ≡ l → ⊥) → get kept_table.dentries x ≡ get t.dentries x
    kept_other x nq nt nl = planned_other t r None None None (lumps_of t kept_plan) kept_plan None kept_said x (three_other l (Some (Full y)) to n q x nq nt nl)

    module _ (primary : Places) (m1 : HasDentries rank kept_table kept_after primary) where
      kept_change : IsExactChange rank t s r kept_after kept_table kept_plan None
      kept_change = record {
        records = quiet_records s kept_after kept_plan refl (record { there = λ k. refl; dirs = λ d. refl });
        empty = λ d which o. elim which [ inl e ↦ absurd (none_some d e) | inr e ↦ absurd (none_some d e) ];
        stray = λ z v x none e st. refl;
        seen = λ z o e. elim (three_cases l (Some (Full y)) to n q z o e) [
          | inl w ↦ inl (λ st. far_q (ap (λ (x : ℕ × List ℕ). x.0) (sym w.0) ∙ st), ap (λ (x : ℕ × List ℕ). is_dir s x.0) w.0 ∙ parent)
          | inr u ↦ elim u [
            | inl w ↦ inl (λ st. far_to (ap (λ (x : ℕ × List ℕ). x.0) (sym w.0) ∙ st), ap (λ (x : ℕ × List ℕ). is_dir s x.0) w.0 ∙ to_parent)
            | inr w ↦ elim (held_cases rank t s is.primary m l.0 place_left.held) [
              | inl dir ↦ inl (λ st. dir_far rank t s is.primary m l.0 dir (ap (λ (x : ℕ × List ℕ). x.0) (sym w.0) ∙ st), ap (λ (x : ℕ × List ℕ). is_dir s x.0) w.0 ∙ dir)
              | inr st ↦ inr (ap (λ (x : ℕ × List ℕ). x.0) w.0 ∙ st, subst (IsVisible kept_after) (sym w.1) (ap is_some it.said))
            ]
          ]
        ];
        differs = λ z o e k. elim (three_cases l (Some (Full y)) to n q z o e) [
          | inl w ↦ let known = link_known rank t s q i far_q parent q_named in none_some known.0 (sym w.1 ∙ sym k ∙ ap (told rank t s) w.0 ∙ known.1)
          | inr u ↦ elim u [
            | inl w ↦ moved_differs (ap (told rank t s) (sym w.0) ∙ k ∙ w.1)
            | inr w ↦ left_differs rank t s is.primary m to j replace.target (ap (told rank t s) (sym w.0) ∙ k ∙ w.1)
          ]
        ];
        places = λ links opens k a e.
            let kept = recorded_kept rank kept_table kept_after primary m1 k a e in
            elim (cases_eq k j) [
              | inl same ↦ subst (StandsRight rank t r kept_after kept_table) (sym same) (record {
                place = l;
                wanted = left_wanted rank t s is r kept_after links opens to j replace.target (λ f. replace.other (some_same i j (sym link_here ∙ f)))
                    (λ x nt f. link_other x j (λ z. replace.other (some_same i j (sym replace.link ∙ ap (get s.links) (sym z) ∙ f))) nt f)
                    (Some to) moves_to (λ x f g. replace.other (some_same i j (sym link_here ∙ ap (get kept_after.links) (some_same to x f) ∙ g))) (ap (is_kept kept_after) (sym same) ∙ kept);
                held = place_left.held;
                full = ap full_of kept_at_l;
              })
              | inr ne ↦
                  let x = record_primary rank t s is.primary m k a e in
                  let nt : x.0 ≡ to → ⊥ = λ z. ne (names_one x.0 to k j z (full_names k x.0 x.1) to_named) in
                  let nl : x.0 ≡ l → ⊥ = λ z. ne (place_left.own k (ap (λ x. full_of (get t.dentries x)) (sym z) ∙ m.primary_full k x.0 x.1)) in
                  elim (cases_key exact_place x.0 q) [
                    | inl at ↦
                        let is_i : k ≡ i = names_one x.0 q k i at (full_names k x.0 x.1) q_named in
                        subst (StandsRight rank t r kept_after kept_table) (sym is_i) (moves_it kept_after kept_table links opens refl (ap (λ b. b || (to.0 == stray_ino rank)) to_parent) kept_at_to x.0 (ap (get is.primary) (sym is_i) ∙ x.1) at)
                    | inr far ↦
                        let nq = apart exact_place x.0 q far in
                        unmoved rank t s is r kept_after kept_table links opens k x.0 x.1 kept (m.primary_held k x.0 x.1) (ap full_of (kept_other x.0 nq nt nl) ∙ m.primary_full k x.0 x.1) (link_other x.0 k nq nt)
                  ]
            ];
      }

    kept_exact : IsPlan rank t s r i (change.Replace q to i j) None None None (lumps_of t kept_plan) → IsExactDelta rank t r (plan_event t s r i kept_plan)
    kept_exact is_plan =
        let state : with_moved (settled cut j) q to i ≡ kept_after = ap (λ b. with_moved (if b then cut else gone) q to i) stays in
        let m1 : HasDentries rank kept_table kept_after is_plan.primary = subst (λ z. HasDentries rank kept_table z is_plan.primary) state is_plan.dentries in
        change_exact rank t s is r sent i (change.Replace q to i j) can None None None (lumps_of t kept_plan) is_plan decided (inl (refl, ap (λ (z : PlainState). z.next) state)) (as_before (ap (λ (z : PlainState). z.opens) state))
        kept_plan None kept_said (subst (λ z. IsExactChange rank t s r z kept_table kept_plan None) (sym state) (kept_change is_plan.primary m1))

  -- ---- the other record goes

  module _ (goes : is_kept cut j ≡ false) where
    abbrev gone_after : PlainState
    gone_after = with_moved gone q to i

    abbrev gone_plan : Plan
    gone_plan = record { dentries = three p None to n q; removed = where_dir s j }

    abbrev gone_table : Table
    gone_table = planned t r None None None (lumps_of t gone_plan)

    no_names : (n : List ℕ) → get s.links (j, n) ≡ None
    no_names = no_entries rank t s is.primary m to j replace.target (inr replace.empty)

    q_not_in : q.0 ≡ j → ⊥
    q_not_in e = link_not_in rank t s is.primary m to j replace.target no_names q i replace.link e

    to_not_in : to.0 ≡ j → ⊥
    to_not_in e = link_not_in rank t s is.primary m to j replace.target no_names to j replace.target e

    full_out : (k : ℕ) (x : ℕ × List ℕ) → get is.primary k ≡ Some x → x.0 ≡ j → ⊥
    full_out k x e same = full_not_in rank t s is.primary m to j replace.target no_names k x e same

    p_not_q : p ≡ q → ⊥
    p_not_q e = replace.other (sym (names_one p q j i e (full_names j p it.stands) q_named))

    gone_said : AreSaid t gone_plan None (flat_map lump_writes (lumps_of t gone_plan))
    gone_said = plan_said t gone_plan (λ z o e g.
        let in_it = sym (where_it rank t s is.primary m to j replace.target z.0 g) in
        elim (three_cases p None to n q z o e) [
          | inl w ↦ q_not_in (ap (λ (x : ℕ × List ℕ). x.0) (sym w.0) ∙ in_it)
          | inr u ↦ elim u [
            | inl w ↦ to_not_in (ap (λ (x : ℕ × List ℕ). x.0) (sym w.0) ∙ in_it)
            | inr w ↦ full_out j p it.stands (ap (λ (x : ℕ × List ℕ). x.0) (sym w.0) ∙ in_it)
          ]
        ])

    gone_at_to : naming (get gone_table.dentries to) ≡ n
    gone_at_to = ap naming (planned_at t r None None None (lumps_of t gone_plan) gone_plan None gone_said to n (three_there p None to n q to_not_q)) ∙ naming_written (next_version t to.0) n

    gone_other : (x : ℕ × List ℕ) → (x ≡ q → ⊥) → (x ≡ to → ⊥) → (x ≡ p → ⊥) → get gone_table.dentries x ≡ get t.dentries x
    gone_other x nq nt np = planned_other t r None None None (lumps_of t gone_plan) gone_plan None gone_said x (three_other p None to n q x nq nt np)

    record_other : (k : ℕ) → (k ≡ j → ⊥) → get gone.records k ≡ get s.records k
    record_other k ne = remove_other exact_nat s.records j k (eq_false exact_nat k j ne)

    dir_is : (d : ℕ) → (d ≡ j → ⊥) → is_dir gone d ≡ is_dir s d
    dir_is d ne = dir_gone rank t s is.primary m to j replace.target p it.stands d ne

    planned_none : (d : ℕ) (name : List ℕ) → d ≡ j → get gone_plan.dentries (d, name) ≡ None
    planned_none d name same = three_other p None to n q (d, name) (λ z. q_not_in (ap (λ (x : ℕ × List ℕ). x.0) (sym z) ∙ same)) (λ z. to_not_in (ap (λ (x : ℕ × List ℕ). x.0) (sym z) ∙ same)) (λ z. full_out j p it.stands (ap (λ (x : ℕ × List ℕ). x.0) (sym z) ∙ same))

    module _ (primary : Places) (m1 : HasDentries rank gone_table gone_after primary) where
      gone_change : IsExactChange rank t s r gone_after gone_table gone_plan None
      gone_change = record {
        records = gone_records s gone_after gone_plan j (i_not_root rank t s is.primary m to j replace.target) refl refl;
        empty = λ d which name. elim which [
          | inl e ↦ absurd (none_some d e)
          | inr e ↦
              let same = where_it rank t s is.primary m to j replace.target d e in
              (ap (λ d. get t.dentries (d, name)) (sym same) ∙ no_cells rank t s is.primary m to j replace.target no_names name (dir_of rank t s is.primary m to j replace.target d e), planned_none d name (sym same))
        ];
        stray = λ z v x none e st. elim (cases_eq x.ino j) [
          | inr ne ↦ ap is_some (record_other x.ino ne)
          | inl same ↦
              let at : z ≡ p = some_same z p (sym (m.each_primary j z (or_right (is_dir s z.0) _ (eq-eqb z.0 (stray_ino rank) st)) (ap full_of e ∙ ap Some same)) ∙ it.stands) in
              let not_to : p ≡ to → ⊥ = λ f. far_to (ap (λ (x : ℕ × List ℕ). x.0) (sym f ∙ sym at) ∙ st) in
              absurd (none_some None (sym none ∙ ap (get gone_plan.dentries) at ∙ three_first p None to n q p_not_q not_to))
        ];
        seen = λ z o e. elim (three_cases p None to n q z o e) [
          | inl w ↦ inl (λ st. far_q (ap (λ (x : ℕ × List ℕ). x.0) (sym w.0) ∙ st), ap (λ (x : ℕ × List ℕ). is_dir gone x.0) w.0 ∙ dir_is q.0 q_not_in ∙ parent)
          | inr u ↦ elim u [
            | inl w ↦ inl (λ st. far_to (ap (λ (x : ℕ × List ℕ). x.0) (sym w.0) ∙ st), ap (λ (x : ℕ × List ℕ). is_dir gone x.0) w.0 ∙ dir_is to.0 to_not_in ∙ to_parent)
            | inr w ↦ elim (held_cases rank t s is.primary m p.0 (m.primary_held j p it.stands)) [
              | inl dir ↦ inl (λ st. dir_far rank t s is.primary m p.0 dir (ap (λ (x : ℕ × List ℕ). x.0) (sym w.0) ∙ st), ap (λ (x : ℕ × List ℕ). is_dir gone x.0) w.0 ∙ dir_is p.0 (full_out j p it.stands) ∙ dir)
              | inr st ↦ inr (ap (λ (x : ℕ × List ℕ). x.0) w.0 ∙ st, subst (IsVisible gone_after) (sym w.1) tt)
            ]
          ]
        ];
        differs = λ z o e k. elim (three_cases p None to n q z o e) [
          | inl w ↦ let known = link_known rank t s q i far_q parent q_named in none_some known.0 (sym w.1 ∙ sym k ∙ ap (told rank t s) w.0 ∙ known.1)
          | inr u ↦ elim u [
            | inl w ↦ moved_differs (ap (told rank t s) (sym w.0) ∙ k ∙ w.1)
            | inr w ↦ none_some (Full it.inode) (sym w.1 ∙ sym k ∙ ap (told rank t s) w.0 ∙ told_record rank t s is.primary m j it)
          ]
        ];
        places = λ links opens k a e.
            let kept = recorded_kept rank gone_table gone_after primary m1 k a e in
            let ne : k ≡ j → ⊥ = λ same. none_some a (sym (remove_same exact_nat s.records j) ∙ ap (get gone.records) (sym same) ∙ e) in
            let x = record_primary rank t s is.primary m k a (sym (record_other k ne) ∙ e) in
            let nt : x.0 ≡ to → ⊥ = λ z. ne (names_one x.0 to k j z (full_names k x.0 x.1) to_named) in
            let np : x.0 ≡ p → ⊥ = λ z. ne (names_one x.0 p k j z (full_names k x.0 x.1) (full_names j p it.stands)) in
            elim (cases_key exact_place x.0 q) [
              | inl at ↦
                  let is_i : k ≡ i = names_one x.0 q k i at (full_names k x.0 x.1) q_named in
                  subst (StandsRight rank t r gone_after gone_table) (sym is_i) (moves_it gone_after gone_table links opens refl (ap (λ b. b || (to.0 == stray_ino rank)) (dir_is to.0 to_not_in ∙ to_parent)) gone_at_to x.0 (ap (get is.primary) (sym is_i) ∙ x.1) at)
              | inr far ↦
                  let nq = apart exact_place x.0 q far in
                  unmoved rank t s is r gone_after gone_table links opens k x.0 x.1 kept (ap (λ b. b || (x.0.0 == stray_ino rank)) (dir_is x.0.0 (full_out k x.0 x.1)) ∙ m.primary_held k x.0 x.1)
                  (ap full_of (gone_other x.0 nq nt np) ∙ m.primary_full k x.0 x.1) (link_other x.0 k nq nt)
            ];
      }

    gone_exact : IsPlan rank t s r i (change.Replace q to i j) None None None (lumps_of t gone_plan) → IsExactDelta rank t r (plan_event t s r i gone_plan)
    gone_exact is_plan =
        let state : with_moved (settled cut j) q to i ≡ gone_after = ap (λ b. with_moved (if b then cut else gone) q to i) goes in
        let m1 : HasDentries rank gone_table gone_after is_plan.primary = subst (λ z. HasDentries rank gone_table z is_plan.primary) state is_plan.dentries in
        change_exact rank t s is r sent i (change.Replace q to i j) can None None None (lumps_of t gone_plan) is_plan decided (inl (refl, ap (λ (z : PlainState). z.next) state)) (as_before (ap (λ (z : PlainState). z.opens) state))
        gone_plan None gone_said (subst (λ z. IsExactChange rank t s r z gone_table gone_plan None) (sym state) (gone_change is_plan.primary m1))

  -- ---- either way

  abbrev Exact : Plan → Type 0
  Exact plan = IsPlan rank t s r i (change.Replace q to i j) None None None (lumps_of t plan) → IsExactDelta rank t r (plan_event t s r i plan)

  either : Exact (record { dentries = with_dentry t q to (left_dentries rank s to j p (Some (attributes_of it.inode))); removed = where_dir s j })
  either = elim (is_kept cut j) as (λ b. is_kept cut j ≡ b → Exact (record { dentries = with_dentry t q to (if b then two l (Some (Full y)) to else two p None to); removed = where_dir s j })) [
    | true ↦ λ stays. subst (λ o. Exact (record { dentries = three l (Some (Full y)) to n q; removed = o })) (sym (where_none rank t s is.primary m to j replace.target (kept_no_dir rank t s is.primary m to j replace.target stays))) (kept_exact stays)
    | false ↦ λ goes. gone_exact goes
  ] refl

  replace_bare : i < 2 ^ 64 → IsExactDelta rank t r (plan_event t s r i (replace_plan rank t s q to j p))
  replace_bare fits = subst (λ o. Exact (record { dentries = with_dentry t q to (left_dentries rank s to j p o); removed = where_dir s j })) (sym it.said) either (plan_is rank t s is r i (change.Replace q to i j) (replace_plan rank t s q to j p) fits (replace_does rank t s is q to i j replace))

pub replace_exact : (rank : ℕ) (t : Table) (s : PlainState) (r : ClientRequest) (i k j : ℕ) (q to : ℕ × List ℕ) → IsTreeOf rank t s → IsSent r → decision s r ≡ Accepted i (change.Replace q to k j) → IsExactDelta rank t r (replace_event rank t s r q to i j)
replace_exact rank t s r i k j q to is sent d =
    let found = effect_found s r sent is.dentries.next_fits (Ok (i, change.Replace q to k j)) (meant s r (Accepted i (change.Replace q to k j)) d).done in
    let same : decision s r ≡ Accepted i (change.Replace q to i j) = d ∙ ap (λ k. Accepted i (change.Replace q to k j)) found.0 in
    let replace : CanReplace s q to i j = subst (λ k. CanReplace s q to k j) found.0 found.1 in
    let it = its rank t s is.primary is.dentries to j replace.target in
    subst (λ p. IsExactDelta rank t r (plan_event t s r i (replace_plan rank t s q to j p))) (sym (place_is rank t s is r j it.place it.stands))
    (replace_bare rank t s is r sent q to i j (meant s r (Accepted i (change.Replace q to i j)) same) same replace (its_fits rank t s is.primary is.dentries q i replace.link))
