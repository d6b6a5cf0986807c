-- The event of a link that ends is the exact one.
use Rattle.std.proofs.Common.{◌≡◌, ℕ, ◌^◌, ◌<◌, true, false, ◌||◌, List, Some, None, Ok, refl, sym, ap, subst, ◌∙◌, inl, inr}
use Rattle.std.specs.Prelude.{◌==◌, is_some, if◌then◌else◌}
use Rattle.std.specs.List.{flat_map}
use Rattle.std.proofs.lemmas.Bool.{cases_eq, eq-eqb, or_right}
use Rattle.mj_base.specs.ObjectName.{stray_ino}
use Rattle.mj_base.specs.declared.record.InodeRecord.{InodeRecord}
use Rattle.mj_maps.specs.Map.{get, remove}
use Rattle.mj_maps.proofs.MapLaws.{exact_nat, exact_place, none_some, some_same, remove_same, remove_other, eq_false}
use Rattle.mj_tree.specs.declared.change.Change.TheVariants as change
use Rattle.mj_tree.specs.declared.change.Decision.TheVariants.{Accepted}
use Rattle.mj_tree.specs.declared.request.ClientRequest.{ClientRequest}
use Rattle.mj_tree.specs.State.{PlainState, is_dir, is_kept, attributes_of}
use Rattle.mj_tree.specs.Change.{settled}
use Rattle.mj_tree.specs.Answer.{decision, after}
use Rattle.mj_cells.specs.Table.{Table}
use Rattle.mj_cells.specs.Table.Dentry.{Full as FullAt}
use Rattle.mj_event.specs.Writes.{lump_writes}
use Rattle.mj_recovery.specs.Tree.{tree_of}
use Rattle.mj_machine.specs.Delta.{IsExactDelta, new_place}
use Rattle.mj_delta.specs.Reads.{names, full_of}
use Rattle.mj_delta.specs.TreeOf.{HasDentries, IsTreeOf}
use Rattle.mj_delta.specs.Fits.{IsSent}
use Rattle.mj_delta.specs.Events.{next_version}
use Rattle.mj_delta.specs.Plan.Naming.{Full}
use Rattle.mj_delta.specs.Plan.{Plan, lumps_of, left_dentries, where_dir, unlink_plan, plan_event, unlink_event}
use Rattle.mj_delta.proofs.Facts.{full_named, record_primary, link_parent, held_cases}
use Rattle.mj_delta.proofs.Decided.{CanChange, CanUnlink, meant, effect_found}
use Rattle.mj_delta.proofs.Held.{HasRecord}
use Rattle.mj_delta.proofs.Placed.{place_is}
use Rattle.mj_delta.proofs.Updated.{IsPlan, planned}
use Rattle.mj_delta.proofs.Planned.{plan_is}
use Rattle.mj_delta.proofs.Laid.{two, two_there, two_other, two_cases}
use Rattle.mj_delta.proofs.Ending.{IsLeft, kept_cut_other}
use Rattle.mj_delta.proofs.Vanishing.{dir_gone}
use Rattle.mj_delta.proofs.Unlinked.{its, less, left, lessened, kept_no_dir, no_entries, i_not_root, its_fits, is_left, where_none, where_it, unlink_does}
use Rattle.mj_delta.proofs.Told.{told}
use Rattle.mj_delta.proofs.Operations.{op_suits, no_new_place}
use Rattle.mj_delta.proofs.Exact.{AreSaid}
use Rattle.mj_delta.proofs.ExactUpdates.OpensAre.{as_before}
use Rattle.mj_delta.proofs.ExactParts.{plan_said, planned_at, planned_other, IsVisible, quiet_records, gone_records, recorded_kept}
use Rattle.mj_delta.proofs.ExactChange.{StandsRight, IsExactChange, change_exact, dir_far, told_record, unmoved}
use Rattle.mj_delta.proofs.ExactLeft.{link_known, left_differs, link_not_in, full_not_in, no_cells, dir_of, left_wanted}

module _ (rank : ℕ) (t : Table) (s : PlainState) (is : IsTreeOf rank t s) (r : ClientRequest) (sent : IsSent r) (q : ℕ × List ℕ) (i : ℕ) (can : CanChange s r i (change.Unlink q i)) (decided : decision s r ≡ Accepted i (change.Unlink q i)) (unlink : CanUnlink s q i) where
  abbrev m : HasDentries rank t s is.primary
  m = is.dentries

  abbrev it : HasRecord t s is.primary i
  it = its rank t s is.primary m q i unlink.link

  abbrev p : ℕ × List ℕ
  p = it.place

  abbrev cut : PlainState
  cut = less rank t s is.primary m q i unlink.link

  abbrev gone : PlainState
  gone = record s { records = remove s.records i; links = remove s.links q }

  abbrev y : InodeRecord
  y = lessened rank t s is.primary m q i unlink.link

  abbrev l : ℕ × List ℕ
  l = left rank t s is.primary m q i unlink.link

  fits : i < 2 ^ 64
  fits = its_fits rank t s is.primary m q i unlink.link

  parent : is_dir s q.0 ≡ true
  parent = (link_parent rank t s is.primary m q i unlink.link).0

  q_named : names (get t.dentries q) ≡ Some i
  q_named = (link_parent rank t s is.primary m q i unlink.link).1

  no_place : new_place rank t r r.op ≡ None
  no_place = no_new_place rank t r r.op (op_suits s r (Ok (i, change.Unlink q i)) can.done)

  link_other : (x : ℕ × List ℕ) (j : ℕ) → (x ≡ q → ⊥) → get s.links x ≡ Some j → get (remove s.links q) x ≡ Some j
  link_other x j ne e = remove_other exact_place s.links q x (eq_false exact_place x q ne) ∙ e

  -- another inode's full dentry stands elsewhere
  not_q : (j : ℕ) (x : ℕ × List ℕ) → (j ≡ i → ⊥) → get is.primary j ≡ Some x → x ≡ q → ⊥
  not_q j x ne e same = ne (some_same j i (sym (full_named _ j (m.primary_full j x e)) ∙ ap (λ x. names (get t.dentries x)) same ∙ q_named))

  not_p : (j : ℕ) (x : ℕ × List ℕ) → (j ≡ i → ⊥) → get is.primary j ≡ Some x → x ≡ p → ⊥
  not_p j x ne e same = ne (some_same j i (sym (m.primary_full j x e) ∙ ap (λ x. full_of (get t.dentries x)) same ∙ m.primary_full i p it.stands))

  -- ---- the record stays

  module _ (stays : is_kept cut i ≡ true) where
    abbrev kept_plan : Plan
    kept_plan = record { dentries = two l (Some (Full y)) q; removed = None }

    abbrev kept_table : Table
    kept_table = planned t r None None None (lumps_of t kept_plan)

    place_left : IsLeft rank t s q i p l
    place_left = is_left rank t s is.primary m q i unlink.link

    kept_said : AreSaid t kept_plan None (flat_map lump_writes (lumps_of t kept_plan))
    kept_said = plan_said t kept_plan (λ z n e g. none_some z.0 g)

    at_l : get kept_table.dentries l ≡ Some (FullAt (next_version t l.0) y)
    at_l = planned_at t r None None None (lumps_of t kept_plan) kept_plan None kept_said l (Some (Full y)) (two_there l (Some (Full y)) q place_left.not_q)

    at_other : (x : ℕ × List ℕ) → (x ≡ q → ⊥) → (x ≡ l → ⊥) → get kept_table.dentries x ≡ get t.dentries x
    at_other x nq nl = planned_other t r None None None (lumps_of t kept_plan) kept_plan None kept_said x (two_other l (Some (Full y)) q x nq nl)

    left_stands : (after (tree_of rank t) r).links ≡ cut.links → (after (tree_of rank t) r).opens ≡ cut.opens → StandsRight rank t r cut kept_table i
    left_stands links opens = record {
      place = l;
      wanted = left_wanted rank t s is r cut links opens q i unlink.link (λ k. none_some i (sym (remove_same exact_place s.links q) ∙ k)) (λ x ne e. link_other x i ne e) None no_place (λ x f _. none_some x f) stays;
      held = place_left.held;
      full = ap full_of at_l;
    }

    kept_change : IsExactChange rank t s r cut kept_table kept_plan None
    kept_change = record {
      records = quiet_records s cut kept_plan refl (record { there = λ j. refl; dirs = λ d. refl });
      empty = λ d which n. elim which [ inl e ↦ absurd (none_some d e) | inr e ↦ absurd (none_some d e) ];
      stray = λ z v x none e st. refl;
      seen = λ z n e. elim (two_cases l (Some (Full y)) q z n e) [
        | inl w ↦ inl (λ st. dir_far rank t s is.primary m q.0 parent (ap (λ (x : ℕ × List ℕ). x.0) (sym w.0) ∙ st), ap (λ (x : ℕ × List ℕ). is_dir s x.0) w.0 ∙ parent)
        | inr w ↦ elim (held_cases rank t s is.primary m l.0 place_left.held) [
          | inl dir ↦ inl (λ st. dir_far rank t s is.primary m l.0 dir (ap (λ (x : ℕ × List ℕ). x.0) (sym w.0) ∙ st), ap (λ (x : ℕ × List ℕ). is_dir s x.0) w.0 ∙ dir)
          | inr st ↦ inr (ap (λ (x : ℕ × List ℕ). x.0) w.0 ∙ st, subst (IsVisible cut) (sym w.1) (ap is_some it.said))
        ]
      ];
      differs = λ z n e k. elim (two_cases l (Some (Full y)) q z n e) [
        | inl w ↦ let known = link_known rank t s q i (dir_far rank t s is.primary m q.0 parent) parent q_named in none_some known.0 (sym w.1 ∙ sym k ∙ ap (told rank t s) w.0 ∙ known.1)
        | inr w ↦ left_differs rank t s is.primary m q i unlink.link (ap (told rank t s) (sym w.0) ∙ k ∙ w.1)
      ];
      places = λ links opens j a e. elim (cases_eq j i) [
        | inl same ↦ subst (StandsRight rank t r cut kept_table) (sym same) (left_stands links opens)
        | inr ne ↦
            let x = record_primary rank t s is.primary m j a e in
            let nq = not_q j x.0 ne x.1 in
            let nl : x.0 ≡ l → ⊥ = λ z. ne (place_left.own j (ap (λ x. full_of (get t.dentries x)) (sym z) ∙ m.primary_full j x.0 x.1)) in
            unmoved rank t s is r cut kept_table links opens j x.0 x.1 (kept_cut_other rank t s is.primary m q i unlink.link p it.stands j ne ∙ recorded_kept rank t s is.primary m j a e) (m.primary_held j x.0 x.1)
            (ap full_of (at_other x.0 nq nl) ∙ m.primary_full j x.0 x.1) (link_other x.0 j nq)
      ];
    }

    kept_exact : IsPlan rank t s r i (change.Unlink q i) None None None (lumps_of t kept_plan) → IsExactDelta rank t r (plan_event t s r i kept_plan)
    kept_exact is_plan =
        let state : settled cut i ≡ cut = ap (λ b. if b then cut else gone) stays in
        change_exact rank t s is r sent i (change.Unlink q i) can None None None (lumps_of t kept_plan) is_plan decided (inl (refl, ap (λ (z : PlainState). z.next) state)) (as_before (ap (λ (z : PlainState). z.opens) state))
        kept_plan None kept_said (subst (λ z. IsExactChange rank t s r z kept_table kept_plan None) (sym state) kept_change)

  -- ---- the record goes

  module _ (goes : is_kept cut i ≡ false) where
    abbrev gone_plan : Plan
    gone_plan = record { dentries = two p None q; removed = where_dir s i }

    abbrev gone_table : Table
    gone_table = planned t r None None None (lumps_of t gone_plan)

    no_names : (n : List ℕ) → get s.links (i, n) ≡ None
    no_names = no_entries rank t s is.primary m q i unlink.link unlink.empty

    -- nothing stands in the inode that goes
    q_not_in : q.0 ≡ i → ⊥
    q_not_in e = link_not_in rank t s is.primary m q i unlink.link no_names q i unlink.link e

    full_out : (j : ℕ) (x : ℕ × List ℕ) → get is.primary j ≡ Some x → x.0 ≡ i → ⊥
    full_out j x e same = full_not_in rank t s is.primary m q i unlink.link no_names j x e same

    gone_said : AreSaid t gone_plan None (flat_map lump_writes (lumps_of t gone_plan))
    gone_said = plan_said t gone_plan (λ z n e g.
        let in_it = sym (where_it rank t s is.primary m q i unlink.link z.0 g) in
        elim (two_cases p None q z n e) [
          | inl w ↦ q_not_in (ap (λ (x : ℕ × List ℕ). x.0) (sym w.0) ∙ in_it)
          | inr w ↦ full_out i p it.stands (ap (λ (x : ℕ × List ℕ). x.0) (sym w.0) ∙ in_it)
        ])

    gone_other : (x : ℕ × List ℕ) → (x ≡ q → ⊥) → (x ≡ p → ⊥) → get gone_table.dentries x ≡ get t.dentries x
    gone_other x nq np = planned_other t r None None None (lumps_of t gone_plan) gone_plan None gone_said x (two_other p None q x nq np)

    record_other : (j : ℕ) → (j ≡ i → ⊥) → get gone.records j ≡ get s.records j
    record_other j ne = remove_other exact_nat s.records i j (eq_false exact_nat j i ne)

    dir_is : (d : ℕ) → (d ≡ i → ⊥) → is_dir gone d ≡ is_dir s d
    dir_is d ne = dir_gone rank t s is.primary m q i unlink.link p it.stands d ne

    planned_none : (d : ℕ) (n : List ℕ) → d ≡ i → get (two p None q) (d, n) ≡ None
    planned_none d n same = two_other p None q (d, n) (λ z. q_not_in (ap (λ (x : ℕ × List ℕ). x.0) (sym z) ∙ same)) (λ z. full_out i p it.stands (ap (λ (x : ℕ × List ℕ). x.0) (sym z) ∙ same))

    gone_change : IsExactChange rank t s r gone gone_table gone_plan None
    gone_change = record {
      records = gone_records s gone gone_plan i (i_not_root rank t s is.primary m q i unlink.link) refl refl;
      empty = λ d which n. elim which [
        | inl e ↦ absurd (none_some d e)
        | inr e ↦
            let same = where_it rank t s is.primary m q i unlink.link d e in
            (ap (λ d. get t.dentries (d, n)) (sym same) ∙ no_cells rank t s is.primary m q i unlink.link no_names n (dir_of rank t s is.primary m q i unlink.link d e), planned_none d n (sym same))
      ];
      stray = λ z v x none e st. elim (cases_eq x.ino i) [
        | inr ne ↦ ap is_some (record_other x.ino ne)
        | inl same ↦
            let at : z ≡ p = some_same z p (sym (m.each_primary i z (or_right (is_dir s z.0) _ (eq-eqb z.0 (stray_ino rank) st)) (ap full_of e ∙ ap Some same)) ∙ it.stands) in
            let not_at_q : p ≡ q → ⊥ = λ f. dir_far rank t s is.primary m q.0 parent (ap (λ (x : ℕ × List ℕ). x.0) (sym f ∙ sym at) ∙ st) in
            absurd (none_some None (sym none ∙ ap (get gone_plan.dentries) at ∙ two_there p None q not_at_q))
      ];
      seen = λ z n e. elim (two_cases p None q z n e) [
        | inl w ↦ inl (λ st. dir_far rank t s is.primary m q.0 parent (ap (λ (x : ℕ × List ℕ). x.0) (sym w.0) ∙ st), ap (λ (x : ℕ × List ℕ). is_dir gone x.0) w.0 ∙ dir_is q.0 q_not_in ∙ parent)
        | inr w ↦ elim (held_cases rank t s is.primary m p.0 (m.primary_held i p it.stands)) [
          | inl dir ↦ inl (λ st. dir_far rank t s is.primary m p.0 dir (ap (λ (x : ℕ × List ℕ). x.0) (sym w.0) ∙ st), ap (λ (x : ℕ × List ℕ). is_dir gone x.0) w.0 ∙ dir_is p.0 (full_out i p it.stands) ∙ dir)
          | inr st ↦ inr (ap (λ (x : ℕ × List ℕ). x.0) w.0 ∙ st, subst (IsVisible gone) (sym w.1) tt)
        ]
      ];
      differs = λ z n e k. elim (two_cases p None q z n e) [
        | inl w ↦ let known = link_known rank t s q i (dir_far rank t s is.primary m q.0 parent) parent q_named in none_some known.0 (sym w.1 ∙ sym k ∙ ap (told rank t s) w.0 ∙ known.1)
        | inr w ↦ none_some (Full it.inode) (sym w.1 ∙ sym k ∙ ap (told rank t s) w.0 ∙ told_record rank t s is.primary m i it)
      ];
      places = λ links opens j a e.
          let ne : j ≡ i → ⊥ = λ same. none_some a (sym (remove_same exact_nat s.records i) ∙ ap (get gone.records) (sym same) ∙ e) in
          let was : get s.records j ≡ Some a = sym (record_other j ne) ∙ e in
          let x = record_primary rank t s is.primary m j a was in
          let nq = not_q j x.0 ne x.1 in
          unmoved rank t s is r gone gone_table links opens j x.0 x.1 (kept_cut_other rank t s is.primary m q i unlink.link p it.stands j ne ∙ recorded_kept rank t s is.primary m j a was)
          (ap (λ b. b || (x.0.0 == stray_ino rank)) (dir_is x.0.0 (full_out j x.0 x.1)) ∙ m.primary_held j x.0 x.1)
          (ap full_of (gone_other x.0 nq (not_p j x.0 ne x.1)) ∙ m.primary_full j x.0 x.1) (link_other x.0 j nq);
    }

    gone_exact : IsPlan rank t s r i (change.Unlink q i) None None None (lumps_of t gone_plan) → IsExactDelta rank t r (plan_event t s r i gone_plan)
    gone_exact is_plan =
        let state : settled cut i ≡ gone = ap (λ b. if b then cut else gone) goes in
        change_exact rank t s is r sent i (change.Unlink q i) can None None None (lumps_of t gone_plan) is_plan decided (inl (refl, ap (λ (z : PlainState). z.next) state)) (as_before (ap (λ (z : PlainState). z.opens) state))
        gone_plan None gone_said (subst (λ z. IsExactChange rank t s r z gone_table gone_plan None) (sym state) gone_change)

  -- ---- either way

  abbrev Exact : Plan → Type 0
  Exact plan = IsPlan rank t s r i (change.Unlink q i) None None None (lumps_of t plan) → IsExactDelta rank t r (plan_event t s r i plan)

  either : Exact (record { dentries = left_dentries rank s q i p (Some (attributes_of it.inode)); removed = where_dir s i })
  either = elim (is_kept cut i) as (λ b. is_kept cut i ≡ b → Exact (record { dentries = if b then two l (Some (Full y)) q else two p None q; removed = where_dir s i })) [
    | true ↦ λ stays. subst (λ o. Exact (record { dentries = two l (Some (Full y)) q; removed = o })) (sym (where_none rank t s is.primary m q i unlink.link (kept_no_dir rank t s is.primary m q i unlink.link stays))) (kept_exact stays)
    | false ↦ λ goes. gone_exact goes
  ] refl

  unlink_bare : IsExactDelta rank t r (plan_event t s r i (unlink_plan rank s q i p))
  unlink_bare = subst (λ o. Exact (record { dentries = left_dentries rank s q i p o; removed = where_dir s i })) (sym it.said) either (plan_is rank t s is r i (change.Unlink q i) (unlink_plan rank s q i p) fits (unlink_does rank t s is q i unlink))

pub unlink_exact : (rank : ℕ) (t : Table) (s : PlainState) (r : ClientRequest) (i j : ℕ) (q : ℕ × List ℕ) → IsTreeOf rank t s → IsSent r → decision s r ≡ Accepted i (change.Unlink q j) → IsExactDelta rank t r (unlink_event rank t s r q i)
unlink_exact rank t s r i j q is sent d =
    let found = effect_found s r sent is.dentries.next_fits (Ok (i, change.Unlink q j)) (meant s r (Accepted i (change.Unlink q j)) d).done in
    let same : decision s r ≡ Accepted i (change.Unlink q i) = d ∙ ap (λ k. Accepted i (change.Unlink q k)) found.0 in
    let unlink : CanUnlink s q i = subst (λ k. CanUnlink s q k) found.0 found.1 in
    let it = its rank t s is.primary is.dentries q i unlink.link in
    subst (λ p. IsExactDelta rank t r (plan_event t s r i (unlink_plan rank s q i p))) (sym (place_is rank t s is r i it.place it.stands))
    (unlink_bare rank t s is r sent q i (meant s r (Accepted i (change.Unlink q i)) same) same unlink)
