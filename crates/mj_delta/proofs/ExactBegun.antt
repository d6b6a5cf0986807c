-- The event of a new inode is the exact one.
use Rattle.std.proofs.Common.{◌≡◌, ℕ, ◌+◌, Bool, true, false, cond, ◌||◌, List, [], ◌∷◌, Option, Some, None, Ok, refl, sym, ap, subst, ◌∙◌, inl, inr, arith}
use Rattle.std.specs.Prelude.{◌==◌, is_some, if◌then◌else◌}
use Rattle.std.specs.List.{flat_map}
use Rattle.std.proofs.lemmas.Bool.{false≢true, cases_eq, or_right, eq-eqb}
use Rattle.mj_base.specs.ObjectName.{stray_ino}
use Rattle.mj_base.specs.Record.{same_kind}
use Rattle.mj_base.specs.declared.record.Kind.TheVariants.{Dir}
use Rattle.mj_base.specs.declared.record.InodeRecord.{InodeRecord}
use Rattle.mj_maps.specs.Map.{get}
use Rattle.mj_maps.proofs.MapLaws.{exact_nat, exact_place, none_some, some_same, insert_same, insert_other, cases_key, eq_false}
use Rattle.mj_tree.specs.declared.change.Attributes.{Attributes}
use Rattle.mj_tree.specs.declared.change.Change.TheVariants as change
use Rattle.mj_tree.specs.declared.change.Decision.TheVariants.{Accepted}
use Rattle.mj_tree.specs.declared.request.ClientRequest.{ClientRequest}
use Rattle.mj_tree.specs.State.{PlainState, root, is_dir, is_kind, record_of}
use Rattle.mj_tree.specs.Change.{with_new}
use Rattle.mj_tree.specs.Answer.{decision}
use Rattle.mj_cells.specs.declared.cell.CellKey.TheVariants as key
use Rattle.mj_cells.specs.declared.cell.CellValue.TheVariants as value
use Rattle.mj_cells.specs.declared.cell.CellWrite.{CellWrite}
use Rattle.mj_cells.specs.Table.{Dentry, Table}
use Rattle.mj_meta.specs.declared.DirLump.{DirLump}
use Rattle.mj_event.specs.declared.Event.TheVariants as event
use Rattle.mj_event.specs.Writes.{write, lump_writes}
use Rattle.mj_machine.specs.Delta.{IsExactDelta}
use Rattle.mj_delta.specs.Reads.{names, full_of}
use Rattle.mj_delta.specs.TreeOf.{HasDentries, IsTreeOf}
use Rattle.mj_delta.specs.Fits.{IsSent}
use Rattle.mj_delta.specs.Events.{next_version, update_of, full_lump, empty_lump, begin_event}
use Rattle.mj_delta.specs.Plan.Naming.{Full}
use Rattle.mj_delta.specs.Plan.{Naming, naming}
use Rattle.mj_delta.proofs.Facts.{cases_option, full_named, record_primary, link_range, next_no_primary, next_no_cells, next_no_dir}
use Rattle.mj_delta.proofs.Lists.{Lies}
use Rattle.mj_delta.proofs.NewEntry.{CanBegin, held_stays}
use Rattle.mj_delta.proofs.Decided.{CanChange, meant, effect_found}
use Rattle.mj_delta.proofs.Begun.{begin_plan}
use Rattle.mj_delta.proofs.Updated.{IsPlan, planned}
use Rattle.mj_delta.proofs.Plans.{written}
use Rattle.mj_delta.proofs.Told.{told}
use Rattle.mj_delta.proofs.Exact.{IsSaid, AreSaid}
use Rattle.mj_delta.proofs.Exact.IsSaid.{a_dentry, a_head, a_begun, a_removed}
use Rattle.mj_delta.proofs.ExactUpdates.OpensAre.{as_before}
use Rattle.mj_delta.proofs.ExactParts.{planned_at, planned_other, RecordsAre, told_in_dir, recorded_kept, none_no_dir}
use Rattle.mj_delta.proofs.ExactQuiet.{one_plan, one_at, one_other, one_cases, one_said}
use Rattle.mj_delta.proofs.ExactChange.{StandsRight, IsExactChange, change_exact, dir_far, unmoved}
use Rattle.mj_delta.proofs.Primaries.{begins_at}

module _ (rank : ℕ) (t : Table) (s : PlainState) (is : IsTreeOf rank t s) (r : ClientRequest) (sent : IsSent r) (q : ℕ × List ℕ) (a : Attributes) (can : CanChange s r s.next (change.Begin q a)) (decided : decision s r ≡ Accepted s.next (change.Begin q a)) (begin : CanBegin s q a) where
  abbrev m : HasDentries rank t s is.primary
  m = is.dentries

  abbrev i : ℕ
  i = s.next

  abbrev y : InodeRecord
  y = record_of i 1 a

  abbrev s1 : PlainState
  s1 = with_new s q a

  abbrev n : Option Naming
  n = Some (Full y)

  free_cell : names (get t.dentries q) ≡ None
  free_cell = sym (ap (λ b. cond b (names (get t.dentries q)) None) begin.parent) ∙ sym (m.links q) ∙ begin.free

  not_next : (d : ℕ) → is_dir s d ≡ true → d ≡ i → ⊥
  not_next d dir e = false≢true (sym (next_no_dir rank t s is.primary m) ∙ ap (is_dir s) (sym e) ∙ dir)

  no_record : get s.records i ≡ None
  no_record = elim (cases_option (get s.records i)) [
    | inl none ↦ none
    | inr w ↦ let p = record_primary rank t s is.primary m i w.0 w.1 in absurd (none_some p.0 (sym (next_no_primary rank t s is.primary m) ∙ p.1))
  ]

  here : get s1.records i ≡ Some a
  here = insert_same exact_nat s.records i a

  other : (j : ℕ) → (j ≡ i → ⊥) → get s1.records j ≡ get s.records j
  other j ne = insert_other exact_nat s.records i a j (eq_false exact_nat j i ne)

  abbrev begun_by : Bool → Option ℕ
  begun_by b = if b then Some i else None

  begin_records : (b : Bool) → same_kind a.kind Dir ≡ b → RecordsAre s s1 (one_plan q n) (begun_by b)
  begin_records b kind = record {
    dirs = λ d stays _. elim (cases_eq d i) [
      | inr ne ↦ ap (is_kind Dir) (other d ne)
      | inl same ↦ ap (λ d. is_kind Dir (get s1.records d)) same ∙ ap (is_kind Dir) here ∙ kind ∙ no_begin b d same stays ∙ sym (ap (λ d. is_kind Dir (get s.records d)) same ∙ ap (is_kind Dir) no_record)
    ];
    made = λ d e h. elim (cases_eq d i) [
      | inr ne ↦ absurd (none_no_dir (get s.records d) e (ap (is_kind Dir) (sym (other d ne)) ∙ h))
      | inl same ↦ ap begun_by (sym kind ∙ sym (ap (λ d. is_kind Dir (get s1.records d)) same ∙ ap (is_kind Dir) here) ∙ h) ∙ ap Some (sym same)
    ];
    begins = λ d e. let w = begun_is b d e in (ap (get s.records) (sym w.0) ∙ no_record, ap (λ d. is_kind Dir (get s1.records d)) (sym w.0) ∙ ap (is_kind Dir) here ∙ kind ∙ w.1);
    removed = λ d e h. elim (cases_eq d i) [
      | inr ne ↦ absurd (none_no_dir (get s.records d) (sym (other d ne) ∙ e) h)
      | inl same ↦ absurd (none_some a (sym e ∙ ap (get s1.records) same ∙ here))
    ];
    goes = λ d e. absurd (none_some d e);
  }
    where
      no_begin : (b : Bool) (d : ℕ) → d ≡ i → (begun_by b ≡ Some d → ⊥) → b ≡ false
      no_begin true d same stays = absurd (stays (ap Some (sym same)))
      no_begin false d same stays = refl

      begun_is : (b : Bool) (d : ℕ) → begun_by b ≡ Some d → (i ≡ d) × (b ≡ true)
      begun_is true d e = (some_same i d e, refl)
      begun_is false d e = absurd (none_some d e)

  begun_next : (b : Bool) (d : ℕ) → begun_by b ≡ Some d → d ≡ i
  begun_next true d e = sym (some_same i d e)
  begun_next false d e = absurd (none_some d e)

  none_known : told rank t s q ≡ None
  none_known = told_in_dir rank s s q (dir_far rank t s is.primary m q.0 begin.parent) begin.parent (get t.dentries q) ∙ none_naming (get t.dentries q) free_cell
    where
      none_naming : (o : Option Dentry) → names o ≡ None → naming o ≡ None
      none_naming None e = refl
      none_naming (Some d) e = absurd (none_some _ (sym e))

  dir_stays : (d : ℕ) → is_dir s d ≡ true → is_dir s1 d ≡ true
  dir_stays d h = ap (λ b. (d == root) || b) (ap (is_kind Dir) (other d (not_next d h))) ∙ h

  module _ (b : Bool) (kind : same_kind a.kind Dir ≡ b) (lumps : List DirLump) (said : AreSaid t (one_plan q n) (begun_by b) (flat_map lump_writes lumps)) (plan_is : IsPlan rank t s r i (change.Begin q a) (Some (i + 1)) None None lumps) where
    abbrev t1 : Table
    t1 = planned t r (Some (i + 1)) None None lumps

    one_link : (x : ℕ × List ℕ) → get s1.links x ≡ Some i → x ≡ q
    one_link x e = elim (cases_key exact_place x q) [
      | inl same ↦ same
      | inr ne ↦ let range = link_range rank t s is.primary m x i (sym (insert_other exact_place s.links q i x ne) ∙ e) in absurd (omega (arith, range.1))
    ]

    full_at_q : full_of (get t1.dentries q) ≡ Some i
    full_at_q = ap full_of (planned_at t r (Some (i + 1)) None None lumps (one_plan q n) (begun_by b) said q n (one_at q n))

    change_is : IsExactChange rank t s r s1 t1 (one_plan q n) (begun_by b)
    change_is = record {
      records = begin_records b kind;
      empty = λ d which name. elim which [
        | inr e ↦ absurd (none_some d e)
        | inl e ↦
            let new = begun_next b d e in
            (next_no_cells rank t s is.primary m (d, name) new, one_other q n (d, name) (λ z. not_next q.0 begin.parent (ap (λ (x : ℕ × List ℕ). x.0) (sym z) ∙ new)))
      ];
      stray = λ z v x none e st.
          let p = m.each_primary x.ino z (or_right (is_dir s z.0) _ (eq-eqb z.0 (stray_ino rank) st)) (ap full_of e) in
          ap is_some (other x.ino (λ same. none_some z (sym (next_no_primary rank t s is.primary m) ∙ ap (get is.primary) (sym same) ∙ p)));
      seen = λ z o e. let w = one_cases q n z o e in inl (λ st. dir_far rank t s is.primary m q.0 begin.parent (ap (λ (x : ℕ × List ℕ). x.0) (sym w.0) ∙ st), ap (λ (x : ℕ × List ℕ). is_dir s1 x.0) w.0 ∙ dir_stays q.0 begin.parent);
      differs = λ z o e k. let w = one_cases q n z o e in none_some (Full y) (sym none_known ∙ ap (told rank t s) (sym w.0) ∙ k ∙ w.1);
      places = λ links opens j x e. elim (cases_eq j i) [
        | inl same ↦ subst (StandsRight rank t r s1 t1) (sym same) (record {
          place = q;
          wanted = begins_at rank t s is r s1 links opens i q (next_no_primary rank t s is.primary m) (insert_same exact_place s.links q i) one_link;
          held = ap (λ b. b || (q.0 == stray_ino rank)) (dir_stays q.0 begin.parent);
          full = full_at_q;
        })
        | inr ne ↦
            let was : get s.records j ≡ Some x = sym (other j ne) ∙ e in
            let p = record_primary rank t s is.primary m j x was in
            let not_q : p.0 ≡ q → ⊥ = λ z. none_some j (sym free_cell ∙ ap (λ q. names (get t.dentries q)) (sym z) ∙ full_named _ j (m.primary_full j p.0 p.1)) in
            let full : full_of (get t1.dentries p.0) ≡ Some j = ap full_of (planned_other t r (Some (i + 1)) None None lumps (one_plan q n) (begun_by b) said p.0 (one_other q n p.0 not_q)) ∙ m.primary_full j p.0 p.1 in
            unmoved rank t s is r s1 t1 links opens j p.0 p.1 (recorded_kept rank t1 s1 plan_is.primary plan_is.dentries j x e) (held_stays rank t s is.primary m q a (next_version t q.0) t.heads begin p.0.0 (m.primary_held j p.0 p.1)) full
            (λ l. insert_other exact_place s.links q i p.0 (eq_false exact_place p.0 q not_q) ∙ l)
      ];
    }

    begun_exact : IsExactDelta rank t r (event.Update (update_of s r i (Some (i + 1)) None None lumps))
    begun_exact = change_exact rank t s is r sent i (change.Begin q a) can (Some (i + 1)) None None lumps plan_is decided (inr (refl, λ e. omega (arith, e))) (as_before refl) (one_plan q n) (begun_by b) said change_is

  -- a new directory has a head of its own
  dir_said : AreSaid t (one_plan q n) (Some i) (flat_map lump_writes (full_lump q.0 (next_version t q.0) q.1 y ∷ empty_lump i ∷ []))
  dir_said = record { each = each; all = all }
    where
      each : (w : CellWrite) → Lies w (flat_map lump_writes (full_lump q.0 (next_version t q.0) q.1 y ∷ empty_lump i ∷ [])) → IsSaid t (one_plan q n) (Some i) w
      each w (inl e) = subst (IsSaid t (one_plan q n) (Some i)) e (a_head q n (one_at q n))
      each w (inr (inl e)) = subst (IsSaid t (one_plan q n) (Some i)) e (a_dentry q n (one_at q n))
      each w (inr (inr (inl e))) = subst (IsSaid t (one_plan q n) (Some i)) e (a_begun i refl)
      each w (inr (inr (inr l))) = absurd l

      all : (w : CellWrite) → IsSaid t (one_plan q n) (Some i) w → Lies w (flat_map lump_writes (full_lump q.0 (next_version t q.0) q.1 y ∷ empty_lump i ∷ []))
      all _ (a_dentry z o e) = let w = one_cases q n z o e in inr (inl (λ k. write (key.Dentry (sym w.0 k).0 (sym w.0 k).1) (written (next_version t (sym w.0 k).0) (sym w.1 k))))
      all _ (a_head z o e) = let w = one_cases q n z o e in inl (λ k. write (key.DirHead (sym w.0 k).0) (value.Number (next_version t (sym w.0 k).0)))
      all _ (a_begun d e) = inr (inr (inl (ap (λ d. write (key.DirHead d) (value.Number 1)) (some_same i d e))))
      all _ (a_removed d e) = absurd (none_some d e)

  begin_bare : IsExactDelta rank t r (begin_event t s r q a)
  begin_bare = elim (same_kind a.kind Dir) as (λ b. same_kind a.kind Dir ≡ b → IsPlan rank t s r i (change.Begin q a) (Some (i + 1)) None None (full_lump q.0 (next_version t q.0) q.1 y ∷ (if b then empty_lump i ∷ [] else []))
      → IsExactDelta rank t r (event.Update (update_of s r i (Some (i + 1)) None None (full_lump q.0 (next_version t q.0) q.1 y ∷ (if b then empty_lump i ∷ [] else []))))) [
        | true ↦ λ kind plan. begun_exact true kind (full_lump q.0 (next_version t q.0) q.1 y ∷ empty_lump i ∷ []) dir_said plan
        | false ↦ λ kind plan. begun_exact false kind (full_lump q.0 (next_version t q.0) q.1 y ∷ []) (one_said t q n) plan
      ] refl (begin_plan rank t s is q a begin r)

pub begin_exact : (rank : ℕ) (t : Table) (s : PlainState) (r : ClientRequest) (i : ℕ) (q : ℕ × List ℕ) (a : Attributes) → IsTreeOf rank t s → IsSent r → decision s r ≡ Accepted i (change.Begin q a) → IsExactDelta rank t r (begin_event t s r q a)
begin_exact rank t s r i q a is sent d =
    let found = effect_found s r sent is.dentries.next_fits (Ok (i, change.Begin q a)) (meant s r (Accepted i (change.Begin q a)) d).done in
    let same : decision s r ≡ Accepted s.next (change.Begin q a) = d ∙ ap (λ k. Accepted k (change.Begin q a)) found.0 in
    begin_bare rank t s is r sent q a (meant s r (Accepted s.next (change.Begin q a)) same) same found.1
