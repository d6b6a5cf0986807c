-- When a plan is exact: by what becomes of records, and by each dentry that it has.
use Rattle.std.proofs.Common.{◌≡◌, ℕ, true, false, ◌||◌, List, Option, Some, None, refl, sym, ap, subst, ◌∙◌, ◌⊎◌, inl, inr}
use Rattle.std.specs.Prelude.{◌==◌, is_some, if◌then◌else◌}
use Rattle.std.specs.List.{flat_map}
use Rattle.std.proofs.lemmas.Bool.{false≢true, cases_eq, eqb-true, eq-eqb, ne_eqb, or_right, or_cases, false_from_ne_true}
use Rattle.mj_base.specs.ObjectName.{stray_ino}
use Rattle.mj_base.specs.declared.record.Kind.TheVariants.{Dir}
use Rattle.mj_base.specs.declared.record.InodeRecord.{InodeRecord}
use Rattle.mj_maps.specs.Map.{Map, get, remove}
use Rattle.mj_maps.specs.Orders.{nat_cmp, place_cmp}
use Rattle.mj_maps.proofs.MapLaws.{exact_nat, none_some, some_same, remove_same, remove_other, eq_true, eq_false, eq_same}
use Rattle.mj_tree.specs.declared.change.Attributes.{Attributes}
use Rattle.mj_tree.specs.declared.request.ClientRequest.{ClientRequest}
use Rattle.mj_tree.specs.State.{PlainState, root, is_dir, is_kind, is_kept}
use Rattle.mj_cells.specs.declared.cell.CellKey.TheVariants as key
use Rattle.mj_cells.specs.declared.cell.CellValue.TheVariants as value
use Rattle.mj_cells.specs.declared.cell.CellWrite.{CellWrite}
use Rattle.mj_cells.specs.Cell.{same_key}
use Rattle.mj_cells.specs.Table.{Dentry, Table, dentry_of, dentry_value, value_of, shown, overlay}
use Rattle.mj_cells.specs.Table.Dentry.{Full as FullAt, Remote as RemoteAt}
use Rattle.mj_cells.proofs.Keys.{exact_key}
use Rattle.mj_cells.proofs.Tables.{value_of-overlay}
use Rattle.mj_meta.specs.declared.DirLump.{DirLump}
use Rattle.mj_meta.specs.declared.HeadBit.TheVariants as head
use Rattle.mj_event.specs.Writes.{write, head_value, lump_writes}
use Rattle.mj_delta.specs.Reads.{Places, full_of, said_by, cell_of, is_held}
use Rattle.mj_delta.specs.TreeOf.{HasDentries}
use Rattle.mj_delta.specs.Events.{next_version}
use Rattle.mj_delta.specs.Plan.Naming.{Full, Remote}
use Rattle.mj_delta.specs.Plan.{Naming, naming, Plan, lumps_of, where_dir}
use Rattle.mj_delta.proofs.Facts.{cond_is}
use Rattle.mj_delta.proofs.Lists.{Lies}
use Rattle.mj_delta.proofs.Updated.{planned, next_part, opened_part, released_part}
use Rattle.mj_delta.proofs.Renamed.{naming_written}
use Rattle.mj_delta.proofs.Plans.{written, IsPlanned, head_is, head_touched, head_removed, in_plan, head_in, dentry_in, last_same, last_found, back_dentry}
use Rattle.mj_delta.proofs.Plans.IsPlanned.{a_head as planned_head, a_dentry as planned_dentry}
use Rattle.mj_delta.proofs.Told.{told_of, told}
use Rattle.mj_delta.proofs.Exact.{IsSaid, AreSaid, IsExactPlan}
use Rattle.mj_delta.proofs.Exact.IsSaid.{a_dentry, a_head, a_begun, a_removed}

other_key : (q : ℕ × List ℕ) (d : ℕ) → key.Dentry q.0 q.1 ≡ key.DirHead d → ⊥
other_key q d e = absurd cc

-- ---- the lumps of a plan write just what it says

module _ (t : Table) (plan : Plan) (apart : (q : ℕ × List ℕ) (n : Option Naming) → get plan.dentries q ≡ Some n → plan.removed ≡ Some q.0 → ⊥) where
  plan_each : (w : CellWrite) → IsPlanned t plan w → IsSaid t plan None w
  plan_each _ (planned_dentry q n e) = a_dentry q n e
  plan_each _ (planned_head d h e) = elim (head_is t plan d h e) [
    | inl w ↦ subst (λ h. IsSaid t plan None (write (key.DirHead d) (head_value h))) (sym w.1) (a_removed d w.0)
    | inr x ↦ subst (λ h. IsSaid t plan None (write (key.DirHead d) (head_value h))) (sym x.3) (subst (λ d. IsSaid t plan None (write (key.DirHead d) (value.Number (next_version t d)))) x.2 (a_head x.0.0 x.0.1 x.1))
  ]

  plan_all : (w : CellWrite) → IsSaid t plan None w → Lies w (flat_map lump_writes (lumps_of t plan))
  plan_all _ (a_dentry q n e) = dentry_in t plan q n e
  plan_all _ (a_head q n e) = head_in t plan q.0 (head.At (next_version t q.0)) (head_touched t plan q n e (apart q n e))
  plan_all _ (a_begun d e) = absurd (none_some d e)
  plan_all _ (a_removed d e) = head_in t plan d head.Gone (head_removed t plan d e)

  pub plan_said : AreSaid t plan None (flat_map lump_writes (lumps_of t plan))
  plan_said = record { each = λ w l. plan_each w (in_plan t plan w l); all = plan_all }

-- ---- the table with what is said

base_dentries : (t : Table) (r : ClientRequest) (next opened released : Option ℕ) → (overlay (overlay (overlay t (next_part next)) (opened_part r opened)) (released_part r released)).dentries ≡ t.dentries
base_dentries t r None None None = refl
base_dentries t r None None (Some c) = refl
base_dentries t r None (Some b) None = refl
base_dentries t r None (Some b) (Some c) = refl
base_dentries t r (Some a) None None = refl
base_dentries t r (Some a) None (Some c) = refl
base_dentries t r (Some a) (Some b) None = refl
base_dentries t r (Some a) (Some b) (Some c) = refl

module _ (t : Table) (r : ClientRequest) (next opened released : Option ℕ) (lumps : List DirLump) (plan : Plan) (begun : Option ℕ) (said : AreSaid t plan begun (flat_map lump_writes lumps)) where
  abbrev ws : List CellWrite
  ws = flat_map lump_writes lumps

  abbrev base : Table
  base = overlay (overlay (overlay t (next_part next)) (opened_part r opened)) (released_part r released)

  dentry_shown : (q : ℕ × List ℕ) (w : CellWrite) → IsSaid t plan begun w → same_key (key.Dentry q.0 q.1) w.key ≡ true → (n : Option Naming) × (get plan.dentries q ≡ Some n) × (shown w.key w.value ≡ dentry_value (dentry_of (written (next_version t q.0) n)))
  dentry_shown q _ (a_dentry p n e) same =
      let at : q ≡ p = place_same (eq_true exact_key (key.Dentry q.0 q.1) (key.Dentry p.0 p.1) same) in
      (n, ap (get plan.dentries) at ∙ e, ap (λ (p : ℕ × List ℕ). dentry_value (dentry_of (written (next_version t p.0) n))) (sym at))
    where
      place_same : key.Dentry q.0 q.1 ≡ key.Dentry p.0 p.1 → q ≡ p
      place_same e = let d : q.0 ≡ p.0 = cc in let n : q.1 ≡ p.1 = cc in λ z. (d z, n z)
  dentry_shown q _ (a_head p n e) same = absurd (other_key q p.0 (eq_true exact_key (key.Dentry q.0 q.1) (key.DirHead p.0) same))
  dentry_shown q _ (a_begun d e) same = absurd (other_key q d (eq_true exact_key (key.Dentry q.0 q.1) (key.DirHead d) same))
  dentry_shown q _ (a_removed d e) same = absurd (other_key q d (eq_true exact_key (key.Dentry q.0 q.1) (key.DirHead d) same))

  pub planned_at : (q : ℕ × List ℕ) (n : Option Naming) → get plan.dentries q ≡ Some n → get (planned t r next opened released lumps).dentries q ≡ dentry_of (written (next_version t q.0) n)
  planned_at q n e =
      let k = key.Dentry q.0 q.1 in
      let v = dentry_value (dentry_of (written (next_version t q.0) n)) in
      let all : (w : CellWrite) → Lies w ws → same_key k w.key ≡ true → shown w.key w.value ≡ v =
      λ w l same. let x = dentry_shown q w (said.each w l) same in x.2 ∙ ap (λ n. dentry_value (dentry_of (written (next_version t q.0) n))) (some_same x.0 n (sym x.1 ∙ e)) in
      sym (back_dentry _) ∙ ap dentry_of (value_of-overlay base ws k ∙ last_found k ws v (value_of base k) _ all (said.all _ (a_dentry q n e)) (eq_same exact_key k)) ∙ back_dentry _

  pub planned_other : (q : ℕ × List ℕ) → get plan.dentries q ≡ None → get (planned t r next opened released lumps).dentries q ≡ get t.dentries q
  planned_other q none =
      let k = key.Dentry q.0 q.1 in
      let all : (w : CellWrite) → Lies w ws → same_key k w.key ≡ true → shown w.key w.value ≡ value_of base k =
      λ w l same. let x = dentry_shown q w (said.each w l) same in absurd (none_some x.0 (sym none ∙ x.1)) in
      sym (back_dentry _) ∙ ap dentry_of (value_of-overlay base ws k ∙ last_same k ws (value_of base k) all) ∙ back_dentry _ ∙ ap (λ (m : Map place_cmp Dentry). get m q) (base_dentries t r next opened released)

-- ---- what becomes of records

pub record RecordsAre (s s1 : PlainState) (plan : Plan) (begun : Option ℕ) : Type 0 where
  pub dirs : (d : ℕ) → (begun ≡ Some d → ⊥) → (plan.removed ≡ Some d → ⊥) → is_kind Dir (get s1.records d) ≡ is_kind Dir (get s.records d)
  pub made : (d : ℕ) → get s.records d ≡ None → is_kind Dir (get s1.records d) ≡ true → begun ≡ Some d
  pub begins : (d : ℕ) → begun ≡ Some d → (get s.records d ≡ None) × (is_kind Dir (get s1.records d) ≡ true)
  pub removed : (d : ℕ) → get s1.records d ≡ None → is_kind Dir (get s.records d) ≡ true → plan.removed ≡ Some d
  pub goes : (d : ℕ) → plan.removed ≡ Some d → (get s1.records d ≡ None) × (is_kind Dir (get s.records d) ≡ true)

pub none_no_dir : (o : Option Attributes) → o ≡ None → is_kind Dir o ≡ true → ⊥
none_no_dir o e h = false≢true (sym (ap (is_kind Dir) e) ∙ h)

some_not_none : (o p : Option Attributes) → is_some o ≡ is_some p → o ≡ None → is_kind Dir p ≡ true → ⊥
some_not_none o None e n h = false≢true h
some_not_none o (Some a) e n h = false≢true (sym (ap is_some n) ∙ e)

-- no record begins or goes, and none turns to or from a directory's
pub record AreQuiet (s s1 : PlainState) : Type 0 where
  pub there : (i : ℕ) → is_some (get s1.records i) ≡ is_some (get s.records i)
  pub dirs : (d : ℕ) → is_kind Dir (get s1.records d) ≡ is_kind Dir (get s.records d)

pub quiet_records : (s s1 : PlainState) (plan : Plan) → plan.removed ≡ None → AreQuiet s s1 → RecordsAre s s1 plan None
quiet_records s s1 plan none quiet = record {
  dirs = λ d _ _. quiet.dirs d;
  made = λ d e h. absurd (none_no_dir (get s.records d) e (sym (quiet.dirs d) ∙ h));
  begins = λ d e. absurd (none_some d e);
  removed = λ d e h. absurd (none_no_dir (get s1.records d) e (quiet.dirs d ∙ h));
  goes = λ d e. absurd (none_some d (sym none ∙ e));
}

-- one record goes
pub gone_records : (s s1 : PlainState) (plan : Plan) (j : ℕ) → (j ≡ root → ⊥) → s1.records ≡ remove s.records j → plan.removed ≡ where_dir s j → RecordsAre s s1 plan None
gone_records s s1 plan j no_root records removed = record {
  dirs = λ d _ stays. elim (cases_eq d j) [
    | inr ne ↦ ap (is_kind Dir) (other d ne)
    | inl same ↦ ap (is_kind Dir) (ap (get s1.records) same ∙ here) ∙ sym (ap (λ d. is_kind Dir (get s.records d)) same ∙ no_dir (λ h. stays (removed ∙ ap (λ b. if b then Some j else None) (dir_from h) ∙ ap Some (sym same))))
  ];
  made = λ d e h. elim (cases_eq d j) [
    | inr ne ↦ absurd (none_no_dir (get s.records d) e (ap (is_kind Dir) (sym (other d ne)) ∙ h))
    | inl same ↦ absurd (none_no_dir (get s1.records d) (ap (get s1.records) same ∙ here) h)
  ];
  begins = λ d e. absurd (none_some d e);
  removed = λ d e h. elim (cases_eq d j) [
    | inr ne ↦ absurd (none_no_dir (get s.records d) (sym (other d ne) ∙ e) h)
    | inl same ↦ removed ∙ ap (λ b. if b then Some j else None) (dir_from (ap (λ d. is_kind Dir (get s.records d)) (sym same) ∙ h)) ∙ ap Some (sym same)
  ];
  goes = λ d e. let w = it d (sym removed ∙ e) in (subst (λ d. get s1.records d ≡ None) w.0 here, subst (λ d. is_kind Dir (get s.records d) ≡ true) w.0 (kind_from w.1));
}
  where
    here : get s1.records j ≡ None
    here = ap (λ (m : Map nat_cmp Attributes). get m j) records ∙ remove_same exact_nat s.records j

    other : (d : ℕ) → (d ≡ j → ⊥) → get s1.records d ≡ get s.records d
    other d ne = ap (λ (m : Map nat_cmp Attributes). get m d) records ∙ remove_other exact_nat s.records j d (eq_false exact_nat d j ne)

    dir_from : is_kind Dir (get s.records j) ≡ true → is_dir s j ≡ true
    dir_from h = or_right (j == root) _ h

    kind_from : is_dir s j ≡ true → is_kind Dir (get s.records j) ≡ true
    kind_from h = elim (or_cases (j == root) (is_kind Dir (get s.records j)) h) [ inl e ↦ absurd (no_root (eqb-true j root e)) | inr e ↦ e ]

    no_dir : (is_kind Dir (get s.records j) ≡ true → ⊥) → is_kind Dir (get s.records j) ≡ false
    no_dir ne = false_from_ne_true _ ne

    it : (d : ℕ) → where_dir s j ≡ Some d → (j ≡ d) × (is_dir s j ≡ true)
    it d = elim (is_dir s j) as (λ b. (if b then Some j else None) ≡ Some d → (j ≡ d) × (b ≡ true)) [ true ↦ λ e. (some_same j d e, refl) | false ↦ λ e. absurd (none_some d e) ]

-- ---- an exact plan

abbrev pub IsVisible : PlainState → Option Naming → Type 0
IsVisible s None = Unit {0}
IsVisible s (Some (Full r)) = is_some (get s.records r.ino) ≡ true
IsVisible s (Some (Remote i k)) = ⊥

is_or_not : (o : Option ℕ) (d : ℕ) → (o ≡ Some d) ⊎ (o ≡ Some d → ⊥)
is_or_not None d = inr (λ e. none_some d e)
is_or_not (Some x) d = elim (cases_eq x d) [ inl e ↦ inl (ap Some e) | inr ne ↦ inr (λ e. ne (some_same x d e)) ]

module _ (rank : ℕ) (s s1 : PlainState) (q : ℕ × List ℕ) where
  pub told_stays : (o : Option Dentry) → ((d : Dentry) → o ≡ Some d → is_dir s1 q.0 ≡ is_dir s q.0) → ((v : ℕ) (x : InodeRecord) → o ≡ Some (FullAt v x) → q.0 ≡ stray_ino rank → is_some (get s1.records x.ino) ≡ is_some (get s.records x.ino))
      → told_of rank s1 q o ≡ told_of rank s q o
  told_stays None d f = refl
  told_stays (Some (RemoteAt v i k)) d f = λ z. if q.0 == stray_ino rank then None else (if d (RemoteAt v i k) refl z then Some (Remote i k) else None)
  told_stays (Some (FullAt v x)) d f = elim (q.0 == stray_ino rank) as (λ b. (q.0 == stray_ino rank) ≡ b → (if b then (if is_some (get s1.records x.ino) then Some (Full x) else None) else (if is_dir s1 q.0 then Some (Full x) else None))
      ≡ (if b then (if is_some (get s.records x.ino) then Some (Full x) else None) else (if is_dir s q.0 then Some (Full x) else None))) [
        | true ↦ λ e. ap (λ c. if c then Some (Full x) else None) (f v x refl (eqb-true q.0 (stray_ino rank) e))
        | false ↦ λ e. ap (λ c. if c then Some (Full x) else None) (d (FullAt v x) refl)
      ] refl

  pub told_in_dir : (q.0 ≡ stray_ino rank → ⊥) → is_dir s q.0 ≡ true → (o : Option Dentry) → told_of rank s q o ≡ naming o
  told_in_dir far dir None = refl
  told_in_dir far dir (Some (FullAt v x)) = λ z. if ne_eqb q.0 (stray_ino rank) far z then (if is_some (get s.records x.ino) then Some (Full x) else None) else (if dir z then Some (Full x) else None)
  told_in_dir far dir (Some (RemoteAt v i k)) = λ z. if ne_eqb q.0 (stray_ino rank) far z then None else (if dir z then Some (Remote i k) else None)

  pub told_in_stray : q.0 ≡ stray_ino rank → (v : ℕ) (n : Option Naming) → IsVisible s n → told_of rank s q (dentry_of (written v n)) ≡ n
  told_in_stray st v None h = refl
  told_in_stray st v (Some (Full x)) h = λ z. if eq-eqb q.0 (stray_ino rank) st z then (if h z then Some (Full x) else None) else (if is_dir s q.0 then Some (Full x) else None)
  told_in_stray st v (Some (Remote i k)) h = absurd h

  -- a full dentry in stray of an inode that has a record is known
  pub told_full_stray : q.0 ≡ stray_ino rank → (v : ℕ) (x : InodeRecord) → is_some (get s.records x.ino) ≡ true → told_of rank s q (Some (FullAt v x)) ≡ Some (Full x)
  told_full_stray st v x h = λ z. if eq-eqb q.0 (stray_ino rank) st z then (if h z then Some (Full x) else None) else (if is_dir s q.0 then Some (Full x) else None)

module _ (rank : ℕ) (t : Table) (s : PlainState) (t1 : Table) (s1 : PlainState) (plan : Plan) (begun : Option ℕ)
    (at : (q : ℕ × List ℕ) (n : Option Naming) → get plan.dentries q ≡ Some n → get t1.dentries q ≡ dentry_of (written (next_version t q.0) n))
    (other : (q : ℕ × List ℕ) → get plan.dentries q ≡ None → get t1.dentries q ≡ get t.dentries q)
    (records : RecordsAre s s1 plan begun)
    (empty : (d : ℕ) → (begun ≡ Some d) ⊎ (plan.removed ≡ Some d) → (n : List ℕ) → (get t.dentries (d, n) ≡ None) × (get plan.dentries (d, n) ≡ None))
    (stray : (q : ℕ × List ℕ) (v : ℕ) (x : InodeRecord) → get plan.dentries q ≡ None → get t.dentries q ≡ Some (FullAt v x) → q.0 ≡ stray_ino rank → is_some (get s1.records x.ino) ≡ is_some (get s.records x.ino))
    (seen : (q : ℕ × List ℕ) (n : Option Naming) → get plan.dentries q ≡ Some n → ((q.0 ≡ stray_ino rank → ⊥) × (is_dir s1 q.0 ≡ true)) ⊎ ((q.0 ≡ stray_ino rank) × IsVisible s1 n))
    (differs : (q : ℕ × List ℕ) (n : Option Naming) → get plan.dentries q ≡ Some n → told rank t s q ≡ n → ⊥) where
  dir_stays : (q : ℕ × List ℕ) (d : Dentry) → get t.dentries q ≡ Some d → is_dir s1 q.0 ≡ is_dir s q.0
  dir_stays q d e = elim (is_or_not begun q.0) [
    | inl b ↦ absurd (none_some d (sym (empty q.0 (inl b) q.1).0 ∙ e))
    | inr no_begin ↦ elim (is_or_not plan.removed q.0) [
      | inl g ↦ absurd (none_some d (sym (empty q.0 (inr g) q.1).0 ∙ e))
      | inr no_end ↦ ap (λ b. (q.0 == root) || b) (records.dirs q.0 no_begin no_end)
    ]
  ]

  told_new : (q : ℕ × List ℕ) (n : Option Naming) → get plan.dentries q ≡ Some n → told rank t1 s1 q ≡ n
  told_new q n e = ap (told_of rank s1 q) (at q n e) ∙ elim (seen q n e) [
    | inl w ↦ told_in_dir rank s1 s1 q w.0 w.1 (dentry_of (written (next_version t q.0) n)) ∙ naming_written (next_version t q.0) n
    | inr w ↦ told_in_stray rank s1 s1 q w.0 (next_version t q.0) n w.1
  ]

  pub exact_from : IsExactPlan rank t s t1 s1 plan begun
  exact_from = record {
    same = λ q none. ap (told_of rank s1 q) (other q none) ∙ told_stays rank s s1 q (get t.dentries q) (dir_stays q) (λ v x e st. stray q v x none e st);
    new = λ q n e. (told_new q n e, differs q n e);
    made = records.made;
    begins = records.begins;
    removed = records.removed;
    goes = records.goes;
    stay = λ q n e. ((λ b. none_some n (sym (empty q.0 (inl b) q.1).1 ∙ e)), (λ g. none_some n (sym (empty q.0 (inr g) q.1).1 ∙ e)));
  }

-- ---- where full dentries stand

module _ (rank : ℕ) (t1 : Table) (s1 : PlainState) (primary : Places) (m : HasDentries rank t1 s1 primary) where
  pub recorded_kept : (i : ℕ) (a : Attributes) → get s1.records i ≡ Some a → is_kept s1 i ≡ true
  recorded_kept i a e = (cond_is (is_kept s1 i) (said_by (cell_of t1 primary i)) a (sym (m.records i) ∙ e)).0

  pub place_from : (i : ℕ) (o : Option (ℕ × List ℕ)) (x : ℕ × List ℕ) → o ≡ Some x → is_held rank s1 x.0 ≡ true → full_of (get t1.dentries x) ≡ Some i → o ≡ get primary i
  place_from i o x e held full = e ∙ sym (m.each_primary i x held full)
