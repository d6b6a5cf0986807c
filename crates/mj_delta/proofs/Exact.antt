-- Where an event writes the dentries of a plan, it writes just the dentries that change and the heads of touched directories.
use Rattle.std.proofs.Common.{◌≡◌, ℕ, Bool, true, false, ◌&&◌, List, Option, Some, None, refl, sym, ap, subst, ◌∙◌, inl, inr}
use Rattle.std.specs.Prelude.{◌==◌, IsTrue, is_some, is_none, if◌then◌else◌}
use Rattle.std.proofs.lemmas.Bool.{false≢true, cases_Bool, and_parts, and_from, not_from_false, not_from_true}
use Rattle.mj_base.specs.ObjectName.{stray_ino}
use Rattle.mj_base.specs.declared.record.Kind.TheVariants.{Dir}
use Rattle.mj_maps.specs.Map.{get}
use Rattle.mj_tree.specs.declared.change.Attributes.{Attributes}
use Rattle.mj_tree.specs.declared.request.ClientRequest.{ClientRequest}
use Rattle.mj_tree.specs.State.{PlainState, is_kind, is_dir}
use Rattle.mj_tree.specs.Answer.{after}
use Rattle.mj_cells.specs.declared.cell.CellKey.{CellKey}
use Rattle.mj_cells.specs.declared.cell.CellKey.TheVariants as key
use Rattle.mj_cells.specs.declared.cell.CellValue.TheVariants as value
use Rattle.mj_cells.specs.declared.cell.CellWrite.{CellWrite}
use Rattle.mj_cells.specs.Table.{Dentry, Table}
use Rattle.mj_cells.specs.Table.Dentry.{Full as FullAt, Remote as RemoteAt}
use Rattle.mj_event.specs.Writes.{write}
use Rattle.mj_recovery.specs.Tree.{tree_of}
use Rattle.mj_machine.specs.Delta.{same_content, new_primary, dentry_before, dentry_after, is_changed, is_made, is_removed, head_version, value_after, IsWritten}
use Rattle.mj_delta.specs.Reads.{Places}
use Rattle.mj_delta.specs.TreeOf.{HasDentries, IsTreeOf}
use Rattle.mj_delta.specs.Events.{next_version}
use Rattle.mj_delta.specs.Plan.Naming.{Full, Remote}
use Rattle.mj_delta.specs.Plan.{Naming, Plan}
use Rattle.mj_delta.proofs.Facts.{cases_option}
use Rattle.mj_delta.proofs.Lists.{Lies}
use Rattle.mj_delta.proofs.TreeIs.{tree_is}
use Rattle.mj_delta.proofs.Plans.{written}
use Rattle.mj_delta.proofs.Contents.{naming_of, IsOfDentry, same_said, said_same, naming_of_written, SaidFits, written_of_dentry}
use Rattle.mj_delta.proofs.Told.{told_of, told, told_before, before_fits, told_after}

-- what is written of the dentries that change, of a directory that begins and of one that goes
pub data IsSaid (t : Table) (plan : Plan) (begun : Option ℕ) : CellWrite → Type 0 where
  a_dentry : (q : ℕ × List ℕ) (n : Option Naming) → get plan.dentries q ≡ Some n → IsSaid t plan begun (write (key.Dentry q.0 q.1) (written (next_version t q.0) n))
  a_head : (q : ℕ × List ℕ) (n : Option Naming) → get plan.dentries q ≡ Some n → IsSaid t plan begun (write (key.DirHead q.0) (value.Number (next_version t q.0)))
  a_begun : (d : ℕ) → begun ≡ Some d → IsSaid t plan begun (write (key.DirHead d) (value.Number 1))
  a_removed : (d : ℕ) → plan.removed ≡ Some d → IsSaid t plan begun (write (key.DirHead d) value.Gone)

pub record AreSaid (t : Table) (plan : Plan) (begun : Option ℕ) (ws : List CellWrite) : Type 0 where
  pub each : (w : CellWrite) → Lies w ws → IsSaid t plan begun w
  pub all : (w : CellWrite) → IsSaid t plan begun w → Lies w ws

-- The plan has just the dentries of which the trees before and afterwards know another thing.
pub record IsExactPlan (rank : ℕ) (t : Table) (s : PlainState) (t1 : Table) (s1 : PlainState) (plan : Plan) (begun : Option ℕ) : Type 0 where
  pub same : (q : ℕ × List ℕ) → get plan.dentries q ≡ None → told rank t1 s1 q ≡ told rank t s q
  pub new : (q : ℕ × List ℕ) (n : Option Naming) → get plan.dentries q ≡ Some n → (told rank t1 s1 q ≡ n) × (told rank t s q ≡ n → ⊥)
  pub made : (d : ℕ) → get s.records d ≡ None → is_kind Dir (get s1.records d) ≡ true → begun ≡ Some d
  pub begins : (d : ℕ) → begun ≡ Some d → (get s.records d ≡ None) × (is_kind Dir (get s1.records d) ≡ true)
  pub removed : (d : ℕ) → get s1.records d ≡ None → is_kind Dir (get s.records d) ≡ true → plan.removed ≡ Some d
  pub goes : (d : ℕ) → plan.removed ≡ Some d → (get s1.records d ≡ None) × (is_kind Dir (get s.records d) ≡ true)
  pub stay : (q : ℕ × List ℕ) (n : Option Naming) → get plan.dentries q ≡ Some n → (begun ≡ Some q.0 → ⊥) × (plan.removed ≡ Some q.0 → ⊥)

none_is : {A : Type 0} (o : Option A) → is_none o ≡ true → o ≡ None
none_is None e = refl
none_is (Some x) e = absurd (false≢true e)

no_dir_none : (o : Option Attributes) → o ≡ None → is_kind Dir o ≡ true → ⊥
no_dir_none o e h = false≢true (sym (ap (is_kind Dir) e) ∙ h)

abbrev pub IsOfDir : CellKey → Type 0
IsOfDir (key.Dentry d n) = Unit {0}
IsOfDir (key.DirHead d) = Unit {0}
IsOfDir _ = ⊥

module _ (rank : ℕ) (t : Table) (s : PlainState) (is : IsTreeOf rank t s) (r : ClientRequest) (s1 : PlainState) (t1 : Table) (primary : Places) (m : HasDentries rank t1 s1 primary)
    (links : (after (tree_of rank t) r).links ≡ s1.links) (records : (after (tree_of rank t) r).records ≡ s1.records)
    (places : (i : ℕ) (a : Attributes) → get s1.records i ≡ Some a → new_primary rank t r i ≡ get primary i)
    (plan : Plan) (begun : Option ℕ) (exact : IsExactPlan rank t s t1 s1 plan begun) where
  told_is : (q : ℕ × List ℕ) (v : ℕ) → dentry_after rank t r q v ≡ written v (told rank t1 s1 q)
  told_is q v = told_after rank t r s1 t1 primary m links records places q v

  said_fits : (q : ℕ × List ℕ) (o : Option Dentry) → get t1.dentries q ≡ o → SaidFits (told_of rank s1 q o)
  said_fits q None e = tt
  said_fits q (Some (RemoteAt v i k)) e = choice (q.0 == stray_ino rank) (is_dir s1 q.0)
    where
      choice : (a b : Bool) → SaidFits (if a then None else (if b then Some (Remote i k) else None))
      choice true b = tt
      choice false true = tt
      choice false false = tt
  said_fits q (Some (FullAt v x)) e = choice (q.0 == stray_ino rank) (is_some (get s1.records x.ino)) (is_dir s1 q.0)
    where
      choice : (a b c : Bool) → SaidFits (if a then (if b then Some (Full x) else None) else (if c then Some (Full x) else None))
      choice true true c = m.records_fit q v x e
      choice true false c = tt
      choice false b true = m.records_fit q v x e
      choice false b false = tt

  after_fits : (q : ℕ × List ℕ) (v : ℕ) → IsOfDentry (dentry_after rank t r q v)
  after_fits q v = subst IsOfDentry (sym (told_is q v)) (written_of_dentry v (told rank t1 s1 q) (said_fits q (get t1.dentries q) refl))

  naming_after : (q : ℕ × List ℕ) (v : ℕ) → naming_of (dentry_after rank t r q v) ≡ told rank t1 s1 q
  naming_after q v = ap naming_of (told_is q v) ∙ naming_of_written v (told rank t1 s1 q)

  -- a dentry changes exactly where the trees know different things of it
  changed_is : (q : ℕ × List ℕ) → IsTrue (is_changed rank t r q) → told rank t s q ≡ told rank t1 s1 q → ⊥
  changed_is q h e =
      let same = same_said (dentry_before rank t r q) (dentry_after rank t r q 0) (before_fits rank t s is r q) (after_fits q 0) (told_before rank t s is r q ∙ e ∙ sym (naming_after q 0)) in
      false≢true (sym (not_from_true _ same) ∙ h)

  is_changed_from : (q : ℕ × List ℕ) → (told rank t s q ≡ told rank t1 s1 q → ⊥) → IsTrue (is_changed rank t r q)
  is_changed_from q ne = elim (cases_Bool (same_content (dentry_before rank t r q) (dentry_after rank t r q 0))) [
    | inl h ↦ absurd (ne (sym (told_before rank t s is r q) ∙ said_same (dentry_before rank t r q) (dentry_after rank t r q 0) (before_fits rank t s is r q) (after_fits q 0) h ∙ naming_after q 0))
    | inr h ↦ not_from_false _ h
  ]

  planned_changed : (q : ℕ × List ℕ) (n : Option Naming) → get plan.dentries q ≡ Some n → IsTrue (is_changed rank t r q)
  planned_changed q n e = let w = exact.new q n e in is_changed_from q (λ same. w.1 (same ∙ w.0))

  changed_planned : (q : ℕ × List ℕ) → IsTrue (is_changed rank t r q) → (n : Option Naming) × (get plan.dentries q ≡ Some n)
  changed_planned q h = elim (cases_option (get plan.dentries q)) [
    | inl none ↦ absurd (changed_is q h (sym (exact.same q none)))
    | inr w ↦ w
  ]

  -- ---- directories that begin and that go

  made_is : (d : ℕ) → is_made rank t r d ≡ (is_none (get s.records d) && is_kind Dir (get s1.records d))
  made_is d = λ z. is_none (get (tree_is rank t s is z).records d) && is_kind Dir (get (records z) d)

  removed_is : (d : ℕ) → is_removed rank t r d ≡ (is_none (get s1.records d) && is_kind Dir (get s.records d))
  removed_is d = λ z. is_none (get (records z) d) && is_kind Dir (get (tree_is rank t s is z).records d)

  made_begins : (d : ℕ) → is_made rank t r d ≡ true → begun ≡ Some d
  made_begins d h = let w = and_parts _ _ (sym (made_is d) ∙ h) in exact.made d (none_is _ w.0) w.1

  begins_made : (d : ℕ) → begun ≡ Some d → is_made rank t r d ≡ true
  begins_made d e = let w = exact.begins d e in made_is d ∙ and_from _ _ (ap is_none w.0) w.1

  removed_goes : (d : ℕ) → is_removed rank t r d ≡ true → plan.removed ≡ Some d
  removed_goes d h = let w = and_parts _ _ (sym (removed_is d) ∙ h) in exact.removed d (none_is _ w.0) w.1

  goes_removed : (d : ℕ) → plan.removed ≡ Some d → is_removed rank t r d ≡ true
  goes_removed d e = let w = exact.goes d e in removed_is d ∙ and_from _ _ (ap is_none w.0) w.1

  not_removed : (d : ℕ) → (plan.removed ≡ Some d → ⊥) → is_removed rank t r d ≡ false
  not_removed d ne = elim (cases_Bool (is_removed rank t r d)) [ inl h ↦ absurd (ne (removed_goes d h)) | inr h ↦ h ]

  not_made : (d : ℕ) → (begun ≡ Some d → ⊥) → is_made rank t r d ≡ false
  not_made d ne = elim (cases_Bool (is_made rank t r d)) [ inl h ↦ absurd (ne (made_begins d h)) | inr h ↦ h ]

  version_is : (d : ℕ) → (begun ≡ Some d → ⊥) → head_version rank t r d ≡ next_version t d
  version_is d ne = λ z. if not_made d ne z then 1 else next_version t d

  -- ---- values

  dentry_value_is : (q : ℕ × List ℕ) (n : Option Naming) → get plan.dentries q ≡ Some n → value_after rank t r (key.Dentry q.0 q.1) ≡ written (next_version t q.0) n
  dentry_value_is q n e = ap (dentry_after rank t r q) (version_is q.0 (exact.stay q n e).0) ∙ told_is q (next_version t q.0) ∙ ap (written (next_version t q.0)) (exact.new q n e).0

  head_value_is : (q : ℕ × List ℕ) (n : Option Naming) → get plan.dentries q ≡ Some n → value_after rank t r (key.DirHead q.0) ≡ value.Number (next_version t q.0)
  head_value_is q n e = let w = exact.stay q n e in λ z. if not_removed q.0 w.1 z then value.Gone else value.Number (version_is q.0 w.0 z)

  begun_value_is : (d : ℕ) → begun ≡ Some d → value_after rank t r (key.DirHead d) ≡ value.Number 1
  begun_value_is d e =
      let there : plan.removed ≡ Some d → ⊥ = λ f. no_dir_none _ (exact.goes d f).0 (exact.begins d e).1 in
      λ z. if not_removed d there z then value.Gone else value.Number (if begins_made d e z then 1 else next_version t d)

  removed_value_is : (d : ℕ) → plan.removed ≡ Some d → value_after rank t r (key.DirHead d) ≡ value.Gone
  removed_value_is d e = λ z. if goes_removed d e z then value.Gone else value.Number (head_version rank t r d)

  -- ---- exactly

  module _ (ws : List CellWrite) (said : AreSaid t plan begun ws) where
    pub all_of_dirs : (k : CellKey) → IsOfDir k → IsWritten rank t r k → Lies (write k (value_after rank t r k)) ws
    all_of_dirs (key.Dentry d name) _ h =
        let w = changed_planned (d, name) h in
        subst (λ v. Lies (write (key.Dentry d name) v) ws) (sym (dentry_value_is (d, name) w.0 w.1)) (said.all _ (a_dentry (d, name) w.0 w.1))
    all_of_dirs (key.DirHead d) _ (inl touched) =
        let w = changed_planned (d, touched.0) touched.1 in
        subst (λ v. Lies (write (key.DirHead d) v) ws) (sym (head_value_is (d, touched.0) w.0 w.1)) (said.all _ (a_head (d, touched.0) w.0 w.1))
    all_of_dirs (key.DirHead d) _ (inr (inl made)) =
        let e = made_begins d made in
        subst (λ v. Lies (write (key.DirHead d) v) ws) (sym (begun_value_is d e)) (said.all _ (a_begun d e))
    all_of_dirs (key.DirHead d) _ (inr (inr gone)) =
        let e = removed_goes d gone in
        subst (λ v. Lies (write (key.DirHead d) v) ws) (sym (removed_value_is d e)) (said.all _ (a_removed d e))
    all_of_dirs key.NextIno h _ = absurd h
    all_of_dirs (key.Session c) h _ = absurd h
    all_of_dirs (key.Done c u) h _ = absurd h
    all_of_dirs (key.OpenOf c i) h _ = absurd h

    each_is_written : (w : CellWrite) → IsSaid t plan begun w → IsWritten rank t r w.key × (w.value ≡ value_after rank t r w.key)
    each_is_written _ (a_dentry q n e) = (planned_changed q n e, sym (dentry_value_is q n e))
    each_is_written _ (a_head q n e) = (inl (q.1, planned_changed q n e), sym (head_value_is q n e))
    each_is_written _ (a_begun d e) = (inr (inl (begins_made d e)), sym (begun_value_is d e))
    each_is_written _ (a_removed d e) = (inr (inr (goes_removed d e)), sym (removed_value_is d e))

    pub only_of_dirs : (w : CellWrite) → Lies w ws → IsWritten rank t r w.key × (w.value ≡ value_after rank t r w.key)
    only_of_dirs w l = each_is_written w (said.each w l)
