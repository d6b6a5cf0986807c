-- The event of a change is the exact one, where its plan has just the dentries that change and full dentries stand where they are to.
use Rattle.std.proofs.Common.{◌≡◌, ℕ, true, List, Option, Some, None, sym, ap, ◌∙◌, ◌⊎◌, inl, inr}
use Rattle.std.specs.Prelude.{is_some}
use Rattle.std.specs.Option.{option_and_then}
use Rattle.std.specs.List.{flat_map}
use Rattle.std.proofs.lemmas.Bool.{false≢true}
use Rattle.mj_base.specs.ObjectName.{stray_ino}
use Rattle.mj_base.specs.declared.record.InodeRecord.{InodeRecord}
use Rattle.mj_maps.specs.Map.{Map, get, insert, empty}
use Rattle.mj_maps.specs.Orders.{place_cmp}
use Rattle.mj_maps.proofs.MapLaws.{exact_place, none_some, insert_same, get_empty}
use Rattle.mj_tree.specs.declared.change.Attributes.{Attributes}
use Rattle.mj_tree.specs.declared.change.Change.{Change}
use Rattle.mj_tree.specs.declared.change.Decision.TheVariants.{Accepted}
use Rattle.mj_tree.specs.declared.request.ClientRequest.{ClientRequest}
use Rattle.mj_tree.specs.State.{PlainState, is_dir, is_kept}
use Rattle.mj_tree.specs.Change.{changed}
use Rattle.mj_tree.specs.Answer.{decision, after}
use Rattle.mj_cells.specs.Table.{Table}
use Rattle.mj_cells.specs.Table.Dentry.{Full as FullAt}
use Rattle.mj_meta.specs.declared.DirLump.{DirLump}
use Rattle.mj_event.specs.declared.Event.TheVariants as event
use Rattle.mj_event.specs.Writes.{lump_writes}
use Rattle.mj_recovery.specs.Tree.{tree_of}
use Rattle.mj_machine.specs.Delta.{IsExactDelta, new_primary}
use Rattle.mj_delta.specs.Reads.{Places, full_of, said_by, cell_of, is_held}
use Rattle.mj_delta.specs.TreeOf.{HasDentries, IsTreeOf}
use Rattle.mj_delta.specs.Fits.{IsSent}
use Rattle.mj_delta.specs.Events.{update_of}
use Rattle.mj_delta.specs.Plan.Naming.{Full}
use Rattle.mj_delta.specs.Plan.{Naming, Plan}
use Rattle.mj_delta.proofs.Facts.{cond_is, full_cell, record_primary, held_cases, stray_no_dir}
use Rattle.mj_delta.proofs.Decided.{CanChange}
use Rattle.mj_delta.proofs.Held.{HasRecord}
use Rattle.mj_delta.proofs.Updated.{IsPlan, planned}
use Rattle.mj_delta.proofs.Laid.{insert_cases, insert_none}
use Rattle.mj_delta.proofs.Told.{told, told_of}
use Rattle.mj_delta.proofs.Exact.{AreSaid}
use Rattle.mj_delta.proofs.ExactUpdates.{NextIs, OpensAre, new_is, update_exact}
use Rattle.mj_delta.proofs.ExactParts.{planned_at, planned_other, RecordsAre, IsVisible, exact_from, told_in_dir, told_full_stray}
use Rattle.mj_delta.proofs.Primaries.{stays_there}

-- where the full dentry of an inode is to stand and stands
pub record StandsRight (rank : ℕ) (t : Table) (r : ClientRequest) (s1 : PlainState) (t1 : Table) (j : ℕ) : Type 0 where
  pub place : ℕ × List ℕ
  pub wanted : new_primary rank t r j ≡ Some place
  pub held : is_held rank s1 place.0 ≡ true
  pub full : full_of (get t1.dentries place) ≡ Some j

pub record IsExactChange (rank : ℕ) (t : Table) (s : PlainState) (r : ClientRequest) (s1 : PlainState) (t1 : Table) (plan : Plan) (begun : Option ℕ) : Type 0 where
  pub records : RecordsAre s s1 plan begun
  pub empty : (d : ℕ) → (begun ≡ Some d) ⊎ (plan.removed ≡ Some d) → (n : List ℕ) → (get t.dentries (d, n) ≡ None) × (get plan.dentries (d, n) ≡ None)
  pub stray : (q : ℕ × List ℕ) (v : ℕ) (x : InodeRecord) → get plan.dentries q ≡ None → get t.dentries q ≡ Some (FullAt v x) → q.0 ≡ stray_ino rank → is_some (get s1.records x.ino) ≡ is_some (get s.records x.ino)
  pub seen : (q : ℕ × List ℕ) (n : Option Naming) → get plan.dentries q ≡ Some n → ((q.0 ≡ stray_ino rank → ⊥) × (is_dir s1 q.0 ≡ true)) ⊎ ((q.0 ≡ stray_ino rank) × IsVisible s1 n)
  pub differs : (q : ℕ × List ℕ) (n : Option Naming) → get plan.dentries q ≡ Some n → told rank t s q ≡ n → ⊥
  pub places : (after (tree_of rank t) r).links ≡ s1.links → (after (tree_of rank t) r).opens ≡ s1.opens → (j : ℕ) (a : Attributes) → get s1.records j ≡ Some a → StandsRight rank t r s1 t1 j

pub change_exact : (rank : ℕ) (t : Table) (s : PlainState) (is : IsTreeOf rank t s) (r : ClientRequest) (sent : IsSent r) (i : ℕ) (change : Change) (can : CanChange s r i change)
    (next opened released : Option ℕ) (lumps : List DirLump) (plan_is : IsPlan rank t s r i change next opened released lumps) (decided : decision s r ≡ Accepted i change)
    (nexts : NextIs s (changed s change) next) (opens_are : OpensAre r.client s (changed s change) opened released)
    (plan : Plan) (begun : Option ℕ) (said : AreSaid t plan begun (flat_map lump_writes lumps)) → IsExactChange rank t s r (changed s change) (planned t r next opened released lumps) plan begun
    → IsExactDelta rank t r (event.Update (update_of s r i next opened released lumps))
change_exact rank t s is r sent i change can next opened released lumps plan_is decided nexts opens_are plan begun said x =
    let s1 = changed s change in
    let t1 = planned t r next opened released lumps in
    let state = new_is rank t s is r sent i change can next opened released lumps plan_is decided nexts opens_are in
    let links : (after (tree_of rank t) r).links ≡ s1.links = ap (λ (z : PlainState). z.links) state in
    let opens : (after (tree_of rank t) r).opens ≡ s1.opens = ap (λ (z : PlainState). z.opens) state in
    update_exact rank t s is r sent i change can next opened released lumps plan_is decided nexts opens_are
    (λ j a e. let w = x.places links opens j a e in w.wanted ∙ sym (plan_is.dentries.each_primary j w.place w.held w.full)) plan begun
    (exact_from rank t s t1 s1 plan begun (planned_at t r next opened released lumps plan begun said) (planned_other t r next opened released lumps plan begun said) x.records x.empty x.stray x.seen x.differs) said

-- ---- plans of two dentries

abbrev pub both : ℕ × List ℕ → Option Naming → ℕ × List ℕ → Option Naming → Map place_cmp (Option Naming)
both p x q y = insert (insert empty p x) q y

module _ (p : ℕ × List ℕ) (x : Option Naming) (q : ℕ × List ℕ) (y : Option Naming) where
  pub both_second : get (both p x q y) q ≡ Some y
  both_second = insert_same exact_place (insert empty p x) q y

  pub both_first : (p ≡ q → ⊥) → get (both p x q y) p ≡ Some x
  both_first ne = insert_none exact_place (insert empty p x) q y p ne ∙ insert_same exact_place empty p x

  pub both_other : (z : ℕ × List ℕ) → (z ≡ q → ⊥) → (z ≡ p → ⊥) → get (both p x q y) z ≡ None
  both_other z nq np = insert_none exact_place (insert empty p x) q y z nq ∙ insert_none exact_place empty p x z np ∙ get_empty place_cmp z

  pub both_cases : (z : ℕ × List ℕ) (n : Option Naming) → get (both p x q y) z ≡ Some n → ((z ≡ q) × (n ≡ y)) ⊎ ((z ≡ p) × (n ≡ x))
  both_cases z n e = elim (insert_cases exact_place (insert empty p x) q y z n e) [
    | inl w ↦ inl w
    | inr u ↦ elim (insert_cases exact_place empty p x z n u.1) [
      | inl w ↦ inr w
      | inr v ↦ absurd (none_some n (sym (get_empty place_cmp z) ∙ v.1))
    ]
  ]

-- ---- what a tree knows

module _ (rank : ℕ) (t : Table) (s : PlainState) (primary : Places) (m : HasDentries rank t s primary) where
  pub dir_far : (d : ℕ) → is_dir s d ≡ true → d ≡ stray_ino rank → ⊥
  dir_far d dir st = false≢true (sym (stray_no_dir rank t s primary m) ∙ ap (is_dir s) (sym st) ∙ dir)

  -- of the full dentry of an inode that has a record
  pub told_record : (i : ℕ) (its : HasRecord t s primary i) → told rank t s its.place ≡ Some (Full its.inode)
  told_record i its = ap (told_of rank s its.place) its.full ∙ elim (held_cases rank t s primary m its.place.0 (m.primary_held i its.place its.stands)) [
    | inl dir ↦ told_in_dir rank s s its.place (dir_far its.place.0 dir) dir (Some (FullAt its.version its.inode))
    | inr st ↦ told_full_stray rank s s its.place st its.version its.inode (ap (λ j. is_some (get s.records j)) its.ino ∙ ap is_some its.said)
  ]

-- what has a record has a full dentry
pub recorded_record : (rank : ℕ) (t : Table) (s : PlainState) (primary : Places) (m : HasDentries rank t s primary) (i : ℕ) (a : Attributes) → get s.records i ≡ Some a → HasRecord t s primary i
recorded_record rank t s primary m i a e =
    let p = record_primary rank t s primary m i a e in
    let f = full_cell (get t.dentries p.0) i (m.primary_full i p.0 p.1) in
    let c = cond_is (is_kept s i) (said_by (cell_of t primary i)) a (sym (m.records i) ∙ e) in
    record {
      place = p.0;
      version = f.0;
      inode = f.1;
      stands = p.1;
      full = f.2;
      ino = f.3;
      said = e ∙ sym c.1 ∙ ap (λ o. said_by (option_and_then (get t.dentries) o)) p.1 ∙ ap said_by f.2;
    }

-- an inode whose full dentry and name stay
pub unmoved : (rank : ℕ) (t : Table) (s : PlainState) (is : IsTreeOf rank t s) (r : ClientRequest) (s1 : PlainState) (t1 : Table) → (after (tree_of rank t) r).links ≡ s1.links → (after (tree_of rank t) r).opens ≡ s1.opens
    → (j : ℕ) (p : ℕ × List ℕ) → get is.primary j ≡ Some p → is_kept s1 j ≡ true → is_held rank s1 p.0 ≡ true → full_of (get t1.dentries p) ≡ Some j → (get s.links p ≡ Some j → get s1.links p ≡ Some j) → StandsRight rank t r s1 t1 j
unmoved rank t s is r s1 t1 links opens j p e kept held full link = record { place = p; wanted = stays_there rank t s is r s1 links opens j p e kept link; held = held; full = full }
