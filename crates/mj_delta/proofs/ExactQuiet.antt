-- The events that move no dentry are the exact ones: of an open, of a rename that moves nothing, of attributes, of a second link.
use Rattle.std.proofs.Common.{◌≡◌, ℕ, true, ◌||◌, List, [], ◌∷◌, Option, Some, None, refl, sym, ap, subst, ◌∙◌, ◌⊎◌, inl, inr}
use Rattle.std.specs.Prelude.{◌==◌, IsSome, is_some}
use Rattle.std.specs.List.{flat_map}
use Rattle.mj_base.specs.ObjectName.{stray_ino}
use Rattle.mj_base.specs.declared.record.InodeRecord.{InodeRecord}
use Rattle.mj_maps.specs.Map.{get, insert, empty}
use Rattle.mj_maps.specs.Orders.{place_cmp}
use Rattle.mj_maps.proofs.MapLaws.{exact_place, none_some, insert_same, get_empty}
use Rattle.mj_tree.specs.declared.change.Attributes.{Attributes}
use Rattle.mj_tree.specs.declared.change.Change.{Change}
use Rattle.mj_tree.specs.declared.change.Decision.TheVariants.{Accepted}
use Rattle.mj_tree.specs.declared.request.ClientRequest.{ClientRequest}
use Rattle.mj_tree.specs.State.{PlainState, root, is_dir}
use Rattle.mj_tree.specs.Change.{changed}
use Rattle.mj_tree.specs.Answer.{decision, after}
use Rattle.mj_cells.specs.declared.cell.CellKey.TheVariants as key
use Rattle.mj_cells.specs.declared.cell.CellValue.TheVariants as value
use Rattle.mj_cells.specs.declared.cell.CellWrite.{CellWrite}
use Rattle.mj_cells.specs.Table.{Table, dentry_of}
use Rattle.mj_meta.specs.declared.DirLump.{DirLump}
use Rattle.mj_event.specs.declared.Event.TheVariants as event
use Rattle.mj_event.specs.Writes.{write, lump_writes}
use Rattle.mj_recovery.specs.Tree.{tree_of}
use Rattle.mj_machine.specs.Delta.{IsExactDelta, new_primary}
use Rattle.mj_delta.specs.Reads.{Places, full_of, is_held}
use Rattle.mj_delta.specs.TreeOf.{HasDentries, IsTreeOf}
use Rattle.mj_delta.specs.Fits.{IsSent}
use Rattle.mj_delta.specs.Events.{next_version, update_of}
use Rattle.mj_delta.specs.Plan.Naming.{Full}
use Rattle.mj_delta.specs.Plan.{Naming, Plan}
use Rattle.mj_delta.proofs.Facts.{cases_option, some_is, record_primary}
use Rattle.mj_delta.proofs.Lists.{Lies}
use Rattle.mj_delta.proofs.Decided.{CanChange}
use Rattle.mj_delta.proofs.Updated.{IsPlan, planned}
use Rattle.mj_delta.proofs.Plans.{written}
use Rattle.mj_delta.proofs.Laid.{insert_cases, insert_none}
use Rattle.mj_delta.proofs.Told.{told}
use Rattle.mj_delta.proofs.Exact.{IsSaid, AreSaid, IsExactPlan}
use Rattle.mj_delta.proofs.Exact.IsSaid.{a_dentry, a_head, a_begun, a_removed}
use Rattle.mj_delta.proofs.ExactUpdates.{OpensAre, new_is, update_exact}
use Rattle.mj_delta.proofs.ExactParts.{planned_at, planned_other, AreQuiet, quiet_records, IsVisible, exact_from, recorded_kept, place_from}
use Rattle.mj_delta.proofs.Primaries.{stays_there}

-- ---- plans of no dentry and of one

abbrev pub no_plan : Plan
no_plan = record { dentries = empty; removed = None }

pub nothing_said : (t : Table) → AreSaid t no_plan None []
nothing_said t = record { each = λ w l. absurd l; all = none }
  where
    none : (w : CellWrite) → IsSaid t no_plan None w → Lies w []
    none _ (a_dentry q n e) = absurd (none_some n (sym (get_empty place_cmp q) ∙ e))
    none _ (a_head q n e) = absurd (none_some n (sym (get_empty place_cmp q) ∙ e))
    none _ (a_begun d e) = absurd (none_some d e)
    none _ (a_removed d e) = absurd (none_some d e)

abbrev pub one_plan : ℕ × List ℕ → Option Naming → Plan
one_plan p n = record { dentries = insert empty p n; removed = None }

pub one_at : (p : ℕ × List ℕ) (n : Option Naming) → get (insert {R = place_cmp} empty p n) p ≡ Some n
one_at p n = insert_same exact_place empty p n

pub one_other : (p : ℕ × List ℕ) (n : Option Naming) (q : ℕ × List ℕ) → (q ≡ p → ⊥) → get (insert {R = place_cmp} empty p n) q ≡ None
one_other p n q ne = insert_none exact_place empty p n q ne ∙ get_empty place_cmp q

pub one_cases : (p : ℕ × List ℕ) (n : Option Naming) (q : ℕ × List ℕ) (o : Option Naming) → get (insert {R = place_cmp} empty p n) q ≡ Some o → (q ≡ p) × (o ≡ n)
one_cases p n q o e = elim (insert_cases exact_place empty p n q o e) [ inl w ↦ w | inr w ↦ absurd (none_some o (sym (get_empty place_cmp q) ∙ w.1)) ]

pub one_said : (t : Table) (p : ℕ × List ℕ) (n : Option Naming) → AreSaid t (one_plan p n) None (write (key.DirHead p.0) (value.Number (next_version t p.0)) ∷ write (key.Dentry p.0 p.1) (written (next_version t p.0) n) ∷ [])
one_said t p n = record { each = each; all = all }
  where
    each : (w : CellWrite) → Lies w (write (key.DirHead p.0) (value.Number (next_version t p.0)) ∷ write (key.Dentry p.0 p.1) (written (next_version t p.0) n) ∷ []) → IsSaid t (one_plan p n) None w
    each w (inl e) = subst (IsSaid t (one_plan p n) None) e (a_head p n (one_at p n))
    each w (inr (inl e)) = subst (IsSaid t (one_plan p n) None) e (a_dentry p n (one_at p n))
    each w (inr (inr l)) = absurd l

    all : (w : CellWrite) → IsSaid t (one_plan p n) None w → Lies w (write (key.DirHead p.0) (value.Number (next_version t p.0)) ∷ write (key.Dentry p.0 p.1) (written (next_version t p.0) n) ∷ [])
    all _ (a_dentry q o e) = let w = one_cases p n q o e in inr (inl (λ z. write (key.Dentry (sym w.0 z).0 (sym w.0 z).1) (written (next_version t (sym w.0 z).0) (sym w.1 z))))
    all _ (a_head q o e) = let w = one_cases p n q o e in inl (λ z. write (key.DirHead (sym w.0 z).0) (value.Number (next_version t (sym w.0 z).0)))
    all _ (a_begun d e) = absurd (none_some d e)
    all _ (a_removed d e) = absurd (none_some d e)

-- ---- full dentries that stay where they stand

module _ (rank : ℕ) (t : Table) (s : PlainState) (is : IsTreeOf rank t s) (r : ClientRequest) (s1 : PlainState) (t1 : Table) (primary : Places) (m : HasDentries rank t1 s1 primary)
    (links : (after (tree_of rank t) r).links ≡ s1.links) (opens : (after (tree_of rank t) r).opens ≡ s1.opens) where
  -- one that was recorded, whose full dentry and name stay
  pub place_stays : (i : ℕ) (a : Attributes) → get s1.records i ≡ Some a → IsSome (get s.records i)
      → ((p : ℕ × List ℕ) → get is.primary i ≡ Some p → (is_held rank s1 p.0 ≡ true) × (full_of (get t1.dentries p) ≡ Some i) × (get s.links p ≡ Some i → get s1.links p ≡ Some i)) → new_primary rank t r i ≡ get primary i
  place_stays i a e was stays =
      let b = some_is (get s.records i) was in
      let p = record_primary rank t s is.primary is.dentries i b.0 b.1 in
      let x = stays p.0 p.1 in
      place_from rank t1 s1 primary m i (new_primary rank t r i) p.0 (stays_there rank t s is r s1 links opens i p.0 p.1 (recorded_kept rank t1 s1 primary m i a e) x.2) x.0 x.1

-- ---- an update that leaves records as they are, but for what they say

module _ (rank : ℕ) (t : Table) (s : PlainState) (is : IsTreeOf rank t s) (r : ClientRequest) (sent : IsSent r) (i : ℕ) (change : Change) (can : CanChange s r i change)
    (opened released : Option ℕ) (lumps : List DirLump) (plan_is : IsPlan rank t s r i change None opened released lumps) (decided : decision s r ≡ Accepted i change)
    (next : (changed s change).next ≡ s.next) (opens_are : OpensAre r.client s (changed s change) opened released)
    (quiet : AreQuiet s (changed s change)) (link_stays : (x : ℕ × List ℕ) (j : ℕ) → get s.links x ≡ Some j → get (changed s change).links x ≡ Some j)
    (plan : Plan) (none_removed : plan.removed ≡ None) (said : AreSaid t plan None (flat_map lump_writes lumps))
    (full_stays : (j : ℕ) (p : ℕ × List ℕ) (n : Option Naming) → get is.primary j ≡ Some p → get plan.dentries p ≡ Some n → (x : InodeRecord) × (n ≡ Some (Full x)) × (x.ino ≡ j))
    (seen : (q : ℕ × List ℕ) (n : Option Naming) → get plan.dentries q ≡ Some n → ((q.0 ≡ stray_ino rank → ⊥) × (is_dir (changed s change) q.0 ≡ true)) ⊎ ((q.0 ≡ stray_ino rank) × IsVisible (changed s change) n))
    (differs : (q : ℕ × List ℕ) (n : Option Naming) → get plan.dentries q ≡ Some n → told rank t s q ≡ n → ⊥) where
  abbrev s1 : PlainState
  s1 = changed s change

  abbrev t1 : Table
  t1 = planned t r None opened released lumps

  at : (q : ℕ × List ℕ) (n : Option Naming) → get plan.dentries q ≡ Some n → get t1.dentries q ≡ dentry_of (written (next_version t q.0) n)
  at q n e = planned_at t r None opened released lumps plan None said q n e

  other : (q : ℕ × List ℕ) → get plan.dentries q ≡ None → get t1.dentries q ≡ get t.dentries q
  other q e = planned_other t r None opened released lumps plan None said q e

  exact : IsExactPlan rank t s t1 s1 plan None
  exact = exact_from rank t s t1 s1 plan None at other (quiet_records s s1 plan none_removed quiet)
      (λ d which n. elim which [ inl e ↦ absurd (none_some d e) | inr e ↦ absurd (none_some d (sym none_removed ∙ e)) ])
      (λ q v x none e st. quiet.there x.ino) seen differs

  full_there : (j : ℕ) (p : ℕ × List ℕ) → get is.primary j ≡ Some p → full_of (get t1.dentries p) ≡ Some j
  full_there j p e = elim (cases_option (get plan.dentries p)) [
    | inl none ↦ ap full_of (other p none) ∙ is.dentries.primary_full j p e
    | inr w ↦ let x = full_stays j p w.0 e w.1 in ap full_of (at p w.0 w.1 ∙ ap (λ n. dentry_of (written (next_version t p.0) n)) x.1) ∙ ap Some x.2
  ]

  held_same : (d : ℕ) → is_held rank s1 d ≡ is_held rank s d
  held_same d = ap (λ b. ((d == root) || b) || (d == stray_ino rank)) (quiet.dirs d)

  new_links : (after (tree_of rank t) r).links ≡ s1.links
  new_links = ap (λ (x : PlainState). x.links) (new_is rank t s is r sent i change can None opened released lumps plan_is decided (inl (refl, next)) opens_are)

  new_opens : (after (tree_of rank t) r).opens ≡ s1.opens
  new_opens = ap (λ (x : PlainState). x.opens) (new_is rank t s is r sent i change can None opened released lumps plan_is decided (inl (refl, next)) opens_are)

  places : (j : ℕ) (a : Attributes) → get s1.records j ≡ Some a → new_primary rank t r j ≡ get plan_is.primary j
  places j a e = place_stays rank t s is r s1 t1 plan_is.primary plan_is.dentries new_links new_opens j a e (sym (quiet.there j) ∙ ap is_some e)
      (λ p h. (held_same p.0 ∙ is.dentries.primary_held j p h, full_there j p h, link_stays p j))

  pub quiet_exact : IsExactDelta rank t r (event.Update (update_of s r i None opened released lumps))
  quiet_exact = update_exact rank t s is r sent i change can None opened released lumps plan_is decided (inl (refl, next)) opens_are places plan None exact said
