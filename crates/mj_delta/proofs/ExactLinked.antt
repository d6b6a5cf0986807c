-- The event of a second link is the exact one.
use Rattle.std.proofs.Common.{◌≡◌, ℕ, ◌+◌, cond, List, [], ◌∷◌, Option, Some, None, Ok, refl, sym, ap, subst, ◌∙◌, ◌⊎◌, inl, inr, arith}
use Rattle.std.specs.Prelude.{◌==◌, nat_lt, is_some, if◌then◌else◌}
use Rattle.std.specs.List.{flat_map}
use Rattle.std.proofs.lemmas.Bool.{cases_Bool, eqb-true}
use Rattle.mj_base.specs.declared.record.InodeRecord.{InodeRecord}
use Rattle.mj_maps.specs.Map.{get}
use Rattle.mj_maps.proofs.MapLaws.{exact_place, none_some, some_same, insert_other, eq_false}
use Rattle.mj_tree.specs.declared.change.Attributes.{Attributes}
use Rattle.mj_tree.specs.declared.change.Change.TheVariants as change
use Rattle.mj_tree.specs.declared.change.Decision.TheVariants.{Accepted}
use Rattle.mj_tree.specs.declared.request.ClientRequest.{ClientRequest}
use Rattle.mj_tree.specs.State.{PlainState, is_dir, link_count, record_of, attributes_of}
use Rattle.mj_tree.specs.Answer.{decision}
use Rattle.mj_cells.specs.declared.cell.CellKey.TheVariants as key
use Rattle.mj_cells.specs.declared.cell.CellValue.TheVariants as value
use Rattle.mj_cells.specs.declared.cell.CellWrite.{CellWrite}
use Rattle.mj_cells.specs.Table.{Dentry, Table}
use Rattle.mj_meta.specs.declared.DirLump.{DirLump}
use Rattle.mj_event.specs.declared.Event.TheVariants as event
use Rattle.mj_event.specs.Writes.{write, lump_writes}
use Rattle.mj_machine.specs.Delta.{IsExactDelta}
use Rattle.mj_delta.specs.Reads.{names, full_of, stored_links}
use Rattle.mj_delta.specs.TreeOf.{HasDentries, IsTreeOf}
use Rattle.mj_delta.specs.Fits.{IsSent}
use Rattle.mj_delta.specs.Events.{next_version, update_of, full_lump, full_place, remote_lump, both_lump, second_lumps, link_lumps, link_event}
use Rattle.mj_delta.specs.Plan.Naming.{Full, Remote}
use Rattle.mj_delta.specs.Plan.{Naming, naming, Plan}
use Rattle.mj_delta.proofs.Facts.{full_named, held_cases}
use Rattle.mj_delta.proofs.Lists.{Lies}
use Rattle.mj_delta.proofs.Decided.{CanChange, CanLink, meant, effect_found}
use Rattle.mj_delta.proofs.Held.{HasRecord, linked_record}
use Rattle.mj_delta.proofs.Placed.{place_is}
use Rattle.mj_delta.proofs.Updated.{IsPlan}
use Rattle.mj_delta.proofs.Linked.{link_plan}
use Rattle.mj_delta.proofs.Plans.{written}
use Rattle.mj_delta.proofs.Told.{told}
use Rattle.mj_delta.proofs.Exact.{IsSaid, AreSaid}
use Rattle.mj_delta.proofs.Exact.IsSaid.{a_dentry, a_head, a_begun, a_removed}
use Rattle.mj_delta.proofs.ExactUpdates.OpensAre.{as_before}
use Rattle.mj_delta.proofs.ExactParts.{IsVisible, told_in_dir}
use Rattle.mj_delta.proofs.ExactQuiet.{quiet_exact}
use Rattle.mj_delta.proofs.ExactChange.{both, both_first, both_second, both_cases, dir_far, told_record}

module _ (rank : ℕ) (t : Table) (s : PlainState) (is : IsTreeOf rank t s) (r : ClientRequest) (sent : IsSent r) (q : ℕ × List ℕ) (i : ℕ) (can : CanChange s r i (change.Link q i)) (decided : decision s r ≡ Accepted i (change.Link q i)) (link : CanLink s q i) where
  abbrev m : HasDentries rank t s is.primary
  m = is.dentries

  abbrev its : HasRecord t s is.primary i
  its = linked_record rank t s is.primary m i link.linked

  abbrev p : ℕ × List ℕ
  p = its.place

  abbrev a : Attributes
  a = attributes_of its.inode

  abbrev y : InodeRecord
  y = record_of i (link_count s i + 1) a

  abbrev v : ℕ
  v = next_version t p.0

  abbrev w : ℕ
  w = next_version t q.0

  abbrev plan : Plan
  plan = record { dentries = both p (Some (Full y)) q (Some (Remote i a.kind)); removed = None }

  free_cell : names (get t.dentries q) ≡ None
  free_cell = sym (ap (λ b. cond b (names (get t.dentries q)) None) link.parent) ∙ sym (m.links q) ∙ link.free

  p_not_q : p ≡ q → ⊥
  p_not_q e = none_some i (sym free_cell ∙ ap (λ q. names (get t.dentries q)) (sym e) ∙ full_named _ i (m.primary_full i p its.stands))

  at_p : get plan.dentries p ≡ Some (Some (Full y))
  at_p = both_first p (Some (Full y)) q (Some (Remote i a.kind)) p_not_q

  at_q : get plan.dentries q ≡ Some (Some (Remote i a.kind))
  at_q = both_second p (Some (Full y)) q (Some (Remote i a.kind))

  cases : (z : ℕ × List ℕ) (n : Option Naming) → get plan.dentries z ≡ Some n → ((z ≡ q) × (n ≡ Some (Remote i a.kind))) ⊎ ((z ≡ p) × (n ≡ Some (Full y)))
  cases z n e = both_cases p (Some (Full y)) q (Some (Remote i a.kind)) z n e

  -- ---- what the lumps say, in each of the orders

  head_p : IsSaid t plan None (write (key.DirHead p.0) (value.Number v))
  head_p = a_head p (Some (Full y)) at_p

  dentry_p : IsSaid t plan None (write (key.Dentry p.0 p.1) (value.Full v y))
  dentry_p = a_dentry p (Some (Full y)) at_p

  head_q : IsSaid t plan None (write (key.DirHead q.0) (value.Number w))
  head_q = a_head q (Some (Remote i a.kind)) at_q

  dentry_q : IsSaid t plan None (write (key.Dentry q.0 q.1) (value.Remote w i a.kind))
  dentry_q = a_dentry q (Some (Remote i a.kind)) at_q

  abbrev Says : List DirLump → Type 0
  Says ls = AreSaid t plan None (flat_map lump_writes ls)

  -- where each of the four is there
  module _ (ws : List CellWrite) (hp : Lies (write (key.DirHead p.0) (value.Number v)) ws) (dp : Lies (write (key.Dentry p.0 p.1) (value.Full v y)) ws)
      (hq : Lies (write (key.DirHead q.0) (value.Number w)) ws) (dq : Lies (write (key.Dentry q.0 q.1) (value.Remote w i a.kind)) ws) where
    all_there : (x : CellWrite) → IsSaid t plan None x → Lies x ws
    all_there _ (a_dentry z n e) = elim (cases z n e) [
      | inl u ↦ subst (λ x. Lies x ws) (λ k. write (key.Dentry (sym u.0 k).0 (sym u.0 k).1) (written (next_version t (sym u.0 k).0) (sym u.1 k))) dq
      | inr u ↦ subst (λ x. Lies x ws) (λ k. write (key.Dentry (sym u.0 k).0 (sym u.0 k).1) (written (next_version t (sym u.0 k).0) (sym u.1 k))) dp
    ]
    all_there _ (a_head z n e) = elim (cases z n e) [
      | inl u ↦ subst (λ x. Lies x ws) (λ k. write (key.DirHead (sym u.0 k).0) (value.Number (next_version t (sym u.0 k).0))) hq
      | inr u ↦ subst (λ x. Lies x ws) (λ k. write (key.DirHead (sym u.0 k).0) (value.Number (next_version t (sym u.0 k).0))) hp
    ]
    all_there _ (a_begun d e) = absurd (none_some d e)
    all_there _ (a_removed d e) = absurd (none_some d e)

  full_first_says : Says (full_lump p.0 v p.1 y ∷ remote_lump q.0 w q.1 i a.kind ∷ [])
  full_first_says = record { each = each; all = all_there (flat_map lump_writes (full_lump p.0 v p.1 y ∷ remote_lump q.0 w q.1 i a.kind ∷ [])) (inl refl) (inr (inl refl)) (inr (inr (inl refl))) (inr (inr (inr (inl refl)))) }
    where
      each : (x : CellWrite) → Lies x (flat_map lump_writes (full_lump p.0 v p.1 y ∷ remote_lump q.0 w q.1 i a.kind ∷ [])) → IsSaid t plan None x
      each x (inl e) = subst (IsSaid t plan None) e head_p
      each x (inr (inl e)) = subst (IsSaid t plan None) e dentry_p
      each x (inr (inr (inl e))) = subst (IsSaid t plan None) e head_q
      each x (inr (inr (inr (inl e)))) = subst (IsSaid t plan None) e dentry_q
      each x (inr (inr (inr (inr l)))) = absurd l

  remote_first_says : Says (remote_lump q.0 w q.1 i a.kind ∷ full_lump p.0 v p.1 y ∷ [])
  remote_first_says = record { each = each; all = all_there (flat_map lump_writes (remote_lump q.0 w q.1 i a.kind ∷ full_lump p.0 v p.1 y ∷ [])) (inr (inr (inl refl))) (inr (inr (inr (inl refl)))) (inl refl) (inr (inl refl)) }
    where
      each : (x : CellWrite) → Lies x (flat_map lump_writes (remote_lump q.0 w q.1 i a.kind ∷ full_lump p.0 v p.1 y ∷ [])) → IsSaid t plan None x
      each x (inl e) = subst (IsSaid t plan None) e head_q
      each x (inr (inl e)) = subst (IsSaid t plan None) e dentry_q
      each x (inr (inr (inl e))) = subst (IsSaid t plan None) e head_p
      each x (inr (inr (inr (inl e)))) = subst (IsSaid t plan None) e dentry_p
      each x (inr (inr (inr (inr l)))) = absurd l

  in_one_says : p.0 ≡ q.0 → Says (both_lump q.0 w p.1 y q.1 ∷ [])
  in_one_says same = record {
    each = each;
    all = all_there (flat_map lump_writes (both_lump q.0 w p.1 y q.1 ∷ [])) (inl (λ k. write (key.DirHead (sym same k)) (value.Number (next_version t (sym same k))))) (inr (inl (λ k. write (key.Dentry (sym same k) p.1) (value.Full (next_version t (sym same k)) y)))) (inl refl) (inr (inr (inl refl)));
  }
    where
      each : (x : CellWrite) → Lies x (flat_map lump_writes (both_lump q.0 w p.1 y q.1 ∷ [])) → IsSaid t plan None x
      each x (inl e) = subst (IsSaid t plan None) e head_q
      each x (inr (inl e)) = subst (IsSaid t plan None) ((λ k. write (key.Dentry (same k) p.1) (value.Full (next_version t (same k)) y)) ∙ e) dentry_p
      each x (inr (inr (inl e))) = subst (IsSaid t plan None) e dentry_q
      each x (inr (inr (inr l))) = absurd l

  says_all : Says (second_lumps t p q y)
  says_all = elim (cases_Bool (p.0 == q.0)) [
    | inl same ↦ subst Says (ap (λ b. if b then both_lump q.0 w p.1 y q.1 ∷ [] else (if nat_lt p.0 q.0 then full_lump p.0 v p.1 y ∷ remote_lump q.0 w q.1 i a.kind ∷ [] else remote_lump q.0 w q.1 i a.kind ∷ full_lump p.0 v p.1 y ∷ [])) (sym same)) (in_one_says (eqb-true p.0 q.0 same))
    | inr other ↦ elim (cases_Bool (nat_lt p.0 q.0)) [
      | inl lt ↦ subst Says (λ z. if sym other z then both_lump q.0 w p.1 y q.1 ∷ [] else (if sym lt z then full_lump p.0 v p.1 y ∷ remote_lump q.0 w q.1 i a.kind ∷ [] else remote_lump q.0 w q.1 i a.kind ∷ full_lump p.0 v p.1 y ∷ [])) full_first_says
      | inr ge ↦ subst Says (λ z. if sym other z then both_lump q.0 w p.1 y q.1 ∷ [] else (if sym ge z then full_lump p.0 v p.1 y ∷ remote_lump q.0 w q.1 i a.kind ∷ [] else remote_lump q.0 w q.1 i a.kind ∷ full_lump p.0 v p.1 y ∷ [])) remote_first_says
    ]
  ]

  -- ---- the change

  none_known : told rank t s q ≡ None
  none_known = told_in_dir rank s s q (dir_far rank t s is.primary m q.0 link.parent) link.parent (get t.dentries q) ∙ none_naming (get t.dentries q) free_cell
    where
      none_naming : (o : Option Dentry) → names o ≡ None → naming o ≡ None
      none_naming None e = refl
      none_naming (Some d) e = absurd (none_some _ (sym e))

  more_links : its.inode ≡ y → ⊥
  more_links e =
      let stored : its.inode.links ≡ link_count s i = ap stored_links (sym its.full) ∙ m.counts i p its.stands in
      let more : its.inode.links ≡ link_count s i + 1 = ap (λ (z : InodeRecord). z.links) e in
      omega (arith, stored, more)

  second_exact : IsPlan rank t s r i (change.Link q i) None None None (second_lumps t p q y) → IsExactDelta rank t r (event.Update (update_of s r i None None None (second_lumps t p q y)))
  second_exact plan_is = quiet_exact rank t s is r sent i (change.Link q i) can None None (second_lumps t p q y) plan_is decided refl (as_before refl)
      (record { there = λ j. refl; dirs = λ d. refl })
      (λ x j l. insert_other exact_place s.links q i x (eq_false exact_place x q (λ e. none_some j (sym link.free ∙ ap (get s.links) (sym e) ∙ l))) ∙ l)
      plan refl says_all
      (λ j x n h e. elim (cases x n e) [
        | inl u ↦ absurd (none_some j (sym free_cell ∙ ap (λ q. names (get t.dentries q)) (sym u.0) ∙ full_named _ j (m.primary_full j x h)))
        | inr u ↦ (y, u.1, some_same i j (sym (m.primary_full i p its.stands) ∙ ap (λ q. full_of (get t.dentries q)) (sym u.0) ∙ m.primary_full j x h))
      ])
      (λ z n e. elim (cases z n e) [
        | inl u ↦ inl (λ st. dir_far rank t s is.primary m q.0 link.parent (ap (λ (z : ℕ × List ℕ). z.0) (sym u.0) ∙ st), ap (λ (z : ℕ × List ℕ). is_dir s z.0) u.0 ∙ link.parent)
        | inr u ↦ elim (held_cases rank t s is.primary m p.0 (m.primary_held i p its.stands)) [
          | inl dir ↦ inl (λ st. dir_far rank t s is.primary m p.0 dir (ap (λ (z : ℕ × List ℕ). z.0) (sym u.0) ∙ st), ap (λ (z : ℕ × List ℕ). is_dir s z.0) u.0 ∙ dir)
          | inr st ↦ inr (ap (λ (z : ℕ × List ℕ). z.0) u.0 ∙ st, subst (IsVisible s) (sym u.1) (ap is_some its.said))
        ]
      ])
      (λ z n e k. elim (cases z n e) [
        | inl u ↦ none_some (Remote i a.kind) (sym none_known ∙ ap (told rank t s) (sym u.0) ∙ k ∙ u.1)
        | inr u ↦ more_links (full_one (sym (told_record rank t s is.primary m i its) ∙ ap (told rank t s) (sym u.0) ∙ k ∙ u.1))
      ])
    where
      full_one : {u v : InodeRecord} → ◌≡◌ {A = Option Naming} (Some (Full u)) (Some (Full v)) → u ≡ v
      full_one f = cc

  link_whole : IsExactDelta rank t r (event.Update (update_of s r i None None None (link_lumps t s (full_place rank t r i) q i (get s.records i))))
  link_whole =
      let place = place_is rank t s is r i p its.stands in
      let whole : link_lumps t s (full_place rank t r i) q i (get s.records i) ≡ second_lumps t p q y = λ z. link_lumps t s (place z) q i (its.said z) in
      subst (λ ls. IsExactDelta rank t r (event.Update (update_of s r i None None None ls))) (sym whole) (second_exact (subst (IsPlan rank t s r i (change.Link q i) None None None) whole (link_plan rank t s is q i link r)))

pub link_exact : (rank : ℕ) (t : Table) (s : PlainState) (r : ClientRequest) (i j : ℕ) (q : ℕ × List ℕ) → IsTreeOf rank t s → IsSent r → decision s r ≡ Accepted i (change.Link q j) → IsExactDelta rank t r (link_event rank t s r q i)
link_exact rank t s r i j q is sent d =
    let found = effect_found s r sent is.dentries.next_fits (Ok (i, change.Link q j)) (meant s r (Accepted i (change.Link q j)) d).done in
    let same : decision s r ≡ Accepted i (change.Link q i) = d ∙ ap (λ k. Accepted i (change.Link q k)) found.0 in
    link_whole rank t s is r sent q i (meant s r (Accepted i (change.Link q i)) same) same (subst (λ k. CanLink s q k) found.0 found.1)
