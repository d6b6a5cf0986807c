-- Where the full dentry of an inode is to stand after a request.
use Rattle.std.proofs.Common.{◌≡◌, ℕ, true, false, cond, List, [], ◌∷◌, Option, Some, None, refl, sym, ap, ◌∙◌, inl, inr}
use Rattle.std.specs.Prelude.{◌==◌, if◌then◌else◌}
use Rattle.std.specs.Option.{option_map}
use Rattle.std.proofs.lemmas.Bool.{false≢true, eqb-true, eq-eqb, ne_eqb, and_from}
use Rattle.mj_base.specs.ObjectName.{hex, stray_ino}
use Rattle.mj_maps.specs.Map.{Map, entries, get}
use Rattle.mj_maps.specs.Orders.{place_cmp}
use Rattle.mj_maps.proofs.MapLaws.{exact_place, none_some}
use Rattle.mj_tree.specs.declared.request.ClientRequest.{ClientRequest}
use Rattle.mj_tree.specs.State.{PlainState, is_dir, is_kept}
use Rattle.mj_tree.specs.Answer.{after}
use Rattle.mj_cells.specs.Table.{Table}
use Rattle.mj_cells.specs.Table.Dentry.{Full}
use Rattle.mj_recovery.specs.Tree.{Entry, holding, tree_of}
use Rattle.mj_machine.specs.Delta.{is_full_at, primary, stray_place, names, new_place, one_of, primary_from, new_primary}
use Rattle.mj_delta.specs.Reads.{full_of}
use Rattle.mj_delta.specs.Reads as reads
use Rattle.mj_delta.specs.TreeOf.{HasDentries, IsTreeOf}
use Rattle.mj_delta.proofs.Facts.{cases_option, full_cell, full_named, held_cases, stray_no_dir}
use Rattle.mj_delta.proofs.Lists.{entry_at, at_entry}
use Rattle.mj_delta.proofs.TreeIs.{among_held}
use Rattle.mj_delta.proofs.Placed.{first_passes, full_passes}
use Rattle.mj_delta.proofs.Told.{find_cases}

module _ (rank : ℕ) (t : Table) (s : PlainState) (is : IsTreeOf rank t s) (r : ClientRequest) where
  abbrev m : HasDentries rank t s is.primary
  m = is.dentries

  -- the full dentry that is looked up is the one that stands there
  pub primary_is : (i : ℕ) → primary rank t r i ≡ get is.primary i
  primary_is i = elim (cases_option (get is.primary i)) [
    | inr w ↦
        let q = w.0 in
        let f = full_cell (get t.dentries q) i (m.primary_full i q w.1) in
        let lies = at_entry exact_place t.dentries q (Full f.0 f.1) f.2 in
        let passes = and_from _ _ (among_held rank t s is q.0 ∙ m.primary_held i q w.1) (eq-eqb f.1.ino i f.3) in
        let x = first_passes (is_full_at rank t r (holding rank t) i) (entries t.dentries) (q, Full f.0 f.1) lies passes in
        let there = full_passes rank t s is r x.0.0 x.0.1 i x.3 (entry_at exact_place t.dentries x.0 x.2) in
        ap (option_map (λ (e : Entry). e.0)) x.1 ∙ sym there
    | inl none ↦ elim (find_cases (is_full_at rank t r (holding rank t) i) (entries t.dentries)) [
      | inl w ↦ ap (option_map (λ (e : Entry). e.0)) w.0 ∙ sym none
      | inr w ↦ absurd (none_some w.0.0 (sym none ∙ full_passes rank t s is r w.0.0 w.0.1 i w.3 (entry_at exact_place t.dentries w.0 w.2)))
    ]
  ]

  module _ (s1 : PlainState) (links : (after (tree_of rank t) r).links ≡ s1.links) (opens : (after (tree_of rank t) r).opens ≡ s1.opens) where
    abbrev new : PlainState
    new = after (tree_of rank t) r

    kept_is : (i : ℕ) → is_kept new i ≡ is_kept s1 i
    kept_is i = λ z. is_kept (record s1 { links = links z; opens = opens z }) i

    new_from : (i : ℕ) (o : Option (ℕ × List ℕ)) → get is.primary i ≡ o → new_primary rank t r i ≡ primary_from rank t r i o
    new_from i o e = ap (primary_from rank t r i) (primary_is i ∙ e)

    linked : (q : ℕ × List ℕ) (i : ℕ) → get s1.links q ≡ Some i → names rank t r i (get new.links q) ≡ true
    linked q i l = ap (names rank t r i) (ap (λ (m : Map place_cmp ℕ). get m q) links ∙ l) ∙ eq-eqb i i refl

    not_named : (i : ℕ) (o : Option ℕ) → (o ≡ Some i → ⊥) → names rank t r i o ≡ false
    not_named i None ne = refl
    not_named i (Some j) ne = ne_eqb i j (λ e. ne (ap Some (sym e)))

    not_linked : (q : ℕ × List ℕ) (i : ℕ) → (get s1.links q ≡ Some i → ⊥) → names rank t r i (get new.links q) ≡ false
    not_linked q i ne = not_named i (get new.links q) (λ e. ne (sym (ap (λ (m : Map place_cmp ℕ). get m q) links) ∙ e))

    -- in stray it stays
    pub stays_in_stray : (i : ℕ) (p : ℕ × List ℕ) → get is.primary i ≡ Some p → p.0 ≡ stray_ino rank → is_kept s1 i ≡ true → new_primary rank t r i ≡ Some p
    stays_in_stray i p e st kept =
        let named : p.1 ≡ hex i = m.stray_names p.1 i ((λ z. reads.names (get t.dentries (sym st z, p.1))) ∙ full_named _ i (m.primary_full i p e)) in
        new_from i (Some p) e
        ∙ (λ z. one_of rank t r i (if eq-eqb p.0 (stray_ino rank) st z then [] else Some p ∷ new_place rank t r r.op ∷ []))
        ∙ (λ z. if (kept_is i ∙ kept) z then Some (stray_place rank t r i) else None)
        ∙ (λ z. Some (sym st z, sym named z))

    -- at a link it stays while that is the inode's
    pub stays_at_link : (i : ℕ) (p : ℕ × List ℕ) → get is.primary i ≡ Some p → (p.0 ≡ stray_ino rank → ⊥) → get s1.links p ≡ Some i → new_primary rank t r i ≡ Some p
    stays_at_link i p e far l =
        new_from i (Some p) e
        ∙ (λ z. one_of rank t r i (if ne_eqb p.0 (stray_ino rank) far z then [] else Some p ∷ new_place rank t r r.op ∷ []))
        ∙ (λ z. if linked p i l z then Some p else one_of rank t r i (new_place rank t r r.op ∷ []))

    -- where nothing takes its name away it stays
    pub stays_there : (i : ℕ) (p : ℕ × List ℕ) → get is.primary i ≡ Some p → is_kept s1 i ≡ true → (get s.links p ≡ Some i → get s1.links p ≡ Some i) → new_primary rank t r i ≡ Some p
    stays_there i p e kept link = elim (held_cases rank t s is.primary m p.0 (m.primary_held i p e)) [
      | inr st ↦ stays_in_stray i p e st kept
      | inl dir ↦
          let l : get s.links p ≡ Some i = m.links p ∙ (λ z. cond (dir z) (reads.names (get t.dentries p)) None) ∙ full_named _ i (m.primary_full i p e) in
          stays_at_link i p e (λ st. false≢true (sym (stray_no_dir rank t s is.primary m) ∙ ap (is_dir s) (sym st) ∙ dir)) (link l)
    ]

    -- it goes along with a rename
    pub moves_along : (i : ℕ) (p x : ℕ × List ℕ) → get is.primary i ≡ Some p → (p.0 ≡ stray_ino rank → ⊥) → (get s1.links p ≡ Some i → ⊥) → new_place rank t r r.op ≡ Some x → get s1.links x ≡ Some i → new_primary rank t r i ≡ Some x
    moves_along i p x e far gone place l =
        new_from i (Some p) e
        ∙ (λ z. one_of rank t r i (if ne_eqb p.0 (stray_ino rank) far z then [] else Some p ∷ new_place rank t r r.op ∷ []))
        ∙ (λ z. if not_linked p i gone z then Some p else one_of rank t r i (new_place rank t r r.op ∷ []))
        ∙ ap (λ o. one_of rank t r i (o ∷ [])) place
        ∙ (λ z. if linked x i l z then Some x else one_of rank t r i [])

    -- and else to stray
    pub goes_to_stray : (i : ℕ) (p : ℕ × List ℕ) (o : Option (ℕ × List ℕ)) → get is.primary i ≡ Some p → (p.0 ≡ stray_ino rank → ⊥) → (get s1.links p ≡ Some i → ⊥) → new_place rank t r r.op ≡ o
        → ((x : ℕ × List ℕ) → o ≡ Some x → get s1.links x ≡ Some i → ⊥) → is_kept s1 i ≡ true → new_primary rank t r i ≡ Some (stray_ino rank, hex i)
    goes_to_stray i p o e far gone place other kept =
        new_from i (Some p) e
        ∙ (λ z. one_of rank t r i (if ne_eqb p.0 (stray_ino rank) far z then [] else Some p ∷ new_place rank t r r.op ∷ []))
        ∙ (λ z. if not_linked p i gone z then Some p else one_of rank t r i (new_place rank t r r.op ∷ []))
        ∙ ap (λ o. one_of rank t r i (o ∷ [])) place ∙ past o other
        ∙ (λ z. if (kept_is i ∙ kept) z then Some (stray_place rank t r i) else None)
      where
        past : (o : Option (ℕ × List ℕ)) → ((x : ℕ × List ℕ) → o ≡ Some x → get s1.links x ≡ Some i → ⊥) → one_of rank t r i (o ∷ []) ≡ one_of rank t r i []
        past None h = refl
        past (Some x) h = λ z. if not_linked x i (h x refl) z then Some x else one_of rank t r i []

    -- of a new inode it is the one link
    pub begins_at : (i : ℕ) (q : ℕ × List ℕ) → get is.primary i ≡ None → get s1.links q ≡ Some i → ((x : ℕ × List ℕ) → get s1.links x ≡ Some i → x ≡ q) → new_primary rank t r i ≡ Some q
    begins_at i q e l one = new_from i None e ∙ elim (find_cases (λ (e : (ℕ × List ℕ) × ℕ). e.1 == i) (entries new.links)) [
      | inl w ↦ absurd (w.1 (q, i) (at_entry exact_place new.links q i (ap (λ (m : Map place_cmp ℕ). get m q) links ∙ l)) (eq-eqb i i refl))
      | inr w ↦ ap (option_map (λ (e : (ℕ × List ℕ) × ℕ). e.0)) w.1
          ∙ ap Some (one w.0.0 (sym (ap (λ (m : Map place_cmp ℕ). get m w.0.0) links) ∙ entry_at exact_place new.links w.0 w.2 ∙ ap Some (eqb-true w.0.1 i w.3)))
    ]
