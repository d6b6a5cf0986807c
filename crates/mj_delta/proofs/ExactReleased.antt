-- The event of a file that is let go is the exact one.
use Rattle.std.proofs.Common.{◌≡◌, ℕ, true, false, ◌||◌, List, [], ◌∷◌, Some, None, Ok, refl, sym, ap, subst, ◌∙◌, inl, inr, arith}
use Rattle.std.specs.Prelude.{IsSome, is_some, if◌then◌else◌}
use Rattle.std.proofs.lemmas.Bool.{cases_eq, eq-eqb, ne_eqb, or_right}
use Rattle.mj_base.specs.ObjectName.{hex, stray_ino}
use Rattle.mj_base.specs.declared.record.Kind.TheVariants.{File}
use Rattle.mj_maps.specs.Map.{get, remove}
use Rattle.mj_maps.proofs.MapLaws.{exact_nat, exact_place, none_some, some_same, remove_same, remove_other, eq_false, apart}
use Rattle.mj_tree.specs.declared.change.Change.TheVariants as change
use Rattle.mj_tree.specs.declared.change.Decision.TheVariants.{Accepted}
use Rattle.mj_tree.specs.declared.request.ClientRequest.{ClientRequest}
use Rattle.mj_tree.specs.State.{PlainState, root, is_dir, is_kept}
use Rattle.mj_tree.specs.Change.{settled}
use Rattle.mj_tree.specs.Answer.{decision}
use Rattle.mj_cells.specs.Table.{Table}
use Rattle.mj_meta.specs.declared.DirLump.{DirLump}
use Rattle.mj_event.specs.declared.Event.TheVariants as event
use Rattle.mj_machine.specs.Delta.{IsExactDelta}
use Rattle.mj_delta.specs.Reads.{full_of}
use Rattle.mj_delta.specs.TreeOf.{HasDentries, IsTreeOf}
use Rattle.mj_delta.specs.Fits.{IsSent}
use Rattle.mj_delta.specs.Events.{next_version, update_of, null_lump, release_lumps, release_event}
use Rattle.mj_delta.specs.Plan.Naming.{Full}
use Rattle.mj_delta.specs.Plan.{where_dir}
use Rattle.mj_delta.proofs.Facts.{ids, kind_record, record_primary}
use Rattle.mj_delta.proofs.Decided.{CanChange, meant, effect_found}
use Rattle.mj_delta.proofs.Held.{HasRecord}
use Rattle.mj_delta.proofs.Updated.{IsPlan, planned}
use Rattle.mj_delta.proofs.Released.{less, s1, file, its, kept_other, place, no_dir, held_same, far, release_plan}
use Rattle.mj_delta.proofs.Told.{told}
use Rattle.mj_delta.proofs.ExactUpdates.OpensAre.{one_less}
use Rattle.mj_delta.proofs.ExactParts.{planned_other, AreQuiet, IsVisible, gone_records, recorded_kept}
use Rattle.mj_delta.proofs.ExactQuiet.{no_plan, nothing_said, one_plan, one_at, one_other, one_cases, one_said, quiet_exact}
use Rattle.mj_delta.proofs.ExactChange.{IsExactChange, change_exact, told_record, recorded_record, unmoved}
use Rattle.mj_delta.proofs.ExactSteps.{no_dentry}

module _ (rank : ℕ) (t : Table) (s : PlainState) (is : IsTreeOf rank t s) (r : ClientRequest) (sent : IsSent r) (client i : ℕ) (can : CanChange s r i (change.Release client i)) (decided : decision s r ≡ Accepted i (change.Release client i))
    (whose : client ≡ r.client) (there : IsSome (get s.opens (client, i))) where
  abbrev m : HasDentries rank t s is.primary
  m = is.dentries

  abbrev open_less : PlainState
  open_less = less rank t s is client i there

  was_open : IsSome (get s.opens (r.client, i))
  was_open = subst (λ c. IsSome (get s.opens (c, i))) whose there

  it : HasRecord t s is.primary i
  it = let x = kind_record File (get s.records i) (file rank t s is client i there) in recorded_record rank t s is.primary m i x.0 x.1

  -- ---- something else keeps the record

  module _ (kept : is_kept open_less i ≡ true) (plan_is : IsPlan rank t s r i (change.Release client i) None None (Some i) []) where
    state : settled open_less i ≡ open_less
    state = ap (λ b. if b then open_less else record open_less { records = remove s.records i }) kept

    kept_exact : IsExactDelta rank t r (event.Update (update_of s r i None None (Some i) []))
    kept_exact = quiet_exact rank t s is r sent i (change.Release client i) can None (Some i) [] plan_is decided (ap (λ (z : PlainState). z.next) state) (one_less i was_open (ap (λ (z : PlainState). z.opens) state ∙ (λ z. remove s.opens (whose z, i))))
        (subst (AreQuiet s) (sym state) (record { there = λ j. refl; dirs = λ d. refl }))
        (λ x j l. ap (λ (z : PlainState). get z.links x) state ∙ l) no_plan refl (nothing_said t) (λ j p n _ e. no_dentry p n e) (λ q n e. no_dentry q n e) (λ q n e. no_dentry q n e)

  -- ---- nothing does

  module _ (goes : is_kept open_less i ≡ false) where
    abbrev z0 : ℕ × List ℕ
    z0 = (stray_ino rank, hex i)

    abbrev after_it : PlainState
    after_it = s1 rank t s is client i there goes

    abbrev lumps : List DirLump
    lumps = null_lump (stray_ino rank) (next_version t (stray_ino rank)) (hex i) ∷ []

    abbrev t1 : Table
    t1 = planned t r None None (Some i) lumps

    stands : it.place ≡ z0
    stands = some_same it.place z0 (sym it.stands ∙ (its rank t s is client i there).1 ∙ ap Some (place rank t s is client i there goes))

    i_no_root : i ≡ root → ⊥
    i_no_root e = omega (arith, (ids rank).root, m.above i it.place it.stands, e)

    i_no_dir : is_dir s i ≡ false
    i_no_dir = λ z. ne_eqb i root i_no_root z || no_dir rank t s is client i there goes z

    no_file_dir : where_dir s i ≡ None
    no_file_dir = ap (λ b. if b then Some i else None) i_no_dir

    at_other : (x : ℕ × List ℕ) → (x ≡ z0 → ⊥) → get t1.dentries x ≡ get t.dentries x
    at_other x ne = planned_other t r None None (Some i) lumps (one_plan z0 None) None (one_said t z0 None) x (one_other z0 None x ne)

    record_other : (j : ℕ) → (j ≡ i → ⊥) → get after_it.records j ≡ get s.records j
    record_other j ne = remove_other exact_nat s.records i j (eq_false exact_nat j i ne)

    change_is : IsExactChange rank t s r after_it t1 (one_plan z0 None) None
    change_is = record {
      records = gone_records s after_it (one_plan z0 None) i i_no_root refl (sym no_file_dir);
      empty = λ d which n. elim which [ inl e ↦ absurd (none_some d e) | inr e ↦ absurd (none_some d e) ];
      stray = λ q v x none e st. elim (cases_eq x.ino i) [
        | inr ne ↦ ap is_some (record_other x.ino ne)
        | inl same ↦
            let p = m.each_primary i q (or_right (is_dir s q.0) _ (eq-eqb q.0 (stray_ino rank) st)) (ap full_of e ∙ ap Some same) in
            let at : q ≡ z0 = some_same q z0 (sym p ∙ it.stands ∙ ap Some stands) in
            absurd (none_some None (sym none ∙ ap (get (one_plan z0 None).dentries) at ∙ one_at z0 None))
      ];
      seen = λ q n e. let w = one_cases z0 None q n e in inr (ap (λ (q : ℕ × List ℕ). q.0) w.0, subst (IsVisible after_it) (sym w.1) tt);
      differs = λ q n e k. let w = one_cases z0 None q n e in none_some (Full it.inode) (sym w.1 ∙ sym k ∙ ap (told rank t s) (w.0 ∙ sym stands) ∙ told_record rank t s is.primary m i it);
      places = λ links opens j a e.
          let ne : j ≡ i → ⊥ = λ same. none_some a (sym (remove_same exact_nat s.records i) ∙ ap (get after_it.records) (sym same) ∙ e) in
          let was : get s.records j ≡ Some a = sym (record_other j ne) ∙ e in
          let p = record_primary rank t s is.primary m j a was in
          let apart_z0 : p.0 ≡ z0 → ⊥ = apart exact_place p.0 z0 (far rank t s is client i there goes j p.0 (λ same. ne (sym same)) p.1) in
          unmoved rank t s is r after_it t1 links opens j p.0 p.1 (kept_other rank t s is client i there j (λ same. ne (sym same)) ∙ recorded_kept rank t s is.primary m j a was)
          (held_same rank t s is client i there goes p.0.0 ∙ m.primary_held j p.0 p.1) (ap full_of (at_other p.0 apart_z0) ∙ m.primary_full j p.0 p.1) (λ l. l);
    }

    gone_exact : IsPlan rank t s r i (change.Release client i) None None (Some i) lumps → IsExactDelta rank t r (event.Update (update_of s r i None None (Some i) lumps))
    gone_exact plan_is =
        let state : settled open_less i ≡ after_it = ap (λ b. if b then open_less else record open_less { records = remove s.records i }) goes in
        change_exact rank t s is r sent i (change.Release client i) can None None (Some i) lumps plan_is decided (inl (refl, ap (λ (z : PlainState). z.next) state)) (one_less i was_open (ap (λ (z : PlainState). z.opens) state ∙ (λ z. remove s.opens (whose z, i))))
        (one_plan z0 None) None (one_said t z0 None) (subst (λ z. IsExactChange rank t s r z t1 (one_plan z0 None) None) (sym state) change_is)

  release_bare : IsExactDelta rank t r (event.Update (update_of s r i None None (Some i) (release_lumps rank t s client i)))
  release_bare = elim (is_kept open_less i) as (λ b. is_kept open_less i ≡ b → IsPlan rank t s r i (change.Release client i) None None (Some i) (if b then [] else null_lump (stray_ino rank) (next_version t (stray_ino rank)) (hex i) ∷ [])
      → IsExactDelta rank t r (event.Update (update_of s r i None None (Some i) (if b then [] else null_lump (stray_ino rank) (next_version t (stray_ino rank)) (hex i) ∷ [])))) [
        | true ↦ λ kept plan. kept_exact kept plan
        | false ↦ λ goes plan. gone_exact goes plan
      ] refl (release_plan rank t s is client i there r whose)

pub release_exact : (rank : ℕ) (t : Table) (s : PlainState) (r : ClientRequest) (i client j : ℕ) → IsTreeOf rank t s → IsSent r → decision s r ≡ Accepted i (change.Release client j) → IsExactDelta rank t r (release_event rank t s r i)
release_exact rank t s r i client j is sent d =
    let found = effect_found s r sent is.dentries.next_fits (Ok (i, change.Release client j)) (meant s r (Accepted i (change.Release client j)) d).done in
    let same : decision s r ≡ Accepted i (change.Release client i) = d ∙ ap (λ k. Accepted i (change.Release client k)) found.0 in
    let can = meant s r (Accepted i (change.Release client i)) same in
    subst (λ c. IsExactDelta rank t r (event.Update (update_of s r i None None (Some i) (release_lumps rank t s c i)))) found.1
    (release_bare rank t s is r sent client i can same found.1 (subst (λ k. IsSome (get s.opens (client, k))) found.0 found.2))
