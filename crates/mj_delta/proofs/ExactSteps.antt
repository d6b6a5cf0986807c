-- The events of opens, of attributes, of a second link and of a rename that moves nothing are the exact ones.
use Rattle.std.proofs.Common.{◌≡◌, ℕ, true, false, ◌||◌, List, [], ◌∷◌, Option, Some, None, Ok, refl, sym, ap, subst, ◌∙◌, ◌⊎◌, inl, inr}
use Rattle.std.specs.Prelude.{◌==◌, IsSome, is_some, if◌then◌else◌}
use Rattle.std.proofs.lemmas.Bool.{false≢true, eq-eqb, and_from}
use Rattle.mj_base.specs.ObjectName.{stray_ino}
use Rattle.mj_base.specs.declared.record.Kind.TheVariants.{Dir}
use Rattle.mj_base.specs.declared.record.InodeRecord.{InodeRecord}
use Rattle.mj_maps.specs.Map.{Map, get, insert}
use Rattle.mj_maps.specs.Orders.{place_cmp}
use Rattle.mj_maps.proofs.MapLaws.{exact_nat, exact_pair, none_some, some_same, insert_same, insert_other, insert_again, get_empty, cases_key}
use Rattle.mj_tree.specs.declared.change.Attributes.{Attributes}
use Rattle.mj_tree.specs.declared.change.Settings.{Settings}
use Rattle.mj_tree.specs.declared.change.Change.{Change}
use Rattle.mj_tree.specs.declared.change.Change.TheVariants as change
use Rattle.mj_tree.specs.declared.change.Decision.TheVariants.{Accepted}
use Rattle.mj_tree.specs.declared.request.ClientRequest.{ClientRequest}
use Rattle.mj_tree.specs.State.{PlainState, root, is_dir, is_kind, link_count, record_of, attributes_of}
use Rattle.mj_tree.specs.Row.{is_open}
use Rattle.mj_tree.specs.Change.{changed, set_in, with_set}
use Rattle.mj_tree.specs.Answer.{decision}
use Rattle.mj_cells.specs.Table.{Table}
use Rattle.mj_cells.specs.Table.Dentry.{Full as FullAt}
use Rattle.mj_event.specs.declared.Event.TheVariants as event
use Rattle.mj_machine.specs.Delta.{IsExactDelta}
use Rattle.mj_delta.specs.Reads.{full_of}
use Rattle.mj_delta.specs.TreeOf.{HasDentries, IsTreeOf}
use Rattle.mj_delta.specs.Fits.{IsSent}
use Rattle.mj_delta.specs.Events.{next_version, update_of, nothing_event, hold_event, says, set_lumps, set_event, full_lump, full_place}
use Rattle.mj_delta.specs.Plan.Naming.{Full}
use Rattle.mj_delta.specs.Plan.{Naming}
use Rattle.mj_delta.proofs.Facts.{cases_option, is_some_at, held_cases, stray_no_dir}
use Rattle.mj_delta.proofs.Decided.{CanChange, CanHold, CanSet, meant, effect_found}
use Rattle.mj_delta.proofs.Held.{HasRecord, linked_record, linked_fits, same_plan, hold_plan}
use Rattle.mj_delta.proofs.Placed.{place_is}
use Rattle.mj_delta.proofs.Updated.{IsPlan}
use Rattle.mj_delta.proofs.SetIn.{set_plan}
use Rattle.mj_delta.proofs.Told.{told, told_of}
use Rattle.mj_delta.proofs.ExactUpdates.{OpensAre}
use Rattle.mj_delta.proofs.ExactUpdates.OpensAre.{as_before, one_more}
use Rattle.mj_delta.proofs.ExactParts.{AreQuiet, IsVisible, told_in_dir, told_full_stray}
use Rattle.mj_delta.proofs.ExactQuiet.{no_plan, nothing_said, one_plan, one_cases, one_said, quiet_exact}

pub no_dentry : {A : Type 0} (q : ℕ × List ℕ) (n : Option Naming) → get no_plan.dentries q ≡ Some n → A
no_dentry q n e = absurd (none_some n (sym (get_empty place_cmp q) ∙ e))

-- ---- nothing moves, and a file is opened

module _ (rank : ℕ) (t : Table) (s : PlainState) (is : IsTreeOf rank t s) (r : ClientRequest) (sent : IsSent r) (i : ℕ) (change : Change) (can : CanChange s r i change)
    (opened released : Option ℕ) (plan_is : IsPlan rank t s r i change None opened released []) (decided : decision s r ≡ Accepted i change)
    (next : (changed s change).next ≡ s.next) (opens_are : OpensAre r.client s (changed s change) opened released) (records : (changed s change).records ≡ s.records) (links : (changed s change).links ≡ s.links) where
  -- an update that writes no dentry, and leaves records and links
  pub bare_exact : IsExactDelta rank t r (event.Update (update_of s r i None opened released []))
  bare_exact = quiet_exact rank t s is r sent i change can opened released [] plan_is decided next opens_are
      (record { there = λ j. ap (λ (m : Map _ Attributes). is_some (get m j)) records; dirs = λ d. ap (λ (m : Map _ Attributes). is_kind Dir (get m d)) records })
      (λ x j l. ap (λ (m : Map place_cmp ℕ). get m x) links ∙ l) no_plan refl (nothing_said t) (λ j p n _ e. no_dentry p n e) (λ q n e. no_dentry q n e) (λ q n e. no_dentry q n e)

pub nothing_exact : (rank : ℕ) (t : Table) (s : PlainState) (r : ClientRequest) (i : ℕ) → IsTreeOf rank t s → IsSent r → decision s r ≡ Accepted i change.Nothing → IsExactDelta rank t r (nothing_event s r i)
nothing_exact rank t s r i is sent d =
    let can = meant s r (Accepted i change.Nothing) d in
    let linked = effect_found s r sent is.dentries.next_fits (Ok (i, change.Nothing)) can.done in
    bare_exact rank t s is r sent i change.Nothing can None None (same_plan rank t s is r i change.Nothing refl (linked_fits rank t s is.primary is.dentries i linked)) d refl (as_before refl) refl refl

module _ (rank : ℕ) (t : Table) (s : PlainState) (is : IsTreeOf rank t s) (r : ClientRequest) (sent : IsSent r) (i client : ℕ) (can : CanChange s r i (change.Hold client i)) (decided : decision s r ≡ Accepted i (change.Hold client i))
    (whose : client ≡ r.client) (hold : CanHold s client i) (session : IsSome (get s.sessions client)) where
  hold_bare : IsExactDelta rank t r (event.Update (update_of s r i None (if is_open s client i then None else Some i) None []))
  hold_bare = elim (is_open s client i) as (λ b. is_open s client i ≡ b → IsPlan rank t s r i (change.Hold client i) None (if b then None else Some i) None [] → IsExactDelta rank t r (event.Update (update_of s r i None (if b then None else Some i) None []))) [
    | true ↦ λ e plan. bare_exact rank t s is r sent i (change.Hold client i) can None None plan decided refl (as_before (already e)) refl refl
    | false ↦ λ e plan. bare_exact rank t s is r sent i (change.Hold client i) can (Some i) None plan decided refl (one_more i (none_open e) (λ z. insert s.opens (whose z, i) tt)) refl refl
  ] refl (hold_plan rank t s is client i hold session r whose)
    where
      already : is_open s client i ≡ true → insert s.opens (client, i) tt ≡ s.opens
      already e = elim (cases_option (get s.opens (client, i))) [
        | inl none ↦ absurd (false≢true (sym (ap is_some none) ∙ e))
        | inr w ↦ insert_again exact_pair s.opens (client, i) tt w.1
      ]

      none_open : is_open s client i ≡ false → get s.opens (r.client, i) ≡ None
      none_open e = elim (cases_option (get s.opens (client, i))) [
        | inl none ↦ ap (λ c. get s.opens (c, i)) (sym whose) ∙ none
        | inr w ↦ absurd (false≢true (sym e ∙ ap is_some w.1))
      ]

pub hold_exact : (rank : ℕ) (t : Table) (s : PlainState) (r : ClientRequest) (i client j : ℕ) → IsTreeOf rank t s → IsSent r → decision s r ≡ Accepted i (change.Hold client j) → IsExactDelta rank t r (hold_event s r i)
hold_exact rank t s r i client j is sent d =
    let found = effect_found s r sent is.dentries.next_fits (Ok (i, change.Hold client j)) (meant s r (Accepted i (change.Hold client j)) d).done in
    let same : decision s r ≡ Accepted i (change.Hold client i) = d ∙ ap (λ k. Accepted i (change.Hold client k)) found.0 in
    let can = meant s r (Accepted i (change.Hold client i)) same in
    let session : IsSome (get s.sessions client) = is_some_at _ can.inside.session (ap (get s.sessions) found.1 ∙ can.inside.there) in
    subst (λ c. IsExactDelta rank t r (event.Update (update_of s r i None (if is_open s c i then None else Some i) None []))) found.1
    (hold_bare rank t s is r sent i client can same found.1 (subst (CanHold s client) found.0 found.2) session)

-- ---- attributes

module _ (rank : ℕ) (t : Table) (s : PlainState) (is : IsTreeOf rank t s) (r : ClientRequest) (sent : IsSent r) (i : ℕ) (x : Settings) (can : CanChange s r i (change.Set i x)) (decided : decision s r ≡ Accepted i (change.Set i x)) (set : CanSet s i x) where
  abbrev m : HasDentries rank t s is.primary
  m = is.dentries

  abbrev its : HasRecord t s is.primary i
  its = linked_record rank t s is.primary m i set.linked

  abbrev p : ℕ × List ℕ
  p = its.place

  abbrev a : Attributes
  a = attributes_of its.inode

  abbrev y : InodeRecord
  y = record_of i (link_count s i) (set_in x a)

  abbrev s1 : PlainState
  s1 = record s { records = insert s.records i (set_in x a) }

  state_is : changed s (change.Set i x) ≡ s1
  state_is = ap (with_set s i x) its.said

  quiet_set : AreQuiet s s1
  quiet_set = record {
    there = λ j. elim (cases_key exact_nat j i) [
      | inl same ↦ ap (λ j. is_some (get s1.records j)) same ∙ ap is_some (insert_same exact_nat s.records i (set_in x a)) ∙ sym (ap (λ j. is_some (get s.records j)) same ∙ ap is_some its.said)
      | inr ne ↦ ap is_some (insert_other exact_nat s.records i (set_in x a) j ne)
    ];
    dirs = λ j. elim (cases_key exact_nat j i) [
      | inl same ↦ ap (λ j. is_kind Dir (get s1.records j)) same ∙ ap (is_kind Dir) (insert_same exact_nat s.records i (set_in x a)) ∙ sym (ap (λ j. is_kind Dir (get s.records j)) same ∙ ap (is_kind Dir) its.said)
      | inr ne ↦ ap (is_kind Dir) (insert_other exact_nat s.records i (set_in x a) j ne)
    ];
  }

  -- what the tree knows of the full dentry
  told_full : told rank t s p ≡ Some (Full its.inode)
  told_full = ap (told_of rank s p) its.full ∙ elim (held_cases rank t s is.primary m p.0 (m.primary_held i p its.stands)) [
    | inl dir ↦ told_in_dir rank s s p (λ st. false≢true (sym (stray_no_dir rank t s is.primary m) ∙ ap (is_dir s) (sym st) ∙ dir)) dir (Some (FullAt its.version its.inode))
    | inr st ↦ told_full_stray rank s s p st its.version its.inode (ap (λ j. is_some (get s.records j)) its.ino ∙ ap is_some its.said)
  ]

  unlike : says x a ≡ false → its.inode ≡ y → ⊥
  unlike no_say e = false≢true (sym no_say ∙ and_from _ _ (and_from _ _ (and_from _ _ (and_from _ _ (eq-eqb x.mode a.mode (ap (λ (z : InodeRecord). z.mode) (sym e))) (eq-eqb x.uid a.uid (ap (λ (z : InodeRecord). z.uid) (sym e))))
      (eq-eqb x.gid a.gid (ap (λ (z : InodeRecord). z.gid) (sym e)))) (eq-eqb x.size a.size (ap (λ (z : InodeRecord). z.size) (sym e)))) (eq-eqb x.mtime a.mtime (ap (λ (z : InodeRecord). z.mtime) (sym e))))

  set_some : (plan : IsPlan rank t s r i (change.Set i x) None None None (set_lumps t s p i x (Some a))) → IsExactDelta rank t r (event.Update (update_of s r i None None None (set_lumps t s p i x (Some a))))
  set_some = elim (says x a) as (λ b. says x a ≡ b → IsPlan rank t s r i (change.Set i x) None None None (if b then [] else full_lump p.0 (next_version t p.0) p.1 y ∷ [])
      → IsExactDelta rank t r (event.Update (update_of s r i None None None (if b then [] else full_lump p.0 (next_version t p.0) p.1 y ∷ [])))) [
        | true ↦ λ e plan. quiet_exact rank t s is r sent i (change.Set i x) can None None [] plan decided (ap (λ (z : PlainState). z.next) state_is) (as_before (ap (λ (z : PlainState). z.opens) state_is))
            (subst (AreQuiet s) (sym state_is) quiet_set) (λ q j l. ap (λ (z : PlainState). get z.links q) state_is ∙ l) no_plan refl (nothing_said t) (λ j p n _ e. no_dentry p n e) (λ q n e. no_dentry q n e) (λ q n e. no_dentry q n e)
        | false ↦ λ e plan. quiet_exact rank t s is r sent i (change.Set i x) can None None (full_lump p.0 (next_version t p.0) p.1 y ∷ []) plan decided (ap (λ (z : PlainState). z.next) state_is) (as_before (ap (λ (z : PlainState). z.opens) state_is))
            (subst (AreQuiet s) (sym state_is) quiet_set) (λ q j l. ap (λ (z : PlainState). get z.links q) state_is ∙ l) (one_plan p (Some (Full y))) refl (one_said t p (Some (Full y)))
            (λ j q n h g. let w = one_cases p (Some (Full y)) q n g in (y, w.1, some_same i j (sym (m.primary_full i p its.stands) ∙ ap (λ q. full_of (get t.dentries q)) (sym w.0) ∙ m.primary_full j q h)))
            (λ q n g. let w = one_cases p (Some (Full y)) q n g in subst (λ (z : PlainState). ((q.0 ≡ stray_ino rank → ⊥) × (is_dir z q.0 ≡ true)) ⊎ ((q.0 ≡ stray_ino rank) × IsVisible z n)) (sym state_is) (seen_set q n w.0 w.1))
            (λ q n g k. let w = one_cases p (Some (Full y)) q n g in unlike e (full_one (sym told_full ∙ ap (told rank t s) (sym w.0) ∙ k ∙ w.1)))
      ] refl
    where
      full_one : {u v : InodeRecord} → ◌≡◌ {A = Option Naming} (Some (Full u)) (Some (Full v)) → u ≡ v
      full_one f = cc

      seen_set : (q : ℕ × List ℕ) (n : Option Naming) → q ≡ p → n ≡ Some (Full y) → ((q.0 ≡ stray_ino rank → ⊥) × (is_dir s1 q.0 ≡ true)) ⊎ ((q.0 ≡ stray_ino rank) × IsVisible s1 n)
      seen_set q n at is_y = elim (held_cases rank t s is.primary m p.0 (m.primary_held i p its.stands)) [
        | inl dir ↦ inl (
          λ st. false≢true (sym (stray_no_dir rank t s is.primary m) ∙ ap (is_dir s) (sym st ∙ ap (λ (q : ℕ × List ℕ). q.0) at) ∙ dir),
          ap (λ b. (q.0 == root) || b) (quiet_set.dirs q.0) ∙ ap (λ (q : ℕ × List ℕ). is_dir s q.0) at ∙ dir,
        )
        | inr st ↦ inr (ap (λ (q : ℕ × List ℕ). q.0) at ∙ st, subst (IsVisible s1) (sym is_y) (ap is_some (insert_same exact_nat s.records i (set_in x a))))
      ]

  set_whole : IsExactDelta rank t r (event.Update (update_of s r i None None None (set_lumps t s (full_place rank t r i) i x (get s.records i))))
  set_whole =
      let place = place_is rank t s is r i p its.stands in
      let whole : set_lumps t s (full_place rank t r i) i x (get s.records i) ≡ set_lumps t s p i x (Some a) = λ z. set_lumps t s (place z) i x (its.said z) in
      subst (λ ls. IsExactDelta rank t r (event.Update (update_of s r i None None None ls))) (sym whole) (set_some (subst (IsPlan rank t s r i (change.Set i x) None None None) whole (set_plan rank t s is i x set r)))

pub set_exact : (rank : ℕ) (t : Table) (s : PlainState) (r : ClientRequest) (i j : ℕ) (x : Settings) → IsTreeOf rank t s → IsSent r → decision s r ≡ Accepted i (change.Set j x) → IsExactDelta rank t r (set_event rank t s r i x)
set_exact rank t s r i j x is sent d =
    let found = effect_found s r sent is.dentries.next_fits (Ok (i, change.Set j x)) (meant s r (Accepted i (change.Set j x)) d).done in
    let same : decision s r ≡ Accepted i (change.Set i x) = d ∙ ap (λ k. Accepted i (change.Set k x)) found.0 in
    set_whole rank t s is r sent i x (meant s r (Accepted i (change.Set i x)) same) same (subst (λ k. CanSet s k x) found.0 found.1)
