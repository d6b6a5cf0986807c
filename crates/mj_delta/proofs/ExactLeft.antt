-- What becomes of an inode whose link ends: where its full dentry is to stand, and that nothing stands in it where it goes.
use Rattle.std.proofs.Common.{◌≡◌, ℕ, ◌-◌, Bool, true, false, cond, Option, Some, None, refl, sym, ap, ◌∙◌, inl, inr, arith, List}
use Rattle.std.specs.Prelude.{◌==◌, is_some, if◌then◌else◌}
use Rattle.mj_base.specs.ObjectName.{hex, stray_ino}
use Rattle.mj_base.specs.declared.record.InodeRecord.{InodeRecord}
use Rattle.mj_maps.specs.Map.{get}
use Rattle.mj_maps.proofs.MapLaws.{exact_place, none_some, some_same, eq_true, apart}
use Rattle.mj_maps.proofs.Kept.{place_ties}
use Rattle.mj_tree.specs.declared.request.ClientRequest.{ClientRequest}
use Rattle.mj_tree.specs.State.{PlainState, is_dir, is_kept, link_count}
use Rattle.mj_tree.specs.Answer.{after}
use Rattle.mj_cells.specs.Table.{Dentry, Table}
use Rattle.mj_cells.specs.Table.Dentry.{Full as FullAt, Remote as RemoteAt}
use Rattle.mj_recovery.specs.Tree.{tree_of}
use Rattle.mj_machine.specs.Delta.{new_place, new_primary}
use Rattle.mj_delta.specs.Reads.{Places, names, full_of, stored_links}
use Rattle.mj_delta.specs.TreeOf.{HasDentries, IsTreeOf}
use Rattle.mj_delta.specs.Plan.Naming.{Full, Remote}
use Rattle.mj_delta.specs.Plan.{Naming, naming, is_place, where_dir}
use Rattle.mj_delta.proofs.Facts.{ids, full_named, held_cases, link_parent}
use Rattle.mj_delta.proofs.Held.{HasRecord}
use Rattle.mj_delta.proofs.Ending.{IsLeft, cut_same}
use Rattle.mj_delta.proofs.Unlinked.{its, left, lessened, is_left}
use Rattle.mj_delta.proofs.Told.{told, told_of}
use Rattle.mj_delta.proofs.ExactParts.{told_in_dir}
use Rattle.mj_delta.proofs.ExactChange.{dir_far, told_record}
use Rattle.mj_delta.proofs.Primaries.{goes_to_stray, stays_there}

pub full_one : {u v : InodeRecord} → ◌≡◌ {A = Option Naming} (Some (Full u)) (Some (Full v)) → u ≡ v
full_one f = cc

-- what a tree knows of a link is something
pub link_known : (rank : ℕ) (t : Table) (s : PlainState) (x : ℕ × List ℕ) (j : ℕ) → (x.0 ≡ stray_ino rank → ⊥) → is_dir s x.0 ≡ true → names (get t.dentries x) ≡ Some j → (n : Naming) × (told rank t s x ≡ Some n)
link_known rank t s x j far dir e =
    let w = some_naming (get t.dentries x) e in
    (w.0, told_in_dir rank s s x far dir (get t.dentries x) ∙ w.1)
  where
    some_naming : (o : Option Dentry) → names o ≡ Some j → (n : Naming) × (naming o ≡ Some n)
    some_naming None f = absurd (none_some j f)
    some_naming (Some (FullAt v y)) f = (Full y, refl)
    some_naming (Some (RemoteAt v i k)) f = (Remote i k, refl)

-- and of a place of a directory where no link is, nothing
pub none_known : (rank : ℕ) (t : Table) (s : PlainState) (x : ℕ × List ℕ) → (x.0 ≡ stray_ino rank → ⊥) → is_dir s x.0 ≡ true → names (get t.dentries x) ≡ None → told rank t s x ≡ None
none_known rank t s x far dir e = told_in_dir rank s s x far dir (get t.dentries x) ∙ none_naming (get t.dentries x) e
  where
    none_naming : (o : Option Dentry) → names o ≡ None → naming o ≡ None
    none_naming None f = refl
    none_naming (Some d) f = absurd (none_some _ (sym f))

module _ (rank : ℕ) (t : Table) (s : PlainState) (primary : Places) (m : HasDentries rank t s primary) (q : ℕ × List ℕ) (i : ℕ) (link : get s.links q ≡ Some i) where
  abbrev it : HasRecord t s primary i
  it = its rank t s primary m q i link

  abbrev p : ℕ × List ℕ
  p = it.place

  abbrev l : ℕ × List ℕ
  l = left rank t s primary m q i link

  abbrev y : InodeRecord
  y = lessened rank t s primary m q i link

  place_left : IsLeft rank t s q i p l
  place_left = is_left rank t s primary m q i link

  fewer_links : it.inode ≡ y → ⊥
  fewer_links e =
      let stored : it.inode.links ≡ link_count s i = ap stored_links (sym it.full) ∙ m.counts i p it.stands in
      let less : it.inode.links ≡ link_count s i - 1 = ap (λ (z : InodeRecord). z.links) e in
      omega (arith, stored, less, cut_same rank t s primary m q i link p it.stands)

  told_full : (o : Option Dentry) (x : InodeRecord) → told_of rank s l o ≡ Some (Full x) → (v : ℕ) × (o ≡ Some (FullAt v x))
  told_full None x f = absurd (none_some (Full x) f)
  told_full (Some (RemoteAt v j k)) x f = absurd (pick (l.0 == stray_ino rank) (is_dir s l.0) f)
    where
      pick : (b c : Bool) → (if b then None else (if c then Some (Remote j k) else None)) ≡ Some (Full x) → ⊥
      pick true c f = none_some (Full x) f
      pick false true f = absurd cc
      pick false false f = none_some (Full x) f
  told_full (Some (FullAt v z)) x f = (v, ap (λ z. Some (FullAt v z)) (pick (l.0 == stray_ino rank) (is_some (get s.records z.ino)) (is_dir s l.0) f))
    where
      pick : (b c d : Bool) → (if b then (if c then Some (Full z) else None) else (if d then Some (Full z) else None)) ≡ Some (Full x) → z ≡ x
      pick true true d f = full_one f
      pick true false d f = absurd (none_some (Full x) f)
      pick false c true f = full_one f
      pick false c false f = absurd (none_some (Full x) f)

  -- the full dentry that is left is new at its place, or counts one link less
  pub left_differs : told rank t s l ≡ Some (Full y) → ⊥
  left_differs e = elim place_left.moved [
    | inl same ↦ fewer_links (full_one (sym (told_record rank t s primary m i it) ∙ ap (told rank t s) same ∙ e))
    | inr at ↦
        let there = told_full (get t.dentries l) y e in
        let own = place_left.own y.ino (ap full_of there.1) in
        place_left.not_q (some_same l q (sym (m.each_primary i l place_left.held (ap full_of there.1 ∙ ap Some own)) ∙ it.stands ∙ ap Some at))
  ]

  -- ---- where nothing is in the inode, as a directory

  module _ (empty : (n : List ℕ) → get s.links (i, n) ≡ None) where
    pub link_not_in : (x : ℕ × List ℕ) (j : ℕ) → get s.links x ≡ Some j → x.0 ≡ i → ⊥
    link_not_in x j e same = none_some j (sym (empty x.1) ∙ ap (λ d. get s.links (d, x.1)) (sym same) ∙ e)

    pub full_not_in : (j : ℕ) (x : ℕ × List ℕ) → get primary j ≡ Some x → x.0 ≡ i → ⊥
    full_not_in j x e same = elim (held_cases rank t s primary m x.0 (m.primary_held j x e)) [
      | inl dir ↦ link_not_in x j (m.links x ∙ (λ z. cond (dir z) (names (get t.dentries x)) None) ∙ full_named _ j (m.primary_full j x e)) same
      | inr st ↦ omega (arith, (ids rank).below, m.above i p it.stands, st, same)
    ]

    pub no_cells : (n : List ℕ) → is_dir s i ≡ true → get t.dentries (i, n) ≡ None
    no_cells n dir = none_named (get t.dentries (i, n)) (sym (λ z. cond (dir z) (names (get t.dentries (i, n))) None) ∙ sym (m.links (i, n)) ∙ empty n)
      where
        none_named : (o : Option Dentry) → names o ≡ None → o ≡ None
        none_named None e = refl
        none_named (Some d) e = absurd (none_some _ (sym e))

  pub dir_of : (d : ℕ) → where_dir s i ≡ Some d → is_dir s i ≡ true
  dir_of d = elim (is_dir s i) as (λ b. (if b then Some i else None) ≡ Some d → b ≡ true) [ true ↦ λ e. refl | false ↦ λ e. absurd (none_some d e) ]

-- where it is to stand
pub left_wanted : (rank : ℕ) (t : Table) (s : PlainState) (is : IsTreeOf rank t s) (r : ClientRequest) (s1 : PlainState) → (after (tree_of rank t) r).links ≡ s1.links → (after (tree_of rank t) r).opens ≡ s1.opens
    → (q : ℕ × List ℕ) (i : ℕ) (link : get s.links q ≡ Some i) → (get s1.links q ≡ Some i → ⊥) → ((x : ℕ × List ℕ) → (x ≡ q → ⊥) → get s.links x ≡ Some i → get s1.links x ≡ Some i)
    → (o : Option (ℕ × List ℕ)) → new_place rank t r r.op ≡ o → ((x : ℕ × List ℕ) → o ≡ Some x → get s1.links x ≡ Some i → ⊥) → is_kept s1 i ≡ true → new_primary rank t r i ≡ Some (left rank t s is.primary is.dentries q i link)
left_wanted rank t s is r s1 links opens q i link gone stay o place other kept =
    let it = its rank t s is.primary is.dentries q i link in
    elim (is_place it.place q) as (λ b. is_place it.place q ≡ b → new_primary rank t r i ≡ Some (if b then (stray_ino rank, hex i) else it.place)) [
      | true ↦ λ e.
          let same = eq_true exact_place it.place q (sym (place_ties it.place q) ∙ e) in
          goes_to_stray rank t s is r s1 links opens i it.place o it.stands (λ st. dir_far rank t s is.primary is.dentries q.0 (link_parent rank t s is.primary is.dentries q i link).0 (ap (λ (x : ℕ × List ℕ). x.0) (sym same) ∙ st))
          (λ k. gone (ap (get s1.links) (sym same) ∙ k)) place other kept
      | false ↦ λ e. stays_there rank t s is r s1 links opens i it.place it.stands kept (stay it.place (apart exact_place it.place q (sym (place_ties it.place q) ∙ e)))
    ] refl
