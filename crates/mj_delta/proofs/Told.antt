-- What a tree knows of a dentry: before a request by its table, and afterwards by what the exact change wants to be written.
use Rattle.std.proofs.Common.{◌≡◌, ℕ, Bool, true, false, cond, ◌||◌, List, [], ◌∷◌, Option, Some, None, refl, sym, ap, ◌∙◌, ◌⊎◌, inl, inr}
use Rattle.std.specs.Prelude.{◌==◌, is_some, find, if◌then◌else◌}
use Rattle.std.specs.Option.{option_and_then, option_map}
use Rattle.std.proofs.lemmas.Bool.{false≢true, cases_Bool, eqb-true, eq-eqb, and_parts, and_from, or_right}
use Rattle.mj_base.specs.InOrder.{same_bytes}
use Rattle.mj_base.specs.ObjectName.{stray_ino}
use Rattle.mj_base.specs.declared.record.Kind.{Kind}
use Rattle.mj_base.specs.declared.record.InodeRecord.{InodeRecord}
use Rattle.mj_maps.specs.Map.{Map, entries, get}
use Rattle.mj_maps.proofs.MapLaws.{exact_nat, none_some, some_same}
use Rattle.mj_tree.specs.declared.change.Attributes.{Attributes}
use Rattle.mj_tree.specs.declared.request.ClientRequest.{ClientRequest}
use Rattle.mj_tree.specs.State.{PlainState, is_dir, is_kept, link_count, record_of, attributes_of}
use Rattle.mj_tree.specs.Answer.{after}
use Rattle.mj_cells.specs.declared.cell.CellValue.{CellValue}
use Rattle.mj_cells.specs.declared.cell.CellValue.TheVariants as value
use Rattle.mj_cells.specs.Table.{Dentry, Table}
use Rattle.mj_cells.specs.Table.Dentry.{Full as FullAt, Remote as RemoteAt}
use Rattle.mj_recovery.specs.Tree.{tree_of}
use Rattle.mj_machine.specs.Delta.{new_primary, same_place, full_after, remote_after, dentry_at, stray_at, dentry_after, known, dentry_before}
use Rattle.mj_delta.specs.Reads.{Places, names, full_of, said_by, stored_links, remote_of, cell_of, kind_of}
use Rattle.mj_delta.specs.TreeOf.{HasDentries, IsTreeOf}
use Rattle.mj_delta.specs.Plan.Naming.{Full, Remote}
use Rattle.mj_delta.specs.Plan.{Naming}
use Rattle.mj_delta.proofs.Facts.{cases_option, cond_is, full_cell, named_cases, link_parent}
use Rattle.mj_delta.proofs.Lists.{Lies, entry_at, at_entry}
use Rattle.mj_delta.proofs.TreeIs.{tree_is, among_dirs}
use Rattle.mj_delta.proofs.Held.{HasRecord, linked_record}
use Rattle.mj_delta.proofs.Plans.{written}
use Rattle.mj_delta.proofs.Planned.{same_names}
use Rattle.mj_delta.proofs.Contents.{naming_of, IsOfDentry, same_bytes_self}

-- what the tree knows of a dentry: in stray it has to be full, with a record
abbrev pub told_of : ℕ → PlainState → ℕ × List ℕ → Option Dentry → Option Naming
told_of rank s q None = None
told_of rank s q (Some (FullAt v x)) = if q.0 == stray_ino rank then (if is_some (get s.records x.ino) then Some (Full x) else None) else (if is_dir s q.0 then Some (Full x) else None)
told_of rank s q (Some (RemoteAt v i k)) = if q.0 == stray_ino rank then None else (if is_dir s q.0 then Some (Remote i k) else None)

abbrev pub told : ℕ → Table → PlainState → ℕ × List ℕ → Option Naming
told rank t s q = told_of rank s q (get t.dentries q)

full_choice : (a b c : Bool) (v : ℕ) (x : InodeRecord) → naming_of (if (if a then b else c) then value.Full v x else value.Gone) ≡ (if a then (if b then Some (Full x) else None) else (if c then Some (Full x) else None))
full_choice true true c v x = refl
full_choice true false c v x = refl
full_choice false b true v x = refl
full_choice false b false v x = refl

remote_choice : (a c : Bool) (v i : ℕ) (k : Kind) → naming_of (if (if a then false else c) then value.Remote v i k else value.Gone) ≡ (if a then None else (if c then Some (Remote i k) else None))
remote_choice true c v i k = refl
remote_choice false true v i k = refl
remote_choice false false v i k = refl

-- ---- before

module _ (rank : ℕ) (t : Table) (s : PlainState) (is : IsTreeOf rank t s) (r : ClientRequest) where
  abbrev m : HasDentries rank t s is.primary
  m = is.dentries

  known_is : (q : ℕ × List ℕ) (o : Option Dentry) → naming_of (known rank t r q o) ≡ told_of rank s q o
  known_is q None = refl
  known_is q (Some (FullAt v x)) =
      (λ z. naming_of (if (if q.0 == stray_ino rank then is_some (get (tree_is rank t s is z).records x.ino) else among_dirs rank t s is q.0 z) then value.Full v x else value.Gone))
      ∙ full_choice (q.0 == stray_ino rank) (is_some (get s.records x.ino)) (is_dir s q.0) v x
  known_is q (Some (RemoteAt v i k)) =
      (λ z. naming_of (if (if q.0 == stray_ino rank then false else among_dirs rank t s is q.0 z) then value.Remote v i k else value.Gone))
      ∙ remote_choice (q.0 == stray_ino rank) (is_dir s q.0) v i k

  pub told_before : (q : ℕ × List ℕ) → naming_of (dentry_before rank t r q) ≡ told rank t s q
  told_before q = known_is q (get t.dentries q)

  one_of_two : (b : Bool) (x : CellValue) → IsOfDentry x → IsOfDentry (if b then x else value.Gone)
  one_of_two true x h = h
  one_of_two false x h = tt

  known_fits : (q : ℕ × List ℕ) (o : Option Dentry) → get t.dentries q ≡ o → IsOfDentry (known rank t r q o)
  known_fits q None e = tt
  known_fits q (Some (FullAt v x)) e = one_of_two _ (value.Full v x) (m.records_fit q v x e)
  known_fits q (Some (RemoteAt v i k)) e = one_of_two _ (value.Remote v i k) tt

  pub before_fits : (q : ℕ × List ℕ) → IsOfDentry (dentry_before rank t r q)
  before_fits q = known_fits q (get t.dentries q) refl

-- ---- afterwards

-- the first item that passes, or none does
pub find_cases : {A : Type 0} (p : A → Bool) (xs : List A) → ((find p xs ≡ None) × ((x : A) → Lies x xs → p x ≡ true → ⊥)) ⊎ ((x : A) × (find p xs ≡ Some x) × Lies x xs × (p x ≡ true))
find_cases p [] = inl (refl, λ x l e. l)
find_cases p (y ∷ ys) = elim (p y) as (λ b. p y ≡ b → ((cond b (Some y) (find p ys) ≡ None) × ((x : _) → Lies x (y ∷ ys) → p x ≡ true → ⊥)) ⊎ ((x : _) × (cond b (Some y) (find p ys) ≡ Some x) × Lies x (y ∷ ys) × (p x ≡ true))) [
  | true ↦ λ e. inr (y, refl, inl refl, e)
  | false ↦ λ e. elim (find_cases p ys) [
    | inl w ↦ inl (w.0, λ x l h. elim l [ inl same ↦ false≢true (sym e ∙ ap p same ∙ h) | inr m ↦ w.1 x m h ])
    | inr w ↦ inr (w.0, w.1, inr w.2, w.3)
  ]
] refl

none_told : (rank : ℕ) (s : PlainState) (q : ℕ × List ℕ) (o : Option Dentry) → (q.0 == stray_ino rank) ≡ false → cond (is_dir s q.0) (names o) None ≡ None → told_of rank s q o ≡ None
none_told rank s q None far e = refl
none_told rank s q (Some (FullAt v x)) far e = (λ z. if far z then (if is_some (get s.records x.ino) then Some (Full x) else None) else (if is_dir s q.0 then Some (Full x) else None)) ∙ as_none (is_dir s q.0) x.ino (Full x) e
  where
    as_none : (b : Bool) (i : ℕ) (n : Naming) → cond b (Some i) None ≡ None → (if b then Some n else None) ≡ None
    as_none true i n e = absurd (none_some i (sym e))
    as_none false i n e = refl
none_told rank s q (Some (RemoteAt v i k)) far e = (λ z. if far z then None else (if is_dir s q.0 then Some (Remote i k) else None)) ∙ as_none (is_dir s q.0) i (Remote i k) e
  where
    as_none : (b : Bool) (i : ℕ) (n : Naming) → cond b (Some i) None ≡ None → (if b then Some n else None) ≡ None
    as_none true i n e = absurd (none_some i (sym e))
    as_none false i n e = refl

record_again : (x : InodeRecord) (i n : ℕ) → x.ino ≡ i → x.links ≡ n → record_of i n (attributes_of x) ≡ x
record_again x i n e f = λ z. record x { ino = sym e z; links = sym f z }

module _ (rank : ℕ) (t : Table) (r : ClientRequest) (s1 : PlainState) (t1 : Table) (primary : Places) (m : HasDentries rank t1 s1 primary)
    (links : (after (tree_of rank t) r).links ≡ s1.links) (records : (after (tree_of rank t) r).records ≡ s1.records)
    (places : (i : ℕ) (a : Attributes) → get s1.records i ≡ Some a → new_primary rank t r i ≡ get primary i) where
  abbrev new : PlainState
  new = after (tree_of rank t) r

  same_place_is : (q : ℕ × List ℕ) (o : Option (ℕ × List ℕ)) → same_place rank t r q o ≡ true → o ≡ Some q
  same_place_is q None e = absurd (false≢true e)
  same_place_is q (Some p) e = let w = and_parts (q.0 == p.0) (same_bytes q.1 p.1) e in λ z. Some (sym (eqb-true q.0 p.0 w.0) z, sym (same_names q.1 p.1 w.1) z)

  same_place_self : (q : ℕ × List ℕ) → same_place rank t r q (Some q) ≡ true
  same_place_self q = and_from (q.0 == q.0) (same_bytes q.1 q.1) (eq-eqb q.0 q.0 refl) (same_bytes_self q.1)

  count_same : (i : ℕ) → link_count new i ≡ link_count s1 i
  count_same i = ap (λ (l : _). link_count (record s1 { links = l }) i) links

  -- a full dentry at the place of its inode is written as it stands
  full_written : (q : ℕ × List ℕ) (v w i : ℕ) (x : InodeRecord) → get t1.dentries q ≡ Some (FullAt w x) → x.ino ≡ i → get primary i ≡ Some q → get s1.records i ≡ Some (attributes_of x) → dentry_at rank t r q v (Some i) ≡ value.Full v x
  full_written q v w i x at ino p said =
      let here : same_place rank t r q (new_primary rank t r i) ≡ true = ap (same_place rank t r q) (places i (attributes_of x) said ∙ p) ∙ same_place_self q in
      let there : get new.records i ≡ Some (attributes_of x) = ap (λ (m : Map _ Attributes). get m i) records ∙ said in
      let counted : x.links ≡ link_count new i = ap stored_links (sym at) ∙ m.counts i q p ∙ sym (count_same i) in
      (λ z. if here z then full_after rank t r v i (get new.records i) else remote_after rank t r v i (get new.records i))
      ∙ ap (full_after rank t r v i) there
      ∙ ap (value.Full v) (record_again x i (link_count new i) ino counted)

  -- ---- in a directory

  linked_written : (q : ℕ × List ℕ) (v i : ℕ) → (q.0 == stray_ino rank) ≡ false → get s1.links q ≡ Some i → dentry_at rank t r q v (Some i) ≡ written v (told rank t1 s1 q)
  linked_written q v i far l =
      let parent = link_parent rank t1 s1 primary m q i l in
      let its : HasRecord t1 s1 primary i = linked_record rank t1 s1 primary m i (record { place = q; link = l }) in
      elim (named_cases (get t1.dentries q) i parent.1) [
        | inl full ↦
            let p : get primary i ≡ Some q = m.each_primary i q (ap (λ b. b || (q.0 == stray_ino rank)) parent.0) full in
            let there : its.place ≡ q = some_same its.place q (sym its.stands ∙ p) in
            let at : get t1.dentries q ≡ Some (FullAt its.version its.inode) = ap (get t1.dentries) (sym there) ∙ its.full in
            full_written q v its.version i its.inode at its.ino p its.said ∙ sym (ap (λ o. written v (told_of rank s1 q o)) at ∙ ap (written v) (λ z. if far z then (if is_some (get s1.records its.inode.ino) then Some (Full its.inode) else None) else (if parent.0 z then Some (Full its.inode) else None)))
        | inr w ↦
            let at = remote_cell (get t1.dentries q) i w.0 w.1 in
            let other : same_place rank t r q (Some its.place) ≡ false = not_here q its.place (λ same. full_not_remote (get t1.dentries q) i w.0 w.1 (ap (get t1.dentries) (sym same) ∙ its.full)) in
            let here : same_place rank t r q (new_primary rank t r i) ≡ false = ap (same_place rank t r q) (places i (attributes_of its.inode) its.said ∙ its.stands) ∙ other in
            let there : get new.records i ≡ Some (attributes_of its.inode) = ap (λ (m : Map _ Attributes). get m i) records ∙ its.said in
            let kind : its.inode.kind ≡ w.0 = some_same its.inode.kind w.0 (sym (ap (λ o. kind_of (said_by (option_and_then (get t1.dentries) o))) its.stands ∙ ap (λ o. kind_of (said_by o)) its.full) ∙ m.remote_kind q i w.0 parent.0 w.1) in
            (λ z. if here z then full_after rank t r v i (get new.records i) else remote_after rank t r v i (get new.records i))
            ∙ ap (remote_after rank t r v i) there ∙ ap (value.Remote v i) kind
            ∙ sym (ap (λ o. written v (told_of rank s1 q o)) at.1 ∙ ap (written v) (λ z. if far z then None else (if parent.0 z then Some (Remote i w.0) else None)))
      ]
    where
      remote_cell : (o : Option Dentry) (i : ℕ) (k : Kind) → remote_of o ≡ Some (i, k) → (w : ℕ) × (o ≡ Some (RemoteAt w i k))
      remote_cell None i k e = absurd (none_some (i, k) e)
      remote_cell (Some (FullAt w x)) i k e = absurd (none_some (i, k) e)
      remote_cell (Some (RemoteAt w j l)) i k e = let pair = some_same (j, l) (i, k) e in (w, λ z. Some (RemoteAt w (pair z).0 (pair z).1))

      full_not_remote : (o : Option Dentry) (i : ℕ) (k : Kind) {w : ℕ} {x : InodeRecord} → remote_of o ≡ Some (i, k) → o ≡ Some (FullAt w x) → ⊥
      full_not_remote o i k e f = none_some (i, k) (ap remote_of (sym f) ∙ e)

      not_here : (q p : ℕ × List ℕ) → (p ≡ q → ⊥) → same_place rank t r q (Some p) ≡ false
      not_here q p ne = elim (cases_Bool (same_place rank t r q (Some p))) [ inl h ↦ absurd (ne (some_same p q (same_place_is q (Some p) h))) | inr h ↦ h ]

  in_directory : (q : ℕ × List ℕ) (v : ℕ) → (q.0 == stray_ino rank) ≡ false → dentry_at rank t r q v (get s1.links q) ≡ written v (told rank t1 s1 q)
  in_directory q v far = elim (cases_option (get s1.links q)) [
    | inl none ↦ ap (dentry_at rank t r q v) none ∙ sym (ap (written v) (none_told rank s1 q (get t1.dentries q) far (sym (m.links q) ∙ none)))
    | inr w ↦ ap (dentry_at rank t r q v) w.1 ∙ linked_written q v w.0 far w.1
  ]

  -- ---- in stray

  abbrev stands_at : List ℕ → ℕ × Attributes → Bool
  stands_at name e = same_place rank t r (stray_ino rank, name) (new_primary rank t r e.0)

  recorded : (e : ℕ × Attributes) → Lies e (entries new.records) → get s1.records e.0 ≡ Some e.1
  recorded e l = sym (ap (λ (m : Map _ Attributes). get m e.0) records) ∙ entry_at exact_nat new.records e l

  none_in_stray : (name : List ℕ) → ((e : ℕ × Attributes) → Lies e (entries new.records) → stands_at name e ≡ true → ⊥) → (o : Option Dentry) → get t1.dentries (stray_ino rank, name) ≡ o → told_of rank s1 (stray_ino rank, name) o ≡ None
  none_in_stray name h None at = refl
  none_in_stray name h (Some (RemoteAt v i k)) at = (λ z. if eq-eqb (stray_ino rank) (stray_ino rank) refl z then None else (if is_dir s1 (stray_ino rank) then Some (Remote i k) else None))
  none_in_stray name h (Some (FullAt v x)) at =
      (λ z. if eq-eqb (stray_ino rank) (stray_ino rank) refl z then (if is_some (get s1.records x.ino) then Some (Full x) else None) else (if is_dir s1 (stray_ino rank) then Some (Full x) else None))
      ∙ elim (cases_option (get s1.records x.ino)) [
        | inl none ↦ ap (λ (o : Option Attributes). if is_some o then Some (Full x) else None) none
        | inr w ↦
            let p = m.each_primary x.ino (stray_ino rank, name) (or_right (is_dir s1 (stray_ino rank)) _ (eq-eqb (stray_ino rank) (stray_ino rank) refl)) (ap full_of at) in
            let there : get new.records x.ino ≡ Some w.0 = ap (λ (m : Map _ Attributes). get m x.ino) records ∙ w.1 in
            absurd (h (x.ino, w.0) (at_entry exact_nat new.records x.ino w.0 there) (ap (same_place rank t r (stray_ino rank, name)) (places x.ino w.0 w.1 ∙ p) ∙ same_place_self (stray_ino rank, name)))
      ]

  in_stray : (name : List ℕ) (v : ℕ) → dentry_at rank t r (stray_ino rank, name) v (stray_at rank t r name) ≡ written v (told rank t1 s1 (stray_ino rank, name))
  in_stray name v = elim (find_cases (stands_at name) (entries new.records)) [
    | inl w ↦ ap (λ (o : Option (ℕ × Attributes)). dentry_at rank t r (stray_ino rank, name) v (option_map (λ (e : ℕ × Attributes). e.0) o)) w.0 ∙ sym (ap (written v) (none_in_stray name w.1 (get t1.dentries (stray_ino rank, name)) refl))
    | inr w ↦
        let e = w.0 in
        let said : get s1.records e.0 ≡ Some e.1 = recorded e w.2 in
        let p : get primary e.0 ≡ Some (stray_ino rank, name) = sym (places e.0 e.1 said) ∙ same_place_is (stray_ino rank, name) (new_primary rank t r e.0) w.3 in
        let full = full_cell (get t1.dentries (stray_ino rank, name)) e.0 (m.primary_full e.0 (stray_ino rank, name) p) in
        let c = cond_is (is_kept s1 e.0) (said_by (cell_of t1 primary e.0)) e.1 (sym (m.records e.0) ∙ said) in
        let attributes : e.1 ≡ attributes_of full.1 = some_same e.1 (attributes_of full.1) (sym c.1 ∙ ap (λ o. said_by (option_and_then (get t1.dentries) o)) p ∙ ap said_by full.2) in
        let whole : get s1.records e.0 ≡ Some (attributes_of full.1) = said ∙ ap Some attributes in
        ap (λ (o : Option (ℕ × Attributes)). dentry_at rank t r (stray_ino rank, name) v (option_map (λ (e : ℕ × Attributes). e.0) o)) w.1
        ∙ full_written (stray_ino rank, name) v full.0 e.0 full.1 full.2 full.3 p whole
        ∙ sym (ap (λ o. written v (told_of rank s1 (stray_ino rank, name) o)) full.2
        ∙ ap (written v) (λ z. if eq-eqb (stray_ino rank) (stray_ino rank) refl z then (if is_some ((ap (get s1.records) full.3 ∙ whole) z) then Some (Full full.1) else None) else (if is_dir s1 (stray_ino rank) then Some (Full full.1) else None)))
  ]

  -- what is wanted of a dentry is what the tree afterwards knows of it
  pub told_after : (q : ℕ × List ℕ) (v : ℕ) → dentry_after rank t r q v ≡ written v (told rank t1 s1 q)
  told_after q v = elim (cases_Bool (q.0 == stray_ino rank)) [
    | inl yes_stray ↦
        let at : q ≡ (stray_ino rank, q.1) = λ z. (eqb-true q.0 (stray_ino rank) yes_stray z, q.1) in
        (λ z. dentry_at rank t r q v (if yes_stray z then stray_at rank t r q.1 else get new.links q))
        ∙ ap (λ (x : ℕ × List ℕ). dentry_at rank t r x v (stray_at rank t r x.1)) at ∙ in_stray q.1 v ∙ ap (λ x. written v (told rank t1 s1 x)) (sym at)
    | inr far ↦ (λ z. dentry_at rank t r q v (if far z then stray_at rank t r q.1 else get (links z) q)) ∙ in_directory q v far
  ]
