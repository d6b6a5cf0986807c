-- The place that is looked up of an inode's full dentry is the one where it stands.
use Rattle.std.proofs.Common.{◌≡◌, ℕ, Bool, true, false, cond, List, [], ◌∷◌, Some, refl, sym, ap, ◌∙◌, inl, inr}
use Rattle.std.specs.Prelude.{find, unwrap_or}
use Rattle.std.specs.Option.{option_map}
use Rattle.std.proofs.lemmas.Bool.{false≢true, and_parts, and_from, eqb-true, eq-eqb}
use Rattle.mj_maps.specs.Map.{get, entries}
use Rattle.mj_maps.proofs.MapLaws.{exact_place, some_same}
use Rattle.mj_tree.specs.declared.request.ClientRequest.{ClientRequest}
use Rattle.mj_tree.specs.State.{PlainState, root}
use Rattle.mj_cells.specs.Table.{Dentry, Table}
use Rattle.mj_cells.specs.Table.Dentry.{Full, Remote}
use Rattle.mj_recovery.specs.Tree.{Entry, holding}
use Rattle.mj_machine.specs.Delta.{is_full_at}
use Rattle.mj_delta.specs.Reads.{full_of}
use Rattle.mj_delta.specs.TreeOf.{IsTreeOf}
use Rattle.mj_delta.specs.Events.{full_place}
use Rattle.mj_delta.proofs.Facts.{full_cell}
use Rattle.mj_delta.proofs.Lists.{Lies, entry_at, at_entry}
use Rattle.mj_delta.proofs.TreeIs.{among_held}

-- the first item that passes
pub first_passes : {A : Type 0} (p : A → Bool) (xs : List A) (x : A) → Lies x xs → p x ≡ true → (y : A) × (find p xs ≡ Some y) × Lies y xs × (p y ≡ true)
first_passes p [] x l e = absurd l
first_passes p (y ∷ ys) x l e = elim (p y) as (λ b. p y ≡ b → (z : _) × (cond b (Some y) (find p ys) ≡ Some z) × Lies z (y ∷ ys) × (p z ≡ true)) [
  | true ↦ λ h. (y, refl, inl refl, h)
  | false ↦ λ h. elim l [
    | inl same ↦ absurd (false≢true (sym h ∙ ap p same ∙ e))
    | inr m ↦ let w = first_passes p ys x m e in (w.0, w.1, inr w.2, w.3)
  ]
] refl

module _ (rank : ℕ) (t : Table) (s : PlainState) (is : IsTreeOf rank t s) (r : ClientRequest) where
  pub full_passes : (q : ℕ × List ℕ) (d : Dentry) (i : ℕ) → is_full_at rank t r (holding rank t) i (q, d) ≡ true → get t.dentries q ≡ Some d → get is.primary i ≡ Some q
  full_passes q (Full v x) i h at = let both = and_parts _ _ h in is.dentries.each_primary i q (sym (among_held rank t s is q.0) ∙ both.0) (ap full_of at ∙ ap Some (eqb-true x.ino i both.1))
  full_passes q (Remote v j k) i h at = absurd (false≢true (and_parts _ _ h).1)

  pub place_is : (i : ℕ) (q : ℕ × List ℕ) → get is.primary i ≡ Some q → full_place rank t r i ≡ q
  place_is i q e =
      let f = full_cell (get t.dentries q) i (is.dentries.primary_full i q e) in
      let lies = at_entry exact_place t.dentries q (Full f.0 f.1) f.2 in
      let passes = and_from _ _ (among_held rank t s is q.0 ∙ is.dentries.primary_held i q e) (eq-eqb f.1.ino i f.3) in
      let w = first_passes (is_full_at rank t r (holding rank t) i) (entries t.dentries) (q, Full f.0 f.1) lies passes in
      let there = full_passes w.0.0 w.0.1 i w.3 (entry_at exact_place t.dentries w.0 w.2) in
      ap (λ o. unwrap_or (option_map (λ (e : Entry). e.0) o) (root, [])) w.1 ∙ some_same w.0.0 q (sym there ∙ e)
