-- The listed operations as a map from numbers to counts.
use Rattle.std.proofs.Common.{◌≡◌, ℕ, ◌==◌, true, false, cond, List, [], ◌∷◌, ◌++◌, refl, sym, ap, ◌∙◌, inl, inr}
use Rattle.std.proofs.lemmas.List.{map-append}
use Rattle.std.proofs.lemmas.Bool.{cases_eq, eq-eqb, ne_eqb, cond-true, cond-false}
use Rattle.std.specs.declared.cmp.Ordering.TheVariants.{Equal, Greater}
use Rattle.std.specs.Ordering.{nat_cmp, match_ordering, is_eq}
use Rattle.std.specs.Cmp.{nat_cmp_is, unsigned_ties}
use Rattle.std.specs.Map.{remove_entry}
use Rattle.std.specs.BTreeMap.{is_at, insert_entry}
use Rattle.mj_store.specs.Causes.{Listed, AllBelow, with_listed, unlisted}
use Rattle.mj_memstore.specs.Memory.{listed_of, list_of}

abbrev Counts : Type 0
Counts = List (ℕ × ℕ)

above_first : (k : ℕ) (e : ℕ × ℕ) (es : Counts) → AllBelow k (list_of (e ∷ es)) → nat_cmp k e.0 ≡ Greater
above_first k e es below = sym (nat_cmp_is k e.0 Greater (below (listed_of e) (inl refl)))

above_rest : (k : ℕ) (e : ℕ × ℕ) (es : Counts) → AllBelow k (list_of (e ∷ es)) → AllBelow k (list_of es)
above_rest k e es below l i = below l (inr i)

-- a number above all is put last
insert_last : (k v : ℕ) (es : Counts) → AllBelow k (list_of es) → insert_entry nat_cmp es k v ≡ es ++ (k, v) ∷ []
insert_last k v [] below = refl
insert_last k v (e ∷ es) below =
    ap (λ r. match_ordering r ((k, v) ∷ e ∷ es) ((e.0, v) ∷ es) (e ∷ insert_entry nat_cmp es k v)) (above_first k e es below)
    ∙ ap (λ (rest : Counts). e ∷ rest) (insert_last k v es (above_rest k e es below))

pub listed_insert : (k v : ℕ) (es new : Counts) → AllBelow k (list_of es) → new ≡ insert_entry nat_cmp es k v → list_of new ≡ with_listed k v (list_of es)
listed_insert k v es new below e = ap list_of (e ∙ insert_last k v es below) ∙ map-append listed_of es ((k, v) ∷ [])

-- and taken out again
remove_last : (k v : ℕ) (es : Counts) → AllBelow k (list_of es) → remove_entry (is_at (nat_cmp k)) (es ++ (k, v) ∷ []) ≡ es
remove_last k v [] below = ap (λ b. cond b [] ((k, v) ∷ [])) (ap is_eq (sym (nat_cmp_is k k Equal refl)))
remove_last k v (e ∷ es) below =
    ap (λ r. cond (is_eq r) (es ++ (k, v) ∷ []) (e ∷ remove_entry (is_at (nat_cmp k)) (es ++ (k, v) ∷ []))) (above_first k e es below)
    ∙ ap (λ (rest : Counts). e ∷ rest) (remove_last k v es (above_rest k e es below))

pub listed_again : (k v : ℕ) (es mid new : Counts) → AllBelow k (list_of es) → mid ≡ insert_entry nat_cmp es k v → new ≡ remove_entry (is_at (nat_cmp k)) mid → list_of new ≡ list_of es
listed_again k v es mid new below e f = ap list_of (f ∙ ap (remove_entry (is_at (nat_cmp k))) (e ∙ insert_last k v es below) ∙ remove_last k v es below)

-- the one of a number is taken out
remove_is : (k : ℕ) (es : Counts) → list_of (remove_entry (is_at (nat_cmp k)) es) ≡ unlisted k (list_of es)
remove_is k [] = refl
remove_is k (e ∷ es) = elim (cases_eq e.0 k) [
  | inl same ↦
      let tied : is_at (nat_cmp k) e.0 ≡ true = ap is_eq (sym (nat_cmp_is k e.0 Equal (sym same))) in
      ap list_of (cond-true (is_at (nat_cmp k) e.0) es (e ∷ remove_entry (is_at (nat_cmp k)) es) tied) ∙ sym (cond-true (e.0 == k) (list_of es) (listed_of e ∷ unlisted k (list_of es)) (eq-eqb e.0 k same))
  | inr other ↦
      let apart : is_at (nat_cmp k) e.0 ≡ false = sym (unsigned_ties k e.0) ∙ ne_eqb k e.0 (λ s. other (sym s)) in
      ap list_of (cond-false (is_at (nat_cmp k) e.0) es (e ∷ remove_entry (is_at (nat_cmp k)) es) apart) ∙ ap (λ (xs : List Listed). listed_of e ∷ xs) (remove_is k es)
      ∙ sym (cond-false (e.0 == k) (list_of es) (listed_of e ∷ unlisted k (list_of es)) (ne_eqb e.0 k other))
]

pub listed_remove : (k : ℕ) (es new : Counts) → new ≡ remove_entry (is_at (nat_cmp k)) es → list_of new ≡ unlisted k (list_of es)
listed_remove k es new e = ap list_of e ∙ remove_is k es
