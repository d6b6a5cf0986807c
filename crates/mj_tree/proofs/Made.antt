-- Changes in the order in which lists are written, against the changes themselves.
use Rattle.std.proofs.Common.{◌≡◌, ℕ, ◌+◌, ◌==◌, true, false, cond, nat_lt, if◌then◌else◌, List, Some, None, sym, ap, ◌∙◌, arith, inl, inr}
use Rattle.std.specs.Ordering.{eq_by_cmp}
use Rattle.mj_maps.specs.Orders.{place_cmp}
use Rattle.mj_maps.specs.Map.{get, insert, remove, count}
use Rattle.mj_maps.proofs.MapLaws.{exact_place, cases_key, some_same, none_some, insert_other, absent_remove-insert, insert_remove_swap, insert_removed, remove_swap, count-insert_over, count-remove}
use Rattle.std.proofs.Math.Dec.{eqb_refl}
use Rattle.std.proofs.lemmas.Bool.{true≢false}
use Rattle.mj_tree.proofs.Entries.{passed}
use Rattle.mj_tree.specs.State.{PlainState, is_kept, open_count}
use Rattle.mj_tree.specs.Change.{settled, without_link, with_moved}

apart_from : (q r : ℕ × List ℕ) → (q ≡ r → ⊥) → eq_by_cmp place_cmp q r ≡ false
apart_from q r h = elim (cases_key exact_place q r) [ inl e ↦ absurd (h e) | inr e ↦ e ]

-- a link that is made and taken back
pub link_undone : (s : PlainState) (q : ℕ × List ℕ) (i : ℕ) → get s.links q ≡ None → record s { links = remove (insert s.links q i) q } ≡ s
link_undone s q i h = ap (λ m. record s { links = m }) (absent_remove-insert exact_place s.links q i h)

-- a link that is made at its new place before it goes from the old one
pub moved_is : (s : PlainState) (q r : ℕ × List ℕ) (i : ℕ) → get s.links q ≡ Some i → get s.links r ≡ None → record s { links = remove (insert s.links r i) q } ≡ with_moved s q r i
moved_is s q r i h k = ap (λ m. record s { links = m }) (insert_remove_swap exact_place s.links r q i (apart_from r q (λ e. none_some i (sym k ∙ ap (get s.links) e ∙ h))))

module _ (s : PlainState) (q r : ℕ × List ℕ) (i j : ℕ) (h : get s.links q ≡ Some i) (k : get s.links r ≡ Some j) (ne : (i == j) ≡ false) where
  not_same : r ≡ q → ⊥
  not_same e = true≢false (sym (passed (j == j) (eqb_refl j)) ∙ ap (λ x. x == j) (some_same j i (sym k ∙ ap (get s.links) e ∙ h)) ∙ ne)

  -- j has as many links
  links_of_j : count (λ (e : (ℕ × List ℕ) × ℕ). e.1 == j) (remove (insert s.links r i) q) ≡ count (λ (e : (ℕ × List ℕ) × ℕ). e.1 == j) (remove s.links r)
  links_of_j =
      let to_j = λ (e : (ℕ × List ℕ) × ℕ). e.1 == j in
      let same = passed (j == j) (eqb_refl j) in
      let here : count to_j (remove s.links r) + 1 ≡ count to_j s.links = ap (λ b. count to_j (remove s.links r) + cond b 1 0) (sym same) ∙ count-remove exact_place to_j s.links r j k in
      let over : count to_j (insert s.links r i) + 1 ≡ count to_j s.links + 0 =
      ap (λ b. count to_j (insert s.links r i) + cond b 1 0) (sym same) ∙ count-insert_over exact_place to_j s.links r j i k ∙ ap (λ b. count to_j s.links + cond b 1 0) ne in
      let at_q = insert_other exact_place s.links r i q (apart_from q r (λ e. not_same (sym e))) ∙ h in
      let gone : count to_j (remove (insert s.links r i) q) + 0 ≡ count to_j (insert s.links r i) =
      ap (λ b. count to_j (remove (insert s.links r i) q) + cond b 1 0) (sym ne) ∙ count-remove exact_place to_j (insert s.links r i) q i at_q in
      omega (arith, here, over, gone)

  links_are : remove (insert s.links r i) q ≡ insert (remove (remove s.links r) q) r i
  links_are = insert_remove_swap exact_place s.links r q i (apart_from r q not_same) ∙ sym (insert_removed exact_place (remove s.links q) r i)
      ∙ ap (λ m. insert m r i) (remove_swap exact_place s.links q r)

  -- a link that is made over another's before it goes from the old place
  pub replaced_is : settled (record s { links = remove (insert s.links r i) q }) j ≡ with_moved (without_link s r j) q r i
  replaced_is =
      ap (λ n. if nat_lt 0 (n + open_count s j) then record s { links = remove (insert s.links r i) q } else record s { links = remove (insert s.links r i) q; records = remove s.records j }) links_of_j
      ∙ elim (is_kept (record s { links = remove s.links r }) j) as (λ b.
      (if b then record s { links = remove (insert s.links r i) q } else record s { links = remove (insert s.links r i) q; records = remove s.records j })
      ≡ with_moved (if b then record s { links = remove s.links r } else record s { links = remove s.links r; records = remove s.records j }) q r i) [
        | true ↦ ap (λ m. record s { links = m }) links_are
        | false ↦ ap (λ m. record s { links = m; records = remove s.records j }) links_are
      ]
