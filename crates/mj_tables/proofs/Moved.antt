-- Cells that move one by one are all there in the end.
use Rattle.std.proofs.Common.{◌≡◌, ◌<◌, arith, [], Bool, true, false, Option, Some, None, refl, sym, ap, subst, ◌∙◌, inl, inr}
use Rattle.std.specs.Prelude.{option_map}
use Rattle.std.specs.Option.{option_or, option_and_then}
use Rattle.std.proofs.lemmas.Bool.{true≢false}
use Rattle.mj_maps.specs.Map.{Map, get, insert, remove, len, empty}
use Rattle.mj_maps.proofs.MapLaws.{cases_key, insert_same, insert_other, remove_same, remove_other, get-collect, same_map, get_empty, len-remove, none_some}
use Rattle.mj_cells.specs.declared.cell.CellKey.{CellKey}
use Rattle.mj_cells.specs.declared.cell.CellValue.{CellValue}
use Rattle.mj_cells.specs.Cell.{key_cmp}
use Rattle.mj_cells.specs.Next.{next_cell, IsLeastAbove}
use Rattle.mj_cells.proofs.Keys.{exact_key}
use Rattle.mj_cells.proofs.Least.{next_is_least}
use Rattle.mj_tables.specs.declared.slot.Slot.{Slot}
use Rattle.mj_tables.specs.Slots.{Slots, safe_slot, safe_slots, safe_cells, Moved, Moves, AreLaid}

-- the slots that are there with those of the cells that are left
abbrev pub joined_at : Map key_cmp CellValue → Slots → CellKey → Option Slot
joined_at t m q = option_or (get m q) (option_map safe_slot (get t q))

module _ (t : Map key_cmp CellValue) (m : Slots) (u : Map key_cmp CellValue) (n : Slots) where
  -- a move leaves all that is there
  joined_moved : (o : Option (CellKey × CellValue)) (more : Bool) → IsLeastAbove t None o → Moved t m u n o more → ((q : CellKey) (v : CellValue) → get t q ≡ Some v → get m q ≡ None) → (q : CellKey) → joined_at u n q ≡ joined_at t m q
  joined_moved None more least moved apart q = λ i. option_or (get (moved.2 i) q) (option_map safe_slot (get (moved.1 i) q))
  joined_moved (Some e) more least moved apart q = (λ i. option_or (get (moved.2 i) q) (option_map safe_slot (get (moved.1 i) q))) ∙ elim (cases_key exact_key q e.0) [
    | inl is ↦ subst (λ z. option_or (get (insert m e.0 (safe_slot e.1)) z) (option_map safe_slot (get (remove t e.0) z)) ≡ joined_at t m z) (sym is)
        (ap (λ o. option_or o (option_map safe_slot (get (remove t e.0) e.0))) (insert_same exact_key m e.0 (safe_slot e.1))
        ∙ sym ((λ i. option_or (apart e.0 e.1 least.0 i) (option_map safe_slot (least.0 i)))))
    | inr other ↦ λ i. option_or (insert_other exact_key m e.0 (safe_slot e.1) q other i) (option_map safe_slot (remove_other exact_key t e.0 q other i))
  ]

  apart_moved : (o : Option (CellKey × CellValue)) (more : Bool) → Moved t m u n o more → ((q : CellKey) (v : CellValue) → get t q ≡ Some v → get m q ≡ None) → (q : CellKey) (v : CellValue) → get u q ≡ Some v → get n q ≡ None
  apart_moved None more moved apart q v is = ap (λ x. get x q) moved.2 ∙ apart q v (ap (λ x. get x q) (sym moved.1) ∙ is)
  apart_moved (Some e) more moved apart q v is = ap (λ x. get x q) moved.2 ∙ elim (cases_key exact_key q e.0) [
    | inl same ↦ absurd (none_some v (sym (remove_same exact_key t e.0) ∙ ap (get (remove t e.0)) (sym same) ∙ ap (λ x. get x q) (sym moved.1) ∙ is))
    | inr other ↦ insert_other exact_key m e.0 (safe_slot e.1) q other ∙ apart q v (sym (remove_other exact_key t e.0 q other) ∙ ap (λ x. get x q) (sym moved.1) ∙ is)
  ]

  less_moved : (o : Option (CellKey × CellValue)) → IsLeastAbove t None o → Moved t m u n o true → len u < len t
  less_moved None least moved = absurd (true≢false moved.0)
  less_moved (Some e) least moved =
      let less = len-remove exact_key t e.0 e.1 least.0 in
      let is = ap len moved.1 in
      omega (arith, less, is)

  nothing_left : (o : Option (CellKey × CellValue)) → IsLeastAbove t None o → Moved t m u n o false → (q : CellKey) → get t q ≡ None
  nothing_left None least moved q = elim (get t q) as (λ o. get t q ≡ o → o ≡ None) [ None ↦ λ _. refl | Some v ↦ λ is. absurd (true≢false (least q v is)) ] refl
  nothing_left (Some e) least moved q = absurd (true≢false (sym moved.0))

  pub moves_join : (more : Bool) → Moves t m u n more → ((q : CellKey) (v : CellValue) → get t q ≡ Some v → get m q ≡ None) → (q : CellKey) → joined_at u n q ≡ joined_at t m q
  moves_join more = joined_moved (next_cell t None) more (next_is_least t None)

  pub moves_apart : (more : Bool) → Moves t m u n more → ((q : CellKey) (v : CellValue) → get t q ≡ Some v → get m q ≡ None) → (q : CellKey) (v : CellValue) → get u q ≡ Some v → get n q ≡ None
  moves_apart more = apart_moved (next_cell t None) more

  pub moves_less : Moves t m u n true → len u < len t
  moves_less = less_moved (next_cell t None) (next_is_least t None)

  moves_out : (o : Option (CellKey × CellValue)) → Moved t m u n o false → n ≡ m
  moves_out None moved = moved.2
  moves_out (Some e) moved = absurd (true≢false (sym moved.0))

  or_left : (o : Option Slot) → option_or o None ≡ o
  or_left None = refl
  or_left (Some s) = refl

  mapped : (o : Option CellValue) → option_map safe_slot o ≡ option_and_then (λ v. Some (safe_slot v)) o
  mapped None = refl
  mapped (Some v) = refl

  -- once none is left, all of a table's cells are slots
  pub all_moved : (start : Map key_cmp CellValue) → ((q : CellKey) → joined_at t m q ≡ option_map safe_slot (get start q)) → Moves t m u n false → n ≡ safe_slots start
  all_moved start joined moves =
      let none = nothing_left (next_cell t None) (next_is_least t None) moves in
      moves_out (next_cell t None) moves ∙ same_map exact_key m (safe_slots start) (λ q.
      sym (or_left (get m q)) ∙ ap (λ o. option_or (get m q) (option_map safe_slot o)) (sym (none q)) ∙ joined q ∙ mapped (get start q) ∙ sym (get-collect exact_key (λ k v. Some (safe_slot v)) start q))

pub joined_start : (t : Map key_cmp CellValue) (q : CellKey) → joined_at t empty q ≡ option_map safe_slot (get t q)
joined_start t q = ap (λ o. option_or o (option_map safe_slot (get t q))) (get_empty key_cmp q)

safe_back : (o : Option CellValue) → option_and_then (λ (s : Slot). s.safe) (option_and_then (λ v. Some (safe_slot v)) o) ≡ o
safe_back None = refl
safe_back (Some v) = refl

no_ahead : (o : Option CellValue) → option_and_then (λ (s : Slot). s.ahead) (option_and_then (λ v. Some (safe_slot v)) o) ≡ None
no_ahead None = refl
no_ahead (Some v) = refl

get-safe_slots : (t : Map key_cmp CellValue) (q : CellKey) → get (safe_slots t) q ≡ option_and_then (λ v. Some (safe_slot v)) (get t q)
get-safe_slots t q = get-collect exact_key (λ k v. Some (safe_slot v)) t q

pub safe-safe_slots : (t : Map key_cmp CellValue) → safe_cells (safe_slots t) ≡ t
safe-safe_slots t = same_map exact_key _ t (λ q. get-collect exact_key (λ k (s : Slot). s.safe) (safe_slots t) q ∙ ap (option_and_then (λ (s : Slot). s.safe)) (get-safe_slots t q) ∙ safe_back (get t q))

-- with no group nothing stands over them
pub safe_laid : (t : Map key_cmp CellValue) → AreLaid (safe_slots t) []
safe_laid t = record { ahead = λ k. ap (option_and_then (λ (s : Slot). s.ahead)) (get-safe_slots t k) ∙ no_ahead (get t k); rise = tt }
