-- What one change of a slot does to the maps that the slots stand for.
use Rattle.std.proofs.Common.{◌≡◌, ℕ, Bool, true, false, cond, Option, Some, None, refl, sym, ap, ◌∙◌, inl, inr}
use Rattle.std.specs.Prelude.{option_map, is_some}
use Rattle.std.specs.Option.{option_and_then, option_or}
use Rattle.std.proofs.lemmas.Bool.{false≢true}
use Rattle.mj_maps.specs.Map.{get, insert, collect}
use Rattle.mj_maps.proofs.MapLaws.{cases_key, eq_same, get-insert, get-collect, same_map}
use Rattle.mj_cells.specs.declared.cell.CellKey.{CellKey}
use Rattle.mj_cells.specs.declared.cell.CellValue.{CellValue}
use Rattle.mj_cells.specs.Cell.{same_key}
use Rattle.mj_cells.proofs.Keys.{exact_key}
use Rattle.mj_tables.specs.declared.slot.Slot.{Slot}
use Rattle.mj_tables.specs.Slots.{Slots, there_in, safe_cells, rooms, ahead_at, empty_slot, with_room, altered, altered_at, projecting, settling, ahead_after, SameAhead}
use Rattle.mj_tables.specs.Listed.{there_at}

pub at_key : (q k : CellKey) → q ≡ k → same_key q k ≡ true
at_key q k e = ap (λ z. same_key z k) e ∙ eq_same exact_key k

-- ---- the slots of other keys stay

pub get-altered : (m : Slots) (k : CellKey) (f : Slot → Slot) (q : CellKey) → get (altered m k f) q ≡ cond (same_key q k) (option_map f (get m k)) (get m q)
get-altered m k f q = elim (get m k) as (λ o. get m k ≡ o → get (altered_at m k f o) q ≡ cond (same_key q k) (option_map f o) (get m q)) [
  | None ↦ λ none. elim (cases_key exact_key q k) [
    | inl e ↦ ap (get m) e ∙ none ∙ sym (ap (λ b. cond b None (get m q)) (at_key q k e))
    | inr other ↦ sym (ap (λ b. cond b None (get m q)) other)
  ]
  | Some s ↦ λ _. get-insert exact_key m k (f s) q
] refl

get-with_room : (m : Slots) (k q : CellKey) → get (with_room m k) q ≡ cond (same_key q k) (option_or (get m k) (Some empty_slot)) (get m q)
get-with_room m k q = elim (get m k) as (λ o. get m k ≡ o → get (cond (is_some o) m (insert m k empty_slot)) q ≡ cond (same_key q k) (option_or o (Some empty_slot)) (get m q)) [
  | None ↦ λ _. get-insert exact_key m k empty_slot q
  | Some s ↦ λ is. elim (cases_key exact_key q k) [
    | inl e ↦ ap (get m) e ∙ is ∙ sym (ap (λ b. cond b (Some s) (get m q)) (at_key q k e))
    | inr other ↦ sym (ap (λ b. cond b (Some s) (get m q)) other)
  ]
] refl

pub room_already : (m : Slots) (k : CellKey) (s : Slot) → get m k ≡ Some s → m ≡ with_room m k
room_already m k s is = sym (ap (λ o. cond (is_some o) m (insert m k empty_slot)) is)

pub room_added : (m : Slots) (k : CellKey) → get m k ≡ None → insert m k empty_slot ≡ with_room m k
room_added m k none = sym (ap (λ o. cond (is_some o) m (insert m k empty_slot)) none)

-- what is read of a slot
module _ {A : Type 0} (read : Slot → Option A) where
  abbrev pub reads : Option Slot → Option A
  reads o = option_and_then read o

  -- after a change at one key
  reads-altered : (m n : Slots) (k : CellKey) (new : Option Slot) → ((q : CellKey) → get n q ≡ cond (same_key q k) new (get m q)) → (q : CellKey) → reads (get n q) ≡ cond (same_key q k) (reads new) (reads (get m q))
  reads-altered m n k new is q = elim (cases_key exact_key q k) [
    | inl e ↦ ap reads (is q) ∙ ap (λ b. reads (cond b new (get m q))) (at_key q k e) ∙ sym (ap (λ b. cond b (reads new) (reads (get m q))) (at_key q k e))
    | inr other ↦ ap reads (is q) ∙ ap (λ b. reads (cond b new (get m q))) other ∙ sym (ap (λ b. cond b (reads new) (reads (get m q))) other)
  ]

  -- which leaves what is read
  reads_same : (m n : Slots) (k : CellKey) (new : Option Slot) → ((q : CellKey) → get n q ≡ cond (same_key q k) new (get m q)) → reads new ≡ reads (get m k) → (q : CellKey) → reads (get n q) ≡ reads (get m q)
  reads_same m n k new is same q = elim (cases_key exact_key q k) [
    | inl e ↦ reads-altered m n k new is q ∙ ap (λ b. cond b (reads new) (reads (get m q))) (at_key q k e) ∙ same ∙ ap (λ z. reads (get m z)) (sym e)
    | inr other ↦ reads-altered m n k new is q ∙ ap (λ b. cond b (reads new) (reads (get m q))) other
  ]

  collected_same : (m n : Slots) → ((q : CellKey) → reads (get n q) ≡ reads (get m q)) → collect (λ k s. read s) n ≡ collect (λ k s. read s) m
  collected_same m n same = same_map exact_key _ _ (λ q. get-collect exact_key (λ k s. read s) n q ∙ same q ∙ sym (get-collect exact_key (λ k s. read s) m q))

-- ---- room

none_room : (o : Option Slot) → option_and_then (λ (s : Slot). s.safe) (option_or o (Some empty_slot)) ≡ option_and_then (λ (s : Slot). s.safe) o
none_room None = refl
none_room (Some s) = refl

none_ahead : (o : Option Slot) → option_and_then (λ (s : Slot). s.ahead) (option_or o (Some empty_slot)) ≡ option_and_then (λ (s : Slot). s.ahead) o
none_ahead None = refl
none_ahead (Some s) = refl

none_there : (o : Option Slot) → option_and_then there_in (option_or o (Some empty_slot)) ≡ option_and_then there_in o
none_there None = refl
none_there (Some s) = refl

pub safe-with_room : (m : Slots) (k : CellKey) → safe_cells (with_room m k) ≡ safe_cells m
safe-with_room m k = collected_same (λ (s : Slot). s.safe) m (with_room m k) (reads_same (λ (s : Slot). s.safe) m (with_room m k) k _ (get-with_room m k) (none_room (get m k)))

pub ahead-with_room : (m : Slots) (k : CellKey) → SameAhead m (with_room m k)
ahead-with_room m k = reads_same (λ (s : Slot). s.ahead) m (with_room m k) k _ (get-with_room m k) (none_ahead (get m k))

pub there-with_room : (m : Slots) (k q : CellKey) → there_at (with_room m k) q ≡ there_at m q
there-with_room m k = reads_same there_in m (with_room m k) k _ (get-with_room m k) (none_there (get m k))

there : {A : Type 0} (o : Option A) (x : A) → is_some (option_or o (Some x)) ≡ true
there None x = refl
there (Some y) x = refl

pub some-with_room : (m : Slots) (k : CellKey) → is_some (get (with_room m k) k) ≡ true
some-with_room m k = ap is_some (get-with_room m k k ∙ ap (λ b. cond b (option_or (get m k) (Some empty_slot)) (get m k)) (eq_same exact_key k)) ∙ there (get m k) empty_slot

stays_some : (b : Bool) (o p : Option Slot) → is_some o ≡ true → is_some p ≡ true → is_some (cond b o p) ≡ true
stays_some true o p x y = x
stays_some false o p x y = y

pub some_stays-with_room : (m : Slots) (k q : CellKey) → is_some (get m q) ≡ true → is_some (get (with_room m k) q) ≡ true
some_stays-with_room m k q h = ap is_some (get-with_room m k q) ∙ stays_some (same_key q k) _ _ (there (get m k) empty_slot) h

-- ---- a change of a slot that is there

mapped_some : (f : Slot → Slot) (o : Option Slot) → option_and_then (λ (s : Slot). Some (tt {0})) (option_map f o) ≡ option_and_then (λ (s : Slot). Some (tt {0})) o
mapped_some f None = refl
mapped_some f (Some s) = refl

pub rooms-altered : (m : Slots) (k : CellKey) (f : Slot → Slot) → rooms (altered m k f) ≡ rooms m
rooms-altered m k f = collected_same (λ (s : Slot). Some (tt {0})) m (altered m k f) (reads_same (λ (s : Slot). Some (tt {0})) m (altered m k f) k _ (get-altered m k f) (mapped_some f (get m k)))

pub get-rooms : (m : Slots) (q : CellKey) → is_some (get (rooms m) q) ≡ is_some (get m q)
get-rooms m q = ap is_some (get-collect exact_key (λ k (s : Slot). Some (tt {0})) m q) ∙ elim (get m q) as (λ o. is_some (option_and_then (λ (s : Slot). Some (tt {0})) o) ≡ is_some o) [ None ↦ refl | Some s ↦ refl ]

projected_safe : (v : CellValue) (ends : ℕ) (o : Option Slot) → option_and_then (λ (s : Slot). s.safe) (option_map (projecting v ends) o) ≡ option_and_then (λ (s : Slot). s.safe) o
projected_safe v ends None = refl
projected_safe v ends (Some s) = refl

pub safe-projecting : (m : Slots) (k : CellKey) (v : CellValue) (ends : ℕ) → safe_cells (altered m k (projecting v ends)) ≡ safe_cells m
safe-projecting m k v ends = collected_same (λ (s : Slot). s.safe) m (altered m k (projecting v ends)) (reads_same (λ (s : Slot). s.safe) m (altered m k (projecting v ends)) k _ (get-altered m k (projecting v ends)) (projected_safe v ends (get m k)))

projected_ahead : (v : CellValue) (ends : ℕ) (o : Option Slot) → is_some o ≡ true → option_and_then (λ (s : Slot). s.ahead) (option_map (projecting v ends) o) ≡ Some (record { value = v; last = ends })
projected_ahead v ends None h = absurd (false≢true h)
projected_ahead v ends (Some s) h = refl

pub ahead-projecting : (m : Slots) (k : CellKey) (v : CellValue) (ends : ℕ) → is_some (get m k) ≡ true → (q : CellKey) → ahead_at (altered m k (projecting v ends)) q ≡ cond (same_key q k) (Some (record { value = v; last = ends })) (ahead_at m q)
ahead-projecting m k v ends h q = reads-altered (λ (s : Slot). s.ahead) m (altered m k (projecting v ends)) k _ (get-altered m k (projecting v ends)) q
    ∙ ap (λ o. cond (same_key q k) o (ahead_at m q)) (projected_ahead v ends (get m k) h)

settled_safe : (v : CellValue) (ends : ℕ) (o : Option Slot) → is_some o ≡ true → option_and_then (λ (s : Slot). s.safe) (option_map (settling v ends) o) ≡ Some v
settled_safe v ends None h = absurd (false≢true h)
settled_safe v ends (Some s) h = refl

pub safe-settling : (m : Slots) (k : CellKey) (v : CellValue) (ends : ℕ) → is_some (get m k) ≡ true → safe_cells (altered m k (settling v ends)) ≡ insert (safe_cells m) k v
safe-settling m k v ends h = same_map exact_key _ _ (λ q.
    get-collect exact_key (λ k (s : Slot). s.safe) (altered m k (settling v ends)) q
    ∙ reads-altered (λ (s : Slot). s.safe) m (altered m k (settling v ends)) k _ (get-altered m k (settling v ends)) q
    ∙ (λ i. cond (same_key q k) (settled_safe v ends (get m k) h i) (sym (get-collect exact_key (λ k (s : Slot). s.safe) m q) i))
    ∙ sym (get-insert exact_key (safe_cells m) k v q))

settled_ahead : (v : CellValue) (ends : ℕ) (o : Option Slot) → option_and_then (λ (s : Slot). s.ahead) (option_map (settling v ends) o) ≡ ahead_after ends (option_and_then (λ (s : Slot). s.ahead) o)
settled_ahead v ends None = refl
settled_ahead v ends (Some s) = refl

pub ahead-settling : (m : Slots) (k : CellKey) (v : CellValue) (ends : ℕ) (q : CellKey) → ahead_at (altered m k (settling v ends)) q ≡ cond (same_key q k) (ahead_after ends (ahead_at m q)) (ahead_at m q)
ahead-settling m k v ends q = reads-altered (λ (s : Slot). s.ahead) m (altered m k (settling v ends)) k _ (get-altered m k (settling v ends)) q
    ∙ elim (cases_key exact_key q k) [
      | inl e ↦ ap (λ o. cond (same_key q k) o (ahead_at m q)) (settled_ahead v ends (get m k) ∙ ap (λ z. ahead_after ends (ahead_at m z)) (sym e))
      | inr other ↦ ap (λ b. cond b (option_and_then (λ (s : Slot). s.ahead) (option_map (settling v ends) (get m k))) (ahead_at m q)) other ∙ sym (ap (λ b. cond b (ahead_after ends (ahead_at m q)) (ahead_at m q)) other)
    ]
