-- Layers whose set has each key that is there, through their changes.
use Rattle.std.proofs.Common.{◌≡◌, Bool, true, false, cond, not, ◌&&◌, ◌||◌, List, [], ◌∷◌, ◌++◌, Option, Some, None, refl, sym, ap, ◌∙◌, append-nil}
use Rattle.std.specs.Prelude.{is_some}
use Rattle.std.specs.Option.{option_and_then, option_or}
use Rattle.std.specs.BTreeSet.{BTreeSet}
use Rattle.std.proofs.lemmas.Bool.{false≢true}
use Rattle.mj_maps.specs.Map.{get}
use Rattle.mj_cells.specs.declared.cell.CellKey.{CellKey}
use Rattle.mj_cells.specs.declared.cell.CellValue.{CellValue}
use Rattle.mj_cells.specs.declared.cell.CellWrite.{CellWrite}
use Rattle.mj_cells.specs.Table.{put_all}
use Rattle.mj_tables.specs.declared.group.Group.{Group}
use Rattle.mj_tables.specs.declared.slot.Slot.{Slot}
use Rattle.mj_tables.specs.Layered.{all_writes, writes_key, is_there, early_of, EndBelow, HasRoom}
use Rattle.mj_tables.specs.Slots.{Slots, safe_cells, there_in, early_in, if_there, last_write, all_projected, AreLaid}
use Rattle.mj_tables.specs.Listed.{has_key, there_at, AreThere, AllStay, KeepsThere, ListsThere, rooms_in, AreSound}
use Rattle.mj_tables.proofs.KeySets.{room_of_slots, room_of_set}
use Rattle.mj_tables.proofs.Laid.{early_at, laid_projected, safe-all_projected, all_writes-append}
use Rattle.mj_tables.proofs.Writes.{get-put_all, put_all-append, unwritten}

there_in_early : (o : Option Slot) → option_and_then there_in o ≡ option_and_then if_there (option_and_then early_in o)
there_in_early None = refl
there_in_early (Some s) = refl

-- what is there at a key is what the early cells show
pub there_is : (m : Slots) (gs : List Group) → AreLaid m gs → (k : CellKey) → there_at m k ≡ option_and_then if_there (get (early_of (safe_cells m) gs) k)
there_is m gs laid k = there_in_early (get m k) ∙ ap (option_and_then if_there) (sym (early_at m gs laid k))

some_there : (m : Slots) (gs : List Group) → AreLaid m gs → (k : CellKey) (v : CellValue) → get (early_of (safe_cells m) gs) k ≡ Some v → is_there v ≡ true → is_some (there_at m k) ≡ true
some_there m gs laid k v is there = ap is_some (there_is m gs laid k ∙ ap (option_and_then if_there) is ∙ ap (λ b. cond b (Some v) None) there)

-- a set of just the keys that are there
pub sound_start : (m : Slots) (s : BTreeSet CellKey) (gs : List Group) → AreLaid m gs → AreThere m s → AreSound m s gs
sound_start m s gs laid are = record { laid = laid; there = λ k v is there. are k ∙ some_there m gs laid k v is there }

there_of : (v : CellValue) → is_some (if_there v) ≡ true → is_there v ≡ true
there_of v = elim (is_there v) as (λ b. is_some (cond b (Some v) None) ≡ true → b ≡ true) [ true ↦ λ h. refl | false ↦ λ h. h ]

-- each key that is there stands in the set
pub sound_lists : (m : Slots) (s : BTreeSet CellKey) (gs : List Group) → AreSound m s gs → ListsThere m s
sound_lists m s gs sound k is = elim (get (early_of (safe_cells m) gs) k) as (λ o. get (early_of (safe_cells m) gs) k ≡ o → is_some (option_and_then if_there o) ≡ true → has_key s k ≡ true) [
  | None ↦ λ _ h. absurd (false≢true h)
  | Some v ↦ λ e h. sound.there k v e (there_of v h)
] refl (ap is_some (sym (there_is m gs sound.laid k)) ∙ is)

-- where the early cells stay and no key goes
pub sound_same : (m : Slots) (s : BTreeSet CellKey) (gs : List Group) (n : Slots) (t : BTreeSet CellKey) (hs : List Group) → AreSound m s gs → AreLaid n hs → AllStay s t → early_of (safe_cells n) hs ≡ early_of (safe_cells m) gs → AreSound n t hs
sound_same m s gs n t hs sound laid stay same = record { laid = laid; there = λ k v is there. stay k (sound.there k v (ap (λ c. get c k) (sym same) ∙ is) there) }

-- ---- a group over the others

early_after : (m : Slots) (gs : List Group) (g : Group) → early_of (safe_cells (all_projected g.ends m g.writes)) (gs ++ g ∷ []) ≡ put_all (early_of (safe_cells m) gs) g.writes
early_after m gs g =
    (λ i. put_all (safe-all_projected g.ends m g.writes i) ((all_writes-append gs (g ∷ []) ∙ ap (λ (ws : List CellWrite). all_writes gs ++ ws) (append-nil g.writes)) i))
    ∙ put_all-append (safe_cells m) (all_writes gs) g.writes

kept : (h a b : Bool) → h ≡ true → a ≡ true → (h && (a || b)) ≡ true
kept h a b x y = (λ i. x i && (y i || b))

module _ (m : Slots) (s : BTreeSet CellKey) (gs : List Group) (g : Group) where
  -- the keys that are there with the group had their place in the set
  had_place : AreSound m s gs → HasRoom (rooms_in m s) g.writes → (k : CellKey) (v : CellValue) → get (put_all (early_of (safe_cells m) gs) g.writes) k ≡ Some v → is_there v ≡ true → has_key s k ≡ true
  had_place sound room k v is there = elim (writes_key k g.writes) as (λ b. writes_key k g.writes ≡ b → has_key s k ≡ true) [
    | true ↦ λ writes. room_of_set m s g.writes room k writes
    | false ↦ λ not_one. sound.there k v (sym (get-put_all (early_of (safe_cells m) gs) g.writes k ∙ ap (λ o. option_or o (get (early_of (safe_cells m) gs) k)) (unwritten k g.writes (last_write k g.writes) refl not_one)) ∙ is) there
  ] refl

  pub sound_projected : (t : BTreeSet CellKey) → AreSound m s gs → EndBelow g.ends gs → HasRoom (rooms_in m s) g.writes → KeepsThere (all_projected g.ends m g.writes) s g.writes t → AreSound (all_projected g.ends m g.writes) t (gs ++ g ∷ [])
  sound_projected t sound below room keeps =
      let n = all_projected g.ends m g.writes in
      let laid : AreLaid n (gs ++ g ∷ []) = laid_projected m gs g sound.laid below (room_of_slots m s g.writes room) in
      record {
        laid = laid;
        there = λ k v is there. keeps k ∙ kept (has_key s k) (is_some (there_at n k)) (not (writes_key k g.writes)) (had_place sound room k v (ap (λ c. get c k) (sym (early_after m gs g)) ∙ is) there) (some_there n (gs ++ g ∷ []) laid k v is there);
      }
