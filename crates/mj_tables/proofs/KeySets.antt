-- Sets of keys: what is added, what is taken out, and the room in them.
use Rattle.std.proofs.Common.{◌≡◌, Bool, true, false, cond, not, ◌&&◌, ◌||◌, List, [], ◌∷◌, ◌++◌, Option, Some, None, refl, sym, ap, ◌∙◌, inl, inr}
use Rattle.std.specs.Prelude.{IsSome, is_some}
use Rattle.std.specs.List.{list_any}
use Rattle.std.specs.Option.{option_and_then}
use Rattle.std.specs.declared.cmp.Ordering.{Ordering}
use Rattle.std.specs.Ordering.{is_eq}
use Rattle.std.specs.Cmp.{eq_by_cmp_equiv}
use Rattle.std.specs.BTreeMap.{is_at}
use Rattle.std.specs.BTreeSet.{BTreeSet, contains}
use Rattle.std.proofs.lemmas.Bool.{false≢true}
use Rattle.mj_maps.specs.Map.{get}
use Rattle.mj_maps.proofs.MapLaws.{cases_key, eq_same, eq_true, get-collect}
use Rattle.mj_cells.specs.declared.cell.CellKey.{CellKey}
use Rattle.mj_cells.specs.declared.cell.CellWrite.{CellWrite}
use Rattle.mj_cells.specs.Cell.{same_key}
use Rattle.mj_cells.proofs.Keys.{exact_key}
use Rattle.mj_cells.proofs.Kept.{tree_cmp, tree_order}
use Rattle.mj_tables.specs.declared.slot.Slot.{Slot}
use Rattle.mj_tables.specs.Layered.{writes_key, HasRoom}
use Rattle.mj_tables.specs.Slots.{Slots, rooms}
use Rattle.mj_tables.specs.Listed.{has_key, there_at, Adds, AddsAll, Drops, AllStay, Keeps, rooms_in}
use Rattle.mj_tables.proofs.SlotMaps.{get-rooms}

-- ---- the code's order is that of keys

pub set_is : (s : BTreeSet CellKey) (k : CellKey) → contains tree_cmp s k ≡ has_key s k
set_is s k = ap (λ (r : CellKey → CellKey → Ordering). list_any (λ x. is_eq (r k x)) s.keys) tree_order

at_is : (k q : CellKey) → is_at (tree_cmp k) q ≡ same_key q k
at_is k q = ap (λ (r : CellKey → CellKey → Ordering). is_eq (r k q)) tree_order ∙ (eq_by_cmp_equiv exact_key.total).symm k q

true_or : (a b : Bool) → cond a true b ≡ (a || b)
true_or true b = refl
true_or false b = refl

pub one_added : (s n : BTreeSet CellKey) (k : CellKey) → ((q : CellKey) → contains tree_cmp n q ≡ cond (is_at (tree_cmp k) q) true (contains tree_cmp s q)) → Adds s k n
one_added s n k more q = sym (set_is n q) ∙ more q ∙ true_or (is_at (tree_cmp k) q) (contains tree_cmp s q) ∙ (λ i. at_is k q i || set_is s q i)

pub one_dropped : (s n : BTreeSet CellKey) (k : CellKey) → ((q : CellKey) → contains tree_cmp n q ≡ cond (is_at (tree_cmp k) q) false (contains tree_cmp s q)) → Drops s k n
one_dropped s n k less q = sym (set_is n q) ∙ less q ∙ (λ i. cond (at_is k q i) false (set_is s q i))

-- ---- a list of keys as a set

pub or_true : (a b : Bool) → b ≡ true → (a || b) ≡ true
or_true true b h = refl
or_true false b h = h

pub or_swaps : (a b c : Bool) → (b || (a || c)) ≡ (a || (b || c))
or_swaps a true c = sym (or_true a true refl)
or_swaps a false c = refl

pub one_pushed : (ks : List CellKey) (k : CellKey) → Adds (record { keys = ks }) k (record { keys = ks ++ k ∷ [] })
one_pushed [] k q = refl
one_pushed (x ∷ ks) k q = ap (λ b. same_key q x || b) (one_pushed ks k q) ∙ or_swaps (same_key q k) (same_key q x) (has_key (record { keys = ks }) q)

-- a set that was made of the list has its keys
pub made_of : (ks : List CellKey) (n : BTreeSet CellKey) → ((q : CellKey) → contains tree_cmp n q ≡ contains tree_cmp (record { keys = ks }) q) → (q : CellKey) → has_key n q ≡ has_key (record { keys = ks }) q
made_of ks n made q = sym (set_is n q) ∙ made q ∙ set_is (record { keys = ks }) q

-- ---- room for keys

pub adds_stay : (s : BTreeSet CellKey) (k : CellKey) (n : BTreeSet CellKey) → Adds s k n → AllStay s n
adds_stay s k n adds q h = adds q ∙ or_true (same_key q k) (has_key s q) h

pub added_already : (s : BTreeSet CellKey) (k : CellKey) → has_key s k ≡ true → Adds s k s
added_already s k h q = elim (cases_key exact_key q k) [
  | inl e ↦ ap (has_key s) e ∙ h ∙ sym (or_true (same_key q k) (has_key s q) (ap (has_key s) e ∙ h))
  | inr other ↦ sym (ap (λ b. b || has_key s q) other)
]

or_moves : (a b c : Bool) → (b || (a || c)) ≡ ((a || b) || c)
or_moves true true c = refl
or_moves true false c = refl
or_moves false b c = refl

-- one write's key, and then those of the others
pub one_more_added : (s : BTreeSet CellKey) (w : CellWrite) (n : BTreeSet CellKey) (ws : List CellWrite) → Adds s w.key n → (q : CellKey) → (writes_key q ws || has_key n q) ≡ (writes_key q (w ∷ ws) || has_key s q)
one_more_added s w n ws adds q = ap (λ b. writes_key q ws || b) (adds q) ∙ or_moves (same_key q w.key) (writes_key q ws) (has_key s q)

-- the keys that have a slot and stand in the set are room

room_cases : (o : Option Slot) (b : Bool) → is_some (option_and_then (λ (x : Slot). cond b (Some (tt {0})) None) o) ≡ true → (is_some o ≡ true) × (b ≡ true)
room_cases None b h = absurd (false≢true h)
room_cases (Some x) true h = (refl, refl)
room_cases (Some x) false h = absurd (false≢true h)

both_cases : (o : Option Slot) (b : Bool) → is_some o ≡ true → b ≡ true → is_some (option_and_then (λ (x : Slot). cond b (Some (tt {0})) None) o) ≡ true
both_cases None b h g = h
both_cases (Some x) b h g = ap (λ c. is_some (cond c (Some (tt {0})) None)) g

get-rooms_in : (m : Slots) (s : BTreeSet CellKey) (k : CellKey) → get (rooms_in m s) k ≡ option_and_then (λ (x : Slot). cond (has_key s k) (Some (tt {0})) None) (get m k)
get-rooms_in m s k = get-collect exact_key (λ q (x : Slot). cond (has_key s q) (Some (tt {0})) None) m k

both_there : (m : Slots) (s : BTreeSet CellKey) (k : CellKey) → IsSome (get (rooms_in m s) k) → (is_some (get m k) ≡ true) × (has_key s k ≡ true)
both_there m s k h = room_cases (get m k) (has_key s k) (ap is_some (sym (get-rooms_in m s k)) ∙ h)

pub room_of_slots : (m : Slots) (s : BTreeSet CellKey) (ws : List CellWrite) → HasRoom (rooms_in m s) ws → HasRoom (rooms m) ws
room_of_slots m s [] h = tt
room_of_slots m s (w ∷ ws) h = (get-rooms m w.key ∙ (both_there m s w.key h.0).0, room_of_slots m s ws h.1)

pub room_of_set : (m : Slots) (s : BTreeSet CellKey) (ws : List CellWrite) → HasRoom (rooms_in m s) ws → (q : CellKey) → writes_key q ws ≡ true → has_key s q ≡ true
room_of_set m s [] h q is = absurd (false≢true is)
room_of_set m s (w ∷ ws) h q is = elim (cases_key exact_key q w.key) [
  | inl e ↦ ap (has_key s) e ∙ (both_there m s w.key h.0).1
  | inr other ↦ room_of_set m s ws h.1 q (ap (λ b. b || writes_key q ws) (sym other) ∙ is)
]

pub room_of_both : (m : Slots) (s : BTreeSet CellKey) (ws : List CellWrite) → HasRoom (rooms m) ws → ((q : CellKey) → writes_key q ws ≡ true → has_key s q ≡ true) → HasRoom (rooms_in m s) ws
room_of_both m s [] h has = tt
room_of_both m s (w ∷ ws) h has = (
  ap is_some (get-rooms_in m s w.key) ∙ both_cases (get m w.key) (has_key s w.key) (sym (get-rooms m w.key) ∙ h.0) (has w.key (ap (λ b. b || writes_key w.key ws) (eq_same exact_key w.key))),
  room_of_both m s ws h.1 (λ q is. has q (or_true (same_key q w.key) (writes_key q ws) is)),
)

or_first : (a b : Bool) → a ≡ true → (a || b) ≡ true
or_first a b h = ap (λ c. c || b) h

pub all_added : (s : BTreeSet CellKey) (ws : List CellWrite) (n : BTreeSet CellKey) → AddsAll s ws n → (q : CellKey) → writes_key q ws ≡ true → has_key n q ≡ true
all_added s ws n adds q is = adds q ∙ or_first (writes_key q ws) (has_key s q) is

-- ---- keys that are not there go

and_false : (b : Bool) → (b && false) ≡ false
and_false true = refl
and_false false = refl

and_true : (b : Bool) → (b && true) ≡ b
and_true true = refl
and_true false = refl

goes : (h t a : Bool) → t ≡ false → cond a false h ≡ (h && (t || not a))
goes h t true gone = sym (ap (λ b. h && (b || false)) gone ∙ and_false h)
goes h t false gone = sym (ap (λ b. h && (b || true)) gone ∙ and_true h)

-- a key that is not there, once it is out
pub absent_goes : (m : Slots) (s : BTreeSet CellKey) (k : CellKey) (n : BTreeSet CellKey) → is_some (there_at m k) ≡ false → Drops s k n → Keeps m s k n
absent_goes m s k n absent less q = less q ∙ elim (cases_key exact_key q k) [
  | inl e ↦ goes (has_key s q) (is_some (there_at m q)) (same_key q k) (ap (λ x. is_some (there_at m x)) e ∙ absent)
  | inr other ↦ ap (λ b. cond b false (has_key s q)) other ∙ sym (ap (λ b. has_key s q && (is_some (there_at m q) || not b)) other ∙ ap (λ b. has_key s q && b) (or_true (is_some (there_at m q)) true refl) ∙ and_true (has_key s q))
]

stays_put : (h t a : Bool) → (a ≡ true → t ≡ true) → h ≡ (h && (t || not a))
stays_put h t true is = sym (ap (λ b. h && (b || false)) (is refl) ∙ and_true h)
stays_put h t false is = sym (ap (λ b. h && b) (or_true t true refl) ∙ and_true h)

-- one that is there stays
pub there_stays : (m : Slots) (s : BTreeSet CellKey) (k : CellKey) → is_some (there_at m k) ≡ true → Keeps m s k s
there_stays m s k there q = stays_put (has_key s q) (is_some (there_at m q)) (same_key q k) (λ same. ap (λ x. is_some (there_at m x)) (eq_true exact_key q k same) ∙ there)

keeps_both : (h t a b : Bool) → ((h && (t || not a)) && (t || not b)) ≡ (h && (t || not (a || b)))
keeps_both false t a b = refl
keeps_both true true a b = refl
keeps_both true false true b = refl
keeps_both true false false b = refl

-- one write's key, and then those of the others
pub one_more_kept : (m : Slots) (s : BTreeSet CellKey) (w : CellWrite) (n : BTreeSet CellKey) (ws : List CellWrite) → Keeps m s w.key n → (q : CellKey) → (has_key n q && (is_some (there_at m q) || not (writes_key q ws))) ≡ (has_key s q && (is_some (there_at m q) || not (writes_key q (w ∷ ws))))
one_more_kept m s w n ws keeps q = ap (λ b. b && (is_some (there_at m q) || not (writes_key q ws))) (keeps q) ∙ keeps_both (has_key s q) (is_some (there_at m q)) (same_key q w.key) (writes_key q ws)
