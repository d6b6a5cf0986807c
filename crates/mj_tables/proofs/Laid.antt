-- Slots that hold what groups write.
use Rattle.std.proofs.Common.{◌≡◌, ℕ, ◌<◌, ◌≤◌, arith, Bool, true, false, cond, ◌||◌, List, [], ◌∷◌, ◌++◌, Option, Some, None, refl, sym, ap, subst, ◌∙◌, append_assoc}
use Rattle.std.specs.Prelude.{is_some, nat_le, nat_lt}
use Rattle.std.specs.List.{AllByRecursion}
use Rattle.std.specs.Option.{option_or, option_and_then}
use Rattle.std.proofs.lemmas.Bool.{true≢false}
use Rattle.mj_maps.specs.Map.{Map, get}
use Rattle.mj_maps.proofs.MapLaws.{get-collect, same_map, some_same, none_some, eq_same}
use Rattle.mj_cells.specs.declared.cell.CellKey.{CellKey}
use Rattle.mj_cells.specs.declared.cell.CellValue.{CellValue}
use Rattle.mj_cells.specs.declared.cell.CellWrite.{CellWrite}
use Rattle.mj_cells.specs.Cell.{key_cmp, same_key}
use Rattle.mj_cells.specs.Table.{put_all}
use Rattle.mj_cells.proofs.Keys.{exact_key}
use Rattle.mj_tables.specs.declared.group.Group.{Group}
use Rattle.mj_tables.specs.declared.slot.Ahead.{Ahead}
use Rattle.mj_tables.specs.declared.slot.Slot.{Slot}
use Rattle.mj_tables.specs.Layered.{all_writes, writes_key, early_of, EndBelow, EndsRise, HasRoom, NoneEnded, ended, unended}
use Rattle.mj_tables.specs.Slots.{Slots, safe_cells, early_slots, early_in, value_ahead, rooms, ahead_at, ahead_after, ahead_by, ahead_of, last_write, altered, projecting, settling, with_room, all_room, all_projected, all_settled, AreLaid}
use Rattle.mj_tables.proofs.SlotMaps.{some-with_room, some_stays-with_room, rooms-altered, get-rooms, safe-projecting, ahead-projecting, safe-settling, ahead-settling}
use Rattle.mj_tables.proofs.Writes.{get-put_all, put_all-append, some-last_write, value-ahead_of, ahead_of-append, some-ahead_of}

-- ---- room for all

some-all_room : (m : Slots) (ws : List CellWrite) (q : CellKey) → is_some (get m q) ≡ true → is_some (get (all_room m ws) q) ≡ true
some-all_room m [] q h = h
some-all_room m (w ∷ ws) q h = some-all_room (with_room m w.key) ws q (some_stays-with_room m w.key q h)

-- each key of some writes has room
abbrev pub AllThere : Slots → List CellWrite → Type 0
AllThere m [] = Unit {0}
AllThere m (w ∷ ws) = (is_some (get m w.key) ≡ true) × AllThere m ws

there-all_room : (m : Slots) (ws : List CellWrite) → AllThere (all_room m ws) ws
there-all_room m [] = tt
there-all_room m (w ∷ ws) = (some-all_room (with_room m w.key) ws w.key (some-with_room m w.key), there-all_room (with_room m w.key) ws)

there_of_room : (m : Slots) (ws : List CellWrite) → HasRoom (rooms m) ws → AllThere m ws
there_of_room m [] h = tt
there_of_room m (w ∷ ws) h = (sym (get-rooms m w.key) ∙ h.0, there_of_room m ws h.1)

room_of_there : (m : Slots) (ws : List CellWrite) → AllThere m ws → HasRoom (rooms m) ws
room_of_there m [] h = tt
room_of_there m (w ∷ ws) h = (get-rooms m w.key ∙ h.0, room_of_there m ws h.1)

pub room-all_room : (m : Slots) (ws : List CellWrite) → HasRoom (rooms (all_room m ws)) ws
room-all_room m ws = room_of_there (all_room m ws) ws (there-all_room m ws)

-- ---- a group over the others

pub safe-all_projected : (ends : ℕ) (m : Slots) (ws : List CellWrite) → safe_cells (all_projected ends m ws) ≡ safe_cells m
safe-all_projected ends m [] = refl
safe-all_projected ends m (w ∷ ws) = safe-all_projected ends (altered m w.key (projecting w.value ends)) ws ∙ safe-projecting m w.key w.value ends

by_if : (b : Bool) (ends : ℕ) (v : CellValue) (o : Option Ahead) → cond b (Some (record { value = v; last = ends })) o ≡ option_or (ahead_by ends (cond b (Some v) None)) o
by_if true ends v o = refl
by_if false ends v o = refl

by_or : (ends : ℕ) (a b : Option CellValue) (o : Option Ahead) → option_or (ahead_by ends a) (option_or (ahead_by ends b) o) ≡ option_or (ahead_by ends (option_or a b)) o
by_or ends None b o = refl
by_or ends (Some v) b o = refl

pub ahead-all_projected : (ends : ℕ) (m : Slots) (ws : List CellWrite) → HasRoom (rooms m) ws → (q : CellKey) → ahead_at (all_projected ends m ws) q ≡ option_or (ahead_by ends (last_write q ws)) (ahead_at m q)
ahead-all_projected ends m [] room q = refl
ahead-all_projected ends m (w ∷ ws) room q =
    let n : Slots = altered m w.key (projecting w.value ends) in
    ahead-all_projected ends n ws (subst (λ r. HasRoom r ws) (sym (rooms-altered m w.key (projecting w.value ends))) room.1) q
    ∙ ap (option_or (ahead_by ends (last_write q ws))) (ahead-projecting m w.key w.value ends (sym (get-rooms m w.key) ∙ room.0) q ∙ by_if (same_key q w.key) ends w.value (ahead_at m q))
    ∙ by_or ends (last_write q ws) (cond (same_key q w.key) (Some w.value) None) (ahead_at m q)

below_push : (h g : Group) (gs : List Group) → AllByRecursion (λ (x : Group). h.ends < x.ends) gs → h.ends < g.ends → AllByRecursion (λ (x : Group). h.ends < x.ends) (gs ++ g ∷ [])
below_push h g [] all less = (less, tt)
below_push h g (x ∷ gs) all less = (all.0, below_push h g gs all.1 less)

rise_push : (gs : List Group) (g : Group) → EndsRise gs → EndBelow g.ends gs → EndsRise (gs ++ g ∷ [])
rise_push [] g rise below = (tt, tt)
rise_push (h ∷ gs) g rise below = (below_push h g gs rise.0 below.0, rise_push gs g rise.1 below.1)

pub laid_projected : (m : Slots) (gs : List Group) (g : Group) → AreLaid m gs → EndBelow g.ends gs → HasRoom (rooms m) g.writes → AreLaid (all_projected g.ends m g.writes) (gs ++ g ∷ [])
laid_projected m gs g laid below room = record {
  ahead = λ k. ahead-all_projected g.ends m g.writes room k ∙ ap (option_or (ahead_by g.ends (last_write k g.writes))) (laid.ahead k) ∙ sym (ahead_of-append k gs g);
  rise = rise_push gs g laid.rise below;
}

-- ---- the first group becomes safe

pub rooms-all_settled : (ends : ℕ) (m : Slots) (ws : List CellWrite) → rooms (all_settled ends m ws) ≡ rooms m
rooms-all_settled ends m [] = refl
rooms-all_settled ends m (w ∷ ws) = rooms-all_settled ends (altered m w.key (settling w.value ends)) ws ∙ rooms-altered m w.key (settling w.value ends)

safe-all_settled : (ends : ℕ) (m : Slots) (ws : List CellWrite) → HasRoom (rooms m) ws → safe_cells (all_settled ends m ws) ≡ put_all (safe_cells m) ws
safe-all_settled ends m [] room = refl
safe-all_settled ends m (w ∷ ws) room =
    safe-all_settled ends (altered m w.key (settling w.value ends)) ws (subst (λ r. HasRoom r ws) (sym (rooms-altered m w.key (settling w.value ends))) room.1)
    ∙ ap (λ c. put_all c ws) (safe-settling m w.key w.value ends (sym (get-rooms m w.key) ∙ room.0))

after_twice_at : (ends : ℕ) (a : Ahead) → ahead_after ends (ahead_after ends (Some a)) ≡ ahead_after ends (Some a)
after_twice_at ends a = elim (nat_le a.last ends) as (λ b. nat_le a.last ends ≡ b → ahead_after ends (cond b None (Some a)) ≡ cond b None (Some a)) [ true ↦ λ e. refl | false ↦ λ e. ap (λ b. cond b None (Some a)) e ] refl

after_twice : (ends : ℕ) (o : Option Ahead) → ahead_after ends (ahead_after ends o) ≡ ahead_after ends o
after_twice ends None = refl
after_twice ends (Some a) = after_twice_at ends a

either_after : (a b : Bool) (ends : ℕ) (o : Option Ahead) → cond b (ahead_after ends (cond a (ahead_after ends o) o)) (cond a (ahead_after ends o) o) ≡ cond (a || b) (ahead_after ends o) o
either_after true true ends o = after_twice ends o
either_after true false ends o = refl
either_after false b ends o = refl

ahead-all_settled : (ends : ℕ) (m : Slots) (ws : List CellWrite) (q : CellKey) → ahead_at (all_settled ends m ws) q ≡ cond (writes_key q ws) (ahead_after ends (ahead_at m q)) (ahead_at m q)
ahead-all_settled ends m [] q = refl
ahead-all_settled ends m (w ∷ ws) q =
    ahead-all_settled ends (altered m w.key (settling w.value ends)) ws q
    ∙ ap (λ o. cond (writes_key q ws) (ahead_after ends o) o) (ahead-settling m w.key w.value ends q)
    ∙ either_after (same_key q w.key) (writes_key q ws) ends (ahead_at m q)

-- what stands over a key ends with one of the groups
above : (ends : ℕ) (k : CellKey) (gs : List Group) → AllByRecursion (λ (x : Group). ends < x.ends) gs → (a : Ahead) → ahead_of k gs ≡ Some a → ends < a.last
above ends k [] all a is = absurd (none_some a is)
above ends k (g ∷ gs) all a is = elim (ahead_of k gs) as (λ o. ahead_of k gs ≡ o → option_or o (ahead_by g.ends (last_write k g.writes)) ≡ Some a → ends < a.last) [
  | None ↦ λ _ e. elim (last_write k g.writes) as (λ o. ahead_by g.ends o ≡ Some a → ends < a.last) [
    | None ↦ λ n. absurd (none_some a n)
    | Some v ↦ λ s. subst (λ (x : Ahead). ends < x.last) (some_same _ a s) all.0
  ] e
  | Some b ↦ λ b_is e. above ends k gs all.1 a (b_is ∙ e)
] refl is

not_le : (n e : ℕ) → e < n → nat_le n e ≡ false
not_le n e h = grind (arith, h)

not_after : (ends : ℕ) (a : Ahead) → ends < a.last → ahead_after ends (Some a) ≡ Some a
not_after ends a less = ap (λ b. cond b None (Some a)) (not_le a.last ends less)

le_self : (n : ℕ) → nat_le n n ≡ true
le_self n = grind arith

is_after : (ends : ℕ) (o : Option CellValue) → ahead_after ends (ahead_by ends o) ≡ None
is_after ends None = refl
is_after ends (Some v) = ap (λ b. cond b None (Some (record { value = v; last = ends }))) (le_self ends)

left_over : (ends : ℕ) (b : Bool) (o : Option Ahead) (v : Option CellValue) → ((a : Ahead) → o ≡ Some a → ends < a.last) → is_some v ≡ b → cond b (ahead_after ends (option_or o (ahead_by ends v))) (option_or o (ahead_by ends v)) ≡ o
left_over ends true None v up is = is_after ends v
left_over ends false None None up is = refl
left_over ends false None (Some x) up is = absurd (true≢false is)
left_over ends true (Some a) v up is = not_after ends a (up a refl)
left_over ends false (Some a) v up is = refl

pub laid_settled : (m : Slots) (g : Group) (gs : List Group) → AreLaid m (g ∷ gs) → AreLaid (all_settled g.ends m g.writes) gs
laid_settled m g gs laid = record {
  ahead = λ k. ahead-all_settled g.ends m g.writes k ∙ ap (λ o. cond (writes_key k g.writes) (ahead_after g.ends o) o) (laid.ahead k)
      ∙ left_over g.ends (writes_key k g.writes) (ahead_of k gs) (last_write k g.writes) (above g.ends k gs laid.rise.0) (some-last_write k g.writes);
  rise = laid.rise.1;
}

-- what groups write has room
some_slot : (o : Option Slot) → is_some (option_and_then (λ (s : Slot). s.ahead) o) ≡ true → is_some o ≡ true
some_slot None h = h
some_slot (Some s) h = refl

self_writes : (w : CellWrite) (xs ys : List CellWrite) → writes_key w.key (xs ++ w ∷ ys) ≡ true
self_writes w [] ys = ap (λ b. b || writes_key w.key ys) (eq_same exact_key w.key)
self_writes w (x ∷ xs) ys = elim (same_key w.key x.key) as (λ b. (b || writes_key w.key (xs ++ w ∷ ys)) ≡ true) [ true ↦ refl | false ↦ self_writes w xs ys ]

room_each : (m : Slots) (gs : List Group) → AreLaid m gs → (xs ws ys : List CellWrite) → all_writes gs ≡ xs ++ ws ++ ys → HasRoom (rooms m) ws
room_each m gs laid xs [] ys is = tt
room_each m gs laid xs (w ∷ ws) ys is = (
  get-rooms m w.key ∙ some_slot (get m w.key) (ap is_some (laid.ahead w.key) ∙ some-ahead_of w.key gs ∙ ap (writes_key w.key) (is ∙ append_assoc xs (w ∷ ws) ys) ∙ self_writes w xs (ws ++ ys)),
  room_each m gs laid (xs ++ w ∷ []) ws ys (is ∙ ap (λ (zs : List CellWrite). zs ++ ys) (sym (append_assoc xs (w ∷ []) ws))),
)

pub room_of_first : (m : Slots) (g : Group) (gs : List Group) → AreLaid m (g ∷ gs) → HasRoom (rooms m) g.writes
room_of_first m g gs laid = room_each m (g ∷ gs) laid [] g.writes (all_writes gs) refl

pub safe_settled : (m : Slots) (g : Group) (gs : List Group) → AreLaid m (g ∷ gs) → safe_cells (all_settled g.ends m g.writes) ≡ put_all (safe_cells m) g.writes
safe_settled m g gs laid = safe-all_settled g.ends m g.writes (room_of_first m g gs laid)

-- ---- the early value of a key

value_over : (a : Option Slot) → option_or (value_ahead (option_and_then (λ (s : Slot). s.ahead) a)) (option_and_then (λ (s : Slot). s.safe) a) ≡ option_and_then early_in a
value_over None = refl
value_over (Some s) = refl

pub early_at : (m : Slots) (gs : List Group) → AreLaid m gs → (k : CellKey) → get (early_of (safe_cells m) gs) k ≡ option_and_then early_in (get m k)
early_at m gs laid k =
    get-put_all (safe_cells m) (all_writes gs) k
    ∙ (λ i. option_or ((sym (value-ahead_of k gs) ∙ ap value_ahead (sym (laid.ahead k))) i) (get-collect exact_key (λ k (s : Slot). s.safe) m k i))
    ∙ value_over (get m k)

pub early_is : (m : Slots) (gs : List Group) → AreLaid m gs → early_slots m ≡ early_of (safe_cells m) gs
early_is m gs laid = same_map exact_key _ _ (λ q. get-collect exact_key (λ k s. early_in s) m q ∙ sym (early_at m gs laid q))

-- a key is written just where something stands over its slot
pub writes_at : (m : Slots) (gs : List Group) → AreLaid m gs → (k : CellKey) → is_some (ahead_at m k) ≡ writes_key k (all_writes gs)
writes_at m gs laid k = ap is_some (laid.ahead k) ∙ some-ahead_of k gs

-- ---- one more write

pub all_settled-push : (ends : ℕ) (m : Slots) (ws : List CellWrite) (w : CellWrite) → all_settled ends m (ws ++ w ∷ []) ≡ altered (all_settled ends m ws) w.key (settling w.value ends)
all_settled-push ends m [] w = refl
all_settled-push ends m (x ∷ ws) w = all_settled-push ends (altered m x.key (settling x.value ends)) ws w

-- ---- groups that have ended

not_ended : (upto n : ℕ) → upto < n → nat_le n upto ≡ false
not_ended upto n h = grind (arith, h)

is_ended : (upto n : ℕ) → n ≤ upto → nat_le n upto ≡ true
is_ended upto n h = grind (arith, h)

is_above : (upto n : ℕ) → upto < n → nat_lt upto n ≡ true
is_above upto n h = grind (arith, h)

not_above : (upto n : ℕ) → n ≤ upto → nat_lt upto n ≡ false
not_above upto n h = grind (arith, h)

none_ended : (upto : ℕ) (gs : List Group) → AllByRecursion (λ (g : Group). upto < g.ends) gs → (ended upto gs ≡ []) × (unended upto gs ≡ gs)
none_ended upto [] all = (refl, refl)
none_ended upto (g ∷ gs) all =
    let rest = none_ended upto gs all.1 in (
      ap (λ b. cond b (g ∷ ended upto gs) (ended upto gs)) (not_ended upto g.ends all.0) ∙ rest.0,
      ap (λ b. cond b (g ∷ unended upto gs) (unended upto gs)) (is_above upto g.ends all.0) ∙ ap (λ (hs : List Group). g ∷ hs) rest.1,
    )

all_above : (upto ends : ℕ) (gs : List Group) → upto < ends → AllByRecursion (λ (g : Group). ends < g.ends) gs → AllByRecursion (λ (g : Group). upto < g.ends) gs
all_above upto ends [] less all = tt
all_above upto ends (g ∷ gs) less all = let here = all.0 in (omega (arith, less, here), all_above upto ends gs less all.1)

-- where the first has not ended, none has
pub nothing_ended : (upto : ℕ) (gs : List Group) → EndsRise gs → NoneEnded upto gs → (ended upto gs ≡ []) × (unended upto gs ≡ gs)
nothing_ended upto [] rise none = (refl, refl)
nothing_ended upto (g ∷ gs) rise none = none_ended upto (g ∷ gs) (none, all_above upto g.ends gs none rise.0)

-- where it has, it goes first
pub first_ended : (upto : ℕ) (g : Group) (gs : List Group) → g.ends ≤ upto → (ended upto (g ∷ gs) ≡ g ∷ ended upto gs) × (unended upto (g ∷ gs) ≡ unended upto gs)
first_ended upto g gs h = (
  ap (λ b. cond b (g ∷ ended upto gs) (ended upto gs)) (is_ended upto g.ends h),
  ap (λ b. cond b (g ∷ unended upto gs) (unended upto gs)) (not_above upto g.ends h),
)

-- ---- making groups safe, group by group

pub record AreSettling (upto : ℕ) (m : Slots) (gs : List Group) (n : Slots) (hs : List Group) : Type 0 where
  pub safe : put_all (safe_cells n) (all_writes (ended upto hs)) ≡ put_all (safe_cells m) (all_writes (ended upto gs))
  pub groups : unended upto hs ≡ unended upto gs
  pub rooms_are : rooms n ≡ rooms m
  pub laid : AreLaid n hs

pub settling_start : (upto : ℕ) (m : Slots) (gs : List Group) → AreLaid m gs → AreSettling upto m gs m gs
settling_start upto m gs laid = record { safe = refl; groups = refl; rooms_are = refl; laid = laid }

pub settling_step : (upto : ℕ) (m : Slots) (gs : List Group) (n : Slots) (g : Group) (hs : List Group) → g.ends ≤ upto → AreSettling upto m gs n (g ∷ hs) → AreSettling upto m gs (all_settled g.ends n g.writes) hs
settling_step upto m gs n g hs less was = record {
  safe = ap (λ c. put_all c (all_writes (ended upto hs))) (safe_settled n g hs was.laid) ∙ sym (put_all-append (safe_cells n) g.writes (all_writes (ended upto hs)))
      ∙ ap (λ (xs : List Group). put_all (safe_cells n) (all_writes xs)) (sym (first_ended upto g hs less).0) ∙ was.safe;
  groups = sym (first_ended upto g hs less).1 ∙ was.groups;
  rooms_are = rooms-all_settled g.ends n g.writes ∙ was.rooms_are;
  laid = laid_settled n g hs was.laid;
}

pub settling_end : (upto : ℕ) (m : Slots) (gs : List Group) (n : Slots) (hs : List Group) → AreSettling upto m gs n hs → NoneEnded upto hs → (hs ≡ unended upto gs) × (safe_cells n ≡ put_all (safe_cells m) (all_writes (ended upto gs)))
settling_end upto m gs n hs was none =
    let none_left = nothing_ended upto hs was.laid.rise none in (
      sym none_left.1 ∙ was.groups,
      ap (λ (xs : List Group). put_all (safe_cells n) (all_writes xs)) (sym none_left.0) ∙ was.safe,
    )

-- ---- the early cells stay

pub all_writes-append : (gs hs : List Group) → all_writes (gs ++ hs) ≡ all_writes gs ++ all_writes hs
all_writes-append [] hs = refl
all_writes-append (g ∷ gs) hs = ap (λ (ws : List CellWrite). g.writes ++ ws) (all_writes-append gs hs) ∙ sym (append_assoc g.writes (all_writes gs) (all_writes hs))

le_of : (upto n : ℕ) → nat_le n upto ≡ true → n ≤ upto
le_of upto n h = grind (arith, h)

above_of : (upto n : ℕ) → nat_le n upto ≡ false → upto < n
above_of upto n h = grind (arith, h)

in_front : (upto : ℕ) (gs : List Group) → EndsRise gs → ended upto gs ++ unended upto gs ≡ gs
in_front upto [] rise = refl
in_front upto (g ∷ gs) rise = elim (nat_le g.ends upto) as (λ b. nat_le g.ends upto ≡ b → ended upto (g ∷ gs) ++ unended upto (g ∷ gs) ≡ g ∷ gs) [
  | true ↦ λ e. (λ i. (first_ended upto g gs (le_of upto g.ends e)).0 i ++ (first_ended upto g gs (le_of upto g.ends e)).1 i) ∙ ap (λ (hs : List Group). g ∷ hs) (in_front upto gs rise.1)
  | false ↦ λ e. (λ i. (nothing_ended upto (g ∷ gs) rise (above_of upto g.ends e)).0 i ++ (nothing_ended upto (g ∷ gs) rise (above_of upto g.ends e)).1 i)
] refl

-- groups that become safe leave the early cells
pub early_stays : (safe : Map key_cmp CellValue) (upto : ℕ) (gs : List Group) → EndsRise gs → early_of (put_all safe (all_writes (ended upto gs))) (unended upto gs) ≡ early_of safe gs
early_stays safe upto gs rise = sym (put_all-append safe (all_writes (ended upto gs)) (all_writes (unended upto gs))) ∙ ap (put_all safe) (sym (all_writes-append (ended upto gs) (unended upto gs)) ∙ ap all_writes (in_front upto gs rise))
