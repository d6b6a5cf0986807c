-- What the writes of groups leave at a key.
use Rattle.std.proofs.Common.{◌≡◌, ℕ, ◌+◌, ◌<◌, suc, length, drop, get_or, add-one, drop-cons, Bool, true, false, cond, ◌||◌, List, [], ◌∷◌, ◌++◌, Option, Some, None, refl, sym, ap, ◌∙◌}
use Rattle.std.specs.Prelude.{option_map, is_some}
use Rattle.std.specs.Option.{option_or}
use Rattle.std.proofs.lemmas.Bool.{true≢false}
use Rattle.mj_maps.specs.Map.{Map, get, insert}
use Rattle.mj_maps.proofs.MapLaws.{get-insert}
use Rattle.mj_cells.specs.declared.cell.CellKey.{CellKey}
use Rattle.mj_cells.specs.declared.cell.CellValue.{CellValue}
use Rattle.mj_cells.specs.declared.cell.CellWrite.{CellWrite}
use Rattle.mj_cells.specs.Cell.{key_cmp, same_key}
use Rattle.mj_cells.specs.Table.{put_all}
use Rattle.mj_cells.proofs.Keys.{exact_key}
use Rattle.mj_tables.specs.declared.group.Group.{Group}
use Rattle.mj_tables.specs.declared.slot.Ahead.{Ahead}
use Rattle.mj_tables.specs.Layered.{all_writes, writes_key}
use Rattle.mj_tables.specs.Slots.{value_ahead, last_write, ahead_by, ahead_of}

-- the write at a place, and those after it
pub next_write : (ws : List CellWrite) (i : ℕ) (w : CellWrite) → i < length ws → w ≡ get_or ws i w → drop i ws ≡ w ∷ drop (i + 1) ws
next_write ws i w h e = rw add-one (drop-cons ws i w h ∙ ap (λ (x : CellWrite). x ∷ drop (suc i) ws) (sym e))

pub or_none : {A : Type 0} (o : Option A) → option_or o None ≡ o
or_none None = refl
or_none (Some x) = refl

pub or_assoc : {A : Type 0} (a b c : Option A) → option_or (option_or a b) c ≡ option_or a (option_or b c)
or_assoc None b c = refl
or_assoc (Some x) b c = refl

pub map_or : {A B : Type 0} (f : A → B) (a b : Option A) → option_map f (option_or a b) ≡ option_or (option_map f a) (option_map f b)
map_or f None b = refl
map_or f (Some x) b = refl

if_or : (b : Bool) (v : CellValue) (o : Option CellValue) → option_or (cond b (Some v) None) o ≡ cond b (Some v) o
if_or true v o = refl
if_or false v o = refl

-- writes over cells
pub get-put_all : (m : Map key_cmp CellValue) (ws : List CellWrite) (k : CellKey) → get (put_all m ws) k ≡ option_or (last_write k ws) (get m k)
get-put_all m [] k = refl
get-put_all m (w ∷ ws) k = get-put_all (insert m w.key w.value) ws k ∙ ap (option_or (last_write k ws)) (get-insert exact_key m w.key w.value k ∙ sym (if_or (same_key k w.key) w.value (get m k)))
    ∙ sym (or_assoc (last_write k ws) (cond (same_key k w.key) (Some w.value) None) (get m k))

pub put_all-append : (m : Map key_cmp CellValue) (xs ys : List CellWrite) → put_all m (xs ++ ys) ≡ put_all (put_all m xs) ys
put_all-append m [] ys = refl
put_all-append m (x ∷ xs) ys = put_all-append (insert m x.key x.value) xs ys

pub last_write-append : (k : CellKey) (xs ys : List CellWrite) → last_write k (xs ++ ys) ≡ option_or (last_write k ys) (last_write k xs)
last_write-append k [] ys = sym (or_none (last_write k ys))
last_write-append k (x ∷ xs) ys = ap (λ o. option_or o (cond (same_key k x.key) (Some x.value) None)) (last_write-append k xs ys) ∙ or_assoc (last_write k ys) (last_write k xs) _

some_or : {A : Type 0} (a : Option A) (b : Bool) (x : A) → is_some (option_or a (cond b (Some x) None)) ≡ (b || is_some a)
some_or None true x = refl
some_or None false x = refl
some_or (Some y) true x = refl
some_or (Some y) false x = refl

pub some-last_write : (k : CellKey) (ws : List CellWrite) → is_some (last_write k ws) ≡ writes_key k ws
some-last_write k [] = refl
some-last_write k (w ∷ ws) = some_or (last_write k ws) (same_key k w.key) w.value ∙ ap (λ b. same_key k w.key || b) (some-last_write k ws)

pub unwritten : (k : CellKey) (ws : List CellWrite) (o : Option CellValue) → last_write k ws ≡ o → writes_key k ws ≡ false → o ≡ None
unwritten k ws None is not_one = refl
unwritten k ws (Some v) is not_one = absurd (true≢false (sym (ap is_some is) ∙ some-last_write k ws ∙ not_one))

value_by : (ends : ℕ) (o : Option CellValue) → value_ahead (ahead_by ends o) ≡ o
value_by ends None = refl
value_by ends (Some v) = refl

pub value-ahead_of : (k : CellKey) (gs : List Group) → value_ahead (ahead_of k gs) ≡ last_write k (all_writes gs)
value-ahead_of k [] = refl
value-ahead_of k (g ∷ gs) = map_or (λ (a : Ahead). a.value) (ahead_of k gs) (ahead_by g.ends (last_write k g.writes))
    ∙ (λ i. option_or (value-ahead_of k gs i) (value_by g.ends (last_write k g.writes) i)) ∙ sym (last_write-append k g.writes (all_writes gs))

pub ahead_of-append : (k : CellKey) (gs : List Group) (g : Group) → ahead_of k (gs ++ g ∷ []) ≡ option_or (ahead_by g.ends (last_write k g.writes)) (ahead_of k gs)
ahead_of-append k [] g = sym (or_none (ahead_by g.ends (last_write k g.writes)))
ahead_of-append k (h ∷ gs) g = ap (λ o. option_or o (ahead_by h.ends (last_write k h.writes))) (ahead_of-append k gs g) ∙ or_assoc (ahead_by g.ends (last_write k g.writes)) (ahead_of k gs) _

pub some_map : {A B : Type 0} (f : A → B) (o : Option A) → is_some (option_map f o) ≡ is_some o
some_map f None = refl
some_map f (Some x) = refl

-- a key is written just where something stands over it
pub some-ahead_of : (k : CellKey) (gs : List Group) → is_some (ahead_of k gs) ≡ writes_key k (all_writes gs)
some-ahead_of k gs = sym (some_map (λ (a : Ahead). a.value) (ahead_of k gs)) ∙ ap is_some (value-ahead_of k gs) ∙ some-last_write k (all_writes gs)
