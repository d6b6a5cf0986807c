-- The writes of an event in the grammar fit their keys.
use Rattle.std.proofs.Common.{◌≡◌, ℕ, List, [], ◌∷◌, ◌++◌, map, Option, Some, None, sym, subst}
use Rattle.std.specs.Prelude.{IsTrue}
use Rattle.std.specs.List.{flat_map, AllByRecursion}
use Rattle.std.proofs.lemmas.List.Concat.{flat_map-cons}
use Rattle.mj_base.specs.declared.record.Kind.{Kind}
use Rattle.mj_base.specs.declared.record.Kind.TheVariants.{Dir, File, Symlink}
use Rattle.mj_cells.specs.declared.cell.CellWrite.{CellWrite}
use Rattle.mj_cells.specs.declared.cell.CellKey.TheVariants as key
use Rattle.mj_cells.specs.declared.cell.CellValue.TheVariants as value
use Rattle.mj_cells.specs.Cell.{WriteFits}
use Rattle.mj_meta.specs.declared.HeadBit.{HeadBit}
use Rattle.mj_meta.specs.declared.HeadBit.TheVariants as head
use Rattle.mj_meta.specs.declared.RemoteBit.{RemoteBit}
use Rattle.mj_meta.specs.declared.DirLump.{DirLump}
use Rattle.mj_meta.specs.Blob.{is_no_dir, FullFits, RemoteFits, IsLump}
use Rattle.mj_event.specs.declared.SessionKind.{SessionKind}
use Rattle.mj_event.specs.declared.SessionKind.TheVariants.{Open, Close}
use Rattle.mj_event.specs.declared.SessionEvent.{SessionEvent}
use Rattle.mj_event.specs.declared.UpdateEvent.{UpdateEvent}
use Rattle.mj_event.specs.declared.Event.{Event}
use Rattle.mj_event.specs.declared.Event.TheVariants.{SubtreeMap, Reset, Session, Update, Reopen, NoOp}
use Rattle.mj_event.specs.Event.{IsEvent}
use Rattle.mj_event.specs.Writes.{write, where_some, head_value, full_write, remote_write, null_write, lump_writes, reply_gone, replies_gone, reply_writes, session_writes, open_write, writes_of}

abbrev Fit : List CellWrite → Type 0
Fit ws = AllByRecursion WriteFits ws

both : (ws vs : List CellWrite) → Fit ws → Fit vs → Fit (ws ++ vs)
both [] vs a b = b
both (w ∷ ws) vs a b = (a.0, both ws vs a.1 b)

each : {A : Type 0} (f : A → CellWrite) (P : A → Type 0) → ((x : A) → P x → WriteFits (f x)) → (xs : List A) → AllByRecursion P xs → Fit (map f xs)
each f P h [] all = tt
each f P h (x ∷ xs) all = (h x all.0, each f P h xs all.1)

any_item : {A : Type 0} (f : A → CellWrite) → ((x : A) → WriteFits (f x)) → (xs : List A) → Fit (map f xs)
any_item f h [] = tt
any_item f h (x ∷ xs) = (h x, any_item f h xs)

optional : {A : Type 0} (f : A → CellWrite) → ((x : A) → WriteFits (f x)) → (o : Option A) → Fit (where_some f o)
optional f h None = tt
optional f h (Some x) = (h x, tt)

no_dir : (k : Kind) → IsTrue (is_no_dir k) → k ≡ Dir → ⊥
no_dir Dir h e = absurd cc
no_dir File h e = absurd cc
no_dir Symlink h e = absurd cc

head_fits : (dir : ℕ) (h : HeadBit) → WriteFits (write (key.DirHead dir) (head_value h))
head_fits dir (head.At version) = tt
head_fits dir head.Gone = tt

lump_fits : (l : DirLump) → IsLump l → Fit (lump_writes l)
lump_fits l is =
    both (write (key.DirHead l.dir) (head_value l.head) ∷ map (full_write l.dir) l.full ++ map (remote_write l.dir) l.remote) (map (null_write l.dir) l.null)
    (both (write (key.DirHead l.dir) (head_value l.head) ∷ map (full_write l.dir) l.full) (map (remote_write l.dir) l.remote)
    (head_fits l.dir l.head, each (full_write l.dir) FullFits (λ b f. f.1) l.full is.full.0)
    (each (remote_write l.dir) RemoteFits (λ (b : RemoteBit) f. no_dir b.kind f.2) l.remote is.remote.0))
    (any_item (null_write l.dir) (λ b. tt) l.null)

lumps_fit : (ls : List DirLump) → AllByRecursion IsLump ls → Fit (flat_map lump_writes ls)
lumps_fit [] all = tt
lumps_fit (l ∷ ls) all = subst Fit (sym (flat_map-cons lump_writes l ls)) (both (lump_writes l) (flat_map lump_writes ls) (lump_fits l all.0) (lumps_fit ls all.1))

session_fits : (k : SessionKind) (e : SessionEvent) → Fit (session_writes k e)
session_fits Open e = (tt, (tt, tt))
session_fits Close e = (tt, any_item (reply_gone e.client) (λ tid. tt) e.dropped)

replies_fit : (e : UpdateEvent) → Fit (reply_writes e)
replies_fit e =
    both (write (key.Done e.client e.tid) (value.Number e.ino) ∷ where_some (λ oldest. write (key.Session e.client) (value.Number oldest)) e.oldest) (replies_gone e.client e.dropped)
    (tt, optional (λ oldest. write (key.Session e.client) (value.Number oldest)) (λ x. tt) e.oldest)
    (any_item (reply_gone e.client) (λ tid. tt) e.dropped)

pub writes_fit : (e : Event) → IsEvent e → Fit (writes_of e)
writes_fit (SubtreeMap dirs) is = tt
writes_fit Reset is = tt
writes_fit (Session e) is = session_fits e.kind e
writes_fit (Update e) is =
    let next = where_some (λ next. write key.NextIno (value.Number next)) e.next in
    let opened = where_some (λ ino. write (key.OpenOf e.client ino) value.Present) e.opened in
    let released = where_some (λ ino. write (key.OpenOf e.client ino) value.Gone) e.released in
    let replies = replies_fit e in
    let with_next = both (reply_writes e) next replies (optional (λ next. write key.NextIno (value.Number next)) (λ x. tt) e.next) in
    let with_opened = both (reply_writes e ++ next) opened with_next (optional (λ ino. write (key.OpenOf e.client ino) value.Present) (λ x. tt) e.opened) in
    let with_released = both (reply_writes e ++ next ++ opened) released with_opened (optional (λ ino. write (key.OpenOf e.client ino) value.Gone) (λ x. tt) e.released) in
    both (reply_writes e ++ next ++ opened ++ released) (flat_map lump_writes e.blob.lumps) with_released (lumps_fit e.blob.lumps is.blob.lumps.0)
writes_fit (Reopen pairs) is = any_item open_write (λ p. tt) pairs
writes_fit (NoOp pad) is = tt
