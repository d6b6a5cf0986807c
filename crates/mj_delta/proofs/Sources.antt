-- Where the cells of an image's merged table come from, and that they are such as the rank would write.
use Rattle.std.proofs.Common.{◌≡◌, ℕ, ◌<◌, ◌^◌, true, false, List, [], ◌∷◌, ◌++◌, map, Option, Some, None, refl, sym, ap, subst, ◌∙◌, ◌⊎◌, inl, inr, arith}
use Rattle.std.specs.Prelude.{IsTrue, unwrap_or, if◌then◌else◌}
use Rattle.std.specs.List.{flat_map, AllByRecursion}
use Rattle.mj_base.specs.Name.{is_name}
use Rattle.mj_base.specs.declared.record.Kind.{Kind}
use Rattle.mj_base.specs.declared.record.InodeRecord.{InodeRecord}
use Rattle.mj_base.specs.declared.object.ObjectName.{ObjectName}
use Rattle.mj_base.specs.declared.object.ObjectName.TheVariants as name
use Rattle.mj_maps.specs.Map.{get}
use Rattle.mj_maps.proofs.MapLaws.{none_some, some_same, eq_true}
use Rattle.mj_store.specs.Object.{Content}
use Rattle.mj_cells.specs.declared.cell.CellKey.{CellKey}
use Rattle.mj_cells.specs.declared.cell.CellKey.TheVariants as key
use Rattle.mj_cells.specs.declared.cell.CellValue.{CellValue}
use Rattle.mj_cells.specs.declared.cell.CellValue.TheVariants as value
use Rattle.mj_cells.specs.declared.cell.CellWrite.{CellWrite}
use Rattle.mj_cells.specs.Cell.{same_key}
use Rattle.mj_cells.specs.Table.{Dentry, Table, dentry_of, number_of, dentry_value, number_value, value_of, shown, last_of}
use Rattle.mj_cells.specs.Table.Dentry.{Full as FullAt, Remote as RemoteAt}
use Rattle.mj_cells.proofs.Keys.{exact_key}
use Rattle.mj_meta.specs.declared.FullBit.{FullBit}
use Rattle.mj_meta.specs.declared.RemoteBit.{RemoteBit}
use Rattle.mj_meta.specs.declared.NullBit.{NullBit}
use Rattle.mj_meta.specs.declared.DirLump.{DirLump}
use Rattle.mj_event.specs.declared.SessionKind.TheVariants.{Open, Close}
use Rattle.mj_event.specs.declared.SessionKind.{SessionKind}
use Rattle.mj_event.specs.declared.UpdateEvent.{UpdateEvent}
use Rattle.mj_event.specs.declared.Event.{Event}
use Rattle.mj_event.specs.declared.Event.TheVariants as event
use Rattle.mj_event.specs.Writes.{write, where_some, head_value, full_write, remote_write, null_write, lump_writes, reply_gone, replies_gone, reply_writes, update_writes, session_writes, open_write, writes_of}
use Rattle.mj_recovery.specs.declared.journal.LiveEvent.{LiveEvent}
use Rattle.mj_recovery.specs.Objects.{Objects}
use Rattle.mj_recovery.specs.Stored.{object_of, object_cells, among, stored_cell}
use Rattle.mj_recovery.specs.Journal.{journal_writes}
use Rattle.mj_recovery.specs.Damage.{lump_dirs, head_written, tree_damage}
use Rattle.mj_recovery.specs.Tree.{tree_of}
use Rattle.mj_recovery.specs.Recovered.{merged_table}
use Rattle.mj_recovery.specs.Orderly.{IsOwn, EachStored, IsOrderly}
use Rattle.mj_recovery.proofs.Stores.{merged_look}
use Rattle.mj_delta.specs.Reads.{remote_of}
use Rattle.mj_delta.specs.TreeOf.{IsTreeOf}
use Rattle.mj_delta.specs.Cells.{next_of, HasSpelling, HasOwnCells, IsSpelled, HoldsOwnDirs}
use Rattle.mj_delta.proofs.Facts.{some_is}
use Rattle.mj_delta.proofs.Lists.{Lies, all_lies, in_append, in_map, to_filter_map}
use Rattle.mj_delta.proofs.Plans.{in_flat_map, to_flat_map, to_right}
use Rattle.mj_delta.proofs.Contents.{lies_contains}
use Rattle.mj_delta.proofs.ExactUpdates.{some_in}
use Rattle.mj_delta.proofs.Undamaged.{undamaged_tree}

-- ---- the write that a cell is from

pub found_last : (k : CellKey) (ws : List CellWrite) (before v : CellValue) → last_of k ws before ≡ v → (before ≡ v) ⊎ ((w : CellWrite) × Lies w ws × (same_key k w.key ≡ true) × (shown w.key w.value ≡ v))
found_last k [] before v e = inl e
found_last k (w ∷ ws) before v e = elim (found_last k ws (if same_key k w.key then shown w.key w.value else before) v e) [
  | inr x ↦ inr (x.0, inr x.1, x.2, x.3)
  | inl h ↦ elim (same_key k w.key) as (λ b. same_key k w.key ≡ b → (if b then shown w.key w.value else before) ≡ v → (before ≡ v) ⊎ ((x : CellWrite) × Lies x (w ∷ ws) × (same_key k x.key ≡ true) × (shown x.key x.value ≡ v))) [
    | true ↦ λ same f. inr (w, inl refl, same, f)
    | false ↦ λ _ f. inl f
  ] refl h
]

shown_full : (x : CellValue) (v : ℕ) (r : InodeRecord) → dentry_value (dentry_of x) ≡ value.Full v r → x ≡ value.Full v r
shown_full (value.Full w z) v r e = e
shown_full (value.Remote w i k) v r e = absurd cc
shown_full (value.Null w) v r e = absurd cc
shown_full (value.Number n) v r e = absurd cc
shown_full value.Present v r e = absurd cc
shown_full value.Gone v r e = absurd cc

shown_remote : (x : CellValue) (v i : ℕ) (k : Kind) → dentry_value (dentry_of x) ≡ value.Remote v i k → x ≡ value.Remote v i k
shown_remote (value.Full w z) v i k e = absurd cc
shown_remote (value.Remote w j l) v i k e = e
shown_remote (value.Null w) v i k e = absurd cc
shown_remote (value.Number n) v i k e = absurd cc
shown_remote value.Present v i k e = absurd cc
shown_remote value.Gone v i k e = absurd cc

shown_number : (x : CellValue) (n : ℕ) → number_value (number_of x) ≡ value.Number n → x ≡ value.Number n
shown_number (value.Full w z) n e = absurd cc
shown_number (value.Remote w j l) n e = absurd cc
shown_number (value.Null w) n e = absurd cc
shown_number (value.Number m) n e = e
shown_number value.Present n e = absurd cc
shown_number value.Gone n e = absurd cc

-- ---- the directory of a dentry in an event has its head there too

of_lumps : (e : UpdateEvent) (d : ℕ) (n : List ℕ) (v : CellValue) → Lies (write (key.Dentry d n) v) (update_writes e) → Lies (write (key.Dentry d n) v) (flat_map lump_writes e.blob.lumps)
of_lumps e d n v l =
    let next = where_some (λ next. write key.NextIno (value.Number next)) e.next in
    let opened = where_some (λ ino. write (key.OpenOf e.client ino) value.Present) e.opened in
    let released = where_some (λ ino. write (key.OpenOf e.client ino) value.Gone) e.released in
    let w : CellWrite = write (key.Dentry d n) v in
    elim (in_append (reply_writes e ++ next ++ opened ++ released) (flat_map lump_writes e.blob.lumps) w l) [
      | inr x ↦ x
      | inl x ↦ absurd (elim (in_append (reply_writes e ++ next ++ opened) released w x) [
        | inr y ↦ let z = some_in (λ ino. write (key.OpenOf e.client ino) value.Gone) e.released w y in no_open z.0 (ap (λ (w : CellWrite). w.key) z.2)
        | inl y ↦ elim (in_append (reply_writes e ++ next) opened w y) [
          | inr z ↦ let u = some_in (λ ino. write (key.OpenOf e.client ino) value.Present) e.opened w z in no_open u.0 (ap (λ (w : CellWrite). w.key) u.2)
          | inl z ↦ elim (in_append (reply_writes e) next w z) [
            | inr u ↦ let x = some_in (λ next. write key.NextIno (value.Number next)) e.next w u in no_next (ap (λ (w : CellWrite). w.key) x.2)
            | inl u ↦ of_reply u
          ]
        ]
      ])
    ]
  where
    no_open : (i : ℕ) → key.OpenOf e.client i ≡ key.Dentry d n → ⊥
    no_open i f = absurd cc

    no_next : key.NextIno ≡ key.Dentry d n → ⊥
    no_next f = absurd cc

    no_done : (i : ℕ) → key.Done e.client i ≡ key.Dentry d n → ⊥
    no_done i f = absurd cc

    no_session : key.Session e.client ≡ key.Dentry d n → ⊥
    no_session f = absurd cc

    of_reply : Lies (write (key.Dentry d n) v) (reply_writes e) → ⊥
    of_reply (inl f) = no_done e.tid (ap (λ (w : CellWrite). w.key) f)
    of_reply (inr l) = elim (in_append (where_some (λ oldest. write (key.Session e.client) (value.Number oldest)) e.oldest) (replies_gone e.client e.dropped) (write (key.Dentry d n) v) l) [
      | inl a ↦ let x = some_in (λ oldest. write (key.Session e.client) (value.Number oldest)) e.oldest (write (key.Dentry d n) v) a in no_session (ap (λ (w : CellWrite). w.key) x.2)
      | inr b ↦ let x = in_map (reply_gone e.client) e.dropped (write (key.Dentry d n) v) b in no_done x.0 (ap (λ (w : CellWrite). w.key) x.2)
    ]

-- what a lump writes: its head, and dentries of its directory
pub lump_dentry : (l : DirLump) (w : CellWrite) → Lies w (lump_writes l) → (write (key.DirHead l.dir) (head_value l.head) ≡ w)
    ⊎ (((b : FullBit) × Lies b l.full × (full_write l.dir b ≡ w)) ⊎ (((b : RemoteBit) × Lies b l.remote × (remote_write l.dir b ≡ w)) ⊎ ((b : NullBit) × Lies b l.null × (null_write l.dir b ≡ w))))
lump_dentry l w (inl e) = inl e
lump_dentry l w (inr m) = inr (elim (in_append (map (full_write l.dir) l.full ++ map (remote_write l.dir) l.remote) (map (null_write l.dir) l.null) w m) [
  | inr c ↦ inr (inr (in_map (null_write l.dir) l.null w c))
  | inl x ↦ elim (in_append (map (full_write l.dir) l.full) (map (remote_write l.dir) l.remote) w x) [
    | inl a ↦ inl (in_map (full_write l.dir) l.full w a)
    | inr b ↦ inr (inl (in_map (remote_write l.dir) l.remote w b))
  ]
])

dir_is : {d e : ℕ} {n o : List ℕ} → key.Dentry d n ≡ key.Dentry e o → d ≡ e
dir_is f = cc

lump_head : (l : DirLump) (d : ℕ) (n : List ℕ) (v : CellValue) → Lies (write (key.Dentry d n) v) (lump_writes l) → l.dir ≡ d
lump_head l d n v m = elim (lump_dentry l (write (key.Dentry d n) v) m) [
  | inl e ↦ absurd (no_head (ap (λ (w : CellWrite). w.key) e))
  | inr (inl a) ↦ dir_is (ap (λ (w : CellWrite). w.key) a.2)
  | inr (inr (inl b)) ↦ dir_is (ap (λ (w : CellWrite). w.key) b.2)
  | inr (inr (inr c)) ↦ dir_is (ap (λ (w : CellWrite). w.key) c.2)
]
  where
    no_head : key.DirHead l.dir ≡ key.Dentry d n → ⊥
    no_head f = absurd cc

pub head_beside : (e : Event) (d : ℕ) (n : List ℕ) (v : CellValue) → Lies (write (key.Dentry d n) v) (writes_of e) → (h : CellValue) × Lies (write (key.DirHead d) h) (writes_of e)
head_beside (event.SubtreeMap dirs) d n v l = absurd l
head_beside event.Reset d n v l = absurd l
head_beside (event.NoOp pad) d n v l = absurd l
head_beside (event.Session e) d n v l = absurd (none_in e.kind l)
  where
    no_done : (i : ℕ) → key.Done e.client i ≡ key.Dentry d n → ⊥
    no_done i f = absurd cc

    no_session : key.Session e.client ≡ key.Dentry d n → ⊥
    no_session f = absurd cc

    none_in : (kind : SessionKind) → Lies (write (key.Dentry d n) v) (session_writes kind e) → ⊥
    none_in Open (inl f) = no_session (ap (λ (w : CellWrite). w.key) f)
    none_in Open (inr (inl f)) = no_done e.tid (ap (λ (w : CellWrite). w.key) f)
    none_in Open (inr (inr m)) = m
    none_in Close (inl f) = no_session (ap (λ (w : CellWrite). w.key) f)
    none_in Close (inr m) = let x = in_map (reply_gone e.client) e.dropped (write (key.Dentry d n) v) m in no_done x.0 (ap (λ (w : CellWrite). w.key) x.2)
head_beside (event.Reopen pairs) d n v l = absurd (let x = in_map open_write pairs (write (key.Dentry d n) v) l in no_open x.0.client x.0.ino (ap (λ (w : CellWrite). w.key) x.2))
  where
    no_open : (c i : ℕ) → key.OpenOf c i ≡ key.Dentry d n → ⊥
    no_open c i f = absurd cc
head_beside (event.Update e) d n v l =
    let x = in_flat_map lump_writes e.blob.lumps (write (key.Dentry d n) v) (of_lumps e d n v l) in
    let dir = lump_head x.0 d n v x.2 in
    let next = where_some (λ next. write key.NextIno (value.Number next)) e.next in
    let opened = where_some (λ ino. write (key.OpenOf e.client ino) value.Present) e.opened in
    let released = where_some (λ ino. write (key.OpenOf e.client ino) value.Gone) e.released in (
      head_value x.0.head,
      to_right (reply_writes e ++ next ++ opened ++ released) (flat_map lump_writes e.blob.lumps) _
          (to_flat_map lump_writes e.blob.lumps x.0 (write (key.DirHead d) (head_value x.0.head)) x.1 (inl (ap (λ k. write (key.DirHead k) (head_value x.0.head)) dir))),
    )

-- ---- the cells of a merged table

module _ (rank : ℕ) (m : Objects) (events : List LiveEvent) (next : ℕ) (orderly : IsOrderly rank (get m) events next) (live : AllByRecursion IsSpelled (journal_writes events)) (stored : EachStored (get m) IsSpelled) (dirs : HoldsOwnDirs rank (get m)) where
  abbrev t : Table
  t = merged_table rank m events

  -- where a cell is from: a live write, or an object
  record IsFrom (k : CellKey) (v : CellValue) : Type 0 where
    it : CellWrite
    key_is : it.key ≡ k
    value_is : shown k it.value ≡ v
    source : Lies it (journal_writes events) ⊎ ((n : ObjectName) × (o : Content) × (object_of rank k ≡ Some n) × (get m n ≡ Some o) × Lies it (object_cells n o))

  from_object : (k : CellKey) (n : ObjectName) (v : CellValue) → object_of rank k ≡ Some n → (v ≡ value.Gone → ⊥) → (o : Option Content) → get m n ≡ o → among k n o ≡ v → IsFrom k v
  from_object k n v is some None e f = absurd (some (sym f))
  from_object k n v is some (Some o) e f = elim (found_last k (object_cells n o) value.Gone v f) [
    | inl g ↦ absurd (some (sym g))
    | inr x ↦
        let same = eq_true exact_key k x.0.key x.2 in
        record { it = x.0; key_is = sym same; value_is = ap (λ k. shown k x.0.value) same ∙ x.3; source = inr (n, o, is, e, x.1) }
  ]

  from_stored : (k : CellKey) (v : CellValue) → (v ≡ value.Gone → ⊥) → stored_cell (get m) rank k ≡ v → IsFrom k v
  from_stored (key.Dentry d n) v some e = from_object (key.Dentry d n) (name.File d 0) v refl some (get m (name.File d 0)) refl e
  from_stored (key.DirHead d) v some e = from_object (key.DirHead d) (name.File d 0) v refl some (get m (name.File d 0)) refl e
  from_stored key.NextIno v some e = from_object key.NextIno (name.InoTable rank) v refl some (get m (name.InoTable rank)) refl e
  from_stored (key.Session c) v some e = from_object (key.Session c) (name.SessionMap rank) v refl some (get m (name.SessionMap rank)) refl e
  from_stored (key.Done c u) v some e = from_object (key.Done c u) (name.SessionMap rank) v refl some (get m (name.SessionMap rank)) refl e
  from_stored (key.OpenOf c i) v some e = absurd (some (sym e))

  from : (k : CellKey) (v : CellValue) → (v ≡ value.Gone → ⊥) → value_of t k ≡ v → IsFrom k v
  from k v some e = elim (found_last k (journal_writes events) (stored_cell (get m) rank k) v (sym (merged_look rank m events k) ∙ e)) [
    | inl h ↦ from_stored k v some h
    | inr x ↦ let same = eq_true exact_key k x.0.key x.2 in record { it = x.0; key_is = sym same; value_is = ap (λ k. shown k x.0.value) same ∙ x.3; source = inl x.1 }
  ]

  -- what holds of each write holds of it
  holds : (P : CellWrite → Type 0) → AllByRecursion P (journal_writes events) → EachStored (get m) P → (k : CellKey) (v : CellValue) (f : IsFrom k v) → P f.it
  holds P a b k v f = elim f.source [
    | inl l ↦ all_lies P (journal_writes events) a f.it l
    | inr x ↦ all_lies P (object_cells x.0 x.1) (b x.0 x.1 x.3) f.it x.4
  ]

  dentry_from : (q : ℕ × List ℕ) (d : Dentry) → get t.dentries q ≡ Some d → IsFrom (key.Dentry q.0 q.1) (dentry_value (Some d))
  dentry_from q d e = from (key.Dentry q.0 q.1) (dentry_value (Some d)) (some_value d) (ap dentry_value e)
    where
      some_value : (d : Dentry) → dentry_value (Some d) ≡ value.Gone → ⊥
      some_value (FullAt v r) f = absurd cc
      some_value (RemoteAt v i k) f = absurd cc

  head_from : (d v : ℕ) → get t.heads d ≡ Some v → IsFrom (key.DirHead d) (value.Number v)
  head_from d v e = from (key.DirHead d) (value.Number v) (λ f. no_number v f) (ap number_value e)
    where
      no_number : (n : ℕ) → value.Number n ≡ value.Gone → ⊥
      no_number n f = absurd cc

  full_from : (q : ℕ × List ℕ) (v : ℕ) (r : InodeRecord) → get t.dentries q ≡ Some (FullAt v r) → (P : CellWrite → Type 0) → AllByRecursion P (journal_writes events) → EachStored (get m) P → P (write (key.Dentry q.0 q.1) (value.Full v r))
  full_from q v r e P a b = let f = dentry_from q (FullAt v r) e in subst P (λ z. write (f.key_is z) (shown_full f.it.value v r f.value_is z)) (holds P a b (key.Dentry q.0 q.1) (value.Full v r) f)

  remote_from : (q : ℕ × List ℕ) (v i : ℕ) (k : Kind) → get t.dentries q ≡ Some (RemoteAt v i k) → (P : CellWrite → Type 0) → AllByRecursion P (journal_writes events) → EachStored (get m) P → P (write (key.Dentry q.0 q.1) (value.Remote v i k))
  remote_from q v i k e P a b = let f = dentry_from q (RemoteAt v i k) e in subst P (λ z. write (f.key_is z) (shown_remote f.it.value v i k f.value_is z)) (holds P a b (key.Dentry q.0 q.1) (value.Remote v i k) f)

  -- ---- directories

  own_of : (d : ℕ) (o : Content) (w : CellWrite) → get m (name.File d 0) ≡ Some o → Lies w (object_cells (name.File d 0) o) → IsOwn rank next d
  own_of d o w e l = elim (dirs d o w e (lies_contains _ w l)) [
    | inl root ↦ inl root
    | inr (inl st) ↦ inr (inl st)
    | inr (inr high) ↦ inr (inr (high, orderly.given d o high e))
  ]

  lump_own : (d : ℕ) (h : CellValue) → Lies (write (key.DirHead d) h) (journal_writes events) → IsOwn rank next d
  lump_own d h l = all_lies (IsOwn rank next) (lump_dirs (journal_writes events)) orderly.lumps d (to_filter_map head_written (journal_writes events) (write (key.DirHead d) h) d l refl)

  live_own : (d : ℕ) (n : List ℕ) (v : CellValue) → Lies (write (key.Dentry d n) v) (journal_writes events) → IsOwn rank next d
  live_own d n v l =
      let x = in_flat_map (λ (e : LiveEvent). writes_of e.event) events (write (key.Dentry d n) v) l in
      let h = head_beside x.0.event d n v x.2 in
      lump_own d h.0 (to_flat_map (λ (e : LiveEvent). writes_of e.event) events x.0 (write (key.DirHead d) h.0) x.1 h.1)

  same_file : (a b : ObjectName) → ◌≡◌ {A = Option ObjectName} (Some a) (Some b) → a ≡ b
  same_file a b e = some_same a b e

  dentry_own : (q : ℕ × List ℕ) (d : Dentry) → get t.dentries q ≡ Some d → IsOwn rank next q.0
  dentry_own q d e =
      let f = dentry_from q d e in
      elim f.source [
        | inl l ↦ live_own q.0 q.1 f.it.value (subst (λ k. Lies (write k f.it.value) (journal_writes events)) f.key_is l)
        | inr x ↦
            let file : name.File q.0 0 ≡ x.0 = same_file (name.File q.0 0) x.0 x.2 in
            own_of q.0 x.1 f.it (ap (get m) file ∙ x.3) (subst (λ n. Lies f.it (object_cells n x.1)) (sym file) x.4)
      ]

  head_own : (d v : ℕ) → get t.heads d ≡ Some v → IsOwn rank next d
  head_own d v e =
      let f = head_from d v e in
      elim f.source [
        | inl l ↦ lump_own d f.it.value (subst (λ k. Lies (write k f.it.value) (journal_writes events)) f.key_is l)
        | inr x ↦
            let file : name.File d 0 ≡ x.0 = same_file (name.File d 0) x.0 x.2 in
            own_of d x.1 f.it (ap (get m) file ∙ x.3) (subst (λ n. Lies f.it (object_cells n x.1)) (sym file) x.4)
      ]

  -- ---- together

  module _ (next_is : next ≡ next_of t) where
    next_small : next_of t < 2 ^ 64
    next_small = by t.next refl
      where
        by : (o : Option ℕ) → t.next ≡ o → next_of t < 2 ^ 64
        by None e = let zero : next_of t ≡ 0 = ap (λ o. unwrap_or o 0) e in omega (arith, zero)
        by (Some n) e =
            let f = from key.NextIno (value.Number n) (λ g. absurd (no_number g)) (ap number_value e) in
            let fits : n < 2 ^ 64 = subst IsSpelled (λ z. write (f.key_is z) (shown_number f.it.value n f.value_is z)) (holds IsSpelled live stored key.NextIno (value.Number n) f) in
            let is_n : next_of t ≡ n = ap (λ o. unwrap_or o 0) e in
            omega (arith, fits, is_n)
          where
            no_number : value.Number n ≡ value.Gone → ⊥
            no_number g = absurd cc

    tid_fits : (client tid i : ℕ) → get t.done (client, tid) ≡ Some i → tid < 2 ^ 64
    tid_fits client tid i e =
        let f = from (key.Done client tid) (value.Number i) (λ g. absurd (no_number g)) (ap number_value e) in
        subst IsSpelled (λ z. write (f.key_is z) (shown_number f.it.value i f.value_is z)) (holds IsSpelled live stored (key.Done client tid) (value.Number i) f)
      where
        no_number : value.Number i ≡ value.Gone → ⊥
        no_number g = absurd cc

    name_fits : (q : ℕ × List ℕ) (d : Dentry) → get t.dentries q ≡ Some d → IsTrue (is_name q.1)
    name_fits q (FullAt v r) e = (full_from q v r e IsSpelled live stored).0
    name_fits q (RemoteAt v i k) e = (remote_from q v i k e IsSpelled live stored).0

    spelled : HasSpelling t
    spelled = record {
      next_fits = next_small;
      remote_no_dir = λ q i k e. let c = remote_cell (get t.dentries q) i k e in (remote_from q c.0 i k c.1 IsSpelled live stored).1;
      names_fit = λ q h. let w = some_is (get t.dentries q) h in name_fits q w.0 w.1;
      records_fit = λ q v r e. (full_from q v r e IsSpelled live stored).1;
      tids_fit = tid_fits;
    }
      where
        remote_cell : (o : Option Dentry) (i : ℕ) (k : Kind) → remote_of o ≡ Some (i, k) → (w : ℕ) × (o ≡ Some (RemoteAt w i k))
        remote_cell None i k f = absurd (none_some (i, k) f)
        remote_cell (Some (FullAt w y)) i k f = absurd (none_some (i, k) f)
        remote_cell (Some (RemoteAt w j l)) i k f = let pair = some_same (j, l) (i, k) f in (w, λ z. Some (RemoteAt w (pair z).0 (pair z).1))

    own_cells : HasOwnCells rank t
    own_cells = record {
      spelled = spelled;
      own_cells = λ q h. let w = some_is (get t.dentries q) h in subst (λ n. IsOwn rank n q.0) next_is (dentry_own q w.0 w.1);
      own_heads = λ d v e. subst (λ n. IsOwn rank n d) next_is (head_own d v e);
    }

    pub merged_tree : tree_damage rank t (lump_dirs (journal_writes events)) ≡ None → IsTreeOf rank t (tree_of rank t)
    merged_tree none = undamaged_tree rank t (lump_dirs (journal_writes events)) none own_cells
