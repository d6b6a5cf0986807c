-- The writes of an event in the grammar have a spelling; and an orderly image that recovers has the tree that it recovers to.
use Rattle.std.proofs.Common.{◌≡◌, ℕ, ◌<◌, ◌^◌, Bool, true, false, List, [], ◌∷◌, ◌++◌, Option, Some, None, Result, Ok, Err, refl, sym, ap, subst, ◌∙◌, inl, inr}
use Rattle.std.specs.List.{flat_map, AllByRecursion}
use Rattle.std.proofs.lemmas.Bool.{false≢true, and_parts}
use Rattle.mj_base.specs.Reading.{all_follow, ◌>>=◌}
use Rattle.mj_base.specs.Record.{same_kind}
use Rattle.mj_base.specs.declared.record.Kind.{Kind}
use Rattle.mj_base.specs.declared.record.Kind.TheVariants.{Dir, File, Symlink}
use Rattle.mj_base.specs.declared.damage.Damage.{Damage}
use Rattle.mj_maps.specs.Map.{get}
use Rattle.mj_maps.proofs.MapLaws.{none_some, some_same}
use Rattle.mj_cells.specs.declared.cell.CellKey.TheVariants as key
use Rattle.mj_cells.specs.declared.cell.CellValue.TheVariants as value
use Rattle.mj_cells.specs.declared.cell.CellWrite.{CellWrite}
use Rattle.mj_cells.specs.Table.{Table}
use Rattle.mj_meta.specs.Blob.{IsLump, is_no_dir, FullFits, RemoteFits, full_follows, remote_follows, full_names}
use Rattle.mj_meta.specs.declared.HeadBit.{HeadBit}
use Rattle.mj_meta.specs.declared.HeadBit.TheVariants as head
use Rattle.mj_meta.specs.declared.DirLump.{DirLump}
use Rattle.mj_event.specs.declared.SessionKind.TheVariants.{Open, Close}
use Rattle.mj_event.specs.declared.SessionKind.{SessionKind}
use Rattle.mj_event.specs.declared.SessionEvent.{SessionEvent}
use Rattle.mj_event.specs.declared.UpdateEvent.{UpdateEvent}
use Rattle.mj_event.specs.declared.Event.{Event}
use Rattle.mj_event.specs.declared.Event.TheVariants as event
use Rattle.mj_event.specs.Event.{IsUpdateEvent, Optional, IsEvent}
use Rattle.mj_event.specs.Writes.{write, where_some, head_value, lump_writes, reply_gone, replies_gone, reply_writes, update_writes, session_writes, open_write, writes_of}
use Rattle.mj_recovery.specs.declared.journal.LiveEvent.{LiveEvent}
use Rattle.mj_recovery.specs.Objects.{Objects}
use Rattle.mj_recovery.specs.Journal.{live_journal, journal_writes}
use Rattle.mj_recovery.specs.Damage.{first_some, tree_damage, lump_dirs}
use Rattle.mj_recovery.specs.Tree.{holding, tree_of}
use Rattle.mj_recovery.specs.Recovered.{Recovery, bad_table, bad_dirfrag, merged_table, merged_damage, merged_with, or_damage, gathered, recovered}
use Rattle.mj_recovery.specs.Orderly.{EachStored, IsOrderly}
use Rattle.mj_delta.specs.TreeOf.{IsTreeOf}
use Rattle.mj_delta.specs.Cells.{next_of, IsSpelled, HoldsOwnDirs}
use Rattle.mj_delta.proofs.Lists.{Lies, all_lies, lies_all, in_append, in_map}
use Rattle.mj_delta.proofs.Plans.{in_flat_map}
use Rattle.mj_delta.proofs.ExactUpdates.{some_in}
use Rattle.mj_delta.proofs.Sources.{lump_dentry, merged_tree}

-- each item follows something
follows_all : {A : Type 0} (f : Option A → A → Bool) (before : Option A) (xs : List A) (x : A) → all_follow f before xs ≡ true → Lies x xs → (b : Option A) × (f b x ≡ true)
follows_all f before [] x e l = absurd l
follows_all f before (y ∷ ys) x e (inl same) = (before, ap (f before) (sym same) ∙ (and_parts _ _ e).0)
follows_all f before (y ∷ ys) x e (inr l) = follows_all f (Some y) ys x (and_parts _ _ e).1 l

no_dir : (k : Kind) → is_no_dir k ≡ true → same_kind k Dir ≡ false
no_dir Dir e = absurd (false≢true e)
no_dir File e = refl
no_dir Symlink e = refl

head_spelled : (d : ℕ) (h : HeadBit) → IsSpelled (write (key.DirHead d) (head_value h))
head_spelled d (head.At v) = tt
head_spelled d head.Gone = tt

lump_spelled : (l : DirLump) → IsLump l → (w : CellWrite) → Lies w (lump_writes l) → IsSpelled w
lump_spelled l is w m = elim (lump_dentry l w m) [
  | inl e ↦ subst IsSpelled e (head_spelled l.dir l.head)
  | inr (inl a) ↦
      let b = a.0 in
      let f = all_lies FullFits l.full is.full.0 b a.1 in
      let g = follows_all full_follows None l.full b is.full.1 a.1 in
      subst IsSpelled a.2 ((and_parts _ _ (and_parts _ _ g.1).0).0, f.1)
  | inr (inr (inl a)) ↦
      let b = a.0 in
      let f = all_lies RemoteFits l.remote is.remote.0 b a.1 in
      let g = follows_all (remote_follows (full_names l.full)) None l.remote b is.remote.1 a.1 in
      subst IsSpelled a.2 ((and_parts _ _ (and_parts _ _ g.1).0).0, no_dir b.kind f.2)
  | inr (inr (inr a)) ↦ subst IsSpelled a.2 tt
]

reply_spelled : (e : UpdateEvent) → IsUpdateEvent e → (w : CellWrite) → Lies w (reply_writes e) → IsSpelled w
reply_spelled e is w (inl f) = subst IsSpelled f is.ranges.1
reply_spelled e is w (inr l) = elim (in_append (where_some (λ oldest. write (key.Session e.client) (value.Number oldest)) e.oldest) (replies_gone e.client e.dropped) w l) [
  | inl a ↦ let x = some_in (λ oldest. write (key.Session e.client) (value.Number oldest)) e.oldest w a in subst IsSpelled x.2 tt
  | inr b ↦ let x = in_map (reply_gone e.client) e.dropped w b in subst IsSpelled x.2 tt
]

optional_fits : (o : Option ℕ) (n : ℕ) → Optional o → o ≡ Some n → n < 2 ^ 64
optional_fits None n h e = absurd (none_some n e)
optional_fits (Some x) n h e = subst (λ n. n < 2 ^ 64) (some_same x n e) h

update_spelled : (e : UpdateEvent) → IsUpdateEvent e → (w : CellWrite) → Lies w (update_writes e) → IsSpelled w
update_spelled e is w l =
    let next = where_some (λ next. write key.NextIno (value.Number next)) e.next in
    let opened = where_some (λ ino. write (key.OpenOf e.client ino) value.Present) e.opened in
    let released = where_some (λ ino. write (key.OpenOf e.client ino) value.Gone) e.released in
    elim (in_append (reply_writes e ++ next ++ opened ++ released) (flat_map lump_writes e.blob.lumps) w l) [
      | inr x ↦ let u = in_flat_map lump_writes e.blob.lumps w x in lump_spelled u.0 (all_lies IsLump e.blob.lumps is.blob.lumps.0 u.0 u.1) w u.2
      | inl x ↦ elim (in_append (reply_writes e ++ next ++ opened) released w x) [
        | inr y ↦ let z = some_in (λ ino. write (key.OpenOf e.client ino) value.Gone) e.released w y in subst IsSpelled z.2 tt
        | inl y ↦ elim (in_append (reply_writes e ++ next) opened w y) [
          | inr z ↦ let u = some_in (λ ino. write (key.OpenOf e.client ino) value.Present) e.opened w z in subst IsSpelled u.2 tt
          | inl z ↦ elim (in_append (reply_writes e) next w z) [
            | inr u ↦ let v = some_in (λ next. write key.NextIno (value.Number next)) e.next w u in subst IsSpelled v.2 (optional_fits e.next v.0 is.optionals.1 v.1)
            | inl u ↦ reply_spelled e is w u
          ]
        ]
      ]
    ]

session_spelled : (kind : SessionKind) (e : SessionEvent) → e.tid < 2 ^ 64 → (w : CellWrite) → Lies w (session_writes kind e) → IsSpelled w
session_spelled Open e fits w (inl f) = subst IsSpelled f tt
session_spelled Open e fits w (inr (inl f)) = subst IsSpelled f fits
session_spelled Open e fits w (inr (inr l)) = absurd l
session_spelled Close e fits w (inl f) = subst IsSpelled f tt
session_spelled Close e fits w (inr l) = let x = in_map (reply_gone e.client) e.dropped w l in subst IsSpelled x.2 tt

pub event_spelled : (e : Event) → IsEvent e → (w : CellWrite) → Lies w (writes_of e) → IsSpelled w
event_spelled (event.SubtreeMap dirs) is w l = absurd l
event_spelled event.Reset is w l = absurd l
event_spelled (event.NoOp pad) is w l = absurd l
event_spelled (event.Session e) is w l = session_spelled e.kind e is.ranges.2 w l
event_spelled (event.Update e) is w l = update_spelled e is w l
event_spelled (event.Reopen pairs) is w l = let x = in_map open_write pairs w l in subst IsSpelled x.2 tt

journal_spelled : (events : List LiveEvent) → AllByRecursion (λ (e : LiveEvent). IsEvent e.event) events → AllByRecursion IsSpelled (journal_writes events)
journal_spelled events all = lies_all IsSpelled (journal_writes events) (λ w l.
    let x = in_flat_map (λ (e : LiveEvent). writes_of e.event) events w l in
    event_spelled x.0.event (all_lies (λ (e : LiveEvent). IsEvent e.event) events all x.0 x.1) w x.2)

-- ---- what recovery answers

bind_ok : {A B : Type 0} (x : Result A Damage) (f : A → Result B Damage) (y : B) → (x >>= f) ≡ Ok y → (z : A) × (x ≡ Ok z) × (f z ≡ Ok y)
bind_ok (Ok x) f y e = (x, refl, e)
bind_ok (Err d) f y e = absurd cc

ok_same : {A : Type 0} (x y : A) → ◌≡◌ {A = Result A Damage} (Ok x) (Ok y) → x ≡ y
ok_same x y e = cc

undamaged_ok : {A : Type 0} (o : Option Damage) (x y : A) → or_damage o x ≡ Ok y → (o ≡ None) × (x ≡ y)
undamaged_ok None x y e = (refl, ok_same x y e)
undamaged_ok (Some d) x y e = absurd cc

third_none : {A : Type 0} (a b c : Option A) → first_some (a ∷ b ∷ c ∷ []) ≡ None → c ≡ None
third_none None None None e = refl
third_none None None (Some x) e = absurd (none_some x (sym e))
third_none None (Some x) c e = absurd (none_some x (sym e))
third_none (Some x) b c e = absurd (none_some x (sym e))

-- what it gathered, without damage
record IsRecovered (rank : ℕ) (m : Objects) (r : Recovery) : Type 0 where
  table_is : merged_table rank m r.journal.events ≡ r.table
  tree_is : tree_of rank r.table ≡ r.tree
  undamaged : tree_damage rank r.table (lump_dirs (journal_writes r.journal.events)) ≡ None

is_recovered : (rank : ℕ) (m : Objects) (r : Recovery) → recovered rank m ≡ Ok r → IsRecovered rank m r
unfolding recovered
is_recovered rank m r e =
    let x = bind_ok (gathered rank m) (λ r. or_damage (merged_damage rank m r.journal r.table) r) r e in
    let y = undamaged_ok (merged_damage rank m x.0.journal x.0.table) x.0 r x.2 in
    let z = bind_ok (live_journal (get m) rank) (λ j. Ok (merged_with rank m j)) x.0 x.1 in
    let made : merged_with rank m z.0 ≡ x.0 = ok_same (merged_with rank m z.0) x.0 z.2 in
    subst (IsRecovered rank m) (made ∙ y.1) (record {
      table_is = refl;
      tree_is = refl;
      undamaged = third_none (bad_table (get m) rank) (bad_dirfrag (get m) (holding rank (merged_with rank m z.0).table)) (tree_damage rank (merged_with rank m z.0).table (lump_dirs (journal_writes z.0.events)))
          ((λ k. merged_damage rank m (made k).journal (made k).table) ∙ y.0);
    })

tree_next : (rank : ℕ) (t : Table) → (tree_of rank t).next ≡ next_of t
unfolding tree_of
tree_next rank t = refl

pub image_tree : (rank : ℕ) (m : Objects) (r : Recovery) → recovered rank m ≡ Ok r → IsOrderly rank (get m) r.journal.events r.tree.next → AllByRecursion (λ (e : LiveEvent). IsEvent e.event) r.journal.events → EachStored (get m) IsSpelled → HoldsOwnDirs rank (get m) → IsTreeOf rank r.table r.tree
image_tree rank m r e orderly events stored dirs =
    let x = is_recovered rank m r e in
    let next_is : r.tree.next ≡ next_of (merged_table rank m r.journal.events) = ap (λ s. s.next) (sym x.tree_is) ∙ tree_next rank r.table ∙ ap next_of (sym x.table_is) in
    let none : tree_damage rank (merged_table rank m r.journal.events) (lump_dirs (journal_writes r.journal.events)) ≡ None = ap (λ t. tree_damage rank t (lump_dirs (journal_writes r.journal.events))) x.table_is ∙ x.undamaged in
    let tree = merged_tree rank m r.journal.events r.tree.next orderly (journal_spelled r.journal.events events) stored dirs next_is none in
    subst (λ s. IsTreeOf rank r.table s) x.tree_is (subst (λ t. IsTreeOf rank t (tree_of rank t)) x.table_is tree)
