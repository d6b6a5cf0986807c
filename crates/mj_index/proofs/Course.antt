-- An index that follows writes stands for the cells with them.
use Rattle.std.proofs.Common.{arith, ◌≡◌, ℕ, ◌+◌, ◌≤◌, Bool, true, false, cond, ◌||◌, List, [], ◌∷◌, length, Option, Some, None, refl, sym, ap, subst, ◌∙◌, ◌⊎◌, inl, inr}
use Rattle.std.specs.Prelude.{is_some, nat_eq, ◌==◌, ◌-◌}
use Rattle.std.specs.Option.{option_map, option_and_then, option_or}
use Rattle.std.specs.Ordering.{eq_by_cmp}
use Rattle.std.specs.Cmp.{eq_by_cmp_equiv}
use Rattle.std.proofs.lemmas.Bool.{true≢false, eqb-true}
use Rattle.mj_base.specs.declared.record.InodeRecord.{InodeRecord}
use Rattle.mj_base.specs.ObjectName.{stray_ino}
use Rattle.mj_maps.specs.Map.{Map, get, insert, count}
use Rattle.mj_maps.specs.Orders.{nat_cmp}
use Rattle.mj_maps.proofs.MapLaws.{exact_nat, cases_key, eq_same, apart, insert_same, insert_other, some_same, none_some}
use Rattle.mj_cells.specs.declared.cell.CellKey.{CellKey}
use Rattle.mj_cells.specs.declared.cell.CellValue.{CellValue}
use Rattle.mj_cells.specs.declared.cell.CellWrite.{CellWrite}
use Rattle.mj_cells.specs.Cell.{key_cmp, same_key}
use Rattle.mj_cells.specs.Table.{put_all}
use Rattle.mj_cells.proofs.Keys.{exact_key}
use Rattle.mj_tables.specs.Layered.{writes_key}
use Rattle.mj_tables.specs.Slots.{last_write}
use Rattle.mj_tables.proofs.Writes.{get-put_all, some-last_write}
use Rattle.mj_judge.specs.Parts.{Cell, dentry_entry}
use Rattle.mj_judge.specs.Rows.{dentry_dir}
use Rattle.mj_index.specs.declared.known.FullPlace.{FullPlace}
use Rattle.mj_index.specs.declared.known.Known.{Known}
use Rattle.mj_index.specs.declared.index.Index.{Index}
use Rattle.mj_index.specs.Known.{Inodes, most, is_dir_at, held_by, altered, less_dentry, more_dentry, less_open, more_open, without_full, with_full, unless_at}
use Rattle.mj_index.specs.Said.{is_the, is_dentry, is_dentry_in, is_open, is_open_of, is_session, record_of, record_held, full_said, full_inode, open_inode, value_or_gone, cell_before, cell_after}
use Rattle.mj_index.specs.Indexed.{place_key, full_at, IsMidway}
use Rattle.mj_index.specs.Following.{SameIndex, RoomStays, HasRoomAt, HasRoomFor, HasRoom, full_out, record_in, held_in, taken, put_in, followed, all_followed}
use Rattle.mj_index.specs.Course.{AreSingle, HasCounts, IsOnCourse}
use Rattle.mj_index.proofs.Altered.{known-altered_same, known-altered_other, room-altered, kept}
use Rattle.mj_index.proofs.CellCounts.{FailsGone, dentry_fails, dentry_in_fails, open_fails, open_of_fails, session_fails, count_write, count_one_more, dentries_less, opens_less}
use Rattle.mj_index.proofs.Effects.{at_full, at_dentries, at_opens, has_room, without_dentry, without_place, without_open, with_dentry, with_place, with_open, stay-dentry_out, stay-open_out, stay-session_out, stay-dentry_in, stay-open_in, stay-session_in, room_under, room-taken, dir-taken, room-put_in, dir-put_in, dentries-taken, opens-taken, all-dentries-taken, all-opens-taken, all-sessions-taken, dentries-put_in, opens-put_in, all-dentries-put_in, all-opens-put_in, all-sessions-put_in, tied}

-- ---- where full dentries stand

-- what taking a full dentry out at a key leaves, and what putting one in makes
abbrev in_at : CellKey → ℕ → Option InodeRecord → Option FullPlace → Option FullPlace
in_at k j None p = p
in_at k j (Some r) p = cond (r.ino == j) (Some (record { key = k; links = r.links })) p

full-out : (k : CellKey) (o : Option ℕ) (x : Index) (j : ℕ) → at_full j (full_out k o x).known ≡ cond (is_the j o) (unless_at k (at_full j x.known)) (at_full j x.known)
full-out k None x j = refl
full-out k (Some i) x j = elim (cases_key exact_nat j i) [
  | inl same ↦ ap (λ z. at_full z (altered x.known i (without_full k))) same ∙ ap (λ (n : Known). n.full) (known-altered_same x.known i (without_full k) (inl refl))
      ∙ ap (λ z. unless_at k (at_full z x.known)) (sym same)
      ∙ ap (λ b. cond b (unless_at k (at_full j x.known)) (at_full j x.known)) (sym (tied i j ∙ ap (λ z. eq_by_cmp nat_cmp z i) same ∙ eq_same exact_nat i))
  | inr other ↦ ap (λ (n : Known). n.full) (known-altered_other x.known i (without_full k) j other) ∙ ap (λ b. cond b (unless_at k (at_full j x.known)) (at_full j x.known)) (sym (tied i j ∙ other))
]

abbrev pub ino_of_record : Option InodeRecord → Option ℕ
ino_of_record o = option_map (λ (r : InodeRecord). r.ino) o

full-in : (k : CellKey) (o : Option InodeRecord) (x : Index) (j : ℕ) → HasRoomAt x.known (ino_of_record o) → at_full j (record_in k o x).known ≡ in_at k j o (at_full j x.known)
full-in k None x j room = refl
full-in k (Some r) x j room = elim (cases_key exact_nat j r.ino) [
  | inl same ↦ ap (λ z. at_full z (altered x.known r.ino (with_full k r.links))) same ∙ ap (λ (n : Known). n.full) (known-altered_same x.known r.ino (with_full k r.links) (inr room))
      ∙ ap (λ b. cond b (Some (record { key = k; links = r.links })) (at_full j x.known)) (sym (tied r.ino j ∙ ap (λ z. eq_by_cmp nat_cmp z r.ino) same ∙ eq_same exact_nat r.ino))
  | inr other ↦ ap (λ (n : Known). n.full) (known-altered_other x.known r.ino (with_full k r.links) j other) ∙ ap (λ b. cond b (Some (record { key = k; links = r.links })) (at_full j x.known)) (sym (tied r.ino j ∙ other))
]

record IsPut (k : CellKey) (j : ℕ) (o : Option InodeRecord) (p : FullPlace) : Type 0 where
  r : InodeRecord
  is : o ≡ Some r
  ino : r.ino ≡ j
  place : record { key = k; links = r.links } ≡ p

in_cases : (k : CellKey) (j : ℕ) (o : Option InodeRecord) (q : Option FullPlace) (p : FullPlace) → in_at k j o q ≡ Some p → IsPut k j o p ⊎ (q ≡ Some p)
in_cases k j None q p e = inr e
in_cases k j (Some r) q p e = elim (r.ino == j) as (λ b. (r.ino == j) ≡ b → cond b (Some (record { key = k; links = r.links })) q ≡ Some p → IsPut k j (Some r) p ⊎ (q ≡ Some p)) [
  | true ↦ λ t e. inl (record { r = r; is = refl; ino = eqb-true r.ino j t; place = some_same _ p e })
  | false ↦ λ _ e. inr e
] refl e

in_other : (k : CellKey) (j : ℕ) (o : Option InodeRecord) (q : Option FullPlace) → ((r : InodeRecord) → o ≡ Some r → r.ino ≡ j → ⊥) → in_at k j o q ≡ q
in_other k j None q h = refl
in_other k j (Some r) q h = elim (r.ino == j) as (λ b. (r.ino == j) ≡ b → cond b (Some (record { key = k; links = r.links })) q ≡ q) [
  | true ↦ λ t. absurd (h r refl (eqb-true r.ino j t))
  | false ↦ λ _. refl
] refl

pub itself : (n : ℕ) → (n == n) ≡ true
itself n = grind arith

in_here : (k : CellKey) (r : InodeRecord) (q : Option FullPlace) → place_key (in_at k r.ino (Some r) q) ≡ Some k
in_here k r q = ap (λ b. place_key (cond b (Some (record { key = k; links = r.links })) q)) (itself r.ino)

out_some : (k : CellKey) (q p : FullPlace) → unless_at k (Some q) ≡ Some p → (Some q ≡ Some p) × (same_key k p.key ≡ false)
out_some k q p e = elim (same_key k q.key) as (λ b. same_key k q.key ≡ b → cond b None (Some q) ≡ Some p → (Some q ≡ Some p) × (same_key k p.key ≡ false)) [
  | true ↦ λ _ e. absurd (none_some p e)
  | false ↦ λ f e. (e, ap (λ (z : FullPlace). same_key k z.key) (sym (some_same q p e)) ∙ f)
] refl e

out_left : (k : CellKey) (q : Option FullPlace) (p : FullPlace) → unless_at k q ≡ Some p → (q ≡ Some p) × (same_key k p.key ≡ false)
out_left k None p e = absurd (none_some p e)
out_left k (Some q) p e = out_some k q p e

out_cases : (k : CellKey) (b : Bool) (q : Option FullPlace) (p : FullPlace) → cond b (unless_at k q) q ≡ Some p → (q ≡ Some p) × (b ≡ true → same_key k p.key ≡ false)
out_cases k true q p e = let left = out_left k q p e in (left.0, λ _. left.1)
out_cases k false q p e = (e, λ t. absurd (true≢false (sym t)))

out_stays : (k : CellKey) (b : Bool) (q : Option FullPlace) (p : FullPlace) → q ≡ Some p → same_key k p.key ≡ false → cond b (unless_at k q) q ≡ q
out_stays k true q p is other = ap (unless_at k) is ∙ ap (λ b. cond b None (Some p)) other ∙ sym is
out_stays k false q p is other = refl

abbrev pub pair : InodeRecord → ℕ × ℕ
pair r = (r.ino, r.links)

pub named : (j l : ℕ) (o : Option InodeRecord) → option_map pair o ≡ Some (j, l) → is_the j (ino_of_record o) ≡ true
named j l None e = absurd (none_some (j, l) e)
named j l (Some r) e = ap (λ (n : ℕ). n == j) (ap (λ (z : ℕ × ℕ). z.0) (some_same (pair r) (j, l) e)) ∙ itself j

pub with_key : (o : Option FullPlace) (k : CellKey) → place_key o ≡ Some k → (p : FullPlace) × (o ≡ Some p) × (p.key ≡ k)
with_key None k e = absurd (none_some k e)
with_key (Some p) k e = (p, refl, some_same p.key k e)

full_any : (held : ℕ → Bool) (c : Cell) (r : InodeRecord) → full_said held c ≡ Some r → full_said (λ _. true) c ≡ Some r
full_any held c r = elim (dentry_entry c) as (λ o. option_and_then (record_held held) o ≡ Some r → option_and_then (record_held (λ _. true)) o ≡ Some r) [
  | None ↦ λ e. e
  | Some e ↦ elim (held e.0.0) as (λ b. cond b (record_of e.1) None ≡ Some r → record_of e.1 ≡ Some r) [ true ↦ λ is. is | false ↦ λ none. absurd (none_some r none) ]
]

room_full : (m : Inodes) (held : ℕ → Bool) (c : Cell) → HasRoomAt m (full_inode (λ _. true) c) → HasRoomAt m (full_inode held c)
room_full m held c room = elim (full_said held c) as (λ o. full_said held c ≡ o → HasRoomAt m (ino_of_record o)) [
  | None ↦ λ _. tt
  | Some r ↦ λ is. subst (λ o. HasRoomAt m (ino_of_record o)) (full_any held c r is) room
] refl

pub or_false : (a b : Bool) → a ≡ false → b ≡ false → (a || b) ≡ false
or_false true b e f = absurd (true≢false e)
or_false false b e f = f

-- ---- what writes leave at a key

none_over : (o p : Option CellValue) → is_some o ≡ false → option_or o p ≡ p
none_over None p e = refl
none_over (Some v) p e = absurd (true≢false e)

pub not_written : (m : Map key_cmp CellValue) (ws : List CellWrite) (k : CellKey) → writes_key k ws ≡ false → get (put_all m ws) k ≡ get m k
not_written m ws k free = get-put_all m ws k ∙ none_over (last_write k ws) (get m k) (some-last_write k ws ∙ free)

pub key_symm : (a b : CellKey) → same_key a b ≡ same_key b a
key_symm a b = (eq_by_cmp_equiv exact_key.total).symm a b

-- ---- one write

module _ (rank : ℕ) (dirs : ℕ → Bool) (m : Map key_cmp CellValue) (w : CellWrite) (ws : List CellWrite) (x : Index) (mid : IsMidway rank dirs m (w ∷ ws) x) (room : HasRoomFor x.known (cell_after w)) (fits : HasCounts (insert m w.key w.value) 0) where
  abbrev was : Cell
  was = (w.key, value_or_gone (get m w.key))

  abbrev now : Cell
  now = (w.key, w.value)

  abbrev more : Map key_cmp CellValue
  more = insert m w.key w.value

  abbrev H : ℕ → Bool
  H = held_by rank dirs

  abbrev x1 : Index
  x1 = taken rank was x

  abbrev x2 : Index
  x2 = put_in rank now x1

  -- a count that goes down and up
  counted : (p : Cell → Bool) → FailsGone p → (a b : ℕ) → a ≡ count p m → b ≡ a - cond (p was) 1 0 → count p more ≤ most → (b + cond (p now) 1 0 ≡ count p more) × (b + cond (p now) 1 0 ≤ most)
  counted p fails a b is down h =
      let write = count_write p fails m w.key w.value in
      let e : b + cond (p now) 1 0 ≡ count p more = omega (arith, write, is, down) in
      (e, omega (arith, e, h))

  held_is : held_in rank x ≡ H
  held_is = λ i d. (nat_eq (stray_ino rank) d) || mid.dir d i

  held1_is : held_in rank x1 ≡ H
  held1_is = λ i d. (nat_eq (stray_ino rank) d) || (dir-taken rank x was d ∙ mid.dir d) i

  dir_stays : (d : ℕ) → is_dir_at x2.known d ≡ dirs d
  dir_stays d = dir-put_in rank x1 now d ∙ dir-taken rank x was d ∙ mid.dir d

  room1 : (o : Option ℕ) → HasRoomAt x.known o → HasRoomAt x1.known o
  room1 o h = room_under x.known x1.known (room-taken rank x was) o h

  dentries_follow : (d : ℕ) → at_dentries d x2.known ≡ count (is_dentry_in d) more
  dentries_follow d =
      let less = dentries_less d more in
      let top = fits.dentries in
      let done = counted (is_dentry_in d) (dentry_in_fails d) (at_dentries d x.known) (at_dentries d x1.known) (mid.dentries_in d) (dentries-taken rank x was d) (omega (arith, less, top)) in
      dentries-put_in rank x1 now d (room1 (dentry_dir now) room.dir) done.1 ∙ done.0

  opens_follow : (i : ℕ) → at_opens i x2.known ≡ count (is_open_of i) more
  opens_follow i =
      let less = opens_less i more in
      let top = fits.opens in
      let done = counted (is_open_of i) (open_of_fails i) (at_opens i x.known) (at_opens i x1.known) (mid.opens_of_each i) (opens-taken rank x was i) (omega (arith, less, top)) in
      opens-put_in rank x1 now i (room1 (open_inode now) room.opened) done.1 ∙ done.0

  all_dentries_follow : x2.dentries ≡ count is_dentry more
  all_dentries_follow =
      let top = fits.dentries in
      let done = counted is_dentry dentry_fails x.dentries x1.dentries mid.all_dentries (all-dentries-taken rank x was) (omega (arith, top)) in
      all-dentries-put_in rank x1 now done.1 ∙ done.0

  all_opens_follow : x2.opens ≡ count is_open more
  all_opens_follow =
      let top = fits.opens in
      let done = counted is_open open_fails x.opens x1.opens mid.all_opens (all-opens-taken rank x was) (omega (arith, top)) in
      all-opens-put_in rank x1 now done.1 ∙ done.0

  all_sessions_follow : x2.sessions ≡ count is_session more
  all_sessions_follow =
      let top = fits.sessions in
      let done = counted is_session session_fails x.sessions x1.sessions mid.all_sessions (all-sessions-taken rank x was) (omega (arith, top)) in
      all-sessions-put_in rank x1 now done.1 ∙ done.0

  -- the full places after the step
  full1 : (j : ℕ) → at_full j x1.known ≡ cond (is_the j (full_inode H was)) (unless_at w.key (at_full j x.known)) (at_full j x.known)
  full1 j = stay-session_out (at_full j) (is_session was) (without_open rank x was)
      ∙ stay-open_out (at_full j) (kept (λ (k : Known). k.full) less_open (λ k. refl) j) (open_inode was) (without_place rank x was)
      ∙ full-out w.key (full_inode (held_in rank x) was) (without_dentry rank x was) j
      ∙ ap (λ q. cond (is_the j (full_inode (held_in rank x) was)) (unless_at w.key q) q) (stay-dentry_out (at_full j) (kept (λ (k : Known). k.full) less_dentry (λ k. refl) j) (dentry_dir was) x)
      ∙ ap (λ (h : ℕ → Bool). cond (is_the j (full_inode h was)) (unless_at w.key (at_full j x.known)) (at_full j x.known)) held_is

  dentry_room : (j : ℕ) → is_some (get (with_dentry rank x1 now).known j) ≡ is_some (get x.known j)
  dentry_room j = stay-dentry_in (has_room j) (λ n i. room-altered n i more_dentry j) (dentry_dir now) x1 ∙ room-taken rank x was j

  full2 : (j : ℕ) → at_full j x2.known ≡ in_at w.key j (full_said H now) (at_full j x1.known)
  full2 j = stay-session_in (at_full j) (is_session now) (with_open rank x1 now)
      ∙ stay-open_in (at_full j) (kept (λ (k : Known). k.full) more_open (λ k. refl) j) (open_inode now) (with_place rank x1 now)
      ∙ full-in w.key (full_said (held_in rank x1) now) (with_dentry rank x1 now) j (room_under x.known (with_dentry rank x1 now).known dentry_room (full_inode (held_in rank x1) now) (room_full x.known (held_in rank x1) now room.full))
      ∙ ap (in_at w.key j (full_said (held_in rank x1) now)) (stay-dentry_in (at_full j) (kept (λ (k : Known). k.full) more_dentry (λ k. refl) j) (dentry_dir now) x1)
      ∙ ap (λ (h : ℕ → Bool). in_at w.key j (full_said h now) (at_full j x1.known)) held1_is

  here : full_at H more w.key ≡ full_said H now
  here = ap (λ o. full_said H (w.key, value_or_gone o)) (insert_same exact_key m w.key w.value)

  there : (k : CellKey) → same_key k w.key ≡ false → full_at H more k ≡ full_at H m k
  there k other = ap (λ o. full_said H (k, value_or_gone o)) (insert_other exact_key m w.key w.value k other)

  sound_put : (j : ℕ) (p : FullPlace) → IsPut w.key j (full_said H now) p → option_map pair (full_at H more p.key) ≡ Some (j, p.links)
  sound_put j p put = ap (λ (z : FullPlace). option_map pair (full_at H more z.key)) (sym put.place) ∙ ap (option_map pair) (here ∙ put.is)
      ∙ (λ i. Some (put.ino i, (put.place i).links))

  sound_left : (j : ℕ) (p : FullPlace) → at_full j x.known ≡ Some p → (is_the j (full_inode H was) ≡ true → same_key w.key p.key ≡ false) → option_map pair (full_at H more p.key) ≡ Some (j, p.links)
  sound_left j p is unless = elim (cases_key exact_key p.key w.key) [
    | inl same ↦
        let at = ap (λ k. option_map pair (full_at H m k)) (sym same) ∙ mid.sound j p is in
        let not_same = unless (named j p.links (full_at H m w.key) at) in
        absurd (true≢false (sym (ap (same_key w.key) same ∙ eq_same exact_key w.key) ∙ not_same))
    | inr other ↦ ap (option_map pair) (there p.key other) ∙ mid.sound j p is
  ]

  sound_follows : (j : ℕ) (p : FullPlace) → at_full j x2.known ≡ Some p → option_map pair (full_at H more p.key) ≡ Some (j, p.links)
  sound_follows j p is = elim (in_cases w.key j (full_said H now) (at_full j x1.known) p (sym (full2 j) ∙ is)) [
    | inl put ↦ sound_put j p put
    | inr left ↦ let before = out_cases w.key (is_the j (full_inode H was)) (at_full j x.known) p (sym (full1 j) ∙ left) in sound_left j p before.0 before.1
  ]

  module _ (later : writes_key w.key ws ≡ false) (single : AreSingle H (put_all more ws)) where
    ends_as : (k : CellKey) (r : InodeRecord) → writes_key k ws ≡ false → full_at H more k ≡ Some r → full_at H (put_all more ws) k ≡ Some r
    ends_as k r free is = ap (λ o. full_said H (k, value_or_gone o)) (not_written more ws k free) ∙ is

    whole_other : (k : CellKey) (r : InodeRecord) → writes_key k ws ≡ false → same_key k w.key ≡ false → full_at H more k ≡ Some r → place_key (at_full r.ino x2.known) ≡ Some k
    whole_other k r free other is =
        let old = with_key (at_full r.ino x.known) k (mid.whole k r (or_false (same_key k w.key) (writes_key k ws) other free) (sym (there k other) ∙ is)) in
        let apart_key : same_key w.key old.0.key ≡ false = ap (same_key w.key) old.2 ∙ key_symm w.key k ∙ other in
        ap place_key (full2 r.ino)
        ∙ ap place_key (in_other w.key r.ino (full_said H now) (at_full r.ino x1.known) (λ s said same. apart exact_key k w.key other (single k w.key r s (ends_as k r free is) (ends_as w.key s later (here ∙ said)) (sym same))))
        ∙ ap place_key (full1 r.ino ∙ out_stays w.key (is_the r.ino (full_inode H was)) (at_full r.ino x.known) old.0 old.1 apart_key ∙ old.1)
        ∙ ap Some old.2

    whole_here : (r : InodeRecord) → full_said H now ≡ Some r → place_key (at_full r.ino x2.known) ≡ Some w.key
    whole_here r is = ap place_key (full2 r.ino) ∙ ap (λ o. place_key (in_at w.key r.ino o (at_full r.ino x1.known))) is ∙ in_here w.key r (at_full r.ino x1.known)

    whole_follows : (k : CellKey) (r : InodeRecord) → writes_key k ws ≡ false → full_at H more k ≡ Some r → place_key (at_full r.ino x2.known) ≡ Some k
    whole_follows k r free is = elim (cases_key exact_key k w.key) [
      | inl same ↦ whole_here r (sym here ∙ ap (full_at H more) (sym same) ∙ is) ∙ ap Some (sym same)
      | inr other ↦ whole_other k r free other is
    ]

    pub one_followed : IsMidway rank dirs more ws x2
    one_followed = record {
      dir = dir_stays;
      dentries_in = dentries_follow;
      opens_of_each = opens_follow;
      all_dentries = all_dentries_follow;
      all_opens = all_opens_follow;
      all_sessions = all_sessions_follow;
      sound = sound_follows;
      whole = whole_follows;
    }

-- ---- all writes

counts_less : (m : Map key_cmp CellValue) (k : CellKey) (v : CellValue) (n : ℕ) → HasCounts m (n + 1) → HasCounts (insert m k v) n
counts_less m k v n h =
    let a = count_one_more is_dentry dentry_fails m k v in
    let b = count_one_more is_open open_fails m k v in
    let c = count_one_more is_session session_fails m k v in
    let d = h.dentries in
    let e = h.opens in
    let f = h.sessions in
    record { dentries = omega (arith, a, d); opens = omega (arith, b, e); sessions = omega (arith, c, f) }

counts_none : (m : Map key_cmp CellValue) (n : ℕ) → HasCounts m n → HasCounts m 0
counts_none m n h =
    let d = h.dentries in
    let e = h.opens in
    let f = h.sessions in
    record { dentries = omega (arith, d); opens = omega (arith, e); sessions = omega (arith, f) }

counts_cons : (m : Map key_cmp CellValue) (w : CellWrite) (ws : List CellWrite) → HasCounts m (length (w ∷ ws)) → HasCounts m (length ws + 1)
counts_cons m w ws h =
    let d = h.dentries in
    let e = h.opens in
    let f = h.sessions in
    record { dentries = omega (arith, d); opens = omega (arith, e); sessions = omega (arith, f) }

or_right : (a b : Bool) → b ≡ true → (a || b) ≡ true
or_right true b e = refl
or_right false b e = e

pub on_course : (rank : ℕ) (dirs : ℕ → Bool) (old : CellKey → CellValue) (all : Map key_cmp CellValue) (w : CellWrite) (ws : List CellWrite) (x : Index)
    → IsOnCourse rank dirs old all (w ∷ ws) x → HasRoomFor x.known (cell_after w) → IsOnCourse rank dirs old all ws (followed rank old w x)
on_course rank dirs old all w ws x on room =
    let more : Map key_cmp CellValue = insert on.m w.key w.value in
    let counts = counts_less on.m w.key w.value (length ws) (counts_cons on.m w ws on.counts) in
    let here : value_or_gone (get on.m w.key) ≡ old w.key = on.olds w.key (ap (λ b. b || writes_key w.key ws) (eq_same exact_key w.key)) in
    let single = subst (AreSingle (held_by rank dirs)) (sym on.ends) on.single in
    record {
      m = more;
      midway = subst (λ v. IsMidway rank dirs more ws (put_in rank (cell_after w) (taken rank (w.key, v) x))) here
          (one_followed rank dirs on.m w ws x on.midway room (counts_none more (length ws) counts) on.once.0 single);
      ends = on.ends;
      olds = λ k written. elim (cases_key exact_key k w.key) [
        | inl same ↦ absurd (true≢false (sym written ∙ ap (λ z. writes_key z ws) same ∙ on.once.0))
        | inr other ↦ ap value_or_gone (insert_other exact_key on.m w.key w.value k other) ∙ on.olds k (or_right (same_key k w.key) (writes_key k ws) written)
      ];
      once = on.once.1;
      single = on.single;
      counts = counts;
    }

pub same_index : (x : Index) → SameIndex x x
same_index x = record { known = λ i. refl; dentries = refl; sessions = refl; opens = refl }

pub same_after : (x y z : Index) → SameIndex x y → SameIndex y z → SameIndex x z
same_after x y z a b = record { known = λ i. b.known i ∙ a.known i; dentries = b.dentries ∙ a.dentries; sessions = b.sessions ∙ a.sessions; opens = b.opens ∙ a.opens }

pub room_stays_for : (m n : Inodes) → RoomStays m n → (o : Option ℕ) → HasRoomAt m o → HasRoomAt n o
room_stays_for m n stays None room = tt
room_stays_for m n stays (Some i) room = stays i room

pub rooms_stay_for : (m n : Inodes) → RoomStays m n → (c : Cell) → HasRoomFor m c → HasRoomFor n c
rooms_stay_for m n stays c room = record { dir = room_stays_for m n stays (dentry_dir c) room.dir; full = room_stays_for m n stays (full_inode (λ _. true) c) room.full; opened = room_stays_for m n stays (open_inode c) room.opened }

-- room that is made changes nothing
pub same_midway : (rank : ℕ) (dirs : ℕ → Bool) (m : Map key_cmp CellValue) (left : List CellWrite) (x y : Index) → SameIndex x y → IsMidway rank dirs m left x → IsMidway rank dirs m left y
same_midway rank dirs m left x y same mid = record {
  dir = λ d. ap (λ (k : Known). k.is_dir) (same.known d) ∙ mid.dir d;
  dentries_in = λ d. ap (λ (k : Known). k.dentries) (same.known d) ∙ mid.dentries_in d;
  opens_of_each = λ i. ap (λ (k : Known). k.opens) (same.known i) ∙ mid.opens_of_each i;
  all_dentries = same.dentries ∙ mid.all_dentries;
  all_opens = same.opens ∙ mid.all_opens;
  all_sessions = same.sessions ∙ mid.all_sessions;
  sound = λ i p is. mid.sound i p (sym (ap (λ (k : Known). k.full) (same.known i)) ∙ is);
  whole = λ k r free is. ap (λ (n : Known). place_key n.full) (same.known r.ino) ∙ mid.whole k r free is;
}

pub same_course : (rank : ℕ) (dirs : ℕ → Bool) (old : CellKey → CellValue) (all : Map key_cmp CellValue) (left : List CellWrite) (x y : Index) → SameIndex x y → IsOnCourse rank dirs old all left x → IsOnCourse rank dirs old all left y
same_course rank dirs old all left x y same on = record { m = on.m; midway = same_midway rank dirs on.m left x y same on.midway; ends = on.ends; olds = on.olds; once = on.once; single = on.single; counts = on.counts }

room_follows : (rank : ℕ) (old : CellKey → CellValue) (w : CellWrite) (x : Index) (j : ℕ) → is_some (get (followed rank old w x).known j) ≡ is_some (get x.known j)
room_follows rank old w x j = room-put_in rank (taken rank (cell_before old w) x) (cell_after w) j ∙ room-taken rank x (cell_before old w) j

pub room_for_after : (m n : Inodes) → ((j : ℕ) → is_some (get n j) ≡ is_some (get m j)) → (c : Cell) → HasRoomFor m c → HasRoomFor n c
room_for_after m n h c room = record { dir = room_under m n h (dentry_dir c) room.dir; full = room_under m n h (full_inode (λ _. true) c) room.full; opened = room_under m n h (open_inode c) room.opened }

room_after : (m n : Inodes) → ((j : ℕ) → is_some (get n j) ≡ is_some (get m j)) → (ws : List CellWrite) → HasRoom m ws → HasRoom n ws
room_after m n h [] room = tt
room_after m n h (w ∷ ws) room = (room_for_after m n h (cell_after w) room.0, room_after m n h ws room.1)

pub course_run : (rank : ℕ) (dirs : ℕ → Bool) (old : CellKey → CellValue) (all : Map key_cmp CellValue) (ws : List CellWrite) (x : Index)
    → IsOnCourse rank dirs old all ws x → HasRoom x.known ws → IsOnCourse rank dirs old all [] (all_followed rank old ws x)
course_run rank dirs old all [] x on room = on
course_run rank dirs old all (w ∷ ws) x on room =
    course_run rank dirs old all ws (followed rank old w x) (on_course rank dirs old all w ws x on room.0) (room_after x.known (followed rank old w x).known (room_follows rank old w x) ws room.1)

pub course_ends : (rank : ℕ) (dirs : ℕ → Bool) (old : CellKey → CellValue) (all : Map key_cmp CellValue) (x : Index) → IsOnCourse rank dirs old all [] x → IsMidway rank dirs all [] x
course_ends rank dirs old all x on = subst (λ n. IsMidway rank dirs n [] x) on.ends on.midway

pub rooms_stay : (rank : ℕ) (old : CellKey → CellValue) (ws : List CellWrite) (x : Index) (j : ℕ) → is_some (get (all_followed rank old ws x).known j) ≡ is_some (get x.known j)
rooms_stay rank old [] x j = refl
rooms_stay rank old (w ∷ ws) x j = rooms_stay rank old ws (followed rank old w x) j ∙ room_follows rank old w x j
