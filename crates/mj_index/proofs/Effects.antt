-- What each part of a step leaves as it was, and what it changes.
use Rattle.std.proofs.Common.{arith, ◌≡◌, ℕ, ◌+◌, ◌≤◌, Bool, true, false, cond, Option, Some, None, refl, sym, ap, subst, ◌∙◌, inl, inr}
use Rattle.std.specs.Prelude.{is_some, ◌==◌, ◌-◌, min}
use Rattle.std.specs.Cmp.{unsigned_ties, eq_by_cmp_equiv}
use Rattle.std.specs.Ordering.{eq_by_cmp}
use Rattle.mj_base.specs.declared.record.InodeRecord.{InodeRecord}
use Rattle.mj_maps.specs.Map.{get}
use Rattle.mj_maps.specs.Orders.{nat_cmp}
use Rattle.mj_maps.proofs.MapLaws.{exact_nat, cases_key, eq_same}
use Rattle.mj_cells.specs.declared.cell.CellKey.{CellKey}
use Rattle.mj_judge.specs.Parts.{Cell}
use Rattle.mj_judge.specs.Rows.{dentry_dir}
use Rattle.mj_index.specs.declared.known.FullPlace.{FullPlace}
use Rattle.mj_index.specs.declared.known.Known.{Known}
use Rattle.mj_index.specs.declared.index.Index.{Index}
use Rattle.mj_index.specs.Known.{Inodes, most, nothing, known_at, altered, less_dentry, more_dentry, less_open, more_open, without_full, with_full}
use Rattle.mj_index.specs.Said.{is_the, full_said, full_inode, open_inode, is_session}
use Rattle.mj_index.specs.Following.{HasRoomAt, dentry_out, full_out, open_out, session_out, dentry_in, record_in, open_in, session_in, held_in, taken, put_in}
use Rattle.mj_index.proofs.Altered.{known-altered_same, known-altered_other, room-altered, kept}

-- ---- what is left as it was, of what is known

abbrev pub Stays : {A : Type 0} → (Inodes → A) → (Known → Known) → Type 0
Stays g f = (m : Inodes) (i : ℕ) → g (altered m i f) ≡ g m

module _ {A : Type 0} (g : Inodes → A) where
  pub stay-dentry_out : Stays g less_dentry → (o : Option ℕ) (x : Index) → g (dentry_out o x).known ≡ g x.known
  stay-dentry_out h None x = refl
  stay-dentry_out h (Some d) x = h x.known d

  pub stay-full_out : (k : CellKey) → Stays g (without_full k) → (o : Option ℕ) (x : Index) → g (full_out k o x).known ≡ g x.known
  stay-full_out k h None x = refl
  stay-full_out k h (Some i) x = h x.known i

  pub stay-open_out : Stays g less_open → (o : Option ℕ) (x : Index) → g (open_out o x).known ≡ g x.known
  stay-open_out h None x = refl
  stay-open_out h (Some i) x = h x.known i

  pub stay-session_out : (b : Bool) (x : Index) → g (session_out b x).known ≡ g x.known
  stay-session_out true x = refl
  stay-session_out false x = refl

  pub stay-dentry_in : Stays g more_dentry → (o : Option ℕ) (x : Index) → g (dentry_in o x).known ≡ g x.known
  stay-dentry_in h None x = refl
  stay-dentry_in h (Some d) x = h x.known d

  pub stay-record_in : (k : CellKey) → ((links : ℕ) → Stays g (with_full k links)) → (o : Option InodeRecord) (x : Index) → g (record_in k o x).known ≡ g x.known
  stay-record_in k h None x = refl
  stay-record_in k h (Some r) x = h r.links x.known r.ino

  pub stay-open_in : Stays g more_open → (o : Option ℕ) (x : Index) → g (open_in o x).known ≡ g x.known
  stay-open_in h None x = refl
  stay-open_in h (Some i) x = h x.known i

  pub stay-session_in : (b : Bool) (x : Index) → g (session_in b x).known ≡ g x.known
  stay-session_in true x = refl
  stay-session_in false x = refl

-- ---- what is left as it was, of the sums

module _ {A : Type 0} (g : Index → A) where
  sum-dentry_out : ((x : Index) (m : Inodes) (n : ℕ) → g (record x { known = m; dentries = n }) ≡ g x) → (o : Option ℕ) (x : Index) → g (dentry_out o x) ≡ g x
  sum-dentry_out h None x = refl
  sum-dentry_out h (Some d) x = h x _ _

  sum-full_out : ((x : Index) (m : Inodes) → g (record x { known = m }) ≡ g x) → (k : CellKey) (o : Option ℕ) (x : Index) → g (full_out k o x) ≡ g x
  sum-full_out h k None x = refl
  sum-full_out h k (Some i) x = h x _

  sum-open_out : ((x : Index) (m : Inodes) (n : ℕ) → g (record x { known = m; opens = n }) ≡ g x) → (o : Option ℕ) (x : Index) → g (open_out o x) ≡ g x
  sum-open_out h None x = refl
  sum-open_out h (Some d) x = h x _ _

  sum-session_out : ((x : Index) (n : ℕ) → g (record x { sessions = n }) ≡ g x) → (b : Bool) (x : Index) → g (session_out b x) ≡ g x
  sum-session_out h false x = refl
  sum-session_out h true x = h x _

  sum-dentry_in : ((x : Index) (m : Inodes) (n : ℕ) → g (record x { known = m; dentries = n }) ≡ g x) → (o : Option ℕ) (x : Index) → g (dentry_in o x) ≡ g x
  sum-dentry_in h None x = refl
  sum-dentry_in h (Some d) x = h x _ _

  sum-record_in : ((x : Index) (m : Inodes) → g (record x { known = m }) ≡ g x) → (k : CellKey) (o : Option InodeRecord) (x : Index) → g (record_in k o x) ≡ g x
  sum-record_in h k None x = refl
  sum-record_in h k (Some r) x = h x _

  sum-open_in : ((x : Index) (m : Inodes) (n : ℕ) → g (record x { known = m; opens = n }) ≡ g x) → (o : Option ℕ) (x : Index) → g (open_in o x) ≡ g x
  sum-open_in h None x = refl
  sum-open_in h (Some d) x = h x _ _

  sum-session_in : ((x : Index) (n : ℕ) → g (record x { sessions = n }) ≡ g x) → (b : Bool) (x : Index) → g (session_in b x) ≡ g x
  sum-session_in h false x = refl
  sum-session_in h true x = h x _

-- ---- whole steps

abbrev pub at_dir : ℕ → Inodes → Bool
at_dir j m = (known_at m j).is_dir

abbrev pub at_dentries : ℕ → Inodes → ℕ
at_dentries j m = (known_at m j).dentries

abbrev pub at_opens : ℕ → Inodes → ℕ
at_opens j m = (known_at m j).opens

abbrev pub at_full : ℕ → Inodes → Option FullPlace
at_full j m = (known_at m j).full

abbrev pub has_room : ℕ → Inodes → Bool
has_room j m = is_some (get m j)

module _ (rank : ℕ) (x : Index) where
  module _ (c : Cell) where
    abbrev pub without_dentry : Index
    without_dentry = dentry_out (dentry_dir c) x

    abbrev pub without_place : Index
    without_place = full_out c.0 (full_inode (held_in rank x) c) without_dentry

    abbrev pub without_open : Index
    without_open = open_out (open_inode c) without_place

    pub room-taken : (j : ℕ) → has_room j (taken rank c x).known ≡ has_room j x.known
    room-taken j = stay-session_out (has_room j) (is_session c) without_open
        ∙ stay-open_out (has_room j) (λ m i. room-altered m i less_open j) (open_inode c) without_place
        ∙ stay-full_out (has_room j) c.0 (λ m i. room-altered m i (without_full c.0) j) (full_inode (held_in rank x) c) without_dentry
        ∙ stay-dentry_out (has_room j) (λ m i. room-altered m i less_dentry j) (dentry_dir c) x

    pub dir-taken : (j : ℕ) → at_dir j (taken rank c x).known ≡ at_dir j x.known
    dir-taken j = stay-session_out (at_dir j) (is_session c) without_open
        ∙ stay-open_out (at_dir j) (kept (λ (k : Known). k.is_dir) less_open (λ k. refl) j) (open_inode c) without_place
        ∙ stay-full_out (at_dir j) c.0 (kept (λ (k : Known). k.is_dir) (without_full c.0) (λ k. refl) j) (full_inode (held_in rank x) c) without_dentry
        ∙ stay-dentry_out (at_dir j) (kept (λ (k : Known). k.is_dir) less_dentry (λ k. refl) j) (dentry_dir c) x

    abbrev pub with_dentry : Index
    with_dentry = dentry_in (dentry_dir c) x

    abbrev pub with_place : Index
    with_place = record_in c.0 (full_said (held_in rank x) c) with_dentry

    abbrev pub with_open : Index
    with_open = open_in (open_inode c) with_place

    pub room-put_in : (j : ℕ) → has_room j (put_in rank c x).known ≡ has_room j x.known
    room-put_in j = stay-session_in (has_room j) (is_session c) with_open
        ∙ stay-open_in (has_room j) (λ m i. room-altered m i more_open j) (open_inode c) with_place
        ∙ stay-record_in (has_room j) c.0 (λ links m i. room-altered m i (with_full c.0 links) j) (full_said (held_in rank x) c) with_dentry
        ∙ stay-dentry_in (has_room j) (λ m i. room-altered m i more_dentry j) (dentry_dir c) x

    pub dir-put_in : (j : ℕ) → at_dir j (put_in rank c x).known ≡ at_dir j x.known
    dir-put_in j = stay-session_in (at_dir j) (is_session c) with_open
        ∙ stay-open_in (at_dir j) (kept (λ (k : Known). k.is_dir) more_open (λ k. refl) j) (open_inode c) with_place
        ∙ stay-record_in (at_dir j) c.0 (λ links. kept (λ (k : Known). k.is_dir) (with_full c.0 links) (λ k. refl) j) (full_said (held_in rank x) c) with_dentry
        ∙ stay-dentry_in (at_dir j) (kept (λ (k : Known). k.is_dir) more_dentry (λ k. refl) j) (dentry_dir c) x

-- ---- counts

pub tied : (a b : ℕ) → (a == b) ≡ eq_by_cmp nat_cmp b a
tied a b = unsigned_ties a b ∙ (eq_by_cmp_equiv exact_nat.total).symm a b

none_less : (n : ℕ) → n ≡ n - cond false 1 0
none_less n = omega arith

none_more : (n : ℕ) → n ≡ n + cond false 1 0
none_more n = omega arith

least_most : (n : ℕ) → n + 1 ≤ most → min (n + 1) most ≡ n + 1
least_most n h = omega (arith, h)

-- what a change that counts down leaves at each inode
less_at : (g : Known → ℕ) (f : Known → Known) → ((k : Known) → g (f k) ≡ g k - 1) → f nothing ≡ nothing → (m : Inodes) (i j : ℕ) → g (known_at (altered m i f) j) ≡ g (known_at m j) - cond (i == j) 1 0
less_at g f h none m i j = elim (cases_key exact_nat j i) [
  | inl same ↦ ap (λ z. g (known_at (altered m i f) z)) same ∙ ap g (known-altered_same m i f (inl none)) ∙ h (known_at m i) ∙ ap (λ z. g (known_at m z) - 1) (sym same)
      ∙ ap (λ b. g (known_at m j) - cond b 1 0) (sym (tied i j ∙ ap (λ z. eq_by_cmp nat_cmp z i) same ∙ eq_same exact_nat i))
  | inr other ↦ ap g (known-altered_other m i f j other) ∙ none_less (g (known_at m j)) ∙ ap (λ b. g (known_at m j) - cond b 1 0) (sym (tied i j ∙ other))
]

more_at : (g : Known → ℕ) (f : Known → Known) → ((k : Known) → g (f k) ≡ min (g k + 1) most) → (m : Inodes) (i j : ℕ) → is_some (get m i) ≡ true → g (known_at m j) + cond (i == j) 1 0 ≤ most → g (known_at (altered m i f) j) ≡ g (known_at m j) + cond (i == j) 1 0
more_at g f h m i j room fits = elim (cases_key exact_nat j i) [
  | inl same ↦
      let here : (i == j) ≡ true = tied i j ∙ ap (λ z. eq_by_cmp nat_cmp z i) same ∙ eq_same exact_nat i in
      let one : cond {A = ℕ} (i == j) 1 0 ≡ 1 = ap (λ b. cond {A = ℕ} b 1 0) here in
      ap (λ z. g (known_at (altered m i f) z)) same ∙ ap g (known-altered_same m i f (inr room)) ∙ h (known_at m i) ∙ ap (λ z. min (g (known_at m z) + 1) most) (sym same)
      ∙ least_most (g (known_at m j)) (omega (arith, fits, one)) ∙ ap (λ n. g (known_at m j) + n) (sym one)
  | inr other ↦ ap g (known-altered_other m i f j other) ∙ none_more (g (known_at m j)) ∙ ap (λ b. g (known_at m j) + cond b 1 0) (sym (tied i j ∙ other))
]

dentries-out : (o : Option ℕ) (x : Index) (j : ℕ) → at_dentries j (dentry_out o x).known ≡ at_dentries j x.known - cond (is_the j o) 1 0
dentries-out None x j = none_less _
dentries-out (Some d) x j = less_at (λ (k : Known). k.dentries) less_dentry (λ k. refl) refl x.known d j

opens-out : (o : Option ℕ) (x : Index) (j : ℕ) → at_opens j (open_out o x).known ≡ at_opens j x.known - cond (is_the j o) 1 0
opens-out None x j = none_less _
opens-out (Some d) x j = less_at (λ (k : Known). k.opens) less_open (λ k. refl) refl x.known d j

dentries-in : (o : Option ℕ) (x : Index) (j : ℕ) → HasRoomAt x.known o → at_dentries j x.known + cond (is_the j o) 1 0 ≤ most → at_dentries j (dentry_in o x).known ≡ at_dentries j x.known + cond (is_the j o) 1 0
dentries-in None x j room fits = none_more _
dentries-in (Some d) x j room fits = more_at (λ (k : Known). k.dentries) more_dentry (λ k. refl) x.known d j room fits

opens-in : (o : Option ℕ) (x : Index) (j : ℕ) → HasRoomAt x.known o → at_opens j x.known + cond (is_the j o) 1 0 ≤ most → at_opens j (open_in o x).known ≡ at_opens j x.known + cond (is_the j o) 1 0
opens-in None x j room fits = none_more _
opens-in (Some d) x j room fits = more_at (λ (k : Known). k.opens) more_open (λ k. refl) x.known d j room fits

all-dentries-out : (o : Option ℕ) (x : Index) → (dentry_out o x).dentries ≡ x.dentries - cond (is_some o) 1 0
all-dentries-out None x = none_less _
all-dentries-out (Some d) x = refl

all-dentries-in : (o : Option ℕ) (x : Index) → x.dentries + cond (is_some o) 1 0 ≤ most → (dentry_in o x).dentries ≡ x.dentries + cond (is_some o) 1 0
all-dentries-in None x h = none_more _
all-dentries-in (Some d) x h = least_most x.dentries h

all-opens-out : (o : Option ℕ) (x : Index) → (open_out o x).opens ≡ x.opens - cond (is_some o) 1 0
all-opens-out None x = none_less _
all-opens-out (Some d) x = refl

all-opens-in : (o : Option ℕ) (x : Index) → x.opens + cond (is_some o) 1 0 ≤ most → (open_in o x).opens ≡ x.opens + cond (is_some o) 1 0
all-opens-in None x h = none_more _
all-opens-in (Some d) x h = least_most x.opens h

all-sessions-out : (b : Bool) (x : Index) → (session_out b x).sessions ≡ x.sessions - cond b 1 0
all-sessions-out false x = none_less _
all-sessions-out true x = refl

all-sessions-in : (b : Bool) (x : Index) → x.sessions + cond b 1 0 ≤ most → (session_in b x).sessions ≡ x.sessions + cond b 1 0
all-sessions-in false x h = none_more _
all-sessions-in true x h = least_most x.sessions h

pub room_under : (m n : Inodes) → ((j : ℕ) → is_some (get n j) ≡ is_some (get m j)) → (o : Option ℕ) → HasRoomAt m o → HasRoomAt n o
room_under m n h None room = tt
room_under m n h (Some i) room = h i ∙ room

module _ (rank : ℕ) (x : Index) (c : Cell) where
  pub dentries-taken : (j : ℕ) → at_dentries j (taken rank c x).known ≡ at_dentries j x.known - cond (is_the j (dentry_dir c)) 1 0
  dentries-taken j = stay-session_out (at_dentries j) (is_session c) (without_open rank x c)
      ∙ stay-open_out (at_dentries j) (kept (λ (k : Known). k.dentries) less_open (λ k. refl) j) (open_inode c) (without_place rank x c)
      ∙ stay-full_out (at_dentries j) c.0 (kept (λ (k : Known). k.dentries) (without_full c.0) (λ k. refl) j) (full_inode (held_in rank x) c) (without_dentry rank x c)
      ∙ dentries-out (dentry_dir c) x j

  pub opens-taken : (j : ℕ) → at_opens j (taken rank c x).known ≡ at_opens j x.known - cond (is_the j (open_inode c)) 1 0
  opens-taken j = stay-session_out (at_opens j) (is_session c) (without_open rank x c)
      ∙ opens-out (open_inode c) (without_place rank x c) j
      ∙ ap (λ n. n - cond (is_the j (open_inode c)) 1 0)
      (stay-full_out (at_opens j) c.0 (kept (λ (k : Known). k.opens) (without_full c.0) (λ k. refl) j) (full_inode (held_in rank x) c) (without_dentry rank x c)
      ∙ stay-dentry_out (at_opens j) (kept (λ (k : Known). k.opens) less_dentry (λ k. refl) j) (dentry_dir c) x)

  pub all-dentries-taken : (taken rank c x).dentries ≡ x.dentries - cond (is_some (dentry_dir c)) 1 0
  all-dentries-taken = sum-session_out (λ (x : Index). x.dentries) (λ x n. refl) (is_session c) (without_open rank x c)
      ∙ sum-open_out (λ (x : Index). x.dentries) (λ x m n. refl) (open_inode c) (without_place rank x c)
      ∙ sum-full_out (λ (x : Index). x.dentries) (λ x m. refl) c.0 (full_inode (held_in rank x) c) (without_dentry rank x c)
      ∙ all-dentries-out (dentry_dir c) x

  pub all-opens-taken : (taken rank c x).opens ≡ x.opens - cond (is_some (open_inode c)) 1 0
  all-opens-taken = sum-session_out (λ (x : Index). x.opens) (λ x n. refl) (is_session c) (without_open rank x c)
      ∙ all-opens-out (open_inode c) (without_place rank x c)
      ∙ ap (λ n. n - cond (is_some (open_inode c)) 1 0)
      (sum-full_out (λ (x : Index). x.opens) (λ x m. refl) c.0 (full_inode (held_in rank x) c) (without_dentry rank x c)
      ∙ sum-dentry_out (λ (x : Index). x.opens) (λ x m n. refl) (dentry_dir c) x)

  pub all-sessions-taken : (taken rank c x).sessions ≡ x.sessions - cond (is_session c) 1 0
  all-sessions-taken = all-sessions-out (is_session c) (without_open rank x c)
      ∙ ap (λ n. n - cond (is_session c) 1 0)
      (sum-open_out (λ (x : Index). x.sessions) (λ x m n. refl) (open_inode c) (without_place rank x c)
      ∙ sum-full_out (λ (x : Index). x.sessions) (λ x m. refl) c.0 (full_inode (held_in rank x) c) (without_dentry rank x c)
      ∙ sum-dentry_out (λ (x : Index). x.sessions) (λ x m n. refl) (dentry_dir c) x)

  pub dentries-put_in : (j : ℕ) → HasRoomAt x.known (dentry_dir c) → at_dentries j x.known + cond (is_the j (dentry_dir c)) 1 0 ≤ most → at_dentries j (put_in rank c x).known ≡ at_dentries j x.known + cond (is_the j (dentry_dir c)) 1 0
  dentries-put_in j room fits = stay-session_in (at_dentries j) (is_session c) (with_open rank x c)
      ∙ stay-open_in (at_dentries j) (kept (λ (k : Known). k.dentries) more_open (λ k. refl) j) (open_inode c) (with_place rank x c)
      ∙ stay-record_in (at_dentries j) c.0 (λ links. kept (λ (k : Known). k.dentries) (with_full c.0 links) (λ k. refl) j) (full_said (held_in rank x) c) (with_dentry rank x c)
      ∙ dentries-in (dentry_dir c) x j room fits

  opens_before : (j : ℕ) → at_opens j (with_place rank x c).known ≡ at_opens j x.known
  opens_before j = stay-record_in (at_opens j) c.0 (λ links. kept (λ (k : Known). k.opens) (with_full c.0 links) (λ k. refl) j) (full_said (held_in rank x) c) (with_dentry rank x c)
      ∙ stay-dentry_in (at_opens j) (kept (λ (k : Known). k.opens) more_dentry (λ k. refl) j) (dentry_dir c) x

  room_before : (j : ℕ) → has_room j (with_place rank x c).known ≡ has_room j x.known
  room_before j = stay-record_in (has_room j) c.0 (λ links m i. room-altered m i (with_full c.0 links) j) (full_said (held_in rank x) c) (with_dentry rank x c)
      ∙ stay-dentry_in (has_room j) (λ m i. room-altered m i more_dentry j) (dentry_dir c) x

  pub opens-put_in : (j : ℕ) → HasRoomAt x.known (open_inode c) → at_opens j x.known + cond (is_the j (open_inode c)) 1 0 ≤ most → at_opens j (put_in rank c x).known ≡ at_opens j x.known + cond (is_the j (open_inode c)) 1 0
  opens-put_in j room fits = stay-session_in (at_opens j) (is_session c) (with_open rank x c)
      ∙ opens-in (open_inode c) (with_place rank x c) j (room_under x.known (with_place rank x c).known room_before (open_inode c) room)
      (subst (λ n. n + cond (is_the j (open_inode c)) 1 0 ≤ most) (sym (opens_before j)) fits)
      ∙ ap (λ n. n + cond (is_the j (open_inode c)) 1 0) (opens_before j)

  pub all-dentries-put_in : x.dentries + cond (is_some (dentry_dir c)) 1 0 ≤ most → (put_in rank c x).dentries ≡ x.dentries + cond (is_some (dentry_dir c)) 1 0
  all-dentries-put_in fits = sum-session_in (λ (x : Index). x.dentries) (λ x n. refl) (is_session c) (with_open rank x c)
      ∙ sum-open_in (λ (x : Index). x.dentries) (λ x m n. refl) (open_inode c) (with_place rank x c)
      ∙ sum-record_in (λ (x : Index). x.dentries) (λ x m. refl) c.0 (full_said (held_in rank x) c) (with_dentry rank x c)
      ∙ all-dentries-in (dentry_dir c) x fits

  all_opens_before : (with_place rank x c).opens ≡ x.opens
  all_opens_before = sum-record_in (λ (x : Index). x.opens) (λ x m. refl) c.0 (full_said (held_in rank x) c) (with_dentry rank x c)
      ∙ sum-dentry_in (λ (x : Index). x.opens) (λ x m n. refl) (dentry_dir c) x

  pub all-opens-put_in : x.opens + cond (is_some (open_inode c)) 1 0 ≤ most → (put_in rank c x).opens ≡ x.opens + cond (is_some (open_inode c)) 1 0
  all-opens-put_in fits = sum-session_in (λ (x : Index). x.opens) (λ x n. refl) (is_session c) (with_open rank x c)
      ∙ all-opens-in (open_inode c) (with_place rank x c) (subst (λ n. n + cond (is_some (open_inode c)) 1 0 ≤ most) (sym all_opens_before) fits)
      ∙ ap (λ n. n + cond (is_some (open_inode c)) 1 0) all_opens_before

  all_sessions_before : (with_open rank x c).sessions ≡ x.sessions
  all_sessions_before = sum-open_in (λ (x : Index). x.sessions) (λ x m n. refl) (open_inode c) (with_place rank x c)
      ∙ sum-record_in (λ (x : Index). x.sessions) (λ x m. refl) c.0 (full_said (held_in rank x) c) (with_dentry rank x c)
      ∙ sum-dentry_in (λ (x : Index). x.sessions) (λ x m n. refl) (dentry_dir c) x

  pub all-sessions-put_in : x.sessions + cond (is_session c) 1 0 ≤ most → (put_in rank c x).sessions ≡ x.sessions + cond (is_session c) 1 0
  all-sessions-put_in fits = all-sessions-in (is_session c) (with_open rank x c) (subst (λ n. n + cond (is_session c) 1 0 ≤ most) (sym all_sessions_before) fits)
      ∙ ap (λ n. n + cond (is_session c) 1 0) all_sessions_before
