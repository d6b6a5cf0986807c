-- What a request finds where it is decided to change the tree.
use Rattle.std.proofs.Common.{◌≡◌, ℕ, ◌<◌, ◌≤◌, ◌^◌, ◌-◌, ◌==◌, ◌||◌, ◌&&◌, not, nat_lt, Bool, true, false, List, [], ◌∷◌, Option, Some, None, Ok, Err, is_some, nat_le, if◌then◌else◌, refl, sym, ap, subst, ◌∙◌, ◌⊎◌, inl, inr, arith}
use Rattle.std.specs.Prelude.{IsTrue}
use Rattle.std.specs.List.{list_all}
use Rattle.std.proofs.lemmas.Bool.{false≢true, and_parts, ltb-false, leb-false, eqb-false, leb-true}
use Rattle.mj_base.specs.Name.{is_name}
use Rattle.mj_base.specs.Reading.{◌>>=◌}
use Rattle.mj_base.specs.Record.{IsRecord, target_fits}
use Rattle.mj_base.specs.declared.record.Kind.TheVariants as kind
use Rattle.mj_maps.specs.Map.{get, len}
use Rattle.mj_tree.specs.declared.change.Attributes.{Attributes}
use Rattle.mj_tree.specs.declared.change.Settings.{Settings}
use Rattle.mj_tree.specs.declared.change.Change.{Change}
use Rattle.mj_tree.specs.declared.change.Change.TheVariants.{Begin, Nothing, Hold, Set}
use Rattle.mj_tree.specs.declared.change.Change.TheVariants as change
use Rattle.mj_tree.specs.declared.change.Decision.{Decision}
use Rattle.mj_tree.specs.declared.change.Decision.TheVariants.{Answered, SessionBegins, SessionEnds, Accepted}
use Rattle.mj_tree.specs.declared.request.ClientRequest.{ClientRequest}
use Rattle.mj_tree.specs.declared.request.Op.{Op}
use Rattle.mj_tree.specs.declared.request.Op.TheVariants.{SessionOpen, SessionClose, Mkdir, Create, Symlink, Link, Unlink, Rmdir, Rename, SetAttr, OpenFile, Release, Lookup, Readdir, Readlink}
use Rattle.mj_tree.specs.declared.request.Reply.{Reply}
use Rattle.mj_tree.specs.State.{PlainState, Session, root, is_dir, is_file, is_symlink, link_count, entry_count, opens_of, record_of}
use Rattle.mj_tree.specs.Walk.{Answer, Path, refuse, ◌>>◌, found, is_root, step, walk, walk_from, place, parent_from, last_name, begins}
use Rattle.mj_tree.specs.Row.{Effect, is_full, has_all_inodes, most_inodes, most_entries, most_links, at_new, new_attributes, make, link, unlink, rmdir, rename_over, rename, set_attr, is_open, most_opens, open_file, release, effect, lookup, readdir, readlink}
use Rattle.mj_tree.specs.Answer.{looked, by_effect, most_kept, still_kept, changing, closing, in_session, is_session_open, most_sessions, opening, by_session, by_kept, kept_reply, refused, decision}
use Rattle.mj_tree.specs.Request.{op_fits}
use Rattle.mj_delta.specs.Fits.{are_names, OpFits, IsSent}
use Rattle.mj_delta.proofs.NewEntry.{CanBegin}

-- ---- by session and kept replies

pub record CanOpen (s : PlainState) (r : ClientRequest) : Type 0 where
  pub op : r.op ≡ SessionOpen
  pub none : get s.sessions r.client ≡ None
  pub room : len s.sessions < most_sessions
  pub own : r.oldest ≤ r.tid

pub record InSession (s : PlainState) (r : ClientRequest) : Type 0 where
  pub session : Session
  pub there : get s.sessions r.client ≡ Some session
  pub above : session.oldest ≤ r.tid
  pub own : r.oldest ≤ r.tid

pub record CanClose (s : PlainState) (r : ClientRequest) : Type 0 where
  pub op : r.op ≡ SessionClose
  pub inside : InSession s r
  pub no_opens : opens_of s r.client ≡ 0

pub record CanChange (s : PlainState) (r : ClientRequest) (i : ℕ) (change : Change) : Type 0 where
  pub inside : InSession s r
  pub fresh : kept_reply s r.client r.tid ≡ None
  pub room : still_kept r inside.session < most_kept
  pub done : effect s r r.op ≡ Ok (i, change)

abbrev pub Meant : PlainState → ClientRequest → Decision → Type 0
Meant s r (Answered x) = Unit {0}
Meant s r SessionBegins = CanOpen s r
Meant s r SessionEnds = CanClose s r
Meant s r (Accepted i change) = CanChange s r i change

-- a decision that is meant so
record Means (s : PlainState) (r : ClientRequest) (d : Decision) : Type 0 where
  it : Meant s r d

module _ (s : PlainState) (r : ClientRequest) where
  choice : (b : Bool) (x y : Decision) → (b ≡ true → Means s r x) → (b ≡ false → Means s r y) → Means s r (if b then x else y)
  choice true x y h k = h refl
  choice false x y h k = k refl

  answered : (x : Reply) → Means s r (Answered x)
  answered x = record { it = tt }

  looked_means : (a : Answer Reply) → Means s r (looked a)
  looked_means (Ok x) = record { it = tt }
  looked_means (Err code) = record { it = tt }

  module _ (fresh : kept_reply s r.client r.tid ≡ None) (inside : InSession s r) where
    effect_means : (e : Effect) → effect s r r.op ≡ e → still_kept r inside.session < most_kept → Means s r (by_effect e)
    effect_means (Ok x) is room = record { it = record { inside = inside; fresh = fresh; room = room; done = is } }
    effect_means (Err code) is room = record { it = tt }

    changing_means : Means s r (changing s r inside.session)
    unfolding changing
    changing_means = choice (nat_le most_kept (still_kept r inside.session)) (refused 28) (by_effect (effect s r r.op)) (λ _. record { it = tt }) (λ e. effect_means (effect s r r.op) refl (leb-false _ _ e))

    closing_means : r.op ≡ SessionClose → Means s r (closing s r.client)
    unfolding closing
    closing_means op = choice (nat_lt 0 (opens_of s r.client)) (refused 22) SessionEnds (λ _. record { it = tt }) (λ e. record { it = record { op = op; inside = inside; no_opens = let le = ltb-false 0 (opens_of s r.client) e in omega (arith, le) } })

    in_session_means : (op : Op) → r.op ≡ op → Means s r (in_session s r inside.session op)
    unfolding in_session
    in_session_means (Lookup path) e = looked_means (lookup s path)
    in_session_means (Readdir path) e = looked_means (readdir s path)
    in_session_means (Readlink path) e = looked_means (readlink s path)
    in_session_means SessionClose e = closing_means e
    in_session_means _ e = changing_means

  module _ (own : r.oldest ≤ r.tid) where
    opening_means : r.op ≡ SessionOpen → (o : Option Session) → get s.sessions r.client ≡ o → Means s r (opening s o)
    unfolding opening
    opening_means op (Some c) e = record { it = tt }
    opening_means op None e = choice (nat_le most_sessions (len s.sessions)) (refused 28) SessionBegins (λ _. record { it = tt }) (λ f. record { it = record { op = op; none = e; room = leb-false _ _ f; own = own } })

    by_session_means : kept_reply s r.client r.tid ≡ None → (o : Option Session) → get s.sessions r.client ≡ o → Means s r (by_session s r o)
    unfolding by_session
    by_session_means fresh None e = record { it = tt }
    by_session_means fresh (Some c) e = choice (nat_lt r.tid c.oldest) (refused 116) (in_session s r c r.op) (λ _. record { it = tt }) (λ f. in_session_means fresh (record { session = c; there = e; above = ltb-false _ _ f; own = own }) r.op refl)

    is_open_op : (op : Op) → is_session_open op ≡ true → op ≡ SessionOpen
    is_open_op SessionOpen e = refl
    is_open_op _ e = absurd (false≢true e)

    by_kept_means : (o : Option ℕ) → kept_reply s r.client r.tid ≡ o → Means s r (by_kept s r o)
    by_kept_means (Some i) e = record { it = tt }
    by_kept_means None e = choice (is_session_open r.op) (opening s (get s.sessions r.client)) (by_session s r (get s.sessions r.client)) (λ f. opening_means (is_open_op r.op f) (get s.sessions r.client) refl) (λ _. by_session_means e (get s.sessions r.client) refl)

  decision_means : Means s r (decision s r)
  unfolding decision
  decision_means = choice (nat_lt r.tid r.oldest) (refused 22) (by_kept s r (kept_reply s r.client r.tid)) (λ _. record { it = tt }) (λ e. by_kept_means (ltb-false _ _ e) (kept_reply s r.client r.tid) refl)

  pub meant : (d : Decision) → decision s r ≡ d → Meant s r d
  meant d e = subst (Meant s r) e decision_means.it

-- ---- places

bind_ok : {A B : Type 0} (x : Answer A) (f : A → Answer B) (y : B) → (x >>= f) ≡ Ok y → (z : A) × (x ≡ Ok z) × (f z ≡ Ok y)
bind_ok (Ok x) f y e = (x, refl, e)
bind_ok (Err n) f y e = absurd cc

ok_same : {A : Type 0} (x y : A) → ◌≡◌ {A = Answer A} (Ok x) (Ok y) → x ≡ y
ok_same x y e = cc

dir_ok : (b : Bool) (i d : ℕ) → ◌≡◌ {A = Answer ℕ} (if b then Ok i else Err 20) (Ok d) → (b ≡ true) × (i ≡ d)
dir_ok true i d e = (refl, ok_same i d e)
dir_ok false i d e = absurd cc

-- a parent that is found is a directory
parent_dir : (s : PlainState) (i : ℕ) (name : List ℕ) (path : Path) (d : ℕ) → parent_from s i (name ∷ path) ≡ Ok d → is_dir s d ≡ true
parent_dir s i name [] d e = let w = dir_ok (is_dir s i) i d e in subst (λ d. is_dir s d ≡ true) w.1 w.0
parent_dir s i name (next ∷ path) d e = let w = bind_ok (step s i name) (λ j. parent_from s j (next ∷ path)) d e in parent_dir s w.0 next path d w.2

last_is_name : (name : List ℕ) (path : Path) → list_all is_name (name ∷ path) ≡ true → is_name (last_name (name ∷ path)) ≡ true
last_is_name name [] h = (and_parts _ _ h).0
last_is_name name (next ∷ path) h = last_is_name next path (and_parts _ _ h).1

pub place_found : (s : PlainState) (path : Path) (code : ℕ) (q : ℕ × List ℕ) → IsTrue (are_names path) → place s path code ≡ Ok q → (is_dir s q.0 ≡ true) × IsTrue (is_name q.1)
place_found s [] code q h e = absurd cc
place_found s (name ∷ names) code q h e =
    let w = bind_ok (parent_from s root (name ∷ names)) (λ dir. Ok (dir, last_name (name ∷ names))) q e in
    let same = ok_same (w.0, last_name (name ∷ names)) q w.2 in
    (subst (λ (q : ℕ × List ℕ). is_dir s q.0 ≡ true) same (parent_dir s root name names w.0 w.1), subst (λ (q : ℕ × List ℕ). IsTrue (is_name q.1)) same (last_is_name name names h))

-- ---- what a walk finds

pub record IsLinked (s : PlainState) (i : ℕ) : Type 0 where
  pub place : ℕ × List ℕ
  pub link : get s.links place ≡ Some i

found_is : (o : Option ℕ) (i : ℕ) → found o ≡ Ok i → o ≡ Some i
found_is None i e = absurd cc
found_is (Some x) i e = cc

step_linked : (s : PlainState) (d : ℕ) (name : List ℕ) (i : ℕ) → step s d name ≡ Ok i → IsLinked s i
step_linked s d name i = elim (is_dir s d) as (λ b. ◌≡◌ {A = Answer ℕ} (if b then found (get s.links (d, name)) else Err 20) (Ok i) → IsLinked s i) [
  | true ↦ λ e. record { place = (d, name); link = found_is (get s.links (d, name)) i e }
  | false ↦ λ e. absurd cc
]

walk_linked : (s : PlainState) (d : ℕ) (path : Path) (i : ℕ) → walk_from s d path ≡ Ok i → (i ≡ d) ⊎ IsLinked s i
walk_linked s d [] i e = inl (sym (ok_same d i e))
walk_linked s d (name ∷ names) i e =
    let w = bind_ok (step s d name) (λ j. walk_from s j names) i e in
    elim (walk_linked s w.0 names i w.2) [
      | inl same ↦ inr (step_linked s d name i (w.1 ∙ ap Ok (sym same)))
      | inr linked ↦ inr linked
    ]

-- what is walked to and is no directory has a link
no_root : (s : PlainState) (path : Path) (i : ℕ) → walk s path ≡ Ok i → is_dir s i ≡ false → IsLinked s i
no_root s path i e h = elim (walk_linked s root path i e) [
  | inl same ↦ absurd (false≢true (sym h ∙ ap (is_dir s) same))
  | inr linked ↦ linked
]

walk_named : (s : PlainState) (path : Path) (i : ℕ) → is_root path ≡ false → walk s path ≡ Ok i → IsLinked s i
walk_named s [] i h e = absurd (false≢true (sym h))
walk_named s (name ∷ names) i h e =
    let w = bind_ok (step s root name) (λ j. walk_from s j names) i e in
    elim (walk_linked s w.0 names i w.2) [
      | inl same ↦ step_linked s root name i (w.1 ∙ ap Ok (sym same))
      | inr linked ↦ linked
    ]

-- ---- effects

-- a file is opened that is open already, or while there is room
pub record CanHold (s : PlainState) (client i : ℕ) : Type 0 where
  pub linked : IsLinked s i
  pub no_dir : is_dir s i ≡ false
  pub no_symlink : is_symlink s i ≡ false
  pub room : is_open s client i ≡ false → len s.opens < most_opens

-- attributes that a record can say are set of what has a link
pub record CanSet (s : PlainState) (i : ℕ) (x : Settings) : Type 0 where
  pub linked : IsLinked s i
  pub mode : x.mode ≤ 0o7777
  pub uid : x.uid < 2 ^ 32
  pub gid : x.gid < 2 ^ 32
  pub size : x.size < 2 ^ 64
  pub mtime : x.mtime < 2 ^ 64

-- a second name stands where none is
pub record CanLink (s : PlainState) (q : ℕ × List ℕ) (i : ℕ) : Type 0 where
  pub parent : is_dir s q.0 ≡ true
  pub free : get s.links q ≡ None
  pub entries : entry_count s q.0 < most_entries
  pub name : IsTrue (is_name q.1)
  pub linked : IsLinked s i
  pub no_dir : is_dir s i ≡ false
  pub links : link_count s i < most_links

-- a link ends, and it is no directory's, or that of an empty one
pub record CanUnlink (s : PlainState) (q : ℕ × List ℕ) (i : ℕ) : Type 0 where
  pub link : get s.links q ≡ Some i
  pub empty : (is_dir s i ≡ false) ⊎ (entry_count s i ≡ 0)

-- the places of two paths of which the first is no beginning of the second
pub record AreAway (s : PlainState) (q r : ℕ × List ℕ) : Type 0 where
  pub from : Path
  pub to : Path
  pub from_is : place s from 22 ≡ Ok q
  pub to_is : place s to 22 ≡ Ok r
  pub apart : begins from to ≡ false

-- a name moves to a place where none is, and no directory to one below it
pub record CanMove (s : PlainState) (q r : ℕ × List ℕ) (i : ℕ) : Type 0 where
  pub link : get s.links q ≡ Some i
  pub free : get s.links r ≡ None
  pub parent : is_dir s r.0 ≡ true
  pub name : IsTrue (is_name r.1)
  pub room : (q.0 == r.0) ≡ false → entry_count s r.0 < most_entries
  pub away : (is_dir s i ≡ false) ⊎ AreAway s q r

-- a name moves to where another inode's is, which has no entries
pub record CanReplace (s : PlainState) (q r : ℕ × List ℕ) (i j : ℕ) : Type 0 where
  pub link : get s.links q ≡ Some i
  pub target : get s.links r ≡ Some j
  pub other : i ≡ j → ⊥
  pub empty : entry_count s j ≡ 0
  pub away : (is_dir s i ≡ false) ⊎ AreAway s q r

abbrev pub Found : PlainState → ClientRequest → Effect → Type 0
Found s r (Ok (i, Begin q a)) = (i ≡ s.next) × CanBegin s q a
Found s r (Ok (i, Nothing)) = IsLinked s i
Found s r (Ok (i, Hold client j)) = (j ≡ i) × (client ≡ r.client) × CanHold s client j
Found s r (Ok (i, Set j x)) = (j ≡ i) × CanSet s j x
Found s r (Ok (i, change.Link q j)) = (j ≡ i) × CanLink s q j
Found s r (Ok (i, change.Release client j)) = (j ≡ i) × (client ≡ r.client) × (is_open s client j ≡ true)
Found s r (Ok (i, change.Unlink q j)) = (j ≡ i) × CanUnlink s q j
Found s r (Ok (i, change.Move q p j)) = (j ≡ i) × CanMove s q p j
Found s r (Ok (i, change.Replace q p j k)) = (j ≡ i) × CanReplace s q p j k
Found s r (Err code) = Unit {0}

record Finds (s : PlainState) (r : ClientRequest) (e : Effect) : Type 0 where
  it : Found s r e

module _ (s : PlainState) (r : ClientRequest) where
  bind_finds : {A : Type 0} (x : Answer A) (f : A → Effect) → ((y : A) → x ≡ Ok y → Finds s r (f y)) → Finds s r (x >>= f)
  bind_finds (Ok x) f h = h x refl
  bind_finds (Err code) f h = record { it = tt }

  seq_finds : (x : Answer (Unit {0})) (e : Effect) → (x ≡ Ok tt → Finds s r e) → Finds s r (x >> e)
  seq_finds (Ok x) e h = h refl
  seq_finds (Err code) e h = record { it = tt }

  refuse_finds : (b : Bool) (code : ℕ) (e : Effect) → (b ≡ false → Finds s r e) → Finds s r (refuse b code >> e)
  refuse_finds true code e h = record { it = tt }
  refuse_finds false code e h = h refl

  if_finds : (b : Bool) (x y : Effect) → Finds s r x → (b ≡ false → Finds s r y) → Finds s r (if b then x else y)
  if_finds true x y h k = h
  if_finds false x y h k = k refl

  free : (o : Option ℕ) (b : Bool) → ◌≡◌ {A = Answer (Unit {0})} (refuse (is_some o) 17 >> refuse b 28) (Ok tt) → (o ≡ None) × (b ≡ false)
  free None false e = (refl, refl)
  free None true e = absurd cc
  free (Some x) b e = absurd cc

  at_new_free : (q : ℕ × List ℕ) → at_new s q ≡ Ok tt → (get s.links q ≡ None) × (is_full s q.0 ≡ false)
  unfolding at_new
  at_new_free q e = free (get s.links q) (is_full s q.0) e

  or_none : (a b : Bool) → (a || b) ≡ false → (a ≡ false) × (b ≡ false)
  or_none true b e = absurd (false≢true (sym e))
  or_none false b e = (refl, e)

  make_finds : (path : Path) (a : Attributes) → IsTrue (are_names path) → s.next < 2 ^ 64 → IsRecord (record_of s.next 1 a) → Finds s r (make s path a)
  unfolding make
  make_finds path a is fits said = bind_finds (place s path 17) _ (λ q e. seq_finds (at_new s q) _ (λ f. refuse_finds (has_all_inodes s) 28 _ (λ g.
      let p = place_found s path 17 q is e in
      let n = at_new_free q f in
      let room = or_none (nat_le most_inodes (len s.records)) (s.next == 2 ^ 64 - 1) g in
      let few : len s.records < most_inodes = leb-false _ _ room.0 in
      let not_last = eqb-false s.next (2 ^ 64 - 1) room.1 in
      let entries : entry_count s q.0 < most_entries = leb-false _ _ n.1 in
      record { it = (refl, record { parent = p.0; free = n.0; entries = entries; inodes = few; next = omega (arith, fits, not_last); name = p.1; said = said }) })))

  link_finds : (from to : Path) → IsTrue (are_names to) → Finds s r (link s from to)
  unfolding link
  link_finds from to is = bind_finds (walk s from) _ (λ i w. refuse_finds (is_dir s i) 21 _ (λ h. bind_finds (place s to 17) _ (λ q e. seq_finds (at_new s q) _ (λ f. refuse_finds (nat_le most_links (link_count s i)) 31 _ (λ g.
      let p = place_found s to 17 q is e in
      let n = at_new_free q f in
      let entries : entry_count s q.0 < most_entries = leb-false _ _ n.1 in
      record { it = (refl, record { parent = p.0; free = n.0; entries = entries; name = p.1; linked = no_root s from i w h; no_dir = h; links = leb-false _ _ g }) })))))

  unlink_finds : (path : Path) → Finds s r (unlink s path)
  unfolding unlink
  unlink_finds path = bind_finds (place s path 21) _ (λ q _. bind_finds (found (get s.links q)) _ (λ i e. refuse_finds (is_dir s i) 21 _ (λ h.
      record { it = (refl, record { link = found_is (get s.links q) i e; empty = inl h }) })))

  none_in : (n : ℕ) → nat_lt 0 n ≡ false → n ≡ 0
  none_in n e = let le = ltb-false 0 n e in omega (arith, le)

  rmdir_finds : (path : Path) → Finds s r (rmdir s path)
  unfolding rmdir
  rmdir_finds path = bind_finds (place s path 22) _ (λ q _. bind_finds (found (get s.links q)) _ (λ i e. refuse_finds (not (is_dir s i)) 20 _ (λ _. refuse_finds (nat_lt 0 (entry_count s i)) 39 _ (λ h.
      record { it = (refl, record { link = found_is (get s.links q) i e; empty = inr (none_in (entry_count s i) h) }) }))))

  and_none : (a b : Bool) → (not a && b) ≡ false → a ≡ false → b ≡ false
  and_none true b e h = absurd (false≢true (sym h))
  and_none false b e h = e

  rename_over_finds : (q : ℕ × List ℕ) (i : ℕ) (p : ℕ × List ℕ) (o : Option ℕ) → get s.links q ≡ Some i → get s.links p ≡ o → is_dir s p.0 ≡ true → IsTrue (is_name p.1) → (is_dir s i ≡ false) ⊎ AreAway s q p → Finds s r (rename_over s q i p o)
  unfolding rename_over
  rename_over_finds q i p None l e parent name away = refuse_finds (not (q.0 == p.0) && is_full s p.0) 28 _ (λ g.
      let room : (q.0 == p.0) ≡ false → entry_count s p.0 < most_entries = λ f. leb-false _ _ (and_none (q.0 == p.0) (is_full s p.0) g f) in
      record { it = (refl, record { link = l; free = e; parent = parent; name = name; room = room; away = away }) })
  rename_over_finds q i p (Some j) l e parent name away = if_finds (i == j) _ _ (record { it = record { place = q; link = l } }) (λ f. refuse_finds (is_dir s j && not (is_dir s i)) 21 _ (λ _.
      refuse_finds (is_dir s i && not (is_dir s j)) 20 _ (λ _. refuse_finds (nat_lt 0 (entry_count s j)) 39 _ (λ g.
      record { it = (refl, record { link = l; target = e; other = eqb-false i j f; empty = none_in (entry_count s j) g; away = away }) }))))

  dir_or_away : (b c : Bool) → (b && c) ≡ false → (b ≡ false) ⊎ (c ≡ false)
  dir_or_away true c e = inr e
  dir_or_away false c e = inl refl

  rename_finds : (from to : Path) → IsTrue (are_names to) → Finds s r (rename s from to)
  unfolding rename
  rename_finds from to is = refuse_finds (is_root from || is_root to) 22 _ (λ _. bind_finds (place s from 22) _ (λ q f. bind_finds (found (get s.links q)) _ (λ i e.
      refuse_finds (is_dir s i && begins from to) 22 _ (λ g. bind_finds (place s to 22) _ (λ p h.
      let there = place_found s to 22 p is h in
      let away : (is_dir s i ≡ false) ⊎ AreAway s q p = elim (dir_or_away (is_dir s i) (begins from to) g) [ inl no_dir ↦ inl no_dir | inr apart ↦ inr (record { from = from; to = to; from_is = f; to_is = h; apart = apart }) ] in
      rename_over_finds q i p (get s.links p) (found_is (get s.links q) i e) refl there.0 there.1 away)))))

  set_attr_finds : (path : Path) (x : Settings) → x.mode ≤ 0o7777 → x.uid < 2 ^ 32 → x.gid < 2 ^ 32 → x.size < 2 ^ 64 → x.mtime < 2 ^ 64 → Finds s r (set_attr s path x)
  unfolding set_attr
  set_attr_finds path x mode uid gid size mtime = refuse_finds (is_root path) 22 _ (λ h. bind_finds (walk s path) _ (λ i w. refuse_finds (not (x.size == 0) && not (is_file s i)) 22 _ (λ _.
      record { it = (refl, record { linked = walk_named s path i h w; mode = mode; uid = uid; gid = gid; size = size; mtime = mtime }) })))

  open_finds : (path : Path) → Finds s r (open_file s r.client path)
  unfolding open_file
  open_finds path = bind_finds (walk s path) _ (λ i w. refuse_finds (is_dir s i) 21 _ (λ h. refuse_finds (is_symlink s i) 22 _ (λ k. refuse_finds (not (is_open s r.client i) && nat_le most_opens (len s.opens)) 28 _ (λ g.
      let room : is_open s r.client i ≡ false → len s.opens < most_opens = λ f. leb-false _ _ (and_none (is_open s r.client i) (nat_le most_opens (len s.opens)) g f) in
      record { it = (refl, refl, record { linked = no_root s path i w h; no_dir = h; no_symlink = k; room = room }) }))))

  not_false : (b : Bool) → not b ≡ false → b ≡ true
  not_false true e = refl
  not_false false e = absurd (false≢true (sym e))

  release_finds : (i : ℕ) → Finds s r (release s r.client i)
  unfolding release
  release_finds i = refuse_finds (not (is_open s r.client i)) 2 _ (λ h. record { it = (refl, refl, not_false (is_open s r.client i) h) })

  -- a new inode's record has a spelling
  plain_record : (a : Attributes) → s.next < 2 ^ 64 → a.mode ≤ 0o7777 → a.uid ≡ 0 → a.gid ≡ 0 → a.size ≡ 0 → a.mtime < 2 ^ 64 → IsTrue (target_fits a.kind a.target) → IsRecord (record_of s.next 1 a)
  plain_record a next mode uid gid size mtime target = record { ino = next; mode = mode; uid = omega (arith, uid); gid = omega (arith, gid); size = omega (arith, size); mtime = mtime; links = omega arith; target = target }

  effect_finds : (op : Op) → IsTrue (op_fits op) → OpFits op → r.now < 2 ^ 64 → s.next < 2 ^ 64 → Finds s r (effect s r op)
  unfolding effect
  effect_finds SessionOpen f g now next = record { it = tt }
  effect_finds SessionClose f g now next = record { it = tt }
  effect_finds (Mkdir path mode) f g now next = make_finds path _ g next (plain_record (new_attributes kind.Dir mode r.now []) next (leb-true _ _ f) refl refl refl now refl)
  effect_finds (Create path mode) f g now next = make_finds path _ g next (plain_record (new_attributes kind.File mode r.now []) next (leb-true _ _ f) refl refl refl now refl)
  effect_finds (Symlink path target) f g now next = make_finds path _ g next (plain_record (new_attributes kind.Symlink 0o777 r.now target) next (omega arith) refl refl refl now f)
  effect_finds (Link from to) f g now next = link_finds from to g.1
  effect_finds (Unlink path) f g now next = unlink_finds path
  effect_finds (Rmdir path) f g now next = rmdir_finds path
  effect_finds (Rename from to) f g now next = rename_finds from to g.1
  effect_finds (SetAttr path mode uid gid size mtime) f g now next = set_attr_finds path _ (leb-true _ _ f) g.1 g.2 g.3 g.4
  effect_finds (OpenFile path) f g now next = open_finds path
  effect_finds (Release i) f g now next = release_finds i
  effect_finds (Lookup path) f g now next = record { it = tt }
  effect_finds (Readdir path) f g now next = record { it = tt }
  effect_finds (Readlink path) f g now next = record { it = tt }

  pub effect_found : IsSent r → s.next < 2 ^ 64 → (e : Effect) → effect s r r.op ≡ e → Found s r e
  effect_found sent next e is = subst (Found s r) is (effect_finds r.op sent.request sent.op sent.now next).it
