-- Each change that is decided on can be.
use Rattle.std.proofs.Common.{◌≡◌, ℕ, ◌==◌, ◌||◌, ◌&&◌, not, nat_lt, Bool, true, false, List, Option, Some, None, Ok, Err, is_some, nat_le, if◌then◌else◌, refl}
use Rattle.mj_base.specs.Reading.{◌>>=◌}
use Rattle.mj_maps.specs.Map.{get, len}
use Rattle.mj_tree.specs.declared.change.Attributes.{Attributes}
use Rattle.mj_tree.specs.declared.change.Settings.{Settings}
use Rattle.mj_tree.specs.declared.change.Decision.{Decision}
use Rattle.mj_tree.specs.declared.change.Decision.TheVariants.{SessionBegins, SessionEnds}
use Rattle.mj_tree.specs.declared.request.ClientRequest.{ClientRequest}
use Rattle.mj_tree.specs.declared.request.Op.{Op}
use Rattle.mj_tree.specs.declared.request.Op.TheVariants.{SessionOpen, SessionClose, Mkdir, Create, Symlink, Link, Unlink, Rmdir, Rename, SetAttr, OpenFile, Release, Lookup, Readdir, Readlink}
use Rattle.mj_tree.specs.declared.request.Reply.{Reply}
use Rattle.mj_tree.specs.State.{PlainState, Session, is_dir, is_file, is_symlink, link_count, entry_count, opens_of}
use Rattle.mj_tree.specs.Walk.{Answer, Path, refuse, ◌>>◌, found, is_root, walk, place, begins}
use Rattle.mj_tree.specs.Row.{Effect, is_full, has_all_inodes, most_inodes, most_links, at_new, make, link, unlink, rmdir, rename_over, rename, set_attr, is_open, most_opens, open_file, release, effect, lookup, readdir, readlink}
use Rattle.mj_tree.specs.Answer.{looked, by_effect, most_kept, still_kept, changing, closing, in_session, is_session_open, most_sessions, opening, by_session, by_kept, kept_reply, refused, decision}
use Rattle.mj_tree.specs.Possible.{CanBe, CanBeDecided}

abbrev FineIn : PlainState → Effect → Type 0
FineIn s (Ok x) = CanBe s x.1
FineIn s (Err code) = Unit {0}

-- an effect whose change can be
record Fine (s : PlainState) (e : Effect) : Type 0 where
  it : FineIn s e

module _ (s : PlainState) where
  bind_fine : {A : Type 0} (r : Answer A) (f : A → Effect) → ((x : A) → r ≡ Ok x → Fine s (f x)) → Fine s (r >>= f)
  bind_fine (Ok x) f h = h x refl
  bind_fine (Err code) f h = record { it = tt }

  seq_fine : (r : Answer (Unit {0})) (e : Effect) → (r ≡ Ok tt → Fine s e) → Fine s (r >> e)
  seq_fine (Ok x) e h = h refl
  seq_fine (Err code) e h = record { it = tt }

  refuse_fine : (b : Bool) (code : ℕ) (e : Effect) → (b ≡ false → Fine s e) → Fine s (refuse b code >> e)
  refuse_fine true code e h = record { it = tt }
  refuse_fine false code e h = h refl

  if_fine : (b : Bool) (x y : Effect) → Fine s x → (b ≡ false → Fine s y) → Fine s (if b then x else y)
  if_fine true x y h k = h
  if_fine false x y h k = k refl

free : (o : Option ℕ) (b : Bool) → ◌≡◌ {A = Answer (Unit {0})} (refuse (is_some o) 17 >> refuse b 28) (Ok tt) → o ≡ None
free None b e = refl
free (Some x) b e = cc

at_new_free : (s : PlainState) (q : ℕ × List ℕ) → at_new s q ≡ Ok tt → get s.links q ≡ None
unfolding at_new
at_new_free s q e = free (get s.links q) (is_full s q.0) e

found_is : (o : Option ℕ) (i : ℕ) → found o ≡ Ok i → o ≡ Some i
found_is None i e = cc
found_is (Some x) i e = cc

or_right : (a b : Bool) → (a || b) ≡ false → b ≡ false
or_right true b e = cc
or_right false b e = e

make_fine : (s : PlainState) (path : Path) (a : Attributes) → Fine s (make s path a)
unfolding make
make_fine s path a = bind_fine s (place s path 17) _ (λ q _. seq_fine s (at_new s q) _ (λ e. refuse_fine s (has_all_inodes s) 28 _ (λ h. record { it = (at_new_free s q e, or_right (nat_le most_inodes (len s.records)) _ h) })))

link_fine : (s : PlainState) (from to : Path) → Fine s (link s from to)
unfolding link
link_fine s from to = bind_fine s (walk s from) _ (λ i _. refuse_fine s (is_dir s i) 21 _ (λ _. bind_fine s (place s to 17) _ (λ q _. seq_fine s (at_new s q) _ (λ e. refuse_fine s (nat_le most_links (link_count s i)) 31 _ (λ _. record { it = at_new_free s q e })))))

unlink_fine : (s : PlainState) (path : Path) → Fine s (unlink s path)
unfolding unlink
unlink_fine s path = bind_fine s (place s path 21) _ (λ q _. bind_fine s (found (get s.links q)) _ (λ i e. refuse_fine s (is_dir s i) 21 _ (λ _. record { it = found_is (get s.links q) i e })))

rmdir_fine : (s : PlainState) (path : Path) → Fine s (rmdir s path)
unfolding rmdir
rmdir_fine s path = bind_fine s (place s path 22) _ (λ q _. bind_fine s (found (get s.links q)) _ (λ i e. refuse_fine s (not (is_dir s i)) 20 _ (λ _. refuse_fine s (nat_lt 0 (entry_count s i)) 39 _ (λ _. record { it = found_is (get s.links q) i e }))))

rename_over_fine : (s : PlainState) (q : ℕ × List ℕ) (i : ℕ) (r : ℕ × List ℕ) (o : Option ℕ) → get s.links q ≡ Some i → get s.links r ≡ o → Fine s (rename_over s q i r o)
unfolding rename_over
rename_over_fine s q i r None e f = refuse_fine s (not (q.0 == r.0) && is_full s r.0) 28 _ (λ _. record { it = (e, f) })
rename_over_fine s q i r (Some j) e f = if_fine s (i == j) _ _ (record { it = tt }) (λ ne. refuse_fine s (is_dir s j && not (is_dir s i)) 21 _ (λ _.
    refuse_fine s (is_dir s i && not (is_dir s j)) 20 _ (λ _. refuse_fine s (nat_lt 0 (entry_count s j)) 39 _ (λ _. record { it = (e, f, ne) }))))

rename_fine : (s : PlainState) (from to : Path) → Fine s (rename s from to)
unfolding rename
rename_fine s from to = refuse_fine s (is_root from || is_root to) 22 _ (λ _. bind_fine s (place s from 22) _ (λ q _. bind_fine s (found (get s.links q)) _ (λ i e.
    refuse_fine s (is_dir s i && begins from to) 22 _ (λ _. bind_fine s (place s to 22) _ (λ r _. rename_over_fine s q i r (get s.links r) (found_is (get s.links q) i e) refl)))))

set_attr_fine : (s : PlainState) (path : Path) (x : Settings) → Fine s (set_attr s path x)
unfolding set_attr
set_attr_fine s path x = refuse_fine s (is_root path) 22 _ (λ _. bind_fine s (walk s path) _ (λ i _. refuse_fine s (not (x.size == 0) && not (is_file s i)) 22 _ (λ _. record { it = tt })))

open_fine : (s : PlainState) (client : ℕ) (path : Path) → Fine s (open_file s client path)
unfolding open_file
open_fine s client path = bind_fine s (walk s path) _ (λ i _. refuse_fine s (is_dir s i) 21 _ (λ _. refuse_fine s (is_symlink s i) 22 _ (λ _. refuse_fine s (not (is_open s client i) && nat_le most_opens (len s.opens)) 28 _ (λ _. record { it = tt }))))

release_fine : (s : PlainState) (client i : ℕ) → Fine s (release s client i)
unfolding release
release_fine s client i = refuse_fine s (not (is_open s client i)) 2 _ (λ _. record { it = tt })

effect_fine : (s : PlainState) (r : ClientRequest) (op : Op) → Fine s (effect s r op)
unfolding effect
effect_fine s r SessionOpen = record { it = tt }
effect_fine s r SessionClose = record { it = tt }
effect_fine s r (Mkdir path mode) = make_fine s path _
effect_fine s r (Create path mode) = make_fine s path _
effect_fine s r (Symlink path target) = make_fine s path _
effect_fine s r (Link from to) = link_fine s from to
effect_fine s r (Unlink path) = unlink_fine s path
effect_fine s r (Rmdir path) = rmdir_fine s path
effect_fine s r (Rename from to) = rename_fine s from to
effect_fine s r (SetAttr path mode uid gid size mtime) = set_attr_fine s path _
effect_fine s r (OpenFile path) = open_fine s r.client path
effect_fine s r (Release i) = release_fine s r.client i
effect_fine s r (Lookup path) = record { it = tt }
effect_fine s r (Readdir path) = record { it = tt }
effect_fine s r (Readlink path) = record { it = tt }

by_effect_fine : (s : PlainState) (e : Effect) → Fine s e → CanBeDecided s (by_effect e)
by_effect_fine s (Ok x) h = h.it
by_effect_fine s (Err code) h = tt

looked_fine : (s : PlainState) (a : Answer Reply) → CanBeDecided s (looked a)
looked_fine s (Ok x) = tt
looked_fine s (Err code) = tt

choice_fine : (s : PlainState) (b : Bool) (x y : Decision) → CanBeDecided s x → CanBeDecided s y → CanBeDecided s (if b then x else y)
choice_fine s true x y h k = h
choice_fine s false x y h k = k

changing_fine : (s : PlainState) (r : ClientRequest) (c : Session) → CanBeDecided s (changing s r c)
unfolding changing
changing_fine s r c = choice_fine s (nat_le most_kept (still_kept r c)) (refused 28) (by_effect (effect s r r.op)) tt (by_effect_fine s (effect s r r.op) (effect_fine s r r.op))

closing_fine : (s : PlainState) (client : ℕ) → CanBeDecided s (closing s client)
unfolding closing
closing_fine s client = choice_fine s (nat_lt 0 (opens_of s client)) (refused 22) SessionEnds tt tt

in_session_fine : (s : PlainState) (r : ClientRequest) (c : Session) (op : Op) → CanBeDecided s (in_session s r c op)
unfolding in_session
in_session_fine s r c (Lookup path) = looked_fine s (lookup s path)
in_session_fine s r c (Readdir path) = looked_fine s (readdir s path)
in_session_fine s r c (Readlink path) = looked_fine s (readlink s path)
in_session_fine s r c SessionClose = closing_fine s r.client
in_session_fine s r c _ = changing_fine s r c

opening_fine : (s : PlainState) (c : Option Session) → CanBeDecided s (opening s c)
unfolding opening
opening_fine s (Some c) = tt
opening_fine s None = choice_fine s (nat_le most_sessions (len s.sessions)) (refused 28) SessionBegins tt tt

by_session_fine : (s : PlainState) (r : ClientRequest) (c : Option Session) → CanBeDecided s (by_session s r c)
unfolding by_session
by_session_fine s r None = tt
by_session_fine s r (Some c) = choice_fine s (nat_lt r.tid c.oldest) (refused 116) (in_session s r c r.op) tt (in_session_fine s r c r.op)

by_kept_fine : (s : PlainState) (r : ClientRequest) (o : Option ℕ) → CanBeDecided s (by_kept s r o)
by_kept_fine s r (Some i) = tt
by_kept_fine s r None = choice_fine s (is_session_open r.op) (opening s (get s.sessions r.client)) (by_session s r (get s.sessions r.client)) (opening_fine s (get s.sessions r.client)) (by_session_fine s r (get s.sessions r.client))

pub decided : (s : PlainState) (r : ClientRequest) → CanBeDecided s (decision s r)
unfolding decision
decided s r = choice_fine s (nat_lt r.tid r.oldest) (refused 22) (by_kept s r (kept_reply s r.client r.tid)) tt (by_kept_fine s r (kept_reply s r.client r.tid))
