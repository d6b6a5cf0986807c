-- What an accepted request has asked of the tree.
use Rattle.std.proofs.Common.{◌≡◌, ℕ, ◌+◌, ◌-◌, ◌<◌, ◌^◌, Bool, true, false, Option, Some, None, Ok, Err, List, refl, sym, subst, arith}
use Rattle.std.specs.Prelude.{◌==◌, ◌&&◌, ◌||◌, not, nat_le, nat_lt, if◌then◌else◌}
use Rattle.std.proofs.lemmas.Bool.{false≢true, leb-false, eqb-false}
use Rattle.mj_base.specs.Reading.{◌>>=◌}
use Rattle.mj_maps.specs.Map.{get, len}
use Rattle.mj_tree.specs.declared.change.Attributes.{Attributes}
use Rattle.mj_tree.specs.declared.change.Settings.{Settings}
use Rattle.mj_tree.specs.declared.change.Change.{Change}
use Rattle.mj_tree.specs.declared.change.Change.TheVariants as change
use Rattle.mj_tree.specs.declared.change.Decision.TheVariants.{Accepted}
use Rattle.mj_tree.specs.declared.request.ClientRequest.{ClientRequest}
use Rattle.mj_tree.specs.declared.request.Op.{Op}
use Rattle.mj_tree.specs.declared.request.Op.TheVariants.{SessionOpen, SessionClose, Mkdir, Create, Symlink, Link, Unlink, Rmdir, Rename, SetAttr, OpenFile, Release, Lookup, Readdir, Readlink}
use Rattle.mj_tree.specs.State.{PlainState, is_dir, is_file, is_symlink, link_count, entry_count}
use Rattle.mj_tree.specs.Walk.{Answer, Path, refuse, ◌>>◌, found, is_root, walk, place, begins}
use Rattle.mj_tree.specs.Row.{Effect, is_full, has_all_inodes, most_inodes, most_links, at_new, make, link, unlink, rmdir, rename_over, rename, set_attr, is_open, most_opens, open_file, release, effect}
use Rattle.mj_tree.specs.Answer.{decision}
use Rattle.mj_delta.proofs.Decided.{meant}

-- a new inode is the next and not the last number, an inode that gets a link has room for it, and a link that goes is there
abbrev pub Allowed : PlainState → Effect → Type 0
Allowed s (Ok (i, change.Begin q a)) = (i ≡ s.next) × ((i == 2 ^ 64 - 1) ≡ false)
Allowed s (Ok (i, change.Link q j)) = link_count s i < most_links
Allowed s (Ok (i, change.Unlink q j)) = get s.links q ≡ Some i
Allowed s (Ok (i, change.Replace q p j k)) = get s.links p ≡ Some k
Allowed s (Ok (i, _)) = Unit {0}
Allowed s (Err code) = Unit {0}

record IsAllowed (s : PlainState) (e : Effect) : Type 0 where
  it : Allowed s e

found_is : (o : Option ℕ) (i : ℕ) → found o ≡ Ok i → o ≡ Some i
found_is None i e = absurd cc
found_is (Some x) i e = cc

module _ (s : PlainState) where
  bind_allowed : {A : Type 0} (x : Answer A) (f : A → Effect) → ((y : A) → x ≡ Ok y → IsAllowed s (f y)) → IsAllowed s (x >>= f)
  bind_allowed (Ok x) f h = h x refl
  bind_allowed (Err code) f h = record { it = tt }

  seq_allowed : (x : Answer (Unit {0})) (e : Effect) → IsAllowed s e → IsAllowed s (x >> e)
  seq_allowed (Ok x) e h = h
  seq_allowed (Err code) e h = record { it = tt }

  refuse_allowed : (b : Bool) (code : ℕ) (e : Effect) → (b ≡ false → IsAllowed s e) → IsAllowed s (refuse b code >> e)
  refuse_allowed true code e h = record { it = tt }
  refuse_allowed false code e h = h refl

  if_allowed : (b : Bool) (x y : Effect) → IsAllowed s x → IsAllowed s y → IsAllowed s (if b then x else y)
  if_allowed true x y h k = h
  if_allowed false x y h k = k

  or_none : (a b : Bool) → (a || b) ≡ false → b ≡ false
  or_none true b e = absurd (false≢true (sym e))
  or_none false b e = e

  make_allowed : (path : Path) (a : Attributes) → IsAllowed s (make s path a)
  unfolding make
  make_allowed path a = bind_allowed (place s path 17) _ (λ q _. seq_allowed (at_new s q) _ (refuse_allowed (has_all_inodes s) 28 _ (λ g.
      record { it = (refl, or_none (nat_le most_inodes (len s.records)) (s.next == 2 ^ 64 - 1) g) })))

  link_allowed : (from to : Path) → IsAllowed s (link s from to)
  unfolding link
  link_allowed from to = bind_allowed (walk s from) _ (λ i _. seq_allowed (refuse (is_dir s i) 21) _ (bind_allowed (place s to 17) _ (λ q _. seq_allowed (at_new s q) _
      (refuse_allowed (nat_le most_links (link_count s i)) 31 _ (λ g. record { it = leb-false _ _ g })))))

  unlink_allowed : (path : Path) → IsAllowed s (unlink s path)
  unfolding unlink
  unlink_allowed path = bind_allowed (place s path 21) _ (λ q _. bind_allowed (found (get s.links q)) _ (λ i e. seq_allowed (refuse (is_dir s i) 21) _ (record { it = found_is (get s.links q) i e })))

  rmdir_allowed : (path : Path) → IsAllowed s (rmdir s path)
  unfolding rmdir
  rmdir_allowed path = bind_allowed (place s path 22) _ (λ q _. bind_allowed (found (get s.links q)) _ (λ i e. seq_allowed (refuse (not (is_dir s i)) 20) _ (seq_allowed (refuse (nat_lt 0 (entry_count s i)) 39) _
      (record { it = found_is (get s.links q) i e }))))

  over_allowed : (q : ℕ × List ℕ) (i : ℕ) (p : ℕ × List ℕ) (o : Option ℕ) → get s.links p ≡ o → IsAllowed s (rename_over s q i p o)
  unfolding rename_over
  over_allowed q i p None e = seq_allowed (refuse (not (q.0 == p.0) && is_full s p.0) 28) _ (record { it = tt })
  over_allowed q i p (Some j) e = if_allowed (i == j) _ _ (record { it = tt }) (seq_allowed (refuse (is_dir s j && not (is_dir s i)) 21) _ (seq_allowed (refuse (is_dir s i && not (is_dir s j)) 20) _
      (seq_allowed (refuse (nat_lt 0 (entry_count s j)) 39) _ (record { it = e }))))

  rename_allowed : (from to : Path) → IsAllowed s (rename s from to)
  unfolding rename
  rename_allowed from to = seq_allowed (refuse (is_root from || is_root to) 22) _ (bind_allowed (place s from 22) _ (λ q _. bind_allowed (found (get s.links q)) _ (λ i _.
      seq_allowed (refuse (is_dir s i && begins from to) 22) _ (bind_allowed (place s to 22) _ (λ p _. over_allowed q i p (get s.links p) refl)))))

  set_allowed : (path : Path) (x : Settings) → IsAllowed s (set_attr s path x)
  unfolding set_attr
  set_allowed path x = seq_allowed (refuse (is_root path) 22) _ (bind_allowed (walk s path) _ (λ i _. seq_allowed (refuse (not (x.size == 0) && not (is_file s i)) 22) _ (record { it = tt })))

  open_allowed : (client : ℕ) (path : Path) → IsAllowed s (open_file s client path)
  unfolding open_file
  open_allowed client path = bind_allowed (walk s path) _ (λ i _. seq_allowed (refuse (is_dir s i) 21) _ (seq_allowed (refuse (is_symlink s i) 22) _ (seq_allowed (refuse (not (is_open s client i) && nat_le most_opens (len s.opens)) 28) _ (record { it = tt }))))

  release_allowed : (client i : ℕ) → IsAllowed s (release s client i)
  unfolding release
  release_allowed client i = seq_allowed (refuse (not (is_open s client i)) 2) _ (record { it = tt })

  effect_allowed : (r : ClientRequest) (op : Op) → IsAllowed s (effect s r op)
  unfolding effect
  effect_allowed r SessionOpen = record { it = tt }
  effect_allowed r SessionClose = record { it = tt }
  effect_allowed r (Mkdir path mode) = make_allowed path _
  effect_allowed r (Create path mode) = make_allowed path _
  effect_allowed r (Symlink path target) = make_allowed path _
  effect_allowed r (Link from to) = link_allowed from to
  effect_allowed r (Unlink path) = unlink_allowed path
  effect_allowed r (Rmdir path) = rmdir_allowed path
  effect_allowed r (Rename from to) = rename_allowed from to
  effect_allowed r (SetAttr path mode uid gid size mtime) = set_allowed path _
  effect_allowed r (OpenFile path) = open_allowed r.client path
  effect_allowed r (Release i) = release_allowed r.client i
  effect_allowed r (Lookup path) = record { it = tt }
  effect_allowed r (Readdir path) = record { it = tt }
  effect_allowed r (Readlink path) = record { it = tt }

  pub allowed : (r : ClientRequest) (i : ℕ) (change : Change) → decision s r ≡ Accepted i change → Allowed s (Ok (i, change))
  allowed r i change d = subst (Allowed s) (meant s r (Accepted i change) d).done (effect_allowed r r.op).it

  pub next_more : (i : ℕ) → s.next < 2 ^ 64 → (i ≡ s.next) × ((i == 2 ^ 64 - 1) ≡ false) → i + 1 < 2 ^ 64
  next_more i fits h = let same = h.0 in let apart = eqb-false i (2 ^ 64 - 1) h.1 in omega (arith, fits, same, apart)
