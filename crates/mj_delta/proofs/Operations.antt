-- Which operations make a name move, and which make a link end.
use Rattle.std.proofs.Common.{◌≡◌, ℕ, Bool, true, false, List, Option, Some, None, Ok, Err, if◌then◌else◌, refl, ap, subst, ◌∙◌}
use Rattle.std.specs.Prelude.{◌==◌, ◌&&◌, ◌||◌, not, nat_le, nat_lt}
use Rattle.std.specs.Result.{result_ok}
use Rattle.mj_base.specs.Reading.{◌>>=◌}
use Rattle.mj_maps.specs.Map.{get, len}
use Rattle.mj_tree.specs.declared.change.Attributes.{Attributes}
use Rattle.mj_tree.specs.declared.change.Settings.{Settings}
use Rattle.mj_tree.specs.declared.change.Change.TheVariants as change
use Rattle.mj_tree.specs.declared.request.ClientRequest.{ClientRequest}
use Rattle.mj_tree.specs.declared.request.Op.{Op}
use Rattle.mj_tree.specs.declared.request.Op.TheVariants.{SessionOpen, SessionClose, Mkdir, Create, Symlink, Link, Unlink, Rmdir, Rename, SetAttr, OpenFile, Release, Lookup, Readdir, Readlink}
use Rattle.mj_tree.specs.State.{PlainState, is_dir, is_file, is_symlink, link_count, entry_count}
use Rattle.mj_tree.specs.Walk.{Answer, Path, refuse, ◌>>◌, found, is_root, walk, place, begins}
use Rattle.mj_tree.specs.Row.{Effect, is_full, has_all_inodes, most_links, at_new, make, link, unlink, rmdir, rename_over, rename, set_attr, is_open, most_opens, open_file, release, effect}
use Rattle.mj_cells.specs.Table.{Table}
use Rattle.mj_recovery.specs.Tree.{tree_of}
use Rattle.mj_machine.specs.Delta.{new_place}

-- a rename to this place
pub record ByRename (s : PlainState) (op : Op) (p : ℕ × List ℕ) : Type 0 where
  pub from : Path
  pub to : Path
  pub op_is : op ≡ Rename from to
  pub to_is : place s to 22 ≡ Ok p

abbrev pub IsNoRename : Op → Type 0
IsNoRename (Rename from to) = ⊥
IsNoRename _ = Unit {0}

abbrev pub Suits : PlainState → Op → Effect → Type 0
Suits s op (Ok (i, change.Move q p j)) = ByRename s op p
Suits s op (Ok (i, change.Replace q p j k)) = ByRename s op p
Suits s op (Ok (i, change.Unlink q j)) = IsNoRename op
Suits s op (Ok (i, _)) = Unit {0}
Suits s op (Err code) = Unit {0}

record Suit (s : PlainState) (op : Op) (e : Effect) : Type 0 where
  it : Suits s op e

module _ (s : PlainState) (op : Op) where
  bind_suits : {A : Type 0} (x : Answer A) (f : A → Effect) → ((y : A) → x ≡ Ok y → Suit s op (f y)) → Suit s op (x >>= f)
  bind_suits (Ok x) f h = h x refl
  bind_suits (Err code) f h = record { it = tt }

  seq_suits : (x : Answer (Unit {0})) (e : Effect) → Suit s op e → Suit s op (x >> e)
  seq_suits (Ok x) e h = h
  seq_suits (Err code) e h = record { it = tt }

  if_suits : (b : Bool) (x y : Effect) → Suit s op x → Suit s op y → Suit s op (if b then x else y)
  if_suits true x y h k = h
  if_suits false x y h k = k

  make_suits : (path : Path) (a : Attributes) → Suit s op (make s path a)
  unfolding make
  make_suits path a = bind_suits (place s path 17) _ (λ q _. seq_suits (at_new s q) _ (seq_suits (refuse (has_all_inodes s) 28) _ (record { it = tt })))

  link_suits : (from to : Path) → Suit s op (link s from to)
  unfolding link
  link_suits from to = bind_suits (walk s from) _ (λ i _. seq_suits (refuse (is_dir s i) 21) _ (bind_suits (place s to 17) _ (λ q _. seq_suits (at_new s q) _ (seq_suits (refuse (nat_le most_links (link_count s i)) 31) _ (record { it = tt })))))

  unlink_suits : IsNoRename op → (path : Path) → Suit s op (unlink s path)
  unfolding unlink
  unlink_suits none path = bind_suits (place s path 21) _ (λ q _. bind_suits (found (get s.links q)) _ (λ i _. seq_suits (refuse (is_dir s i) 21) _ (record { it = none })))

  rmdir_suits : IsNoRename op → (path : Path) → Suit s op (rmdir s path)
  unfolding rmdir
  rmdir_suits none path = bind_suits (place s path 22) _ (λ q _. bind_suits (found (get s.links q)) _ (λ i _. seq_suits (refuse (not (is_dir s i)) 20) _ (seq_suits (refuse (nat_lt 0 (entry_count s i)) 39) _ (record { it = none }))))

  over_suits : (q : ℕ × List ℕ) (i : ℕ) (p : ℕ × List ℕ) (o : Option ℕ) → ByRename s op p → Suit s op (rename_over s q i p o)
  unfolding rename_over
  over_suits q i p None by = seq_suits (refuse (not (q.0 == p.0) && is_full s p.0) 28) _ (record { it = by })
  over_suits q i p (Some j) by = if_suits (i == j) _ _ (record { it = tt }) (seq_suits (refuse (is_dir s j && not (is_dir s i)) 21) _ (seq_suits (refuse (is_dir s i && not (is_dir s j)) 20) _
      (seq_suits (refuse (nat_lt 0 (entry_count s j)) 39) _ (record { it = by }))))

  rename_suits : (from to : Path) → op ≡ Rename from to → Suit s op (rename s from to)
  unfolding rename
  rename_suits from to is = seq_suits (refuse (is_root from || is_root to) 22) _ (bind_suits (place s from 22) _ (λ q _. bind_suits (found (get s.links q)) _ (λ i _.
      seq_suits (refuse (is_dir s i && begins from to) 22) _ (bind_suits (place s to 22) _ (λ p e. over_suits q i p (get s.links p) (record { from = from; to = to; op_is = is; to_is = e }))))))

  set_suits : (path : Path) (x : Settings) → Suit s op (set_attr s path x)
  unfolding set_attr
  set_suits path x = seq_suits (refuse (is_root path) 22) _ (bind_suits (walk s path) _ (λ i _. seq_suits (refuse (not (x.size == 0) && not (is_file s i)) 22) _ (record { it = tt })))

  open_suits : (client : ℕ) (path : Path) → Suit s op (open_file s client path)
  unfolding open_file
  open_suits client path = bind_suits (walk s path) _ (λ i _. seq_suits (refuse (is_dir s i) 21) _ (seq_suits (refuse (is_symlink s i) 22) _ (seq_suits (refuse (not (is_open s client i) && nat_le most_opens (len s.opens)) 28) _ (record { it = tt }))))

  release_suits : (client i : ℕ) → Suit s op (release s client i)
  unfolding release
  release_suits client i = seq_suits (refuse (not (is_open s client i)) 2) _ (record { it = tt })

effect_suits : (s : PlainState) (r : ClientRequest) (op : Op) → Suit s op (effect s r op)
unfolding effect
effect_suits s r SessionOpen = record { it = tt }
effect_suits s r SessionClose = record { it = tt }
effect_suits s r (Mkdir path mode) = make_suits s (Mkdir path mode) path _
effect_suits s r (Create path mode) = make_suits s (Create path mode) path _
effect_suits s r (Symlink path target) = make_suits s (Symlink path target) path _
effect_suits s r (Link from to) = link_suits s (Link from to) from to
effect_suits s r (Unlink path) = unlink_suits s (Unlink path) tt path
effect_suits s r (Rmdir path) = rmdir_suits s (Rmdir path) tt path
effect_suits s r (Rename from to) = rename_suits s (Rename from to) from to refl
effect_suits s r (SetAttr path mode uid gid size mtime) = set_suits s (SetAttr path mode uid gid size mtime) path _
effect_suits s r (OpenFile path) = open_suits s (OpenFile path) r.client path
effect_suits s r (Release i) = release_suits s (Release i) r.client i
effect_suits s r (Lookup path) = record { it = tt }
effect_suits s r (Readdir path) = record { it = tt }
effect_suits s r (Readlink path) = record { it = tt }

pub op_suits : (s : PlainState) (r : ClientRequest) (e : Effect) → effect s r r.op ≡ e → Suits s r.op e
op_suits s r e is = subst (Suits s r.op) is (effect_suits s r r.op).it

-- ---- the name that a rename gives

pub no_new_place : (rank : ℕ) (t : Table) (r : ClientRequest) (op : Op) → IsNoRename op → new_place rank t r op ≡ None
no_new_place rank t r SessionOpen h = refl
no_new_place rank t r SessionClose h = refl
no_new_place rank t r (Mkdir path mode) h = refl
no_new_place rank t r (Create path mode) h = refl
no_new_place rank t r (Symlink path target) h = refl
no_new_place rank t r (Link from to) h = refl
no_new_place rank t r (Unlink path) h = refl
no_new_place rank t r (Rmdir path) h = refl
no_new_place rank t r (Rename from to) h = absurd h
no_new_place rank t r (SetAttr path mode uid gid size mtime) h = refl
no_new_place rank t r (OpenFile path) h = refl
no_new_place rank t r (Release i) h = refl
no_new_place rank t r (Lookup path) h = refl
no_new_place rank t r (Readdir path) h = refl
no_new_place rank t r (Readlink path) h = refl

pub new_place_is : (rank : ℕ) (t : Table) (s : PlainState) (r : ClientRequest) (p : ℕ × List ℕ) → tree_of rank t ≡ s → ByRename s r.op p → new_place rank t r r.op ≡ Some p
new_place_is rank t s r p old by = ap (new_place rank t r) by.op_is ∙ (λ z. result_ok (place (old z) by.to 22)) ∙ ap result_ok by.to_is
