-- The reader of requests gives each request on its spellings, and on nothing else.
use Rattle.std.proofs.Common.{◌≡◌, ℕ, ◌-◌, ◌^◌, ◌<◌, true, List, [], ◌∷◌, ◌++◌, codes, decimal, Option, Some, Result, Ok, refl, sym, ap, subst, ◌∙◌, arith}
use Rattle.mj_base.proofs.NameLemmas.{target_refusal-none}
use Rattle.mj_base.specs.InOrder.{same_bytes}
use Rattle.mj_base.specs.Name.{escaped, is_path, path_text}
use Rattle.mj_base.specs.PathText.{path_of, unescaped}
use Rattle.mj_base.specs.Reading.{AreBytes}
use Rattle.mj_base.specs.Record.{target_fits}
use Rattle.mj_base.specs.Target.{target_refusal}
use Rattle.mj_base.specs.declared.record.Kind.TheVariants as kind
use Rattle.mj_tree.specs.Request.{op_fits}
use Rattle.mj_tree.specs.declared.request.Op.{Op}
use Rattle.mj_tree.specs.declared.request.Op.TheVariants as op
use Rattle.mj_tree.specs.declared.request.ClientRequest.{ClientRequest}
use Rattle.mj_texts.specs.declared.request.Verb.{Verb}
use Rattle.mj_texts.specs.declared.request.Verb.TheVariants.{SessionOpen, SessionClose, Mkdir, Create, Symlink, Link, Unlink, Rmdir, Rename, SetAttr, OpenFile, Release, Lookup, Readdir, Readlink}
use Rattle.mj_texts.specs.Words.{◌>>=◌, field, with_rest}
use Rattle.mj_texts.specs.Number.{number_of, mode_of}
use Rattle.mj_texts.specs.Request.{of_result, unless_refused, path_in, target_in, u32_in, u64_in, verb_text, verbs, verb_of, with_op, paths_of, path_and_mode, symlink_of, settings_of, op_behind, op_of, request_of}
use Rattle.mj_texts.specs.Spelling.{IsModeWord, WithMode, SpellsOp, SpellsRequest, is_plain_word, are_plain_words, SettingsInRange, OpInRange, RequestInRange}
use Rattle.mj_texts.proofs.FieldLemmas.{bound, read_field, word_is, number_takes, number_again, mode_takes, mode_again, mode_fits, result_is, accepted, target_accepted}
use Rattle.mj_texts.proofs.ObjectLemmas.{find_gives}
use Rattle.mj_texts.proofs.WordLemmas.{plain_digits, plain_decimal, plain_bytes, plain_path, plain_word, no_words}

-- ---- the words of operations

verb_takes : (word : List ℕ) (verb : Verb) → verb_of word ≡ Some verb → word ≡ verb_text verb
verb_takes word verb h = word_is word (verb_text verb) (find_gives (λ v. same_bytes word (verb_text v)) verbs verb h)

verb_again : (verb : Verb) → verb_of (verb_text verb) ≡ Some verb
verb_again SessionOpen = refl
verb_again SessionClose = refl
verb_again Mkdir = refl
verb_again Create = refl
verb_again Symlink = refl
verb_again Link = refl
verb_again Unlink = refl
verb_again Rmdir = refl
verb_again Rename = refl
verb_again SetAttr = refl
verb_again OpenFile = refl
verb_again Release = refl
verb_again Lookup = refl
verb_again Readdir = refl
verb_again Readlink = refl

plain_verb : (verb : Verb) → is_plain_word (verb_text verb) ≡ true
plain_verb SessionOpen = refl
plain_verb SessionClose = refl
plain_verb Mkdir = refl
plain_verb Create = refl
plain_verb Symlink = refl
plain_verb Link = refl
plain_verb Unlink = refl
plain_verb Rmdir = refl
plain_verb Rename = refl
plain_verb SetAttr = refl
plain_verb OpenFile = refl
plain_verb Release = refl
plain_verb Lookup = refl
plain_verb Readdir = refl
plain_verb Readlink = refl

op_at : (verb : Verb) (ws : List (List ℕ)) → op_of (verb_text verb ∷ ws) ≡ op_behind verb ws
op_at verb ws = ap (λ (o : Option Verb). with_rest ws o >>= λ v. op_behind v.0 v.1) (verb_again verb)

-- ---- limits

-- what a spelling stands for keeps its limits
pub spells_fit : (o : Op) (ws : List (List ℕ)) → SpellsOp o ws → op_fits o ≡ true
spells_fit op.SessionOpen ws h = refl
spells_fit op.SessionClose ws h = refl
spells_fit (op.Mkdir path mode) ws h = mode_fits h.0 mode h.1
spells_fit (op.Create path mode) ws h = mode_fits h.0 mode h.1
spells_fit (op.Symlink path target) ws h = h.0
spells_fit (op.Link from to) ws h = refl
spells_fit (op.Unlink path) ws h = refl
spells_fit (op.Rmdir path) ws h = refl
spells_fit (op.Rename from to) ws h = refl
spells_fit (op.SetAttr path mode uid gid size mtime) ws h = mode_fits h.0 mode h.1
spells_fit (op.OpenFile path) ws h = refl
spells_fit (op.Release ino) ws h = refl
spells_fit (op.Lookup path) ws h = refl
spells_fit (op.Readdir path) ws h = refl
spells_fit (op.Readlink path) ws h = refl

-- what the readers of paths and of escapes keep
pub record TextLaws : Type 0 where
  pub path_takes : (text : List ℕ) (names : List (List ℕ)) → path_of text ≡ Ok names → text ≡ path_text names
  pub path_again : (names : List (List ℕ)) → is_path names ≡ true → path_of (path_text names) ≡ Ok names
  pub bytes_take : (text bytes : List ℕ) → unescaped text ≡ Ok bytes → text ≡ escaped bytes
  pub bytes_again : (bytes : List ℕ) → AreBytes bytes → unescaped (escaped bytes) ≡ Ok bytes

module _ (laws : TextLaws) where
  -- ---- fields

  path_field : (ws : List (List ℕ)) (x : List (List ℕ) × List (List ℕ)) → field path_in ws ≡ Some x → ws ≡ path_text x.0 ∷ x.1
  path_field ws x h = let f = read_field path_in ws x h in f.2 ∙ ap (λ v. v ∷ x.1) (laws.path_takes f.0 x.0 (result_is (path_of f.0) x.0 f.1))

  number_field : (most : ℕ) (ws : List (List ℕ)) (x : ℕ × List (List ℕ)) → field (number_of most) ws ≡ Some x → ws ≡ decimal x.0 ∷ x.1
  number_field most ws x h = let f = read_field (number_of most) ws x h in f.2 ∙ ap (λ v. v ∷ x.1) (number_takes most f.0 x.0 f.1)

  pub target_takes : (w target : List ℕ) → target_in w ≡ Some target → (w ≡ escaped target) × (target_fits kind.Symlink target ≡ true)
  target_takes w target h =
      let b = bound (of_result (unescaped w)) _ target h in
      let n = accepted (target_refusal b.0) b.0 target b.2 in
      subst (λ t. (w ≡ escaped t) × (target_fits kind.Symlink t ≡ true)) n.1 (laws.bytes_take w b.0 (result_is (unescaped w) b.0 b.1), target_accepted b.0 n.0)

  pub target_again : (target : List ℕ) → AreBytes target → target_fits kind.Symlink target ≡ true → target_in (escaped target) ≡ Some target
  target_again target bytes fits =
      ap (λ (r : Result (List ℕ) ℕ). of_result r >>= λ b. unless_refused (target_refusal b) b) (laws.bytes_again target bytes)
      ∙ ap (λ o. unless_refused o target) (target_refusal-none target fits)

  path_read : (path : List (List ℕ)) → is_path path ≡ true → path_in (path_text path) ≡ Some path
  path_read path h = ap of_result (laws.path_again path h)

  -- ---- what an operation was read from

  Takes : Op → List (List ℕ) → List (List ℕ) → Type 0
  Takes o rest ws = (ows : List (List ℕ)) × SpellsOp o ows × (ws ≡ ows ++ rest)

  one_takes : (make : List (List ℕ) → Op) (word : List ℕ) → ((p : List (List ℕ)) → SpellsOp (make p) (word ∷ path_text p ∷ [])) → (ws : List (List ℕ)) (x : Op × List (List ℕ)) → with_op make (field path_in ws) ≡ Some x → Takes x.0 x.1 (word ∷ ws)
  unfolding Takes
  one_takes make word spells ws x h =
      let path = bound (field path_in ws) _ x h in
      let same : (make path.0.0, path.0.1) ≡ x = cc path.2 in
      subst (λ y. Takes y.0 y.1 (word ∷ ws)) same (word ∷ path_text path.0.0 ∷ [], spells path.0.0, ap (λ vs. word ∷ vs) (path_field ws path.0 path.1))

  paths_take : (ws : List (List ℕ)) (x : (List (List ℕ) × List (List ℕ)) × List (List ℕ)) → paths_of ws ≡ Some x → ws ≡ path_text x.0.0 ∷ path_text x.0.1 ∷ x.1
  paths_take ws x h =
      let from = bound (field path_in ws) _ x h in
      let to = bound (field path_in from.0.1) _ x from.2 in
      let same : ((from.0.0, to.0.0), to.0.1) ≡ x = cc to.2 in
      path_field ws from.0 from.1 ∙ ap (λ vs. path_text from.0.0 ∷ vs) (path_field from.0.1 to.0 to.1) ∙ ap (λ y. path_text y.0.0 ∷ path_text y.0.1 ∷ y.1) same

  two_take : (make : List (List ℕ) → List (List ℕ) → Op) (word : List ℕ) → ((p q : List (List ℕ)) → SpellsOp (make p q) (word ∷ path_text p ∷ path_text q ∷ [])) → (ws : List (List ℕ)) (x : Op × List (List ℕ)) → with_op (λ y. make y.0 y.1) (paths_of ws) ≡ Some x → Takes x.0 x.1 (word ∷ ws)
  unfolding Takes
  two_take make word spells ws x h =
      let paths = bound (paths_of ws) _ x h in
      let same : (make paths.0.0.0 paths.0.0.1, paths.0.1) ≡ x = cc paths.2 in
      subst (λ y. Takes y.0 y.1 (word ∷ ws)) same (word ∷ path_text paths.0.0.0 ∷ path_text paths.0.0.1 ∷ [], spells paths.0.0.0 paths.0.0.1, ap (λ vs. word ∷ vs) (paths_take ws paths.0 paths.1))

  with_mode_takes : (ws : List (List ℕ)) (x : (List (List ℕ) × ℕ) × List (List ℕ)) → path_and_mode ws ≡ Some x → (w : List ℕ) × IsModeWord w x.0.1 × (ws ≡ path_text x.0.0 ∷ w ∷ x.1)
  with_mode_takes ws x h =
      let path = bound (field path_in ws) _ x h in
      let mode = bound (field mode_of path.0.1) _ x path.2 in
      let same : ((path.0.0, mode.0.0), mode.0.1) ≡ x = cc mode.2 in
      let f = read_field mode_of path.0.1 mode.0 mode.1 in
      subst (λ y. (w : List ℕ) × IsModeWord w y.0.1 × (ws ≡ path_text y.0.0 ∷ w ∷ y.1)) same
      (f.0, mode_takes f.0 mode.0.0 f.1, path_field ws path.0 path.1 ∙ ap (λ vs. path_text path.0.0 ∷ vs) f.2)

  made_takes : (make : List (List ℕ) → ℕ → Op) (word : List ℕ) → ((p : List (List ℕ)) (m : ℕ) (w : List ℕ) → IsModeWord w m → SpellsOp (make p m) (word ∷ path_text p ∷ w ∷ [])) → (ws : List (List ℕ)) (x : Op × List (List ℕ)) → with_op (λ y. make y.0 y.1) (path_and_mode ws) ≡ Some x → Takes x.0 x.1 (word ∷ ws)
  unfolding Takes
  made_takes make word spells ws x h =
      let both = bound (path_and_mode ws) _ x h in
      let same : (make both.0.0.0 both.0.0.1, both.0.1) ≡ x = cc both.2 in
      let t = with_mode_takes ws both.0 both.1 in
      subst (λ y. Takes y.0 y.1 (word ∷ ws)) same (word ∷ path_text both.0.0.0 ∷ t.0 ∷ [], spells both.0.0.0 both.0.0.1 t.0 t.1, ap (λ vs. word ∷ vs) t.2)

  symlink_takes : (ws : List (List ℕ)) (x : Op × List (List ℕ)) → symlink_of ws ≡ Some x → Takes x.0 x.1 (codes "symlink" ∷ ws)
  unfolding Takes
  symlink_takes ws x h =
      let path = bound (field path_in ws) _ x h in
      let target = bound (field target_in path.0.1) _ x path.2 in
      let same : (op.Symlink path.0.0 target.0.0, target.0.1) ≡ x = cc target.2 in
      let f = read_field target_in path.0.1 target.0 target.1 in
      let t = target_takes f.0 target.0.0 f.1 in
      subst (λ y. Takes y.0 y.1 (codes "symlink" ∷ ws)) same
      (codes "symlink" ∷ path_text path.0.0 ∷ escaped target.0.0 ∷ [], (t.1, refl), ap (λ vs. codes "symlink" ∷ vs) (path_field ws path.0 path.1 ∙ ap (λ vs. path_text path.0.0 ∷ vs) (f.2 ∙ ap (λ v. v ∷ target.0.1) t.0)))

  settings_take : (ws : List (List ℕ)) (x : Op × List (List ℕ)) → settings_of ws ≡ Some x → Takes x.0 x.1 (codes "setattr" ∷ ws)
  unfolding Takes
  settings_take ws x h =
      let both = bound (path_and_mode ws) _ x h in
      let uid = bound (field u32_in both.0.1) _ x both.2 in
      let gid = bound (field u32_in uid.0.1) _ x uid.2 in
      let size = bound (field (number_of (2 ^ 62 - 1)) gid.0.1) _ x gid.2 in
      let mtime = bound (field u64_in size.0.1) _ x size.2 in
      let same : (op.SetAttr both.0.0.0 both.0.0.1 uid.0.0 gid.0.0 size.0.0 mtime.0.0, mtime.0.1) ≡ x = cc mtime.2 in
      let t = with_mode_takes ws both.0 both.1 in
      let is : ws ≡ path_text both.0.0.0 ∷ t.0 ∷ decimal uid.0.0 ∷ decimal gid.0.0 ∷ decimal size.0.0 ∷ decimal mtime.0.0 ∷ mtime.0.1 =
      t.2 ∙ ap (λ vs. path_text both.0.0.0 ∷ t.0 ∷ vs) (number_field _ both.0.1 uid.0 uid.1 ∙ ap (λ vs. decimal uid.0.0 ∷ vs)
      (number_field _ uid.0.1 gid.0 gid.1 ∙ ap (λ vs. decimal gid.0.0 ∷ vs)
      (number_field _ gid.0.1 size.0 size.1 ∙ ap (λ vs. decimal size.0.0 ∷ vs) (number_field _ size.0.1 mtime.0 mtime.1)))) in
      subst (λ y. Takes y.0 y.1 (codes "setattr" ∷ ws)) same
      (codes "setattr" ∷ path_text both.0.0.0 ∷ t.0 ∷ decimal uid.0.0 ∷ decimal gid.0.0 ∷ decimal size.0.0 ∷ decimal mtime.0.0 ∷ [], (t.0, t.1, refl), ap (λ vs. codes "setattr" ∷ vs) is)

  release_takes : (ws : List (List ℕ)) (x : Op × List (List ℕ)) → with_op op.Release (field u64_in ws) ≡ Some x → Takes x.0 x.1 (codes "release" ∷ ws)
  unfolding Takes
  release_takes ws x h =
      let ino = bound (field u64_in ws) _ x h in
      let same : (op.Release ino.0.0, ino.0.1) ≡ x = cc ino.2 in
      subst (λ y. Takes y.0 y.1 (codes "release" ∷ ws)) same (codes "release" ∷ decimal ino.0.0 ∷ [], refl, ap (λ vs. codes "release" ∷ vs) (number_field _ ws ino.0 ino.1))

  alone_takes : (o : Op) (word : List ℕ) → SpellsOp o (word ∷ []) → (ws : List (List ℕ)) (x : Op × List (List ℕ)) → Some (o, ws) ≡ Some x → Takes x.0 x.1 (word ∷ ws)
  unfolding Takes
  alone_takes o word spells ws x h = let same : (o, ws) ≡ x = cc h in subst (λ y. Takes y.0 y.1 (word ∷ ws)) same (word ∷ [], spells, refl)

  behind_takes : (verb : Verb) (ws : List (List ℕ)) (x : Op × List (List ℕ)) → op_behind verb ws ≡ Some x → Takes x.0 x.1 (verb_text verb ∷ ws)
  behind_takes SessionOpen ws x h = alone_takes op.SessionOpen (codes "session-open") refl ws x h
  behind_takes SessionClose ws x h = alone_takes op.SessionClose (codes "session-close") refl ws x h
  behind_takes Mkdir ws x h = made_takes op.Mkdir (codes "mkdir") (λ p m w k. (w, k, refl)) ws x h
  behind_takes Create ws x h = made_takes op.Create (codes "create") (λ p m w k. (w, k, refl)) ws x h
  behind_takes Symlink ws x h = symlink_takes ws x h
  behind_takes Link ws x h = two_take op.Link (codes "link") (λ p q. refl) ws x h
  behind_takes Unlink ws x h = one_takes op.Unlink (codes "unlink") (λ p. refl) ws x h
  behind_takes Rmdir ws x h = one_takes op.Rmdir (codes "rmdir") (λ p. refl) ws x h
  behind_takes Rename ws x h = two_take op.Rename (codes "rename") (λ p q. refl) ws x h
  behind_takes SetAttr ws x h = settings_take ws x h
  behind_takes OpenFile ws x h = one_takes op.OpenFile (codes "open") (λ p. refl) ws x h
  behind_takes Release ws x h = release_takes ws x h
  behind_takes Lookup ws x h = one_takes op.Lookup (codes "lookup") (λ p. refl) ws x h
  behind_takes Readdir ws x h = one_takes op.Readdir (codes "readdir") (λ p. refl) ws x h
  behind_takes Readlink ws x h = one_takes op.Readlink (codes "readlink") (λ p. refl) ws x h

  op_takes : (ws : List (List ℕ)) (x : Op × List (List ℕ)) → op_of ws ≡ Some x → Takes x.0 x.1 ws
  op_takes ws x h =
      let verb = bound (field verb_of ws) _ x h in
      let f = read_field verb_of ws verb.0 verb.1 in
      subst (λ vs. Takes x.0 x.1 vs) (sym (f.2 ∙ ap (λ v. v ∷ verb.0.1) (verb_takes f.0 verb.0.0 f.1))) (behind_takes verb.0.0 verb.0.1 x verb.2)

  pub request_takes : (ws : List (List ℕ)) (x : ClientRequest × List (List ℕ)) → request_of ws ≡ Some x → (rws : List (List ℕ)) × SpellsRequest x.0 rws × (ws ≡ rws ++ x.1)
  unfolding Takes
  request_takes ws x h =
      let client = bound (field u32_in ws) _ x h in
      let tid = bound (field u64_in client.0.1) _ x client.2 in
      let oldest = bound (field u64_in tid.0.1) _ x tid.2 in
      let now = bound (field u64_in oldest.0.1) _ x oldest.2 in
      let o = bound (op_of now.0.1) _ x now.2 in
      let t = op_takes now.0.1 o.0 o.1 in
      let is : ws ≡ decimal client.0.0 ∷ decimal tid.0.0 ∷ decimal oldest.0.0 ∷ decimal now.0.0 ∷ t.0 ++ o.0.1 =
      number_field _ ws client.0 client.1 ∙ ap (λ vs. decimal client.0.0 ∷ vs) (number_field _ client.0.1 tid.0 tid.1 ∙ ap (λ vs. decimal tid.0.0 ∷ vs)
      (number_field _ tid.0.1 oldest.0 oldest.1 ∙ ap (λ vs. decimal oldest.0.0 ∷ vs) (number_field _ oldest.0.1 now.0 now.1 ∙ ap (λ vs. decimal now.0.0 ∷ vs) t.2))) in
      let whole : (record { client = client.0.0; tid = tid.0.0; oldest = oldest.0.0; now = now.0.0; op = o.0.0 }, o.0.1) ≡ x = cc o.2 in
      subst (λ (y : ClientRequest × List (List ℕ)). (rws : List (List ℕ)) × SpellsRequest y.0 rws × (ws ≡ rws ++ y.1)) whole
      (decimal client.0.0 ∷ decimal tid.0.0 ∷ decimal oldest.0.0 ∷ decimal now.0.0 ∷ t.0, (t.0, t.1, refl), is)

  -- ---- and back

  Again : Op → List (List ℕ) → List (List ℕ) → Type 0
  Again o rest ws = (op_of (ws ++ rest) ≡ Some (o, rest)) × (are_plain_words ws ≡ true)

  one_again : (verb : Verb) (make : List (List ℕ) → Op) → ((ws : List (List ℕ)) → op_behind verb ws ≡ with_op make (field path_in ws)) → (p ws rest : List (List ℕ)) → is_path p ≡ true → ws ≡ verb_text verb ∷ path_text p ∷ [] → Again (make p) rest ws
  unfolding Again
  one_again verb make is p ws rest h e =
      subst (λ vs. Again (make p) rest vs) (sym e)
      (op_at verb (path_text p ∷ rest) ∙ is (path_text p ∷ rest) ∙ ap (λ (o : Option (List (List ℕ))). with_op make (with_rest rest o)) (path_read p h), (plain_word (verb_text verb) (plain_verb verb) (plain_word (path_text p) (plain_path p h) no_words)).1)

  two_again : (verb : Verb) (make : List (List ℕ) → List (List ℕ) → Op) → ((ws : List (List ℕ)) → op_behind verb ws ≡ with_op (λ y. make y.0 y.1) (paths_of ws)) → (p q ws rest : List (List ℕ)) → is_path p ≡ true → is_path q ≡ true → ws ≡ verb_text verb ∷ path_text p ∷ path_text q ∷ [] → Again (make p q) rest ws
  unfolding Again
  two_again verb make is p q ws rest h k e =
      subst (λ vs. Again (make p q) rest vs) (sym e) (
        op_at verb (path_text p ∷ path_text q ∷ rest) ∙ is (path_text p ∷ path_text q ∷ rest)
            ∙ ap (λ (o : Option (List (List ℕ))). with_op (λ (y : List (List ℕ) × List (List ℕ)). make y.0 y.1) (with_rest (path_text q ∷ rest) o >>= λ from. field path_in from.1 >>= λ to. Some ((from.0, to.0), to.1))) (path_read p h)
            ∙ ap (λ (o : Option (List (List ℕ))). with_op (λ (y : List (List ℕ) × List (List ℕ)). make y.0 y.1) (with_rest rest o >>= λ to. Some ((p, to.0), to.1))) (path_read q k),
        (plain_word (verb_text verb) (plain_verb verb) (plain_word (path_text p) (plain_path p h) (plain_word (path_text q) (plain_path q k) no_words))).1,
      )

  with_mode_read : (p : List (List ℕ)) (m : ℕ) (w : List ℕ) (rest : List (List ℕ)) → is_path p ≡ true → IsModeWord w m → path_and_mode (path_text p ∷ w ∷ rest) ≡ Some ((p, m), rest)
  with_mode_read p m w rest h k =
      ap (λ (o : Option (List (List ℕ))). with_rest (w ∷ rest) o >>= λ path. field mode_of path.1 >>= λ mode. Some ((path.0, mode.0), mode.1)) (path_read p h)
      ∙ ap (λ (o : Option ℕ). with_rest rest o >>= λ mode. Some ((p, mode.0), mode.1)) (mode_again w m k)

  made_again : (verb : Verb) (make : List (List ℕ) → ℕ → Op) → ((ws : List (List ℕ)) → op_behind verb ws ≡ with_op (λ y. make y.0 y.1) (path_and_mode ws)) → (p ws rest : List (List ℕ)) (m : ℕ) → is_path p ≡ true → WithMode m (λ w. verb_text verb ∷ path_text p ∷ w ∷ []) ws → Again (make p m) rest ws
  unfolding Again
  made_again verb make is p ws rest m h k =
      subst (λ vs. Again (make p m) rest vs) (sym k.2) (
        op_at verb (path_text p ∷ k.0 ∷ rest) ∙ is (path_text p ∷ k.0 ∷ rest) ∙ ap (with_op (λ (y : List (List ℕ) × ℕ). make y.0 y.1)) (with_mode_read p m k.0 rest h k.1),
        (plain_word (verb_text verb) (plain_verb verb) (plain_word (path_text p) (plain_path p h) (plain_word k.0 (plain_digits 8 k.0 (omega arith) k.1.digits) no_words))).1,
      )

  symlink_again : (p ws rest : List (List ℕ)) (t : List ℕ) → is_path p ≡ true → AreBytes t → target_fits kind.Symlink t ≡ true → ws ≡ codes "symlink" ∷ path_text p ∷ escaped t ∷ [] → Again (op.Symlink p t) rest ws
  unfolding Again
  symlink_again p ws rest t h bytes fits e =
      subst (λ vs. Again (op.Symlink p t) rest vs) (sym e) (
        op_at Symlink (path_text p ∷ escaped t ∷ rest)
            ∙ ap (λ (o : Option (List (List ℕ))). with_rest (escaped t ∷ rest) o >>= λ path. field target_in path.1 >>= λ target. Some (op.Symlink path.0 target.0, target.1)) (path_read p h)
            ∙ ap (λ (o : Option (List ℕ)). with_rest rest o >>= λ target. Some (op.Symlink p target.0, target.1)) (target_again t bytes fits),
        (plain_word (codes "symlink") refl (plain_word (path_text p) (plain_path p h) (plain_word (escaped t) (plain_bytes t bytes) no_words))).1,
      )

  settings_again : (p ws rest : List (List ℕ)) (mode uid gid size mtime : ℕ) → is_path p ≡ true → SettingsInRange uid gid size mtime → WithMode mode (λ w. codes "setattr" ∷ path_text p ∷ w ∷ decimal uid ∷ decimal gid ∷ decimal size ∷ decimal mtime ∷ []) ws → Again (op.SetAttr p mode uid gid size mtime) rest ws
  unfolding Again
  settings_again p ws rest mode uid gid size mtime h range k =
      let u : u32_in (decimal uid) ≡ Some uid = number_again (2 ^ 32 - 1) uid (omega (arith, range.uid_fits)) (omega (arith, range.uid_fits)) in
      let g : u32_in (decimal gid) ≡ Some gid = number_again (2 ^ 32 - 1) gid (omega (arith, range.gid_fits)) (omega (arith, range.gid_fits)) in
      let s : number_of (2 ^ 62 - 1) (decimal size) ≡ Some size = number_again (2 ^ 62 - 1) size (omega (arith, range.size_fits)) (omega (arith, range.size_fits)) in
      let t : u64_in (decimal mtime) ≡ Some mtime = number_again (2 ^ 64 - 1) mtime (omega (arith, range.mtime_fits)) range.mtime_fits in
      let last_words = decimal uid ∷ decimal gid ∷ decimal size ∷ decimal mtime ∷ rest in
      subst (λ vs. Again (op.SetAttr p mode uid gid size mtime) rest vs) (sym k.2) (
        op_at SetAttr (path_text p ∷ k.0 ∷ last_words)
            ∙ ap (λ (o : Option ((List (List ℕ) × ℕ) × List (List ℕ))). o >>= λ both. field u32_in both.1 >>= λ uid. field u32_in uid.1 >>= λ gid. field (number_of (2 ^ 62 - 1)) gid.1 >>= λ size. field u64_in size.1 >>= λ mtime. Some (op.SetAttr both.0.0 both.0.1 uid.0 gid.0 size.0 mtime.0, mtime.1)) (with_mode_read p mode k.0 last_words h k.1)
            ∙ ap (λ (o : Option ℕ). with_rest (decimal gid ∷ decimal size ∷ decimal mtime ∷ rest) o >>= λ uid. field u32_in uid.1 >>= λ gid. field (number_of (2 ^ 62 - 1)) gid.1 >>= λ size. field u64_in size.1 >>= λ mtime. Some (op.SetAttr p mode uid.0 gid.0 size.0 mtime.0, mtime.1)) u
            ∙ ap (λ (o : Option ℕ). with_rest (decimal size ∷ decimal mtime ∷ rest) o >>= λ gid. field (number_of (2 ^ 62 - 1)) gid.1 >>= λ size. field u64_in size.1 >>= λ mtime. Some (op.SetAttr p mode uid gid.0 size.0 mtime.0, mtime.1)) g
            ∙ ap (λ (o : Option ℕ). with_rest (decimal mtime ∷ rest) o >>= λ size. field u64_in size.1 >>= λ mtime. Some (op.SetAttr p mode uid gid size.0 mtime.0, mtime.1)) s
            ∙ ap (λ (o : Option ℕ). with_rest rest o >>= λ mtime. Some (op.SetAttr p mode uid gid size mtime.0, mtime.1)) t,
        (plain_word (codes "setattr") refl (plain_word (path_text p) (plain_path p h) (plain_word k.0 (plain_digits 8 k.0 (omega arith) k.1.digits) (plain_word (decimal uid) (plain_decimal uid (omega (arith, range.uid_fits))) (plain_word (decimal gid) (plain_decimal gid (omega (arith, range.gid_fits))) (plain_word (decimal size) (plain_decimal size (omega (arith, range.size_fits))) (plain_word (decimal mtime) (plain_decimal mtime range.mtime_fits) no_words))))))).1,
      )

  release_again : (i : ℕ) (ws rest : List (List ℕ)) → i < 2 ^ 64 → ws ≡ codes "release" ∷ decimal i ∷ [] → Again (op.Release i) rest ws
  unfolding Again
  release_again i ws rest h e =
      subst (λ vs. Again (op.Release i) rest vs) (sym e) (
        op_at Release (decimal i ∷ rest) ∙ ap (λ (o : Option ℕ). with_op op.Release (with_rest rest o)) (number_again (2 ^ 64 - 1) i (omega (arith, h)) h),
        (plain_word (codes "release") refl (plain_word (decimal i) (plain_decimal i h) no_words)).1,
      )

  alone_again : (verb : Verb) (o : Op) → ((ws : List (List ℕ)) → op_behind verb ws ≡ Some (o, ws)) → (ws rest : List (List ℕ)) → ws ≡ verb_text verb ∷ [] → Again o rest ws
  unfolding Again
  alone_again verb o is ws rest e = subst (λ vs. Again o rest vs) (sym e) (op_at verb rest ∙ is rest, (plain_word (verb_text verb) (plain_verb verb) no_words).1)

  op_again : (o : Op) (ws rest : List (List ℕ)) → OpInRange o → SpellsOp o ws → Again o rest ws
  op_again op.SessionOpen ws rest range h = alone_again SessionOpen op.SessionOpen (λ vs. refl) ws rest h
  op_again op.SessionClose ws rest range h = alone_again SessionClose op.SessionClose (λ vs. refl) ws rest h
  op_again (op.Mkdir p m) ws rest range h = made_again Mkdir op.Mkdir (λ vs. refl) p ws rest m range h
  op_again (op.Create p m) ws rest range h = made_again Create op.Create (λ vs. refl) p ws rest m range h
  op_again (op.Symlink p t) ws rest range h = symlink_again p ws rest t range.0 range.1 h.0 h.1
  op_again (op.Link p q) ws rest range h = two_again Link op.Link (λ vs. refl) p q ws rest range.0 range.1 h
  op_again (op.Unlink p) ws rest range h = one_again Unlink op.Unlink (λ vs. refl) p ws rest range h
  op_again (op.Rmdir p) ws rest range h = one_again Rmdir op.Rmdir (λ vs. refl) p ws rest range h
  op_again (op.Rename p q) ws rest range h = two_again Rename op.Rename (λ vs. refl) p q ws rest range.0 range.1 h
  op_again (op.SetAttr p m uid gid size mtime) ws rest range h = settings_again p ws rest m uid gid size mtime range.0 range.1 h
  op_again (op.OpenFile p) ws rest range h = one_again OpenFile op.OpenFile (λ vs. refl) p ws rest range h
  op_again (op.Release i) ws rest range h = release_again i ws rest range h
  op_again (op.Lookup p) ws rest range h = one_again Lookup op.Lookup (λ vs. refl) p ws rest range h
  op_again (op.Readdir p) ws rest range h = one_again Readdir op.Readdir (λ vs. refl) p ws rest range h
  op_again (op.Readlink p) ws rest range h = one_again Readlink op.Readlink (λ vs. refl) p ws rest range h

  pub request_again : (r : ClientRequest) (ws rest : List (List ℕ)) → RequestInRange r → SpellsRequest r ws → (request_of (ws ++ rest) ≡ Some (r, rest)) × (are_plain_words ws ≡ true)
  unfolding Again
  request_again r ws rest range h =
      let a = op_again r.op h.0 rest range.op h.1 in
      let behind = h.0 ++ rest in
      let c : u32_in (decimal r.client) ≡ Some r.client = number_again (2 ^ 32 - 1) r.client (omega (arith, range.client)) (omega (arith, range.client)) in
      let t : u64_in (decimal r.tid) ≡ Some r.tid = number_again (2 ^ 64 - 1) r.tid (omega (arith, range.tid)) range.tid in
      let o : u64_in (decimal r.oldest) ≡ Some r.oldest = number_again (2 ^ 64 - 1) r.oldest (omega (arith, range.oldest)) range.oldest in
      let n : u64_in (decimal r.now) ≡ Some r.now = number_again (2 ^ 64 - 1) r.now (omega (arith, range.now)) range.now in
      subst (λ vs. (request_of (vs ++ rest) ≡ Some (r, rest)) × (are_plain_words vs ≡ true)) (sym h.2) (
        ap (λ (x : Option ℕ). with_rest (decimal r.tid ∷ decimal r.oldest ∷ decimal r.now ∷ behind) x >>= λ client. field u64_in client.1 >>= λ tid. field u64_in tid.1 >>= λ oldest. field u64_in oldest.1 >>= λ now. op_of now.1 >>= λ op. Some (record { client = client.0; tid = tid.0; oldest = oldest.0; now = now.0; op = op.0 }, op.1)) c
            ∙ ap (λ (x : Option ℕ). with_rest (decimal r.oldest ∷ decimal r.now ∷ behind) x >>= λ tid. field u64_in tid.1 >>= λ oldest. field u64_in oldest.1 >>= λ now. op_of now.1 >>= λ op. Some (record { client = r.client; tid = tid.0; oldest = oldest.0; now = now.0; op = op.0 }, op.1)) t
            ∙ ap (λ (x : Option ℕ). with_rest (decimal r.now ∷ behind) x >>= λ oldest. field u64_in oldest.1 >>= λ now. op_of now.1 >>= λ op. Some (record { client = r.client; tid = r.tid; oldest = oldest.0; now = now.0; op = op.0 }, op.1)) o
            ∙ ap (λ (x : Option ℕ). with_rest behind x >>= λ now. op_of now.1 >>= λ op. Some (record { client = r.client; tid = r.tid; oldest = r.oldest; now = now.0; op = op.0 }, op.1)) n
            ∙ ap (λ (x : Option (Op × List (List ℕ))). x >>= λ op. Some (record { client = r.client; tid = r.tid; oldest = r.oldest; now = r.now; op = op.0 }, op.1)) a.0,
        (plain_word (decimal r.client) (plain_decimal r.client (omega (arith, range.client))) (plain_word (decimal r.tid) (plain_decimal r.tid range.tid) (plain_word (decimal r.oldest) (plain_decimal r.oldest range.oldest) (plain_word (decimal r.now) (plain_decimal r.now range.now) (h.0, a.1))))).1,
      )
