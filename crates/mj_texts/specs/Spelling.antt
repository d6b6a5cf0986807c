-- The grammar of requests and replies, as texts.
use Rattle.std.specs.Prelude.{◌≡◌, ◌⊎◌, ℕ, ◌^◌, ◌<◌, Bool, true, not, ◌&&◌, ◌==◌, List, [], ◌∷◌, length, codes, IsTrue}
use Rattle.std.specs.List.{list_all}
use Rattle.std.specs.Char.{is_ascii}
use Rattle.std.specs.Fmt.{decimal}
use Rattle.std.specs.Str.Parse.{AllDigits, digits_value}
use Rattle.mj_base.specs.Name.{escaped, is_path, path_text}
use Rattle.mj_base.specs.Reading.{AreBytes}
use Rattle.mj_base.specs.Record.{target_fits}
use Rattle.mj_base.specs.declared.record.Kind.TheVariants as kind
use Rattle.mj_tree.specs.declared.request.Op.{Op}
use Rattle.mj_tree.specs.declared.request.Op.TheVariants.{SessionOpen, SessionClose, Mkdir, Create, Symlink, Link, Unlink, Rmdir, Rename, SetAttr, OpenFile, Release, Lookup, Readdir, Readlink}
use Rattle.mj_tree.specs.declared.request.ClientRequest.{ClientRequest}

-- three or four octal digits that stand for a mode
pub record IsModeWord (word : List ℕ) (mode : ℕ) : Type 0 where
  pub few : (length word ≡ 3) ⊎ (length word ≡ 4)
  pub digits : AllDigits 8 word
  pub value : digits_value 8 word ≡ mode

-- a mode has several spellings
abbrev pub WithMode : ℕ → (List ℕ → List (List ℕ)) → List (List ℕ) → Type 0
WithMode mode with_word ws = (digits : List ℕ) × IsModeWord digits mode × (ws ≡ with_word digits)

-- the words of an operation; a target has 1 to 4,095 bytes, none of them 0
abbrev pub SpellsOp : Op → List (List ℕ) → Type 0
SpellsOp SessionOpen ws = ws ≡ codes "session-open" ∷ []
SpellsOp SessionClose ws = ws ≡ codes "session-close" ∷ []
SpellsOp (Mkdir path mode) ws = WithMode mode (λ digits. codes "mkdir" ∷ path_text path ∷ digits ∷ []) ws
SpellsOp (Create path mode) ws = WithMode mode (λ digits. codes "create" ∷ path_text path ∷ digits ∷ []) ws
SpellsOp (Symlink path target) ws = IsTrue (target_fits kind.Symlink target) × (ws ≡ codes "symlink" ∷ path_text path ∷ escaped target ∷ [])
SpellsOp (Link from to) ws = ws ≡ codes "link" ∷ path_text from ∷ path_text to ∷ []
SpellsOp (Unlink path) ws = ws ≡ codes "unlink" ∷ path_text path ∷ []
SpellsOp (Rmdir path) ws = ws ≡ codes "rmdir" ∷ path_text path ∷ []
SpellsOp (Rename from to) ws = ws ≡ codes "rename" ∷ path_text from ∷ path_text to ∷ []
SpellsOp (SetAttr path mode uid gid size mtime) ws = WithMode mode (λ digits. codes "setattr" ∷ path_text path ∷ digits ∷ decimal uid ∷ decimal gid ∷ decimal size ∷ decimal mtime ∷ []) ws
SpellsOp (OpenFile path) ws = ws ≡ codes "open" ∷ path_text path ∷ []
SpellsOp (Release ino) ws = ws ≡ codes "release" ∷ decimal ino ∷ []
SpellsOp (Lookup path) ws = ws ≡ codes "lookup" ∷ path_text path ∷ []
SpellsOp (Readdir path) ws = ws ≡ codes "readdir" ∷ path_text path ∷ []
SpellsOp (Readlink path) ws = ws ≡ codes "readlink" ∷ path_text path ∷ []

-- of a request, from its client's number on
abbrev pub SpellsRequest : ClientRequest → List (List ℕ) → Type 0
SpellsRequest r ws = (op : List (List ℕ)) × SpellsOp r.op op × (ws ≡ decimal r.client ∷ decimal r.tid ∷ decimal r.oldest ∷ decimal r.now ∷ op)

-- ---- words that can be told apart in a line

-- ASCII, and no space
abbrev pub is_word_byte : ℕ → Bool
is_word_byte b = is_ascii b && not (b == 32)

abbrev pub is_plain_word : List ℕ → Bool
is_plain_word w = list_all is_word_byte w

abbrev pub are_plain_words : List (List ℕ) → Bool
are_plain_words ws = list_all is_plain_word ws

-- ---- the ranges of the numbers, the limits of paths, and the bytes of targets

pub record SettingsInRange (uid gid size mtime : ℕ) : Type 0 where
  pub uid_fits : uid < 2 ^ 32
  pub gid_fits : gid < 2 ^ 32
  pub size_fits : size < 2 ^ 62
  pub mtime_fits : mtime < 2 ^ 64

abbrev pub OpInRange : Op → Type 0
OpInRange SessionOpen = Unit {0}
OpInRange SessionClose = Unit {0}
OpInRange (Mkdir path mode) = is_path path ≡ true
OpInRange (Create path mode) = is_path path ≡ true
OpInRange (Symlink path target) = (is_path path ≡ true) × AreBytes target
OpInRange (Link from to) = (is_path from ≡ true) × (is_path to ≡ true)
OpInRange (Unlink path) = is_path path ≡ true
OpInRange (Rmdir path) = is_path path ≡ true
OpInRange (Rename from to) = (is_path from ≡ true) × (is_path to ≡ true)
OpInRange (SetAttr path mode uid gid size mtime) = (is_path path ≡ true) × SettingsInRange uid gid size mtime
OpInRange (OpenFile path) = is_path path ≡ true
OpInRange (Release ino) = ino < 2 ^ 64
OpInRange (Lookup path) = is_path path ≡ true
OpInRange (Readdir path) = is_path path ≡ true
OpInRange (Readlink path) = is_path path ≡ true

pub record RequestInRange (r : ClientRequest) : Type 0 where
  pub client : r.client < 2 ^ 32
  pub tid : r.tid < 2 ^ 64
  pub oldest : r.oldest < 2 ^ 64
  pub now : r.now < 2 ^ 64
  pub op : OpInRange r.op
