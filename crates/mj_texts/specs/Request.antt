-- The words of a request, and what they stand for.
use Rattle.std.specs.Prelude.{ℕ, ◌-◌, ◌^◌, List, [], ◌∷◌, codes, find, Option, None, Some, Result, Ok, Err}
use Rattle.mj_base.specs.InOrder.{same_bytes}
use Rattle.mj_base.specs.PathText.{path_of, unescaped}
use Rattle.mj_base.specs.Target.{target_refusal}
use Rattle.mj_tree.specs.declared.request.Op.{Op}
use Rattle.mj_tree.specs.declared.request.Op.TheVariants as op
use Rattle.mj_tree.specs.declared.request.ClientRequest.{ClientRequest}
use Rattle.mj_texts.specs.declared.request.Verb.{Verb}
use Rattle.mj_texts.specs.declared.request.Verb.TheVariants.{SessionOpen, SessionClose, Mkdir, Create, Symlink, Link, Unlink, Rmdir, Rename, SetAttr, OpenFile, Release, Lookup, Readdir, Readlink}
use Rattle.mj_texts.specs.Words.{◌>>=◌, field}
use Rattle.mj_texts.specs.Number.{number_of, mode_of}

abbrev pub of_result : {A E : Type 0} → Result A E → Option A
of_result (Ok x) = Some x
of_result (Err e) = None

-- the path that a word spells
abbrev pub path_in : List ℕ → Option (List (List ℕ))
path_in word = of_result (path_of word)

-- the target of a symlink
abbrev pub unless_refused : {A E : Type 0} → Option E → A → Option A
unless_refused (Some why) x = None
unless_refused None x = Some x

abbrev pub target_in : List ℕ → Option (List ℕ)
target_in word = of_result (unescaped word) >>= λ bytes. unless_refused (target_refusal bytes) bytes

abbrev pub u32_in : List ℕ → Option ℕ
u32_in = number_of (2 ^ 32 - 1)

abbrev pub u64_in : List ℕ → Option ℕ
u64_in = number_of (2 ^ 64 - 1)

-- the word of an operation
abbrev pub verb_text : Verb → List ℕ
verb_text SessionOpen = codes "session-open"
verb_text SessionClose = codes "session-close"
verb_text Mkdir = codes "mkdir"
verb_text Create = codes "create"
verb_text Symlink = codes "symlink"
verb_text Link = codes "link"
verb_text Unlink = codes "unlink"
verb_text Rmdir = codes "rmdir"
verb_text Rename = codes "rename"
verb_text SetAttr = codes "setattr"
verb_text OpenFile = codes "open"
verb_text Release = codes "release"
verb_text Lookup = codes "lookup"
verb_text Readdir = codes "readdir"
verb_text Readlink = codes "readlink"

abbrev pub verbs : List Verb
verbs = SessionOpen ∷ SessionClose ∷ Mkdir ∷ Create ∷ Symlink ∷ Link ∷ Unlink ∷ Rmdir ∷ Rename ∷ SetAttr ∷ OpenFile ∷ Release ∷ Lookup ∷ Readdir ∷ Readlink ∷ []

abbrev pub verb_of : List ℕ → Option Verb
verb_of word = find (λ verb. same_bytes word (verb_text verb)) verbs

-- ---- what the words begin with, and the words behind it

abbrev pub with_op : {A : Type 0} → (A → Op) → Option (A × List (List ℕ)) → Option (Op × List (List ℕ))
with_op make read = read >>= λ x. Some (make x.0, x.1)

abbrev pub paths_of : List (List ℕ) → Option ((List (List ℕ) × List (List ℕ)) × List (List ℕ))
paths_of words = do
  from ← field path_in words
  to ← field path_in from.1
  Some ((from.0, to.0), to.1)

abbrev pub path_and_mode : List (List ℕ) → Option ((List (List ℕ) × ℕ) × List (List ℕ))
path_and_mode words = do
  path ← field path_in words
  mode ← field mode_of path.1
  Some ((path.0, mode.0), mode.1)

abbrev pub symlink_of : List (List ℕ) → Option (Op × List (List ℕ))
symlink_of words = do
  path ← field path_in words
  target ← field target_in path.1
  Some (op.Symlink path.0 target.0, target.1)

-- a size is below 2^62
abbrev pub settings_of : List (List ℕ) → Option (Op × List (List ℕ))
settings_of words = do
  both ← path_and_mode words
  uid ← field u32_in both.1
  gid ← field u32_in uid.1
  size ← field (number_of (2 ^ 62 - 1)) gid.1
  mtime ← field u64_in size.1
  Some (op.SetAttr both.0.0 both.0.1 uid.0 gid.0 size.0 mtime.0, mtime.1)

-- an operation, behind its word
abbrev pub op_behind : Verb → List (List ℕ) → Option (Op × List (List ℕ))
op_behind SessionOpen words = Some (op.SessionOpen, words)
op_behind SessionClose words = Some (op.SessionClose, words)
op_behind Mkdir words = with_op (λ x. op.Mkdir x.0 x.1) (path_and_mode words)
op_behind Create words = with_op (λ x. op.Create x.0 x.1) (path_and_mode words)
op_behind Symlink words = symlink_of words
op_behind Link words = with_op (λ x. op.Link x.0 x.1) (paths_of words)
op_behind Unlink words = with_op op.Unlink (field path_in words)
op_behind Rmdir words = with_op op.Rmdir (field path_in words)
op_behind Rename words = with_op (λ x. op.Rename x.0 x.1) (paths_of words)
op_behind SetAttr words = settings_of words
op_behind OpenFile words = with_op op.OpenFile (field path_in words)
op_behind Release words = with_op op.Release (field u64_in words)
op_behind Lookup words = with_op op.Lookup (field path_in words)
op_behind Readdir words = with_op op.Readdir (field path_in words)
op_behind Readlink words = with_op op.Readlink (field path_in words)

abbrev pub op_of : List (List ℕ) → Option (Op × List (List ℕ))
op_of words = do
  verb ← field verb_of words
  op_behind verb.0 verb.1

-- ---- requests

-- the request that the words begin with, from the client's number on, and the words behind it
abbrev pub request_of : List (List ℕ) → Option (ClientRequest × List (List ℕ))
request_of words = do
  client ← field u32_in words
  tid ← field u64_in client.1
  oldest ← field u64_in tid.1
  now ← field u64_in oldest.1
  op ← op_of now.1
  Some (record { client = client.0; tid = tid.0; oldest = oldest.0; now = now.0; op = op.0 }, op.1)
