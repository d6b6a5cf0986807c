-- What the entries of a chronicle weigh.
use Rattle.std.specs.Prelude.{ℕ, ◌+◌, ◌<◌, ◌≡◌, List, length, Option, None, Some}
use Rattle.std.specs.List.{sum_by}
use Rattle.mj_tree.specs.declared.request.ClientRequest.{ClientRequest}
use Rattle.mj_tree.specs.declared.request.Op.{Op}
use Rattle.mj_tree.specs.declared.request.Op.TheVariants.{SessionOpen, SessionClose, Mkdir, Create, Symlink, Link, Unlink, Rmdir, Rename, SetAttr, OpenFile, Release, Lookup, Readdir, Readlink}
use Rattle.mj_tree.specs.declared.request.Reply.{Reply}
use Rattle.mj_tree.specs.declared.request.Reply.TheVariants as reply
use Rattle.mj_machine.specs.declared.kept.ChronicleEntry.{ChronicleEntry}

abbrev pub names_bytes : List (List ℕ) → ℕ
names_bytes names = sum_by length names

-- the bytes of the names and targets that a client gives
abbrev pub op_bytes : Op → ℕ
op_bytes SessionOpen = 0
op_bytes SessionClose = 0
op_bytes (Mkdir path mode) = names_bytes path
op_bytes (Create path mode) = names_bytes path
op_bytes (Symlink path target) = names_bytes path + length target
op_bytes (Link from to) = names_bytes from + names_bytes to
op_bytes (Unlink path) = names_bytes path
op_bytes (Rmdir path) = names_bytes path
op_bytes (Rename from to) = names_bytes from + names_bytes to
op_bytes (SetAttr path mode uid gid size mtime) = names_bytes path
op_bytes (OpenFile path) = names_bytes path
op_bytes (Release ino) = 0
op_bytes (Lookup path) = names_bytes path
op_bytes (Readdir path) = names_bytes path
op_bytes (Readlink path) = names_bytes path

-- and of those that it is answered
abbrev pub reply_bytes : Reply → ℕ
reply_bytes (reply.Done ino) = 0
reply_bytes (reply.Error code) = 0
reply_bytes (reply.Found inode) = length inode.target
reply_bytes (reply.Names names) = names_bytes names
reply_bytes (reply.Link target) = length target

-- 64, and the bytes of all names and targets
abbrev pub weight : ClientRequest → Reply → ℕ
weight r x = 64 + op_bytes r.op + reply_bytes x

abbrev pub entry_weight : ChronicleEntry → ℕ
entry_weight e = weight e.request e.reply

abbrev pub total_weight : List ChronicleEntry → ℕ
total_weight es = sum_by entry_weight es

-- what is left of an allowance once so much is taken from it, or nothing where it is more
abbrev pub Leaves : ℕ → ℕ → Option ℕ → Type 0
Leaves left taken None = left < taken
Leaves left taken (Some rest) = rest + taken ≡ left
