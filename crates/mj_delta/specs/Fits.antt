-- The requests that a client can send.
use Rattle.std.specs.Prelude.{ℕ, ◌<◌, ◌^◌, Bool, List, IsTrue}
use Rattle.std.specs.List.{list_all}
use Rattle.mj_base.specs.Name.{is_name}
use Rattle.mj_tree.specs.declared.request.ClientRequest.{ClientRequest}
use Rattle.mj_tree.specs.declared.request.Op.{Op}
use Rattle.mj_tree.specs.declared.request.Op.TheVariants.{Mkdir, Create, Symlink, Link, Unlink, Rmdir, Rename, SetAttr, OpenFile, Release, Lookup, Readdir, Readlink}
use Rattle.mj_tree.specs.Request.{IsRequest}

-- each is a name
abbrev pub are_names : List (List ℕ) → Bool
are_names path = list_all is_name path

-- its paths have names, and its numbers fit their types
abbrev pub OpFits : Op → Type 0
OpFits (Mkdir path mode) = IsTrue (are_names path)
OpFits (Create path mode) = IsTrue (are_names path)
OpFits (Symlink path target) = IsTrue (are_names path)
OpFits (Link from to) = IsTrue (are_names from) × IsTrue (are_names to)
OpFits (Unlink path) = IsTrue (are_names path)
OpFits (Rmdir path) = IsTrue (are_names path)
OpFits (Rename from to) = IsTrue (are_names from) × IsTrue (are_names to)
OpFits (SetAttr path mode uid gid size mtime) = IsTrue (are_names path) × (uid < 2 ^ 32) × (gid < 2 ^ 32) × (size < 2 ^ 64) × (mtime < 2 ^ 64)
OpFits (OpenFile path) = IsTrue (are_names path)
OpFits (Release i) = i < 2 ^ 64
OpFits (Lookup path) = IsTrue (are_names path)
OpFits (Readdir path) = IsTrue (are_names path)
OpFits (Readlink path) = IsTrue (are_names path)
OpFits _ = Unit {0}

pub record IsSent (r : ClientRequest) : Type 0 where
  pub request : IsRequest r
  pub client : r.client < 2 ^ 32
  pub tid : r.tid < 2 ^ 64
  pub oldest : r.oldest < 2 ^ 64
  pub now : r.now < 2 ^ 64
  pub op : OpFits r.op
