-- The limits that a request keeps.
use Rattle.std.specs.Prelude.{Bool, true, nat_le, IsTrue}
use Rattle.mj_base.specs.Record.{target_fits}
use Rattle.mj_base.specs.declared.record.Kind.TheVariants as kind
use Rattle.mj_tree.specs.declared.request.ClientRequest.{ClientRequest}
use Rattle.mj_tree.specs.declared.request.Op.{Op}
use Rattle.mj_tree.specs.declared.request.Op.TheVariants.{Mkdir, Create, Symlink, SetAttr}

-- a mode is at most octal 7777, and a target has 1 to 4,095 bytes, none of them 0
abbrev pub op_fits : Op → Bool
op_fits (Mkdir path mode) = nat_le mode 0o7777
op_fits (Create path mode) = nat_le mode 0o7777
op_fits (Symlink path target) = target_fits kind.Symlink target
op_fits (SetAttr path mode uid gid size mtime) = nat_le mode 0o7777
op_fits _ = true

abbrev pub IsRequest : ClientRequest → Type 0
IsRequest r = IsTrue (op_fits r.op)
