use Rattle.std.proofs.Common.{◌≤◌, vec_len}
use Rattle.mj_base.specs.declared.limits.TheConstants.{MAX_FILE_BYTES}
use Rattle.mj_base.proofs.host.read_pieces.Given as goal

abbrev pub invariant-loop : goal.invariant-loop
invariant-loop g l = vec_len l.bytes ≤ MAX_FILE_BYTES
