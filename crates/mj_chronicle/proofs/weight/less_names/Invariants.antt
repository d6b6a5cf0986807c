use Rattle.std.proofs.Common.{◌≡◌, ◌+◌, drop}
use Rattle.mj_chronicle.specs.Weight.{names_bytes}
use Rattle.mj_chronicle.proofs.weight.less_names.Given as goal

abbrev pub invariant-loop-name : goal.invariant-loop-name
invariant-loop-name l = l.rest + names_bytes l.names ≡ l.left + names_bytes (drop l.name-index l.names)
