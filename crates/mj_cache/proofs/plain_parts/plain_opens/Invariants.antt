use Rattle.std.proofs.Common.{◌≡◌, ◌++◌, drop, map}
use Rattle.mj_tree.specs.Lists.{open_entries}
use Rattle.mj_cache.specs.PlainParts.{with_unit}
use Rattle.mj_cache.proofs.plain_parts.plain_opens.Given as goal

abbrev pub invariant-loop-place : goal.invariant-loop-place
invariant-loop-place l = open_entries l.found.items ++ map with_unit (drop l.place-index l.places) ≡ map with_unit l.places
