use Rattle.std.proofs.Common.{◌≡◌, ◌≤◌, length}
use Rattle.mj_base.specs.PathText.{onto, unescaped}
use Rattle.mj_base.proofs.escapes.unescape.Given as goal

abbrev pub invariant-loop-rest : goal.invariant-loop-rest
invariant-loop-rest l = record { shorter : length l.rest ≤ length l.text; same : unescaped l.text ≡ onto l.bytes.items (unescaped l.rest) }

abbrev pub decreases-loop-rest : goal.decreases-loop-rest
decreases-loop-rest l = length l.rest
