use Rattle.std.proofs.Common.{◌≢◌, ℕ, ◌<◌}
use Rattle.mj_base.specs.ObjectName.{object_text}
use Rattle.mj_base.specs.declared.object.ObjectName.TheVariants.{InoTable, SessionMap}
use Rattle.mj_base.proofs.object.ObjectName.table_named.Given as goal

abbrev pub invariant-loop-number : goal.invariant-loop-number
invariant-loop-number l = (rank : ℕ) → rank < l.number → (l.text ≢ object_text (InoTable rank)) × (l.text ≢ object_text (SessionMap rank))
