use Rattle.std.proofs.Common.{ℕ, List, sym, ap, ◌∙◌}
use Rattle.mj_maps.specs.Map.{count, from_entries}
use Rattle.mj_maps.specs.Orders.{nat_cmp}
use Rattle.mj_index.specs.declared.known.Known.{Known}
use Rattle.mj_index.specs.Known.{keeps_entry}
use Rattle.mj_index.proofs.Altered.{count_no}
use Rattle.mj_index.proofs.known.KnownInodes.new.Goals as goal

pub invariant_of-result : goal.invariant_of-result
invariant_of-result c = sym (ap (λ (es : List (ℕ × Known)). count keeps_entry (from_entries {R = nat_cmp} es)) c.new.ensures.empty ∙ count_no)
