use Rattle.std.proofs.Common.{◌≡◌, ◌≤◌, ◌++◌, length, drop}
use Rattle.mj_base.proofs.short_text.ShortText.prepend_all.Given as goal

abbrev pub invariant-loop-left : goal.invariant-loop-left
invariant-loop-left l = record { within : l.left ≤ length l.bytes; so_far : l.self ≡ drop l.left l.bytes ++ l.fn.self }

abbrev pub decreases-loop-left : goal.decreases-loop-left
decreases-loop-left l = l.left
