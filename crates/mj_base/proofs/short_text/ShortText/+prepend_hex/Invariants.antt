use Rattle.std.proofs.Common.{◌+◌}
use Rattle.mj_base.proofs.short_text.ShortText.+prepend_hex.Given as goal

abbrev pub decreases-prepend_hex : goal.decreases-prepend_hex
decreases-prepend_hex l = l.number + l.least
