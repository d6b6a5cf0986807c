use Rattle.std.proofs.Common.{sym, ap, ◌∙◌}
use Rattle.std.specs.Option.{option_and_then}
use Rattle.mj_tables.specs.Slots.{there_in}
use Rattle.mj_tables.proofs.SlotHashes.{found_slot}
use Rattle.mj_tables.proofs.listing.there_at.Goals as goal

pub returns-in-Some : goal.returns-in-Some
returns-in-Some c = c.there.ensures ∙ ap (option_and_then there_in) (sym (found_slot c.args.slots.now.entries c.args.key.now _ c.in-Some.ensures.value))

pub returns-in-None : goal.returns-in-None
returns-in-None c = ap (option_and_then there_in) (sym (found_slot c.args.slots.now.entries c.args.key.now _ c.in-None.ensures.value))
