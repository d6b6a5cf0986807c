use Rattle.std.proofs.Common.{not, sym, ap, ◌∙◌}
use Rattle.std.specs.Prelude.{is_some}
use Rattle.mj_tables.specs.Slots.{slots_of}
use Rattle.mj_tables.proofs.Writes.{some_map}
use Rattle.mj_tables.proofs.KeySets.{absent_goes, there_stays}
use Rattle.mj_tables.proofs.listing.drop_absent_key.Goals as goal

pub returns-then-is_none : goal.returns-then-is_none
returns-then-is_none c =
    absent_goes (slots_of c.args.slots.now) c.args.there.now c.args.key.now c.remove.new.self
    (sym (ap is_some c.there_at.ensures) ∙ some_map _ c.there_at.result ∙ c.is_none.ensures ∙ ap not c.if-is_none.true)
    c.remove.ensures

pub returns-else-is_none : goal.returns-else-is_none
returns-else-is_none c =
    there_stays (slots_of c.args.slots.now) c.args.there.now c.args.key.now
    (sym (ap is_some c.there_at.ensures) ∙ some_map _ c.there_at.result ∙ c.is_none.ensures ∙ ap not c.if-is_none.false)
