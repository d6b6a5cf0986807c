use Rattle.std.proofs.Common.{◌≡◌, arith, ap, ℕ, List, length, Ok}
use Rattle.mj_event.specs.EventReading.{event_at}
use Rattle.mj_event.proofs.EventBounded.{event_ends, event_stops}
use Rattle.mj_event.proofs.EventCodec.{event_codec}
use Rattle.mj_event.proofs.reading.event_read.Goals as goal

pub overflow_sub-result : goal.overflow_sub-result
overflow_sub-result c = let h = event_ends _ _ _ c.in-Ok-2.ensures in let same = ap (λ (bytes : List ℕ). length bytes) c.new-cursor.ensures in omega (arith, h, same)

pub overflow_sub-result-in-Err-Left : goal.overflow_sub-result-in-Err-Left
overflow_sub-result-in-Err-Left c = let h = event_stops _ _ (rw c.in-Err-Left.field-0-is at c.in-Err-Left.ensures) in let same = ap (λ (bytes : List ℕ). length bytes) c.new-cursor.ensures in omega (arith, h, same)

pub returns-in-Ok-clause-fits : goal.returns-in-Ok-clause-fits
returns-in-Ok-clause-fits c =
    let whole : event_at c.args.payload.now ≡ Ok (c.in-Ok.event, c.event_field.new.cursor) = rw c.new-cursor.ensures at c.in-Ok.ensures in
    (event_codec.takes _ _ _ (λ i. let h = c.type_inv.payload i in omega (arith, h)) whole).2
