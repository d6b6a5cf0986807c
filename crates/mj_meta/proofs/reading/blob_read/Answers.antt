use Rattle.std.proofs.Common.{◌≡◌, arith, ap, ◌<◌, ℕ, ◌+◌, List, length, drop, Ok, slice_index}
use Rattle.std.proofs.lemmas.List.{get_or-drop}
use Rattle.mj_meta.specs.BlobReading.{blob_at}
use Rattle.mj_meta.proofs.BlobBounded.{blob_ends, blob_stops}
use Rattle.mj_meta.proofs.BlobCodec.{blob_codec}
use Rattle.mj_meta.proofs.reading.blob_read.Goals as goal

pub overflow_sub-result : goal.overflow_sub-result
overflow_sub-result c = let h = blob_ends _ _ _ c.in-Ok.ensures in let same = ap (λ (bytes : List ℕ). length bytes) c.new-cursor.ensures in omega (arith, h, same, c.from_offset.ensures.within)

pub overflow_sub-result-in-Err-Left : goal.overflow_sub-result-in-Err-Left
overflow_sub-result-in-Err-Left c = let h = blob_stops _ _ (rw c.in-Err-Left.field-0-is at c.in-Err-Left.ensures) in let same = ap (λ (bytes : List ℕ). length bytes) c.new-cursor.ensures in omega (arith, h, same, c.from_offset.ensures.within)

-- bytes behind an offset are bytes
behind_bytes : (n : ℕ) (bytes : List ℕ) → ((i : ℕ) → slice_index bytes i < 256) → (i : ℕ) → slice_index (drop n bytes) i < 256
behind_bytes n bytes h i = let same = get_or-drop n bytes i 0 in let below = h (n + i) in omega (arith, same, below)

pub returns-in-Ok-clause-fits : goal.returns-in-Ok-clause-fits
returns-in-Ok-clause-fits c =
    let whole : blob_at (drop c.args.from c.args.bytes.now) ≡ Ok (c.in-Ok.blob, c.blob_field.new.cursor) = rw c.from_offset.ensures.rest at (rw c.new-cursor.ensures at c.in-Ok.ensures) in
    (blob_codec.takes _ _ _ (behind_bytes c.args.from c.args.bytes.now (λ i. let h = c.type_inv.bytes i in omega (arith, h))) whole).2
