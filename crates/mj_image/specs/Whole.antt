-- A whole image, read and written.
use Rattle.std.specs.Prelude.{◌≡◌, ℕ, ◌-◌, ◌^◌, ◌<◌, ◌==◌, min, nat_lt, if◌then◌else◌, List, length, take, drop, Result, Ok, Err}
use Rattle.mj_base.specs.InOrder.{same_bytes}
use Rattle.mj_store.specs.declared.held.HeldObject.{HeldObject}
use Rattle.mj_image.specs.declared.flaw.Flaw.{Flaw}
use Rattle.mj_image.specs.declared.flaw.Flaw.TheVariants as flaw
use Rattle.mj_image.specs.declared.refusal.ImageRefusal.{ImageRefusal}
use Rattle.mj_image.specs.declared.refusal.ImageRefusal.TheVariants.{BadMagic, TooLarge, Truncated, BadName, BadOrder, BadFlag, Trailing, Memory}
use Rattle.mj_image.specs.declared.refusal.ImageWriteRefusal.{ImageWriteRefusal}
use Rattle.mj_image.specs.declared.refusal.ImageWriteRefusal.TheVariants as write
use Rattle.mj_image.specs.Image.{magic, most_bytes}
use Rattle.mj_image.specs.Reading.{Reading, objects_at}

-- with offsets from the start of so many bytes
abbrev pub refusal_of : ℕ → Flaw → ImageRefusal
refusal_of len (flaw.Cut left) = Truncated (len - left)
refusal_of len (flaw.BadName left) = BadName (len - left)
refusal_of len (flaw.BadOrder left) = BadOrder (len - left)
refusal_of len (flaw.BadFlag left) = BadFlag (len - left)

-- no byte is left behind the objects
abbrev pub ended : ℕ → Reading (List HeldObject) → Result (List HeldObject) ImageRefusal
ended len (Ok x) = if length x.1 == 0 then Ok x.0 else Err (Trailing (len - length x.1))
ended len (Err why) = Err (refusal_of len why)

-- The objects of an image, or why it is none: the first of the refusals in their order.
unfoldable pub image_of : List ℕ → Result (List HeldObject) ImageRefusal
image_of bytes =
    if same_bytes (take 8 bytes) magic
    then (if nat_lt most_bytes (length bytes) then Err (TooLarge (length bytes)) else ended (length bytes) (objects_at (drop 8 bytes)))
    else Err BadMagic

-- no memory, or what reading says
abbrev pub IsImageRefusal : ImageRefusal → Result (List HeldObject) ImageRefusal → Type 0
IsImageRefusal Memory read = Unit {0}
IsImageRefusal why read = read ≡ Err why

-- No memory, or too many bytes. Their number stands still at the greatest u64.
abbrev pub IsWriteRefusal : ImageWriteRefusal → ℕ → Type 0
IsWriteRefusal write.Memory len = Unit {0}
IsWriteRefusal (write.TooLong n) len = (most_bytes < len) × (n ≡ min len (2 ^ 64 - 1))
