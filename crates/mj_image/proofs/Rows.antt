-- Images computed.
use Rattle.std.specs.Prelude.{◌≡◌, [], ◌∷◌, refl, Ok, Err, ◌++◌}
use Rattle.mj_image.specs.declared.refusal.ImageRefusal.TheVariants.{BadMagic, Truncated, Trailing}
use Rattle.mj_image.specs.Reading.{objects_at, object_at, name_at}
use Rattle.mj_image.specs.Image.{magic, image_bytes}
use Rattle.mj_image.specs.Whole.{image_of}

empty_is : image_of (magic ++ 0 ∷ 0 ∷ 0 ∷ 0 ∷ []) ≡ Ok []
unfolding image_of objects_at
empty_is = refl

empty_spelled : image_bytes [] ≡ 0x4d ∷ 0x4a ∷ 0x49 ∷ 0x4d ∷ 0x47 ∷ 0x30 ∷ 0x30 ∷ 0x31 ∷ 0 ∷ 0 ∷ 0 ∷ 0 ∷ []
empty_spelled = refl

cut_count : image_of (magic ++ 0 ∷ 0 ∷ 0 ∷ []) ≡ Err (Truncated 8)
unfolding image_of objects_at
cut_count = refl

no_magic : image_of (0 ∷ []) ≡ Err BadMagic
unfolding image_of
no_magic = refl

-- one object is promised and none is there
promised : image_of (magic ++ 1 ∷ 0 ∷ 0 ∷ 0 ∷ []) ≡ Err (Truncated 12)
unfolding image_of objects_at object_at name_at
promised = refl

-- a byte too many
behind : image_of (magic ++ 0 ∷ 0 ∷ 0 ∷ 0 ∷ 7 ∷ []) ≡ Err (Trailing 12)
unfolding image_of objects_at
behind = refl
