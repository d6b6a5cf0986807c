-- The stream of a journal that lies in an image.
use Rattle.std.specs.Prelude.{◌≡◌, ℕ, zero, suc, ◌+◌, ◌-◌, ◌^◌, ◌<◌, ◌≤◌, List, [], ◌∷◌, length, Option, None, Some, slice_get}
use Rattle.mj_base.specs.ObjectName.{journal_ino}
use Rattle.mj_base.specs.declared.object.ObjectName.{ObjectName}
use Rattle.mj_base.specs.declared.object.ObjectName.TheVariants.{File}
use Rattle.mj_store.specs.Object.{Content, Contents}
use Rattle.mj_layout.specs.Striping.{Striping}
use Rattle.mj_layout.specs.Place.{place}

-- the object of a rank's journal with this index
abbrev pub journal_object : ℕ → ℕ → ObjectName
journal_object rank index = File (journal_ino rank) index

-- the byte of an object at an offset, where there is one
abbrev pub byte_in : ℕ → Option Content → Option ℕ
byte_in offset None = None
byte_in offset (Some o) = slice_get o.bytes offset

module _ (image : Contents) (rank : ℕ) (layout : Striping) where
  -- the byte at a position of the stream, where its object has one
  unfoldable pub byte_at : ℕ → Option ℕ
  byte_at x = let spot = place layout x in byte_in spot.offset (image (journal_object rank spot.index))

  -- the bytes from a position on, at most n of them, up to the first that is missing
  unfoldable pub stream_of : ℕ → ℕ → List ℕ
  stream_of zero x = []
  stream_of (suc n) x = elim (byte_at x) [ None ↦ [] | Some b ↦ b ∷ stream_of n (x + 1) ]

  -- positions end at 2 ^ 62
  abbrev pub stream : ℕ → List ℕ
  stream x = stream_of (2 ^ 62 - x) x

  -- where the stream from a position on ends
  abbrev pub probed_end : ℕ → ℕ
  probed_end x = x + length (stream x)

  -- The end of the stream from x on is the least position at or above x that has no byte, and 2 ^ 62 where each has one.
  pub record IsEnd (x end : ℕ) : Type 0 where
    pub above : x ≤ end
    pub held_below : (y : ℕ) → x ≤ y → y < end → (b : ℕ) × (byte_at y ≡ Some b)
    pub missing_there : end < 2 ^ 62 → byte_at end ≡ None
    pub at_most : end ≤ 2 ^ 62
