-- Why there is no blob.
use Rattle.std.specs.Prelude.{◌≡◌, ℕ, Result, Err}
use Rattle.mj_meta.specs.declared.MetaBlob.{MetaBlob}
use Rattle.mj_meta.specs.declared.reading.BlobRefusal.{BlobRefusal}
use Rattle.mj_meta.specs.declared.reading.BlobRefusal.TheVariants.{BlobBad, Memory}

-- no memory, or the offset at which reading stops
abbrev pub IsBlobRefusal : BlobRefusal → Result (MetaBlob × ℕ) ℕ → Type 0
IsBlobRefusal Memory read = Unit {0}
IsBlobRefusal (BlobBad at) read = read ≡ Err at
