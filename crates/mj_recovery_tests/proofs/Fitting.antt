-- What is read of an object fits its key.
use Rattle.std.proofs.Common.{◌≡◌, ◌≢◌, ℕ, ◌<◌, List, Ok, ap}
use Rattle.mj_base.specs.Reading.{u64_at}
use Rattle.mj_base.specs.Record.{record_at, IsRecord}
use Rattle.mj_base.specs.declared.record.InodeRecord.{InodeRecord}
use Rattle.mj_base.proofs.Codec.{IsBytes, u64_codec}
use Rattle.mj_base.proofs.RecordCodec.{record_codec}
use Rattle.mj_cells.specs.declared.cell.CellKey.{CellKey}
use Rattle.mj_cells.specs.declared.cell.CellKey.TheVariants as key
use Rattle.mj_cells.specs.declared.cell.CellValue.{CellValue}
use Rattle.mj_cells.specs.declared.cell.CellValue.TheVariants as value
use Rattle.mj_cells.specs.Cell.{Fits}
use Rattle.mj_recovery_tests.specs.Values.{IsOfDentry, IsNumber, HasNumbers}

pub dentry_fits : (d : ℕ) (n : List ℕ) (v : CellValue) → IsOfDentry v → Fits (key.Dentry d n) v
dentry_fits d n (value.Full version r) h = h
dentry_fits d n (value.Remote version i kind) h = h
dentry_fits d n (value.Null version) h = tt
dentry_fits d n value.Gone h = tt
dentry_fits d n _ h = absurd h

pub number_fits : (k : CellKey) (v : CellValue) → HasNumbers k → IsNumber v → Fits k v
number_fits (key.DirHead d) (value.Number n) h i = tt
number_fits key.NextIno (value.Number n) h i = tt
number_fits (key.Session c) (value.Number n) h i = tt
number_fits (key.Done c t) (value.Number n) h i = tt
number_fits (key.Dentry d n) v h i = absurd h
number_fits (key.OpenOf c o) v h i = absurd h
number_fits _ _ h i = absurd i

-- the record behind a version
pub record_is : (bytes : List ℕ) (version : ℕ) (rest : List ℕ) (r : InodeRecord) (left : List ℕ) → IsBytes bytes → u64_at bytes ≡ Ok (version, rest) → record_at rest ≡ Ok (r, left) → IsRecord r
record_is bytes version rest r left fits e f = (record_codec.takes rest r left (u64_codec.takes bytes version rest fits e).1 f).2
