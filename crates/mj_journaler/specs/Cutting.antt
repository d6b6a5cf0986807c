-- What a mount cuts off of an object of the journal above the tail.
use Rattle.std.specs.Prelude.{◌≡◌, ℕ, ◌<◌, ◌≤◌}
use Rattle.mj_base.specs.ObjectName.{journal_ino}
use Rattle.mj_base.specs.declared.object.ObjectName.TheVariants.{File}
use Rattle.mj_layout.specs.Striping.{Striping}
use Rattle.mj_layout.specs.Place.{object_of, offset_of}
use Rattle.mj_layout.specs.Cutting.{IsCut}
use Rattle.mj_store.specs.declared.act.ObjectAct.TheVariants.{Truncate}
use Rattle.mj_store.specs.declared.act.ObjectOp.{ObjectOp}

-- no byte of an object of this size is at or above the tail
pub record IsBelowTail (l : Striping) (tail index size : ℕ) : Type 0 where
  pub len : ℕ
  pub cut : IsCut l index tail len
  pub none : (x : ℕ) → object_of l x ≡ index → tail ≤ x → size ≤ offset_of l x

-- an operation that cuts an object to the part that stands below the tail, where a byte of it is at or above that
pub record Truncates (rank : ℕ) (l : Striping) (tail index size : ℕ) (op : ObjectOp) : Type 0 where
  pub len : ℕ
  pub cut : IsCut l index tail len
  pub is : op ≡ record { name = File (journal_ino rank) index; act = Truncate len }
  pub byte : ℕ
  pub there : object_of l byte ≡ index
  pub above : tail ≤ byte
  pub held : offset_of l byte < size
