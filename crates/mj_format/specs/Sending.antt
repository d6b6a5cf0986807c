-- What operations that are performed one after another make of a store, and those that make a formatted one.
use Rattle.std.specs.Prelude.{◌≡◌, ℕ, List, [], ◌∷◌, ◌++◌, Option}
use Rattle.std.specs.List.{AllByRecursion}
use Rattle.mj_base.specs.Reading.{eight}
use Rattle.mj_base.specs.ObjectName.{stray_ino, first_ino}
use Rattle.mj_base.specs.declared.object.ObjectName.{ObjectName}
use Rattle.mj_base.specs.declared.object.ObjectName.TheVariants.{File, InoTable, SessionMap}
use Rattle.mj_store.specs.declared.act.HeadAct.{HeadAct}
use Rattle.mj_store.specs.declared.act.HeadAct.TheVariants.{Leave, Put}
use Rattle.mj_store.specs.declared.act.ObjectAct.TheVariants.{Write, Keys}
use Rattle.mj_store.specs.declared.act.ObjectOp.{ObjectOp}
use Rattle.mj_store.specs.Object.{Contents, HasShortKeys, applied, put}
use Rattle.mj_store.specs.State.{StoreState, Quiet, contents}
use Rattle.mj_store.specs.Events.{Goes}
use Rattle.mj_layout.specs.Striping.{Striping}
use Rattle.mj_layout.specs.Header.{header_bytes}
use Rattle.mj_recovery.specs.Formatted.{formatted_header}
use Rattle.mj_format.specs.Formatting.{header_object}

-- each in its turn
abbrev pub after_ops : List ObjectOp → Contents → Contents
after_ops [] image = image
after_ops (op ∷ ops) image = after_ops ops (put image op.name (applied op.act (image op.name)))

-- they are applied, and nothing is pending or unreported
pub record PerformedAll (ops : List ObjectOp) (s t : StoreState) : Type 0 where
  pub held : (name : ObjectName) → contents t name ≡ after_ops ops (contents s) name
  pub quiet : Quiet t

abbrev pub HaveShortKeys : List ObjectOp → Type 0
HaveShortKeys ops = AllByRecursion (λ (op : ObjectOp). HasShortKeys op.act) ops

-- by events that submit these or the first of them
pub record GoesByFront (ops : List ObjectOp) (old new : Option StoreState) : Type 0 where
  pub front : List ObjectOp
  pub rest : List ObjectOp
  pub all : front ++ rest ≡ ops
  pub goes : Goes old front new

-- ---- the operations of a formatted store

-- an object gets a head, and no key changes
abbrev pub head_op : ObjectName → HeadAct → ObjectOp
head_op name head = record { name = name; act = Keys [] [] head }

-- the directories of the root and of stray, the inode table and the session table
abbrev pub table_ops : ℕ → List ObjectOp
table_ops rank =
    head_op (File 1 0) (Put (eight 1))
    ∷ head_op (File (stray_ino rank) 0) (Put (eight 1))
    ∷ head_op (InoTable rank) (Put (eight (first_ino rank)))
    ∷ head_op (SessionMap rank) Leave
    ∷ []

abbrev pub header_op : ℕ → Striping → ObjectOp
header_op rank layout = record { name = header_object rank; act = Write 0 (header_bytes (formatted_header layout)) }
