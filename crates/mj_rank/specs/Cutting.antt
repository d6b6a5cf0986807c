-- Which objects of the journal a mount looks at, and what it cuts off above the tail.
use Rattle.std.specs.Prelude.{◌≡◌, ℕ, ◌+◌, ◌*◌, ◌<◌, ◌==◌, not, List, [], map, filter, Option, Some, None, unwrap_or}
use Rattle.mj_base.specs.declared.object.ObjectName.{ObjectName}
use Rattle.mj_store.specs.declared.act.ObjectOp.{ObjectOp}
use Rattle.mj_store.specs.State.{StoreState}
use Rattle.mj_store.specs.Moves.{Moves, HasSize}
use Rattle.mj_layout.specs.Striping.{Striping}
use Rattle.mj_layout.specs.Placing.{set_of}
use Rattle.mj_recovery.specs.Stream.{journal_object}
use Rattle.mj_recovery.specs.Orderly.{window_end}
use Rattle.mj_facts.specs.Calls.{cut_op}
use Rattle.mj_facts.specs.Ranks.{Cutting}
use Rattle.mj_journaler.specs.Cutting.{IsBelowTail, Truncates}
use Rattle.mj_rank.specs.declared.cutting.Cut.{Cut}

-- ---- the objects near the tail

-- the first object of the tail's set
abbrev pub near_from : Striping → ℕ → ℕ
near_from l tail = set_of l tail * l.sc

-- the first object behind the set of the last position that a write may have reached
abbrev pub near_end : Striping → ℕ → ℕ
near_end l tail = (set_of l (window_end l tail) + 1) * l.sc

-- ---- what is to be cut

-- an object of the journal is cut
pub record IsTruncation (rank index : ℕ) (op : ObjectOp) : Type 0 where
  pub len : ℕ
  pub is : op ≡ cut_op rank index len

-- ---- in a store that tells its state

-- An object was asked for its size, and no byte of it is at or above the tail.
pub record PassesOne (rank : ℕ) (l : Striping) (tail index : ℕ) (old new : Option StoreState) : Type 0 where
  pub size : Option ℕ
  pub asked : Moves (HasSize (journal_object rank index) size) [] old new
  pub below : IsBelowTail l tail index (unwrap_or size 0)

-- So it is with each object from one up to another, in their order.
pub data Passes (rank : ℕ) (l : Striping) (tail : ℕ) : ℕ → ℕ → Option StoreState → Option StoreState → Type 0 where
  Nothing : (at : ℕ) (told : Option StoreState) → Passes rank l tail at at told told
  More : (from to : ℕ) (old mid new : Option StoreState) → Passes rank l tail from to old mid → PassesOne rank l tail to mid new → Passes rank l tail from (to + 1) old new

-- An object was found that is to be cut, and those before it were passed.
pub record Finds (rank : ℕ) (l : Striping) (tail from end index : ℕ) (op : ObjectOp) (old new : Option StoreState) : Type 0 where
  pub within : index < end
  pub mid : Option StoreState
  pub passes : Passes rank l tail from index old mid
  pub size : Option ℕ
  pub asked : Moves (HasSize (journal_object rank index) size) [] mid new
  pub truncates : Truncates rank l tail index (unwrap_or size 0) op

-- The first object that is to be cut, or all up to the end were passed.
abbrev pub Looks : ℕ → Striping → ℕ → ℕ → ℕ → Option (ℕ × ObjectOp) → Option StoreState → Option StoreState → Type 0
Looks rank l tail from end None old new = Passes rank l tail from end old new
Looks rank l tail from end (Some found) old new = Finds rank l tail from end found.0 found.1 old new

-- ---- truncations that are on their way

abbrev pub cutting_of : Cut → Cutting
cutting_of c = record { op = c.op; index = c.index }

abbrev pub cuttings : List Cut → List Cutting
cuttings out = map cutting_of out

-- their numbers and objects
abbrev pub sent_cuts : ℕ → List Cut → List (ℕ × ObjectName)
sent_cuts rank out = map (λ (c : Cut). (c.op, journal_object rank c.index)) out

-- the others, when one is acknowledged
abbrev pub without_cut : ℕ → List Cut → List Cut
without_cut op out = filter (λ (c : Cut). not (c.op == op)) out
