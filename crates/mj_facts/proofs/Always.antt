-- What a store's events without a submission keep, whatever holds at each moment.
use Rattle.std.proofs.Common.{Option, List, [], ◌∷◌}
use Rattle.mj_base.specs.declared.object.ObjectName.{ObjectName}
use Rattle.mj_store.specs.Object.{Content}
use Rattle.mj_store.specs.State.{StoreState, Pending, tried, failed, reported}
use Rattle.mj_store.specs.Along.{Always, Numbers}
use Rattle.mj_store.specs.Moves.{fronts_applied}
use Rattle.mj_store.proofs.Always.{always_tried, always_failed, always_reported}
use Rattle.mj_store.proofs.Numbers.{numbers_tried, numbers_failed, numbers_reported}

-- a store's contents at each moment, and its numbers
pub record Holding (P : ObjectName → Option Content → List Pending → Type 0) (s : StoreState) : Type 0 where
  pub moments : Always P s
  pub numbers : Numbers s

pub holding_tried : (P : ObjectName → Option Content → List Pending → Type 0) (s : StoreState) (name : ObjectName) → Holding P s → Holding P (tried name s)
holding_tried P s name h = record { moments = always_tried P s name h.moments; numbers = numbers_tried s name h.numbers }

pub holding_failed : (P : ObjectName → Option Content → List Pending → Type 0) (s : StoreState) (name : ObjectName) → Holding P s → Holding P (failed name s)
holding_failed P s name h = record { moments = always_failed P s name h.moments; numbers = numbers_failed s name h.numbers }

pub holding_reported : (P : ObjectName → Option Content → List Pending → Type 0) (s : StoreState) → Holding P s → Holding P (reported s)
holding_reported P s h = record { moments = always_reported P s h.moments; numbers = numbers_reported s h.numbers }

pub holding_fronts : (P : ObjectName → Option Content → List Pending → Type 0) (names : List ObjectName) (s : StoreState) → Holding P s → Holding P (fronts_applied names s)
holding_fronts P [] s h = h
holding_fronts P (name ∷ names) s h = holding_fronts P names (tried name s) (holding_tried P s name h)
