-- What calls that only look leave of a store.
use Rattle.std.specs.Prelude.{◌≡◌, ℕ, ◌≤◌, Option, List}
use Rattle.mj_store.specs.State.{StoreState}
use Rattle.mj_store.specs.Moves.{Stays}
use Rattle.mj_store.specs.Causes.{Listed}

-- the states, the operations that are not reported, and the counts of faults before and after
pub record Looks (old new : Option StoreState) (list list' : List Listed) (faults faults' : ℕ) : Type 0 where
  pub stays : Stays old new
  pub same_list : list' ≡ list
  pub later : faults ≤ faults'
