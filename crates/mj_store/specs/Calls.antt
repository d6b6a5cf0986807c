-- One read, and one operation from its submission to its report.
use Rattle.std.specs.Prelude.{◌≡◌, ◌⊎◌, ℕ, ◌≤◌, Option, option_copied, List, [], ◌∷◌, length}
use Rattle.mj_base.specs.declared.object.ObjectName.{ObjectName}
use Rattle.mj_store.specs.declared.act.ObjectOp.{ObjectOp}
use Rattle.mj_store.specs.declared.answer.PerformRefusal.{PerformRefusal}
use Rattle.mj_store.specs.declared.answer.PerformRefusal.TheVariants as perform
use Rattle.mj_store.specs.declared.want.Want.{Want}
use Rattle.mj_store.specs.declared.want.Want.TheVariants as want
use Rattle.mj_store.specs.declared.want.Got.{Got}
use Rattle.mj_store.specs.declared.want.Got.TheVariants as got
use Rattle.mj_store.specs.Object.{applied, put}
use Rattle.mj_store.specs.State.{StoreState, Quiet, contents}
use Rattle.mj_store.specs.Events.{Goes}
use Rattle.mj_store.specs.Moves.{Moves, HasBytes, HasPage}
use Rattle.mj_store.specs.Pages.{IsPage}
use Rattle.mj_store.specs.Causes.{Listed, In, IsCounted}

-- ---- one read

-- a page has at least one pair
abbrev pub IsWant : Want → Type 0
IsWant (want.Read name from len) = Unit {0}
IsWant (want.Page name after most) = 1 ≤ most

-- what a store that tells its state answers
abbrev pub Fetches : Want → Got → Option StoreState → Option StoreState → Type 0
Fetches (want.Read name from len) (got.Bytes bytes) old new = Moves (HasBytes name from len bytes) [] old new
Fetches (want.Page name after most) (got.Keys page) old new = Moves (HasPage name (option_copied after) most page) [] old new
Fetches _ _ old new = ⊥

-- what every store answers
abbrev pub IsAnswer : Want → Got → Type 0
IsAnswer (want.Read name from len) (got.Bytes bytes) = length bytes ≤ len
IsAnswer (want.Page name after most) (got.Keys page) = IsPage (option_copied after) most page
IsAnswer _ _ = ⊥

-- ---- one operation

-- one act is applied, and nothing is pending or unreported
pub record Performed (op : ObjectOp) (s t : StoreState) : Type 0 where
  pub held : (name : ObjectName) → contents t name ≡ put (contents s) op.name (applied op.act (contents s op.name)) name
  pub quiet : Quiet t

-- A fault is counted. An operation that is waited for is listed.
abbrev pub RefusesPerform : ℕ → ℕ → List Listed → PerformRefusal → Type 0
RefusesPerform before now list (perform.Failed fault) = IsCounted before now fault
RefusesPerform before now list (perform.Waiting op) = (count : ℕ) × In (record { op = op; count = count }) list
RefusesPerform before now list perform.Memory = Unit {0}

-- by events that submit nothing, or the operation
abbrev pub GoesBy : ObjectOp → Option StoreState → Option StoreState → Type 0
GoesBy op old new = Goes old [] new ⊎ Goes old (op ∷ []) new
