-- What holds of objects at each moment, and what numbers of operations are good for.
use Rattle.std.specs.Prelude.{◌≡◌, ◌⊎◌, ℕ, ◌<◌, true, Option, List, [], ◌∷◌}
use Rattle.mj_base.specs.declared.object.ObjectName.{ObjectName}
use Rattle.mj_store.specs.declared.answer.Ack.{Ack}
use Rattle.mj_store.specs.Object.{Content, applied}
use Rattle.mj_store.specs.State.{StoreState, Pending}
use Rattle.mj_store.specs.Causes.{In}

-- An object at each moment: P of what it holds and of what is still pending, now and after each of the pending operations.
abbrev pub Along : (Option Content → List Pending → Type 0) → Option Content → List Pending → Type 0
Along P held [] = P held []
Along P held (p ∷ ps) = P held (p ∷ ps) × Along P (applied p.act held) ps

-- each object at each moment
abbrev pub Always : (ObjectName → Option Content → List Pending → Type 0) → StoreState → Type 0
Always P s = (name : ObjectName) → Along (P name) (s.objects name).held (s.objects name).pending

-- an operation of this number is among these
abbrev pub HasOp : ℕ → List Pending → Type 0
HasOp op [] = ⊥
HasOp op (p ∷ ps) = (p.op ≡ op) ⊎ HasOp op ps

-- each number but once
abbrev pub Once : List Pending → Type 0
Once [] = Unit {0}
Once (p ∷ ps) = (HasOp p.op ps → ⊥) × Once ps

-- Numbers are below the next one, and each is pending once, at one object. What is acknowledged as done is pending nowhere.
pub record Numbers (s : StoreState) : Type 0 where
  pub fresh : (name : ObjectName) (op : ℕ) → HasOp op (s.objects name).pending → op < s.next
  pub old : (a : Ack) → In a s.completed → a.op < s.next
  pub done : (a : Ack) → In a s.completed → a.done ≡ true → (name : ObjectName) → HasOp a.op (s.objects name).pending → ⊥
  pub home : (m n : ObjectName) (op : ℕ) → HasOp op (s.objects m).pending → HasOp op (s.objects n).pending → m ≡ n
  pub once : (name : ObjectName) → Once (s.objects name).pending
