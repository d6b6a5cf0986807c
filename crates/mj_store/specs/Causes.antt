-- When a store's faults may be told, and what every store tells of its operations.
use Rattle.std.specs.Prelude.{◌≡◌, ◌⊎◌, ℕ, ◌≤◌, ◌<◌, ◌==◌, false, if◌then◌else◌, List, [], ◌∷◌, ◌++◌}
use Rattle.mj_base.specs.Counts.{Rose}
use Rattle.mj_store.specs.declared.act.ObjectOp.{ObjectOp}
use Rattle.mj_store.specs.declared.answer.Ack.{Ack}
use Rattle.mj_store.specs.declared.answer.StoreFault.{StoreFault}
use Rattle.mj_store.specs.declared.answer.SubmitRefusal.{SubmitRefusal}
use Rattle.mj_store.specs.declared.answer.SubmitRefusal.TheVariants as submit
use Rattle.mj_store.specs.declared.answer.ReadRefusal.{ReadRefusal}
use Rattle.mj_store.specs.declared.answer.ReadRefusal.TheVariants as read

-- ---- causes

-- A fault has the count after the call, which rose in it.
pub record IsCounted (before now : ℕ) (fault : StoreFault) : Type 0 where
  pub rose : Rose before now
  pub count : fault.faults ≡ now

-- want of memory hands the operation back
abbrev pub RefusesSubmit : ℕ → ℕ → ObjectOp → SubmitRefusal → Type 0
RefusesSubmit before now op (submit.Failed fault) = IsCounted before now fault
RefusesSubmit before now op (submit.Memory back) = back ≡ op

abbrev pub RefusesRead : ℕ → ℕ → ReadRefusal → Type 0
RefusesRead before now (read.Failed fault) = IsCounted before now fault
RefusesRead before now read.Memory = Unit {0}

-- ---- the operations that were submitted and are not reported

-- an operation, with the count of faults at its submission
pub record Listed : Type 0 where
  pub op : ℕ
  pub count : ℕ

abbrev pub In : {A : Type 0} → A → List A → Type 0
In x [] = ⊥
In x (y ∷ ys) = (y ≡ x) ⊎ In x ys

-- one more
abbrev pub with_listed : ℕ → ℕ → List Listed → List Listed
with_listed op count list = list ++ record { op = op; count = count } ∷ []

-- without the first of this number
abbrev pub unlisted : ℕ → List Listed → List Listed
unlisted op [] = []
unlisted op (l ∷ list) = if l.op == op then list else l ∷ unlisted op list

-- every number listed is below this
abbrev pub AllBelow : ℕ → List Listed → Type 0
AllBelow op list = (l : Listed) → In l list → l.op < op

-- A reported operation was listed, and is taken out. It is not done only where the count has risen since it was submitted.
pub record Reports (ack : Ack) (now : ℕ) (old new : List Listed) : Type 0 where
  pub count : ℕ
  pub was : In (record { op = ack.op; count = count }) old
  pub cause : ack.done ≡ false → Rose count now
  pub rest : new ≡ unlisted ack.op old

-- Since the count stood at base it has not fallen, and what is listed was submitted since.
pub record Counted (base faults : ℕ) (list : List Listed) : Type 0 where
  pub later : base ≤ faults
  pub since : (l : Listed) → In l list → base ≤ l.count
