-- A store in memory, as its contracts see it.
use Rattle.std.specs.Prelude.{◌≡◌, ℕ, ◌^◌, ◌==◌, Bool, if◌then◌else◌, Result, Ok, Err, List, []}
use Rattle.mj_base.specs.FaultPlan.{PlanState, is_next_failing, after_call, after_fault, new_plan}
use Rattle.mj_store.specs.declared.held.HeldObject.{HeldObject}
use Rattle.mj_store.specs.declared.answer.SubmitRefusal.{SubmitRefusal}
use Rattle.mj_store.specs.declared.answer.SubmitRefusal.TheVariants as submit
use Rattle.mj_store.specs.declared.answer.ReadRefusal.{ReadRefusal}
use Rattle.mj_store.specs.declared.answer.ReadRefusal.TheVariants as read
use Rattle.mj_store.specs.State.{StoreState}
use Rattle.mj_store.specs.Causes.{Listed}
use Rattle.mj_memstore.specs.declared.memory.MemStore.{MemStore}
use Rattle.mj_memstore.specs.Memory.{state_of, list_of, held_objects}
use Rattle.mj_memstore.specs.Holding.{holding}

abbrev pub memory_state : MemStore → StoreState
memory_state m = state_of m.objects.entries m.completed.items m.last

abbrev pub memory_list : MemStore → List Listed
memory_list m = list_of m.listed.entries

-- its objects that are there, in the order of their names
abbrev pub memory_objects : MemStore → List HeldObject
memory_objects m = held_objects m.objects.entries

-- the calls that are to fail
abbrev pub memory_plan : MemStore → PlanState
memory_plan m = m.plan

-- no number is left
abbrev pub is_spent : MemStore → Bool
is_spent m = (memory_state m).next == 2 ^ 64

-- the faults and calls after a submission
abbrev pub plan_after_submit : MemStore → PlanState
plan_after_submit m = if is_next_failing (memory_plan m) then after_call (memory_plan m) else if is_spent m then after_fault (after_call (memory_plan m)) else after_call (memory_plan m)

abbrev pub IsSubmitFault : {T : Type 0} → Result T SubmitRefusal → Type 0
IsSubmitFault (Ok x) = ⊥
IsSubmitFault (Err (submit.Failed fault)) = Unit {0}
IsSubmitFault (Err (submit.Memory op)) = ⊥

abbrev pub IsReadFault : {T : Type 0} → Result T ReadRefusal → Type 0
IsReadFault (Ok x) = ⊥
IsReadFault (Err (read.Failed fault)) = Unit {0}
IsReadFault (Err read.Memory) = ⊥

-- It was asked nothing yet: it holds just these objects, and is to fail just these calls.
pub record IsNew (objects : List HeldObject) (calls : List ℕ) (m : MemStore) : Type 0 where
  pub state : memory_state m ≡ holding objects
  pub list : memory_list m ≡ []
  pub plan : memory_plan m ≡ new_plan calls
  pub held : memory_objects m ≡ objects
