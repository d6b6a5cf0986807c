-- The calls that are to fail.
use Rattle.std.specs.Prelude.{ℕ, ◌+◌, ◌-◌, ◌^◌, nat_lt, Bool, ◌&&◌, List, ◌==◌, if◌then◌else◌}
use Rattle.std.specs.List.{list_any}

-- the numbers of the calls that are to fail, counted from 1; how many calls were made, and how many of them failed
pub record PlanState : Type 0 where
  pub failing : List ℕ
  pub calls : ℕ
  pub faults : ℕ

-- one more, in a count that stands still at the greatest u64
abbrev pub one_more : ℕ → ℕ
one_more count = if nat_lt count (2 ^ 64 - 1) then count + 1 else count

-- whether the next call is to fail; past the greatest u64 none is
abbrev pub is_next_failing : PlanState → Bool
is_next_failing plan = nat_lt plan.calls (2 ^ 64 - 1) && list_any (λ number. number == plan.calls + 1) plan.failing

-- with that call counted, and its fault
abbrev pub after_call : PlanState → PlanState
after_call plan = record {
  failing = plan.failing;
  calls = one_more plan.calls;
  faults = if is_next_failing plan then one_more plan.faults else plan.faults;
}

abbrev pub after_fault : PlanState → PlanState
after_fault plan = record plan { faults = one_more plan.faults }

-- no call was made yet
abbrev pub new_plan : List ℕ → PlanState
new_plan failing = record { failing = failing; calls = 0; faults = 0 }
