-- What files and a sink in memory hold.
use Rattle.std.specs.Prelude.{ℕ, ◌-◌, List, option_map, Vec, String, vec_len, vec_capacity}
use Rattle.std.specs.BTreeMap.{BTreeMap, get_by_text}
use Rattle.std.specs.declared.alloc.Global.{Global}
use Rattle.mj_base.specs.Files.{FilesByName}
use Rattle.mj_base.specs.FaultPlan.{PlanState}
use Rattle.mj_base.specs.declared.memory.MemFiles.{MemFiles}
use Rattle.mj_base.specs.declared.memory.MemSink.{MemSink}

-- the files that a map by name holds
abbrev pub files_in : BTreeMap (String Global) (Vec ℕ Global) → FilesByName
files_in map name = option_map (λ (held : Vec ℕ Global). held.items) (get_by_text map name)

abbrev pub files_of : MemFiles → FilesByName
files_of m = files_in m.files

abbrev pub files_plan : MemFiles → PlanState
files_plan m = m.plan

abbrev pub taken_by : MemSink → List ℕ
taken_by s = s.taken.items

abbrev pub sink_plan : MemSink → PlanState
sink_plan s = s.plan

-- how many bytes more it can take without taking memory
abbrev pub room_of : MemSink → ℕ
room_of s = vec_capacity s.taken - vec_len s.taken
