-- What the plans of the code stand for, and what a lump says of a planned dentry.
use Rattle.std.specs.Prelude.{ℕ, ◌==◌, List, [], ◌∷◌, Option, Some, None, option_map, if◌then◌else◌}
use Rattle.std.specs.BTreeMap.{BTreeMap}
use Rattle.mj_maps.specs.Map.{Map, insert, from_entries, collect}
use Rattle.mj_maps.specs.Orders.{nat_cmp, place_cmp}
use Rattle.mj_meta.specs.declared.HeadBit.{HeadBit}
use Rattle.mj_meta.specs.declared.FullBit.{FullBit}
use Rattle.mj_meta.specs.declared.RemoteBit.{RemoteBit}
use Rattle.mj_meta.specs.declared.NullBit.{NullBit}
use Rattle.mj_delta.specs.Plan.{Naming, Plan, Planned}
use Rattle.mj_delta.specs.Plan.Naming.{Full, Remote}
use Rattle.mj_plan.specs.declared.dentry_plans.Naming.{Naming as Said}
use Rattle.mj_plan.specs.declared.dentry_plans.Naming.TheVariants as code
use Rattle.mj_plan.specs.declared.dentry_plans.DentryPlan.{DentryPlan}

abbrev pub naming_of : Said → Naming
naming_of (code.Full r) = Full r
naming_of (code.Remote i kind) = Remote i kind

abbrev pub said : Option Said → Option Naming
said o = option_map naming_of o

abbrev pub planned : (ℕ × List ℕ) × Option Said → Planned
planned e = (e.0, said e.1)

abbrev pub dentry_said : ℕ × List ℕ → Option Said → Option (Option Naming)
dentry_said q o = Some (said o)

abbrev pub dentries_in : BTreeMap (ℕ × List ℕ) (Option Said) → Map place_cmp (Option Naming)
dentries_in m = collect dentry_said (from_entries m.entries)

abbrev pub plan_in : DentryPlan → Plan
plan_in plan = record { dentries = dentries_in plan.dentries; removed = plan.removed }

-- heads that are put in order, a later one over an earlier of its directory
abbrev pub onto : Map nat_cmp HeadBit → List (ℕ × HeadBit) → Map nat_cmp HeadBit
onto m [] = m
onto m (e ∷ es) = onto (insert m e.0 e.1) es

-- ---- what a lump says of a name in its directory

abbrev pub full_said : ℕ → List ℕ → Option Naming → Option FullBit
full_said version name (Some (Full r)) = Some (record { name = name; version = version; inode = r })
full_said version name _ = None

abbrev pub remote_said : ℕ → List ℕ → Option Naming → Option RemoteBit
remote_said version name (Some (Remote i kind)) = Some (record { name = name; version = version; ino = i; kind = kind })
remote_said version name _ = None

abbrev pub null_said : ℕ → List ℕ → Option Naming → Option NullBit
null_said version name None = Some (record { name = name; version = version })
null_said version name _ = None

-- and of a planned dentry, where it is of this directory
abbrev pub full_bit_at : ℕ → ℕ → Planned → Option FullBit
full_bit_at d version e = if e.0.0 == d then full_said version e.0.1 e.1 else None

abbrev pub remote_bit_at : ℕ → ℕ → Planned → Option RemoteBit
remote_bit_at d version e = if e.0.0 == d then remote_said version e.0.1 e.1 else None

abbrev pub null_bit_at : ℕ → ℕ → Planned → Option NullBit
null_bit_at d version e = if e.0.0 == d then null_said version e.0.1 e.1 else None
