-- Why bytes begin with no record.
use Rattle.std.specs.Prelude.{◌≡◌, ℕ, ◌-◌, ◌≤◌, List, length, Err}
use Rattle.mj_base.specs.Record.{record_at}
use Rattle.mj_base.specs.declared.record_grammar.RecordRefusal.{RecordRefusal}
use Rattle.mj_base.specs.declared.record_grammar.RecordRefusal.TheVariants.{RecordBad, Memory}

-- no memory, or the offset of the first wrong field, behind which so many bytes are left
abbrev pub IsRecordRefusal : RecordRefusal → List ℕ → Type 0
IsRecordRefusal Memory bytes = Unit {0}
IsRecordRefusal (RecordBad at) bytes = (at ≤ length bytes) × (record_at bytes ≡ Err (length bytes - at))
