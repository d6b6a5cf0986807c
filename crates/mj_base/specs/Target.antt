-- The target of a symlink.
use Rattle.std.specs.Prelude.{◌≡◌, ℕ, Bool, not, ◌==◌, nat_lt, List, length, position, if◌then◌else◌, Option, None, Some}
use Rattle.std.specs.List.{list_any}
use Rattle.mj_base.specs.declared.record.TargetRefusal.{TargetRefusal}
use Rattle.mj_base.specs.declared.record.TargetRefusal.TheVariants.{Empty, TooLong, BadByte, Memory}

abbrev pub has_no_zero : List ℕ → Bool
has_no_zero bytes = not (list_any (λ b. b == 0) bytes)

abbrev pub zero_refusal : Option ℕ → Option TargetRefusal
zero_refusal (Some at) = Some (BadByte at)
zero_refusal None = None

-- why bytes are no target: a symlink's has 1 to 4,095 bytes, none of them 0
abbrev pub target_refusal : List ℕ → Option TargetRefusal
target_refusal bytes = if length bytes == 0 then Some Empty else if nat_lt 4095 (length bytes) then Some (TooLong (length bytes)) else zero_refusal (position (λ b. b == 0) bytes)

-- a refusal of bytes: no memory, or why they are no target
abbrev pub IsTargetRefusal : TargetRefusal → List ℕ → Type 0
IsTargetRefusal Memory bytes = Unit {0}
IsTargetRefusal why bytes = target_refusal bytes ≡ Some why
