-- After which answers a script goes on.
use Rattle.std.specs.Prelude.{Option, None, Some}
use Rattle.mj_texts.specs.declared.line.Line.{Line}
use Rattle.mj_texts.specs.declared.line.Line.TheVariants as line
use Rattle.mj_texts.specs.declared.answer.Answer.{Answer}
use Rattle.mj_texts.specs.declared.answer.Answer.TheVariants as answer
use Rattle.mj_app.specs.declared.status.Status.{Status}
use Rattle.mj_app.specs.declared.status.Status.TheVariants as status

abbrev pub IsStoreFault : Answer → Type 0
IsStoreFault (answer.StoreFault n) = Unit {0}
IsStoreFault _ = ⊥

abbrev pub IsDamage : Answer → Type 0
IsDamage (answer.Damaged d) = Unit {0}
IsDamage _ = ⊥

-- damage and a fault of the store end the script
abbrev pub IsLast : Answer → Type 0
IsLast (answer.Damaged d) = Unit {0}
IsLast (answer.StoreFault n) = Unit {0}
IsLast _ = ⊥

-- an empty line and a comment say nothing, and each other line has its answer
abbrev pub IsSilent : Line → Type 0
IsSilent line.Blank = Unit {0}
IsSilent _ = ⊥

-- only such a line is told nothing
abbrev pub IsTold : Line → Option Answer → Type 0
IsTold line None = IsSilent line
IsTold line (Some a) = Unit {0}

abbrev pub GoesOn : Line → Option Answer → Type 0
GoesOn line None = IsSilent line
GoesOn line (Some a) = IsLast a → ⊥

-- with which status an answer ends the script
abbrev pub last_status : Answer → Option Status
last_status (answer.Damaged d) = Some status.Damage
last_status (answer.StoreFault n) = Some status.Store
last_status _ = None
