-- What a function that may want memory gives, against an answer.
use Rattle.std.specs.Prelude.{◌≡◌, Result, Ok, Err, IsErr}
use Rattle.std.specs.declared.alloc.AllocError.{AllocError}
use Rattle.mj_tree.specs.declared.errno.Stop.{Stop}
use Rattle.mj_tree.specs.declared.errno.Stop.TheVariants.{Memory, Refused}
use Rattle.mj_tree.specs.declared.change.Decision.{Decision}
use Rattle.mj_tree.specs.Walk.{Answer}
use Rattle.mj_tree.specs.Answer.{refused}

abbrev pub Stops : {A : Type 0} → Stop → Answer A → Type 0
Stops Memory answer = Unit {0}
Stops (Refused code) answer = answer ≡ Err code

-- the answer, unless memory runs out
abbrev pub Gives : {A : Type 0} → Result A Stop → Answer A → Type 0
Gives (Ok x) answer = answer ≡ Ok x
Gives (Err e) answer = Stops e answer

-- a refusal is answered, and want of memory is not
abbrev pub IsStopAnswer : Stop → Result Decision AllocError → Type 0
IsStopAnswer Memory result = IsErr result
IsStopAnswer (Refused code) result = result ≡ Ok (refused code)
