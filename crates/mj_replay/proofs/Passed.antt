-- A refusal that `?` passes on.
use Rattle.std.proofs.Common.{◌≡◌, Result, Ok, Err, ap}
use Rattle.std.specs.Result.{IsErrAnd}

pub is_passed : {X E : Type 0} (why : E) (r : Result X E) → IsErrAnd r (λ w. w ≡ why) → r ≡ Err why
is_passed why (Ok x) h = absurd h
is_passed why (Err w) h = ap Err h
