-- Tests that hold, and both parts of one.
use Rattle.std.proofs.Common.{Bool, true, false, ◌&&◌, T, refl}
use Rattle.std.specs.Prelude.{IsTrue}

pub true_from : (b : Bool) → T b → IsTrue b
true_from true h = refl
true_from false h = absurd h

pub from_true : (b : Bool) → IsTrue b → T b
from_true true e = tt
from_true false e = absurd cc

pub first : (a b : Bool) → IsTrue (a && b) → IsTrue a
first true b e = refl
first false b e = absurd cc

pub second : (a b : Bool) → IsTrue (a && b) → IsTrue b
second true b e = e
second false b e = absurd cc
