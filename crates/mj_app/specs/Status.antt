-- The codes with which a call ends.
use Rattle.std.specs.Prelude.{ℕ}
use Rattle.mj_app.specs.declared.status.Status.{Status}
use Rattle.mj_app.specs.declared.status.Status.TheVariants.{Done, Damage, Words, Refused, Memory, Store, Files, Grammar, Sink}

abbrev pub code_of : Status → ℕ
code_of Done = 0
code_of Damage = 1
code_of Words = 2
code_of Refused = 3
code_of Memory = 4
code_of Store = 5
code_of Files = 6
code_of Grammar = 7
code_of Sink = 8
