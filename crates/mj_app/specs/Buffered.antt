-- What a sink is told through a buffer: what the sink has taken, and then what is held.
use Rattle.std.specs.Prelude.{◌≡◌, ℕ, ◌<◌, List, length, Option}
use Rattle.mj_base.specs.Sink.{then_taken}
use Rattle.mj_app.specs.declared.buffered.Buffered.{Buffered}

abbrev pub told_to : {K : Type 0} → (K → Option (List ℕ)) → Buffered K → Option (List ℕ)
told_to taken b = then_taken b.held.items (taken b.inner)

-- The sink has taken all that was told but some of the last bytes.
pub record MissesLast (told taken : Option (List ℕ)) : Type 0 where
  pub last : List ℕ
  pub some : 0 < length last
  pub missing : told ≡ then_taken last taken
