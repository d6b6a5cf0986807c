-- What a sink takes of a text.
use Rattle.std.specs.Prelude.{◌≡◌, ◌⊎◌, ℕ, List, Option}
use Rattle.mj_base.specs.Counts.{Rose}
use Rattle.mj_base.specs.Sink.{then_taken, TakesFront}

-- what a sink has taken, where it tells that, and its count of faults
pub record SinkState : Type 0 where
  pub taken : Option (List ℕ)
  pub faults : ℕ

abbrev pub sink_state : {K : Type 0} → (K → Option (List ℕ)) → (K → ℕ) → K → SinkState
sink_state taken faults sink = record { taken = taken sink; faults = faults sink }

-- the sink took all of a text
abbrev pub TookAll : List ℕ → SinkState → SinkState → Type 0
TookAll text old new = new.taken ≡ then_taken text old.taken

-- it failed in a text, and took a front of it
pub record FailedIn (text : List ℕ) (old new : SinkState) : Type 0 where
  pub front : TakesFront text old.taken new.taken
  pub rose : Rose old.faults new.faults

-- it took nothing
abbrev pub TookNone : SinkState → SinkState → Type 0
TookNone old new = new.taken ≡ old.taken

abbrev pub TookOrFailed : List ℕ → SinkState → SinkState → Type 0
TookOrFailed text old new = TookAll text old new ⊎ FailedIn text old new
