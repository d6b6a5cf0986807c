-- A rank's journal as the history of a machine: which requests its events are of, and where their entries end.
use Rattle.std.specs.Prelude.{◌≡◌, ℕ, ◌+◌, ◌≤◌, List, [], ◌∷◌, ◌++◌, Some, None}
use Rattle.mj_tree.specs.State.{new_state}
use Rattle.mj_machine.specs.declared.kept.Kept.{Kept}
use Rattle.mj_machine.specs.Machine.{LogMachine}
use Rattle.mj_delta.specs.Histories.{Turn, events, Carries}
use Rattle.mj_delta.specs.Fresh.{fresh_table}
use Rattle.mj_facts.specs.Journalled.{Journalled, size_of, ends}

-- the requests of these turns, whose entries begin at a position, each with the end of its entry
abbrev pub members : ℕ → List Turn → List Kept
members at [] = []
members at ((e, None) ∷ turns) = members (at + size_of e) turns
members at ((e, Some r) ∷ turns) = record { request = r; ends = at + size_of e } ∷ members (at + size_of e) turns

-- where their entries end
abbrev pub turns_end : ℕ → List Turn → ℕ
turns_end at turns = ends at (events turns)

-- The journal's events carry the machine's requests, from a new rank on: those of the older ones are safe, those of the newer ones
-- are on the way.
pub record IsHistory (rank : ℕ) (j : Journalled) (older newer : List Turn) (m : LogMachine) : Type 0 where
  pub number : j.rank ≡ rank
  pub small : rank ≤ 15
  pub events : j.events ≡ events (older ++ newer)
  pub carries : Carries rank (fresh_table rank) (new_state rank) (older ++ newer)
  pub opening : m.opening ≡ new_state rank
  pub history : m.history ≡ members j.start older
  pub on_the_way : m.on_the_way ≡ members (turns_end j.start older) newer
