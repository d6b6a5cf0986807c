-- Histories: events one after another, from a table with a tree on.
use Rattle.std.specs.Prelude.{◌≡◌, ℕ, List, [], ◌∷◌, map, filter_map, Option, Some, None}
use Rattle.std.specs.List.{flat_map}
use Rattle.mj_tree.specs.declared.request.ClientRequest.{ClientRequest}
use Rattle.mj_tree.specs.State.{PlainState}
use Rattle.mj_tree.specs.Answer.{after}
use Rattle.mj_cells.specs.declared.cell.CellWrite.{CellWrite}
use Rattle.mj_cells.specs.Table.{Table, overlay}
use Rattle.mj_event.specs.declared.Event.{Event}
use Rattle.mj_event.specs.Event.{IsEvent}
use Rattle.mj_event.specs.Writes.{writes_of}
use Rattle.mj_delta.specs.Steps.{GivesTree}

-- an event, and the request that it is of, if it is of one
abbrev pub Turn : Type 0
Turn = Event × Option ClientRequest

abbrev pub events : List Turn → List Event
events turns = map (λ (x : Turn). x.0) turns

abbrev pub requests : List Turn → List ClientRequest
requests turns = filter_map (λ (x : Turn). x.1) turns

abbrev pub all_writes : List Turn → List CellWrite
all_writes turns = flat_map (λ (x : Turn). writes_of x.0) turns

-- Each event that is of no request writes nothing, and each other one gives the tree after its request.
abbrev pub Carries : ℕ → Table → PlainState → List Turn → Type 0
Carries rank t s [] = Unit {0}
Carries rank t s ((e, None) ∷ turns) = (IsEvent e × (writes_of e ≡ [])) × Carries rank t s turns
Carries rank t s ((e, Some r) ∷ turns) = GivesTree rank t s r e × Carries rank (overlay t (writes_of e)) (after s r) turns
