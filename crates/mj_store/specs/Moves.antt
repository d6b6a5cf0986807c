-- What a call does to the state of a store that tells it: the store may first apply some fronts, and then the call's events happen.
use Rattle.std.specs.Prelude.{◌≡◌, ◌⊎◌, ℕ, true, false, Option, Some, None, option_map, List, [], ◌∷◌, length, take, drop}
use Rattle.std.specs.Option.{option_map_or}
use Rattle.mj_base.specs.declared.object.ObjectName.{ObjectName}
use Rattle.mj_store.specs.declared.act.ObjectAct.{ObjectAct}
use Rattle.mj_store.specs.declared.act.ObjectOp.{ObjectOp}
use Rattle.mj_store.specs.declared.answer.Ack.{Ack}
use Rattle.mj_store.specs.declared.answer.Page.{Page}
use Rattle.mj_store.specs.Object.{Content, Contents}
use Rattle.mj_store.specs.State.{StoreState, tried}
use Rattle.mj_store.specs.Events.{Event, Added, Tried, Failed, Reaped, Restarted, Possible, after_events}
use Rattle.mj_store.specs.Pages.{page_of}

abbrev pub fronts_applied : List ObjectName → StoreState → StoreState
fronts_applied [] s = s
fronts_applied (name ∷ names) s = fronts_applied names (tried name s)

-- no front changes anything: nothing is pending but in blocked objects
abbrev pub Still : StoreState → Type 0
Still s = (name : ObjectName) → tried name s ≡ s

-- Some fronts are applied. What the store then holds has P, and these events lead to the new state.
pub record Moved (P : StoreState → Type 0) (events : List Event) (s : StoreState) (new : Option StoreState) : Type 0 where
  pub fronts : List ObjectName
  pub found : P (fronts_applied fronts s)
  pub possible : Possible events (fronts_applied fronts s)
  pub leads : new ≡ Some (after_events events (fronts_applied fronts s))

-- so it is with a store that tells its state
abbrev pub Moves : (StoreState → Type 0) → List Event → Option StoreState → Option StoreState → Type 0
Moves P events old new = (s : StoreState) → old ≡ Some s → Moved P events s new

-- ---- what a call finds

abbrev pub Anything : StoreState → Type 0
Anything s = Unit {0}

abbrev pub HasNoneCompleted : StoreState → Type 0
HasNoneCompleted s = s.completed ≡ []

-- nothing is pending there, or the object is blocked
abbrev pub IsIdle : ObjectName → StoreState → Type 0
IsIdle name s = ((s.objects name).pending ≡ []) ⊎ ((s.objects name).blocked ≡ true)

-- the object's first pending operation has this number, and may be tried
pub record IsReady (name : ObjectName) (op : ℕ) (s : StoreState) : Type 0 where
  pub act : ObjectAct
  pub first : (s.objects name).pending ≡ record { op = op; act = act } ∷ drop 1 (s.objects name).pending
  pub free : (s.objects name).blocked ≡ false

-- the length of an object's bytes, none where it is absent
abbrev pub HasSize : ObjectName → Option ℕ → StoreState → Type 0
HasSize name size s = size ≡ option_map (λ (c : Content). length c.bytes) (s.objects name).held

-- the bytes from an offset on, at most len
abbrev pub bytes_from : ℕ → ℕ → Option Content → List ℕ
bytes_from from len held = option_map_or (λ (c : Content). take len (drop from c.bytes)) held []

abbrev pub HasBytes : ObjectName → ℕ → ℕ → List ℕ → StoreState → Type 0
HasBytes name from len bytes s = bytes ≡ bytes_from from len (s.objects name).held

abbrev pub HasPage : ObjectName → Option (List ℕ) → ℕ → Page → StoreState → Type 0
HasPage name after most page s = page ≡ page_of after most (s.objects name).held

-- ---- what a call does

abbrev pub Stays : Option StoreState → Option StoreState → Type 0
Stays = Moves Anything []

abbrev pub Submits : ObjectOp → ℕ → Option StoreState → Option StoreState → Type 0
Submits op number = Moves Anything (Added op number ∷ [])

abbrev pub Reaps : Option Ack → Option StoreState → Option StoreState → Type 0
Reaps None = Moves HasNoneCompleted []
Reaps (Some ack) = Moves Anything (Reaped ack ∷ [])

-- the first pending operation is tried, and is applied or fails
abbrev pub Steps : ObjectName → Option ℕ → Option StoreState → Option StoreState → Type 0
Steps name None old new = Moves (IsIdle name) [] old new
Steps name (Some op) old new = (s : StoreState) → old ≡ Some s → Moved (IsReady name op) (Tried name ∷ []) s new ⊎ Moved (IsReady name op) (Failed name ∷ []) s new

abbrev pub Restarts : Option StoreState → Option StoreState → Type 0
Restarts old new = (s : StoreState) → old ≡ Some s → (image : Contents) × Moved Anything (Restarted image ∷ []) s new
