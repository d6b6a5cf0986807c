-- What a call that formats does and says.
--     FormatsState   what is made of a store that tells its state
--     FormatWork     the restart, and what comes after it
--     FormatCall     by its code
-- Why it was not formatted is none where it was.
use Rattle.std.specs.Prelude.{◌≡◌, ◌⊎◌, ◌≤◌, ℕ, List, [], Option, Some, None, IfSome, Result, Ok, Err}
use Rattle.mj_store.specs.Object.{Content}
use Rattle.mj_store.specs.Causes.{Listed, IsCounted}
use Rattle.mj_store.specs.Events.{Tells}
use Rattle.mj_store.specs.Moves.{Stays}
use Rattle.mj_store.specs.State.{StoreState, Quiet, contents}
use Rattle.mj_store.specs.declared.answer.StoreFault.{StoreFault}
use Rattle.mj_layout.specs.Striping.{Striping}
use Rattle.mj_format.specs.Formatting.{IsFormatted, StopsWell, header_object}
use Rattle.mj_format.specs.Refusals.{RefusesFormat, IsFormattedOrFault}
use Rattle.mj_format.specs.declared.refusal.FormatRefusal.{FormatRefusal}
use Rattle.mj_format.specs.declared.refusal.FormatRefusal.TheVariants.{Formatted, Store, Waiting, Memory}
use Rattle.mj_app.specs.declared.status.Status.{Status}
use Rattle.mj_app.specs.declared.status.Status.TheVariants as status
use Rattle.mj_app.specs.Status.{code_of}
use Rattle.mj_app.specs.Say.{formatted_text, unformatted_text}
use Rattle.mj_model.specs.Took.{SinkState, TookAll, TookNone, FailedIn}
use Rattle.mj_app.specs.Worlds.{IsRestarted}

abbrev pub why_not : {T : Type 0} → Result T FormatRefusal → Option FormatRefusal
why_not (Ok done) = None
why_not (Err why) = Some why

-- What formatting made of a store in this state, with nothing pending: done where there is no journal of this rank, and refused
-- just where there is one, but for a fault; whatever a stop within it may leave lacks the header or is formatted.
pub record FormatsState (rank : ℕ) (layout : Striping) (s : StoreState) (old new : Option StoreState) (why : Option FormatRefusal) : Type 0 where
  pub done : why ≡ None → (contents s (header_object rank) ≡ None) × Tells new (IsFormatted rank layout (contents s))
  pub refused : why ≡ Some Formatted → (held : Content) × (contents s (header_object rank) ≡ Some held)
  pub there : (held : Content) → contents s (header_object rank) ≡ Some held → (new ≡ Some s) × ((e : FormatRefusal) × (why ≡ Some e) × IsFormattedOrFault e)
  pub stops : contents s (header_object rank) ≡ None → StopsWell rank layout (contents s) old new
  pub waits : (op : ℕ) → why ≡ Some (Waiting op) → ⊥

-- ---- by its status

abbrev pub format_status : Option FormatRefusal → Status
format_status None = status.Done
format_status (Some Formatted) = status.Refused
format_status (Some (Store fault)) = status.Store
format_status (Some (Waiting op)) = status.Store
format_status (Some Memory) = status.Memory

abbrev pub format_text : ℕ → Striping → Option FormatRefusal → List ℕ
format_text rank layout None = formatted_text rank layout
format_text rank layout (Some why) = unformatted_text why

-- another status stays where the sink fails in its text
abbrev pub cut_status : Status → Status
cut_status status.Done = status.Sink
cut_status s = s

-- Its text was printed, or the sink failed in it, or memory was wanted for it.
abbrev pub FormatEnds : ℕ → Striping → Option FormatRefusal → SinkState → SinkState → Status → Type 0
FormatEnds rank layout why old new s =
    ((s ≡ format_status why) × TookAll (format_text rank layout why) old new)
    ⊎ ((s ≡ cut_status (format_status why)) × FailedIn (format_text rank layout why) old new)
    ⊎ ((s ≡ status.Memory) × TookNone old new)

module _ {S : Type 0} (state : S → Option StoreState) (faults : S → ℕ) (unreported : S → List Listed) where
  -- the restart failed
  pub record RestartFailed (before after : S) (why : Option FormatRefusal) : Type 0 where
    pub fault : StoreFault
    pub is : why ≡ Some (Store fault)
    pub counted : IsCounted (faults before) (faults after) fault
    pub stays : Stays (state before) (state after)

  -- The store was restarted. Over every store a fault comes only where its count rose, and what is waited for is listed.
  pub record AfterRestart (rank : ℕ) (layout : Striping) (before after : S) (why : Option FormatRefusal) : Type 0 where
    pub store : S
    pub restarted : IsRestarted state faults unreported before store
    pub quiet : (s : StoreState) → state before ≡ Some s → Tells (state store) Quiet
    pub formats : (s : StoreState) → state store ≡ Some s → Quiet s → FormatsState rank layout s (state store) (state after) why
    pub none_listed : (s : StoreState) → state store ≡ Some s → Quiet s → why ≡ None → unreported after ≡ []
    pub cause : IfSome why (RefusesFormat (faults store) (faults after) (unreported after))
    pub later : faults store ≤ faults after

  abbrev pub FormatWork : ℕ → Striping → S → S → Option FormatRefusal → Type 0
  FormatWork rank layout before after why = AfterRestart rank layout before after why ⊎ RestartFailed before after why

  -- What a call that formats says: what was done, and by the code whether that was told.
  pub record FormatCall (rank : ℕ) (layout : Striping) (before after : S) (old new : SinkState) (code : ℕ) : Type 0 where
    pub why : Option FormatRefusal
    pub work : FormatWork rank layout before after why
    pub status : Status
    pub is : code ≡ code_of status
    pub ends : FormatEnds rank layout why old new status
