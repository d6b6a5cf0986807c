-- What formatting says of the store that was restarted.
use Rattle.std.proofs.Common.{◌≡◌, ℕ, ◌≤◌, List, [], Option, Some, None, Result, Ok, Err, OnOk, IfErr, IfSome, IsErrOf, refl, ap}
use Rattle.mj_store.specs.Object.{Content}
use Rattle.mj_store.specs.Causes.{Listed}
use Rattle.mj_store.specs.Events.{Tells}
use Rattle.mj_store.specs.Moves.{Anything, Restarts}
use Rattle.mj_store.specs.State.{StoreState, Quiet, contents}
use Rattle.mj_store.proofs.Paths.{restarts_keeps}
use Rattle.mj_layout.specs.Striping.{Striping}
use Rattle.mj_format.specs.Formatting.{IsFormatted, StopsWell, header_object}
use Rattle.mj_format.specs.Refusals.{RefusesFormat, IsFormattedOrFault}
use Rattle.mj_format.specs.declared.refusal.FormatRefusal.{FormatRefusal}
use Rattle.mj_format.specs.declared.refusal.FormatRefusal.TheVariants.{Formatted, Waiting}
use Rattle.mj_app.specs.Formats.{FormatsState, AfterRestart, why_not}
use Rattle.mj_app.specs.Worlds.{IsRestarted}

-- a store that was restarted has nothing pending
pub restarts_quiet : {old new : Option StoreState} → Restarts old new → (s : StoreState) → old ≡ Some s → Tells new Quiet
restarts_quiet restarts s is = restarts_keeps Anything Quiet (λ name u h. tt) (λ image u possible h. record { pending = λ name. refl; free = λ name. refl; completed = refl }) restarts (record { now = s; is = is; holds = tt })

why_is : {T : Type 0} (result : Result T FormatRefusal) (why : FormatRefusal) → why_not result ≡ Some why → result ≡ Err why
why_is (Ok done) why e = absurd cc
why_is (Err other) why e = let same : other ≡ why = cc in ap Err same

when_done : {T : Type 0} (result : Result T FormatRefusal) (P : Type 0) → OnOk result P → why_not result ≡ None → P
when_done (Ok done) P h e = h
when_done (Err why) P h e = absurd cc

when_refused : {T : Type 0} (result : Result T FormatRefusal) (P : FormatRefusal → Type 0) → IfErr result P → IfSome (why_not result) P
when_refused (Ok done) P h = tt
when_refused (Err why) P h = h

module _ {S T : Type 0} (state : S → Option StoreState) (faults : S → ℕ) (unreported : S → List Listed) (rank : ℕ) (layout : Striping) (store after : S) (result : Result T FormatRefusal) where
  abbrev pub SaysThere : Type 0
  SaysThere = IfErr result (λ why. (s : StoreState) (held : Content) → state store ≡ Some s → Quiet s → contents s (header_object rank) ≡ Some held → IsFormattedOrFault why × (state after ≡ Some s) × (unreported after ≡ unreported store))

  there_is : (s : StoreState) (held : Content) → state store ≡ Some s → Quiet s → contents s (header_object rank) ≡ Some held
      → OnOk result ((u : StoreState) → state store ≡ Some u → Quiet u → contents u (header_object rank) ≡ None) → SaysThere → (state after ≡ Some s) × ((e : FormatRefusal) × (why_not result ≡ Some e) × IsFormattedOrFault e)
  there_is s held is quiet there absent says = by result absent says
    where
      by : (r : Result T FormatRefusal) → OnOk r ((u : StoreState) → state store ≡ Some u → Quiet u → contents u (header_object rank) ≡ None)
          → IfErr r (λ why. (u : StoreState) (c : Content) → state store ≡ Some u → Quiet u → contents u (header_object rank) ≡ Some c → IsFormattedOrFault why × (state after ≡ Some u) × (unreported after ≡ unreported store))
          → (state after ≡ Some s) × ((e : FormatRefusal) × (why_not r ≡ Some e) × IsFormattedOrFault e)
      by (Ok done) a h = absurd (let none = a s is quiet in cc)
      by (Err why) a h = let k = h s held is quiet there in (k.1, (why, refl, k.0))

  pub formats_restarted : (before : S) → IsRestarted state faults unreported before store
      → OnOk result ((s : StoreState) → state store ≡ Some s → Quiet s → Tells (state after) (IsFormatted rank layout (contents s)))
      → OnOk result ((s : StoreState) → state store ≡ Some s → Quiet s → unreported store ≡ [] → unreported after ≡ [])
      → OnOk result ((s : StoreState) → state store ≡ Some s → Quiet s → contents s (header_object rank) ≡ None)
      → ((s : StoreState) → IsErrOf result Formatted → state store ≡ Some s → Quiet s → (held : Content) × (contents s (header_object rank) ≡ Some held))
      → SaysThere
      → ((s : StoreState) → state store ≡ Some s → Quiet s → contents s (header_object rank) ≡ None → StopsWell rank layout (contents s) (state store) (state after))
      → ((number : ℕ) (s : StoreState) → IsErrOf result (Waiting number) → state store ≡ Some s → Quiet s → ⊥)
      → IfErr result (RefusesFormat (faults store) (faults after) (unreported after))
      → faults store ≤ faults after
      → AfterRestart state faults unreported rank layout before after (why_not result)
  formats_restarted before restarted ok listed absent refused there stops waiting cause later = record {
    store = store;
    restarted = restarted;
    quiet = λ s is. restarts_quiet restarted.told s is;
    formats = λ s is quiet. record {
      done = λ none. (when_done result _ absent none s is quiet, when_done result _ ok none s is quiet);
      refused = λ e. refused s (why_is result Formatted e) is quiet;
      there = λ held held_is. there_is s held is quiet held_is absent there;
      stops = stops s is quiet;
      waits = λ op e. waiting op s (why_is result (Waiting op) e) is quiet;
    };
    none_listed = λ s is quiet none. when_done result _ listed none s is quiet restarted.none;
    cause = when_refused result _ cause;
    later = later;
  }
