-- What the journal of a store is read as, against what the definitions give.
use Rattle.std.specs.Prelude.{◌≡◌, ℕ, Result, Ok, Err}
use Rattle.mj_base.specs.declared.damage.Damage.{Damage}
use Rattle.mj_store.specs.Causes.{IsCounted}
use Rattle.mj_store.specs.declared.answer.ReadRefusal.{ReadRefusal}
use Rattle.mj_store.specs.declared.answer.ReadRefusal.TheVariants as read
use Rattle.mj_replay.specs.declared.refusal.JournalRefusal.{JournalRefusal}
use Rattle.mj_replay.specs.declared.refusal.JournalRefusal.TheVariants as refusal

-- what a refused read makes of the journal
abbrev pub of_read : ReadRefusal → JournalRefusal
of_read (read.Failed fault) = refusal.Store fault
of_read read.Memory = refusal.Memory

-- the damage, unless the store failed or memory ran out
abbrev pub Fails : {X : Type 0} → JournalRefusal → Result X Damage → Type 0
Fails (refusal.Damage d) r = r ≡ Err d
Fails (refusal.Store fault) r = Unit {0}
Fails refusal.Memory r = Unit {0}

-- the value, or a refusal
abbrev pub Gives : {X : Type 0} → Result X JournalRefusal → Result X Damage → Type 0
Gives (Ok x) r = r ≡ Ok x
Gives (Err why) r = Fails why r

-- over every store: a fault is counted
abbrev pub RefusesJournal : ℕ → ℕ → JournalRefusal → Type 0
RefusesJournal before now (refusal.Damage d) = Unit {0}
RefusesJournal before now (refusal.Store fault) = IsCounted before now fault
RefusesJournal before now refusal.Memory = Unit {0}

abbrev pub IsNoDamage : JournalRefusal → Type 0
IsNoDamage (refusal.Damage d) = ⊥
IsNoDamage _ = Unit {0}
