-- What a flush and a reap are answered, and what they do to the rank and to its store.
use Rattle.std.specs.Prelude.{◌≡◌, Option, None, Result, Ok, Err}
use Rattle.mj_store.specs.State.{StoreState}
use Rattle.mj_store.specs.Moves.{Reaps}
use Rattle.mj_rank.specs.declared.rank.Rank.{Rank}
use Rattle.mj_rank.specs.Refusals.{IsDownFor}
use Rattle.mj_rank.specs.Request.{value_of}
use Rattle.mj_rank.specs.Sending.{Flushes, Acknowledges, ack_of}
use Rattle.mj_texts.specs.declared.steps.Said.{Said}
use Rattle.mj_texts.specs.declared.steps.Said.TheVariants.{Flushed, Reaped}
use Rattle.mj_world.specs.declared.refusal.WorldRefusal.{WorldRefusal}
use Rattle.mj_world.specs.declared.refusal.WorldRefusal.TheVariants as refusal

-- the rank is as it was, but for its fault
abbrev pub Stands : {S : Type 0} → Rank S → Rank S → Type 0
Stands old new = value_of new ≡ record (value_of old) { fault = new.fault }

-- A write is sent where there is something to send, or the rank is down with its fault. Want of memory leaves it up.
abbrev pub IsFlushed : {S : Type 0} → (S → Option StoreState) → Rank S → Result Said WorldRefusal → Rank S → Type 0
IsFlushed state old (Ok (Flushed span)) new = (new.fault ≡ None) × Flushes state span old new
IsFlushed state old (Err (refusal.Rank e)) new = IsDownFor new.fault e × Stands old new
IsFlushed state old (Err refusal.Memory) new = (new.fault ≡ None) × Stands old new
IsFlushed state old result new = ⊥

-- What the store reports is acknowledged as done, or there is nothing to report, or the rank is down with its fault.
abbrev pub IsReaped : {S : Type 0} → (S → Option StoreState) → Rank S → Result Said WorldRefusal → Rank S → Type 0
IsReaped state old (Ok (Reaped reaped)) new = (new.fault ≡ None) × Acknowledges reaped old new × Reaps (ack_of reaped) (state old.store) (state new.store)
IsReaped state old (Err (refusal.Rank e)) new = IsDownFor new.fault e × Stands old new
IsReaped state old result new = ⊥
