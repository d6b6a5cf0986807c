-- What a rank's flush and reap do to it and to its store.
use Rattle.std.specs.Prelude.{◌≡◌, ℕ, true, Option, None, Some}
use Rattle.mj_store.specs.declared.answer.Ack.{Ack}
use Rattle.mj_store.specs.State.{StoreState}
use Rattle.mj_store.specs.Moves.{Submits}
use Rattle.mj_texts.specs.declared.steps.Span.{Span}
use Rattle.mj_texts.specs.declared.steps.Reaped.{Reaped}
use Rattle.mj_texts.specs.declared.steps.Reaped.TheVariants.{One, Nothing}
use Rattle.mj_rank.specs.declared.rank.Rank.{Rank}
use Rattle.mj_cache.specs.Cached.{made_safe}
use Rattle.mj_journaler.specs.Journal.{Journal}
use Rattle.mj_journaler.specs.Calls.{flush_of, offer_op, taken, acknowledged}
use Rattle.mj_journaler.specs.declared.sent.Offer.{Offer}
use Rattle.mj_rank.specs.Log.{next_span}
use Rattle.mj_rank.specs.Request.{RankValue, value_of}

-- ---- flush

abbrev pub with_log : RankValue → Journal → RankValue
with_log v l = record v { log = l }

-- Where there is no next write nothing is done. Else it was submitted, under a number of the store's.
abbrev pub Sends : {S : Type 0} → (S → Option StoreState) → Option Offer → Rank S → Rank S → Type 0
Sends state None old new = (value_of new ≡ value_of old) × (new.store ≡ old.store)
Sends state (Some write) old new = (op : ℕ) × (value_of new ≡ with_log (value_of old) (taken op write (value_of old).log))
    × Submits (offer_op (value_of old).log write) op (state old.store) (state new.store)

-- The next write is the journaler's, and its span is told.
abbrev pub Flushes : {S : Type 0} → (S → Option StoreState) → Span → Rank S → Rank S → Type 0
Flushes state span old new = (span ≡ next_span (value_of old).log) × Sends state (flush_of (value_of old).log) old new

-- ---- reap

abbrev pub ack_of : Reaped → Option Ack
ack_of (One op from to) = Some (record { op = op; done = true })
ack_of Nothing = None

-- the cells of what ends at or below the safe position are safe
abbrev pub after_ack : ℕ → RankValue → RankValue
after_ack op v = record v { log = acknowledged op v.log; cache = made_safe (acknowledged op v.log).safe v.cache }

-- the safe position is told before and after
abbrev pub Acknowledges : {S : Type 0} → Reaped → Rank S → Rank S → Type 0
Acknowledges (One op from to) old new = (value_of new ≡ after_ack op (value_of old)) × (from ≡ (value_of old).log.safe) × (to ≡ (value_of new).log.safe)
Acknowledges Nothing old new = value_of new ≡ value_of old
