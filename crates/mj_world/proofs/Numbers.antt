-- The number of a mount and of a rank, which no call changes.
use Rattle.std.proofs.Common.{◌≡◌, Option, Some, None, refl, ap, ◌∙◌}
use Rattle.mj_event.specs.declared.Event.{Event}
use Rattle.mj_tree.specs.declared.request.ClientRequest.{ClientRequest}
use Rattle.mj_store.specs.State.{StoreState}
use Rattle.mj_texts.specs.declared.steps.Reaped.{Reaped}
use Rattle.mj_texts.specs.declared.steps.Reaped.TheVariants.{One, Nothing}
use Rattle.mj_texts.specs.declared.steps.Span.{Span}
use Rattle.mj_rank.specs.declared.mounting.Mounting.{Mounting}
use Rattle.mj_rank.specs.declared.rank.Rank.{Rank}
use Rattle.mj_rank.specs.Mounts.{KeepsFound, first_value}
use Rattle.mj_rank.specs.Request.{RankValue, value_of, event_in, journalled, after_request}
use Rattle.mj_rank.specs.Sending.{Sends, Flushes, Acknowledges}
use Rattle.mj_journaler.specs.Calls.{flush_of}
use Rattle.mj_journaler.specs.declared.sent.Offer.{Offer}

-- ---- of a rank

of_event : (v : RankValue) (o : Option Event) → (journalled v o).number ≡ v.number
of_event v None = refl
of_event v (Some e) = refl

-- equal values have the same number
pub number_is : {S : Type 0} (old new : Rank S) (v : RankValue) → value_of new ≡ v → v.number ≡ old.number → new.number ≡ old.number
number_is old new v e h = ap (λ (x : RankValue). x.number) e ∙ h

pub number_after : {S : Type 0} (old new : Rank S) (r : ClientRequest) → value_of new ≡ after_request (value_of old) r → new.number ≡ old.number
number_after old new r e = number_is old new (after_request (value_of old) r) e (of_event (value_of old) (event_in (value_of old) r))

sent_number : {S : Type 0} (state : S → Option StoreState) (write : Option Offer) (old new : Rank S) → Sends state write old new → new.number ≡ old.number
sent_number state None old new h = ap (λ (x : RankValue). x.number) h.0
sent_number state (Some write) old new h = ap (λ (x : RankValue). x.number) h.1

pub number_flushed : {S : Type 0} (state : S → Option StoreState) (span : Span) (old new : Rank S) → Flushes state span old new → new.number ≡ old.number
number_flushed state span old new h = sent_number state (flush_of (value_of old).log) old new h.1

pub number_reaped : {S : Type 0} (reaped : Reaped) (old new : Rank S) → Acknowledges reaped old new → new.number ≡ old.number
number_reaped (One op from to) old new h = ap (λ (x : RankValue). x.number) h.0
number_reaped Nothing old new h = ap (λ (x : RankValue). x.number) h

-- ---- of a mount

pub number_carried : {S : Type 0} (old new : Mounting S) (rank : Rank S) → KeepsFound old new → value_of rank ≡ first_value new → rank.number ≡ old.number
number_carried old new rank kept value = ap (λ (x : RankValue). x.number) value ∙ kept.number

-- but for its store it is the same
pub number_same : {S : Type 0} (old new : Mounting S) → new ≡ record old { store = new.store } → new.number ≡ old.number
number_same {S = S} old new e = ap (λ (x : Mounting S). x.number) e

pub number_value : {S : Type 0} (old new : Rank S) → value_of new ≡ value_of old → new.number ≡ old.number
number_value old new e = ap (λ (x : RankValue). x.number) e
