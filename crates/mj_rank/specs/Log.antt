-- A rank's journal as a value: its journaler, without what is prepared for its next calls.
use Rattle.std.specs.Prelude.{ℕ, ◌+◌, Bool, true, false, ◌&&◌, List, [], ◌∷◌, Option, None, Some}
use Rattle.mj_entry.specs.Entry.{entry_length}
use Rattle.mj_journaler.specs.Journal.{Journal, end_of}
use Rattle.mj_journaler.specs.Calls.{appended, flush_of}
use Rattle.mj_journaler.specs.declared.sent.Sent.{Sent}
use Rattle.mj_journaler.specs.declared.sent.Offer.{Offer}
use Rattle.mj_journaler.specs.declared.sent.Offer.TheVariants.{Flush}
use Rattle.mj_texts.specs.declared.steps.Span.{Span}

-- neither the write that was given and is not sent, nor the room that was made
abbrev pub log_value : Journal → Journal
log_value j = record j { offer = None; room = 0 }

-- where the next entry ends
abbrev pub entry_end : Journal → List ℕ → ℕ
entry_end j payload = end_of j + entry_length payload

abbrev pub with_entry : Journal → List ℕ → Journal
with_entry j payload = log_value (appended payload j)

-- the positions that a write covers, which are none where there is no write
abbrev pub span_to : ℕ → Option Offer → Span
span_to from (Some (Flush to)) = record { from = from; to = to }
span_to from _ = record { from = from; to = from }

-- those of the next write
abbrev pub next_span : Journal → Span
next_span j = span_to j.flushed (flush_of j)

abbrev pub is_none : List Sent → Bool
is_none [] = true
is_none (w ∷ ws) = false

-- nothing was sent, or all that was is acknowledged
abbrev pub is_unsent : Journal → Bool
is_unsent j = is_none j.sent && is_none j.heads && is_none j.removals
