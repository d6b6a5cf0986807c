-- A rank as a value, and what a request makes of it.
use Rattle.std.specs.Prelude.{◌≡◌, ℕ, ◌+◌, ◌≤◌, nat_lt, List, [], ◌∷◌, ◌++◌, length, if◌then◌else◌, Option, None, Some}
use Rattle.std.specs.Option.{option_and_then}
use Rattle.mj_event.specs.declared.Event.{Event}
use Rattle.mj_entry.specs.Entry.{entry_length}
use Rattle.mj_event.specs.Event.{IsEvent, event_bytes}
use Rattle.mj_event.specs.Writes.{writes_of}
use Rattle.mj_tree.specs.declared.request.ClientRequest.{ClientRequest}
use Rattle.mj_tree.specs.declared.request.Reply.{Reply}
use Rattle.mj_tree.specs.declared.request.Reply.TheVariants.{Done}
use Rattle.mj_tree.specs.State.{PlainState}
use Rattle.mj_tree.specs.Answer.{answer, decision}
use Rattle.mj_machine.specs.declared.kept.ChronicleEntry.{ChronicleEntry}
use Rattle.mj_cache.specs.Cached.{CacheValue, early_table, early_tree, projected}
use Rattle.mj_cells.specs.Table.{overlay}
use Rattle.mj_judge.specs.Own.{own_damage}
use Rattle.mj_delta.specs.EventFor.{event_for}
use Rattle.mj_chronicle.specs.Room.{has_room}
use Rattle.mj_chronicle.specs.Ends.{last_end}
use Rattle.mj_texts.specs.declared.steps.Early.{Early}
use Rattle.mj_rank.specs.declared.refusal.Fault.{Fault}
use Rattle.mj_rank.specs.declared.rank.Rank.{Rank}
use Rattle.mj_rank.specs.declared.refusal.RankRefusal.{RankRefusal}
use Rattle.mj_rank.specs.declared.refusal.RankRefusal.TheVariants as refusal
use Rattle.mj_journaler.specs.declared.AppendRefusal.{AppendRefusal}
use Rattle.mj_journaler.specs.declared.AppendRefusal.TheVariants.{Full, Spent, Memory}
use Rattle.mj_journaler.specs.Journal.{Journal}
use Rattle.mj_rank.specs.Log.{log_value}
use Rattle.mj_rank.specs.Segment as segment
use Rattle.mj_rank.specs.Segment.{due_map, event_refusal, log_behind, events_after, map_length}
use Rattle.mj_rank.specs.declared.entries.Entries.{Entries}
use Rattle.mj_rank.specs.Entries.{map_of}

-- What is kept of a rank beside its store: its journal, its cells, what it answered, how many events the current segment has, if one
-- has begun, and the fault for which it is down.
pub record RankValue : Type 0 where
  pub number : ℕ
  pub epoch : ℕ
  pub log : Journal
  pub cache : CacheValue
  pub chronicle : List ChronicleEntry
  pub segment : Option ℕ
  pub fault : Option Fault

abbrev pub value_of : {S : Type 0} → Rank S → RankValue
value_of k = record { number = k.number; epoch = k.epoch; log = log_value k.log; cache = k.cache; chronicle = k.chronicle; segment = k.segment; fault = k.fault }

-- the tree of all accepted requests
abbrev pub tree_in : RankValue → PlainState
tree_in v = early_tree v.cache

-- ---- what a request is answered, and its event

abbrev pub reply_in : RankValue → ClientRequest → Reply
reply_in v r = answer (tree_in v) r

abbrev pub event_in : RankValue → ClientRequest → Option Event
event_in v r = event_for v.cache.rank (early_table v.cache) (tree_in v) r (decision (tree_in v) r)

-- ---- why it is refused

pub data Cause : Type 0 where
  IsDown : Fault → Cause
  IsSpent : ℕ → Cause
  IsFull : ℕ → Cause
  IsAtEnd : ℕ → Cause

-- want of memory is none
abbrev pub of_append : AppendRefusal → Option Cause
of_append (Full bytes) = Some (Cause.IsFull bytes)
of_append (Spent position) = Some (Cause.IsAtEnd position)
of_append Memory = None

-- the map that comes before the next event, where one does
abbrev pub map_in : RankValue → Option (List ℕ)
map_in v = due_map v.number v.segment

-- the event's entry does not fit, with the map before it
abbrev pub cause_of_event : RankValue → Option Event → Option Cause
cause_of_event v None = None
cause_of_event v (Some e) = option_and_then of_append (event_refusal (map_in v) v.log (event_bytes e))

abbrev pub cause_by : RankValue → ClientRequest → Option Fault → Option Cause
cause_by v r (Some fault) = Some (Cause.IsDown fault)
cause_by v r None = if has_room v.chronicle r (reply_in v r) then cause_of_event v (event_in v r) else Some (Cause.IsSpent (length v.chronicle))

-- the first cause that holds
abbrev pub cause_of : RankValue → ClientRequest → Option Cause
cause_of v r = cause_by v r v.fault

-- The refusal says the cause. Want of memory is free.
abbrev pub Says : RankRefusal → Option Cause → Type 0
Says (refusal.Down fault sealed) cause = cause ≡ Some (Cause.IsDown fault)
Says (refusal.MountSpent n sealed) cause = cause ≡ Some (Cause.IsSpent n)
Says (refusal.LogFull bytes sealed) cause = cause ≡ Some (Cause.IsFull bytes)
Says (refusal.PositionSpent position sealed) cause = cause ≡ Some (Cause.IsAtEnd position)
Says refusal.Memory cause = Unit {0}

-- ---- where its event ends

-- where it is not safe yet
abbrev pub unsafe_end : ℕ → ℕ → Option ℕ
unsafe_end safe end = if nat_lt safe end then Some end else None

-- a reply that was kept has the end of its old event
abbrev pub kept_end : RankValue → ClientRequest → Reply → Option ℕ
kept_end v r (Done i) = option_and_then (unsafe_end v.log.safe) (last_end r.client r.tid v.chronicle)
kept_end v r _ = None

abbrev pub event_end : RankValue → Event → ℕ
event_end v e = segment.event_end (map_in v) v.log (event_bytes e)

-- with this reply
abbrev pub end_by : RankValue → ClientRequest → Reply → Option Event → Option ℕ
end_by v r x None = kept_end v r x
end_by v r x (Some e) = Some (event_end v e)

abbrev pub end_in : RankValue → ClientRequest → Option ℕ
end_in v r = end_by v r (reply_in v r) (event_in v r)

-- ---- what it is answered

abbrev pub early_of : RankValue → ClientRequest → Early
early_of v r = record { reply = reply_in v r; ends_at = end_in v r; place = length v.chronicle }

-- ---- what it leaves

-- the chronicle has a request last, with this reply and end
abbrev pub answered : RankValue → ClientRequest → Reply → Option ℕ → RankValue
answered v r x ends = record v { chronicle = v.chronicle ++ record { request = r; reply = x; ends_at = ends } ∷ [] }

-- The journal has the event's entry, behind a map where one was due, and the cells are as after its writes.
abbrev pub with_event : RankValue → Event → RankValue
with_event v e = record v {
  log = log_behind (map_in v) v.log (event_bytes e);
  cache = projected (writes_of e) (event_end v e) v.cache;
  segment = Some (events_after v.segment);
}

abbrev pub journalled : RankValue → Option Event → RankValue
journalled v None = v
journalled v (Some e) = with_event v e

-- Where the request has an event the journal has it and the cells are as after it. The chronicle has the request with its reply.
abbrev pub after_request : RankValue → ClientRequest → RankValue
after_request v r = answered (journalled v (event_in v r)) r (reply_in v r) (end_in v r)

-- ---- an event that is journalled

-- These are the entries of the event, for which there is room. The event ends here, and with its writes the cells have a tree.
pub record JournalsEvent {S : Type 0} (k : Rank S) (entries : Entries) (e : Event) (ends : ℕ) : Type 0 where
  pub map : map_of entries.map ≡ map_in (value_of k)
  pub event : entries.event.items ≡ event_bytes e
  pub fits : event_refusal (map_in (value_of k)) k.log (event_bytes e) ≡ None
  pub room : map_length (map_in (value_of k)) + entry_length (event_bytes e) ≤ k.log.room
  pub end : ends ≡ event_end (value_of k) e
  pub grammar : IsEvent e
  pub undamaged : own_damage k.cache.rank (overlay (early_table k.cache) (writes_of e)) ≡ None
