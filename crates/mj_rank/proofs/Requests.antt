-- What a request makes of a rank's value, put together.
use Rattle.std.proofs.Common.{◌≡◌, ℕ, ◌+◌, ◌≤◌, if◌then◌else◌, Bool, true, false, length, Option, Some, None, Result, Ok, Err, OnOk, refl, sym, ap, subst, ◌∙◌, arith}
use Rattle.std.specs.Prelude.{IfOk, IfErr}
use Rattle.std.specs.Option.{option_and_then}
use Rattle.mj_event.specs.declared.Event.{Event}
use Rattle.mj_event.specs.Event.{IsEvent, event_bytes}
use Rattle.mj_event.specs.Writes.{writes_of}
use Rattle.mj_entry.specs.Entry.{entry_length}
use Rattle.mj_tree.specs.declared.request.ClientRequest.{ClientRequest}
use Rattle.mj_tree.specs.declared.request.Reply.{Reply}
use Rattle.mj_cells.specs.Table.{overlay}
use Rattle.mj_cache.specs.Cached.{CacheValue, early_table}
use Rattle.mj_judge.specs.Own.{own_damage}
use Rattle.mj_chronicle.specs.Room.{has_room}
use Rattle.mj_journaler.specs.declared.AppendRefusal.{AppendRefusal}
use Rattle.mj_journaler.specs.Journal.{Journal}
use Rattle.mj_journaler.specs.Calls.{reserved}
use Rattle.mj_rank.specs.declared.entries.Entries.{Entries}
use Rattle.mj_rank.specs.declared.rank.Rank.{Rank}
use Rattle.mj_rank.specs.declared.refusal.RankRefusal.{RankRefusal}
use Rattle.mj_rank.specs.declared.refusal.RankRefusal.TheVariants as refusal
use Rattle.mj_rank.specs.Entries.{map_of}
use Rattle.mj_rank.specs.Refusals.{SaysOfAppend}
use Rattle.mj_rank.specs.Segment as segment
use Rattle.mj_rank.specs.Segment.{event_refusal, map_length}
use Rattle.mj_rank.specs.Request.{RankValue, value_of, Cause, Says, map_in, reply_in, event_in, cause_of, cause_by, cause_of_event, of_append, end_by, early_of, event_end, answered, with_event, journalled, after_request, JournalsEvent}
use Rattle.mj_rank.proofs.Journalling.{refusal_reserved, end_value}

-- ---- what is told, and what is left

pub early_is : (v : RankValue) (r : ClientRequest) (x : Reply) (o : Option Event) → x ≡ reply_in v r → o ≡ event_in v r → record { reply = x; ends_at = end_by v r x o; place = length v.chronicle } ≡ early_of v r
early_is v r x o is event = λ i. record { reply = is i; ends_at = end_by v r (is i) (event i); place = length v.chronicle }

pub after_is : (v : RankValue) (r : ClientRequest) (x : Reply) (o : Option Event) → x ≡ reply_in v r → o ≡ event_in v r → answered (journalled v o) r x (end_by v r x o) ≡ after_request v r
after_is v r x o is event = λ i. answered (journalled v (event i)) r (is i) (end_by v r (is i) (event i))

pub ok_along : {A E : Type 0} (result : Result A E) (a b : A) → a ≡ b → IfOk result (λ x. x ≡ a) → IfOk result (λ x. x ≡ b)
ok_along (Ok x) a b e h = h ∙ e
ok_along (Err x) a b e h = tt

pub on_ok : {A E P : Type 0} (result : Result A E) → P → OnOk result P
on_ok (Ok x) h = h
on_ok (Err x) h = tt

pub on_ok_along : {A E V : Type 0} (result : Result A E) (v a b : V) → a ≡ b → OnOk result (v ≡ a) → OnOk result (v ≡ b)
on_ok_along (Ok x) v a b e h = h ∙ e
on_ok_along (Err x) v a b e h = tt

-- ---- the causes of a refusal

module _ (v : RankValue) (r : ClientRequest) (x : Reply) (up : v.fault ≡ None) (is : x ≡ reply_in v r) where
  cause_roomy : (b : Bool) → has_room v.chronicle r x ≡ b → cause_of v r ≡ (if b then cause_of_event v (event_in v r) else Some (Cause.IsSpent (length v.chronicle)))
  cause_roomy b room =
      let answer_room : has_room v.chronicle r (reply_in v r) ≡ b = ap (has_room v.chronicle r) (sym is) ∙ room in
      ap (cause_by v r) up ∙ ap (λ c. if c then cause_of_event v (event_in v r) else Some (Cause.IsSpent (length v.chronicle))) answer_room

  pub cause_spent : has_room v.chronicle r x ≡ false → cause_of v r ≡ Some (Cause.IsSpent (length v.chronicle))
  cause_spent room = cause_roomy false room

  pub cause_up : (o : Option Event) → has_room v.chronicle r x ≡ true → o ≡ event_in v r → cause_of v r ≡ cause_of_event v o
  cause_up o room event = cause_roomy true room ∙ ap (cause_of_event v) (sym event)

none_admitted : (o : Option AppendRefusal) → o ≡ None → option_and_then of_append o ≡ None
none_admitted None is = refl
none_admitted (Some x) is = cc

-- an event whose entries fit is admitted, and one for which they do not is refused for that
pub admitted_as : {A E : Type 0} (result : Result A E) (cause : Option Cause) (o : Option AppendRefusal) → cause ≡ option_and_then of_append o → OnOk result (o ≡ None) → OnOk result (cause ≡ None)
admitted_as (Ok x) cause o is h = is ∙ none_admitted o h
admitted_as (Err e) cause o is h = tt

said : (e : RankRefusal) (o : Option AppendRefusal) → SaysOfAppend e o → Says e (option_and_then of_append o)
said (refusal.Down fault sealed) o h = absurd h
said (refusal.MountSpent n sealed) o h = absurd h
said (refusal.LogFull bytes sealed) o h = ap (option_and_then of_append) h
said (refusal.PositionSpent position sealed) o h = ap (option_and_then of_append) h
said refusal.Memory o h = tt

pub refused_as : {A : Type 0} (result : Result A RankRefusal) (cause : Option Cause) (o : Option AppendRefusal) → cause ≡ option_and_then of_append o → IfErr result (λ e. SaysOfAppend e o) → IfErr result (λ e. Says e cause)
refused_as (Ok x) cause o is h = tt
refused_as (Err e) cause o is h = subst (Says e) (sym is) (said e o h)

pub memory_says : {A : Type 0} (result : Result A RankRefusal) (cause : Option Cause) → IfErr result (λ e. e ≡ refusal.Memory) → IfErr result (λ e. Says e cause)
memory_says (Ok x) cause h = tt
memory_says (Err e) cause h = subst (λ (x : RankRefusal). Says x cause) (sym h) tt

-- ---- an event that is journalled

-- where its entries end
pub journalled_end : {S : Type 0} (old : Rank S) (entries : Entries) (e : Event) (ends : ℕ) → map_of entries.map ≡ map_in (value_of old) → entries.event.items ≡ event_bytes e
    → ends ≡ segment.event_end (map_of entries.map) old.log entries.event.items → ends ≡ event_end (value_of old) e
journalled_end old entries e ends map event end =
    end ∙ ((λ i. segment.event_end (map i) old.log (event i)) ∙ sym (end_value (map_in (value_of old)) old.log (event_bytes e)))

-- it comes to the same whether the chronicle has the request before or after
pub journalled_after : (v k w : RankValue) (r : ClientRequest) (x : Reply) (e : Event) (ends : ℕ) → k ≡ answered v r x (Some ends) → w ≡ with_event k e → ends ≡ event_end v e → w ≡ answered (with_event v e) r x (Some (event_end v e))
journalled_after v k w r x e ends is after end = after ∙ (ap (λ (u : RankValue). with_event u e) is ∙ ap (λ (n : ℕ). answered (with_event v e) r x (Some n)) end)

-- A rank whose journal has room, and whose chronicle has the request.
module _ {S : Type 0} (old k : Rank S) (entries : Entries) (e : Event) (r : ClientRequest) (x : Reply) (o : Option ℕ) (n ends : ℕ) (is : value_of k ≡ answered (value_of old) r x o) (log : k.log ≡ reserved n old.log)
    (map : map_of entries.map ≡ map_in (value_of old)) (event : entries.event.items ≡ event_bytes e) where
  at_map : map_of entries.map ≡ map_in (value_of k)
  at_map = subst (λ (v : RankValue). map_of entries.map ≡ map_in v) (sym is) map

  here_fits : event_refusal (map_of entries.map) old.log entries.event.items ≡ None → event_refusal (map_in (value_of k)) k.log (event_bytes e) ≡ None
  here_fits fits =
      ap (λ (j : Journal). event_refusal (map_in (value_of k)) j (event_bytes e)) log
      ∙ (refusal_reserved (map_in (value_of k)) n old.log (event_bytes e) ∙ ((λ i. event_refusal (sym at_map i) old.log (sym event i)) ∙ fits))

  here_room : n ≡ map_length (map_of entries.map) + entry_length entries.event.items → map_length (map_in (value_of k)) + entry_length (event_bytes e) ≤ k.log.room
  here_room size =
      let a : map_length (map_of entries.map) ≡ map_length (map_in (value_of k)) = ap map_length at_map in
      let b : entry_length entries.event.items ≡ entry_length (event_bytes e) = ap entry_length event in
      let c : k.log.room ≡ (reserved n old.log).room = ap (λ (j : Journal). j.room) log in
      omega (arith, a, b, c, size)

  here_end : ends ≡ segment.event_end (map_of entries.map) old.log entries.event.items → ends ≡ event_end (value_of k) e
  here_end end = journalled_end old entries e ends map event end ∙ subst (λ (v : RankValue). event_end (value_of old) e ≡ event_end v e) (sym is) refl

  pub journals : event_refusal (map_of entries.map) old.log entries.event.items ≡ None → n ≡ map_length (map_of entries.map) + entry_length entries.event.items
      → ends ≡ segment.event_end (map_of entries.map) old.log entries.event.items → IsEvent e → own_damage old.cache.rank (overlay (early_table old.cache) (writes_of e)) ≡ None → JournalsEvent k entries e ends
  journals fits size end grammar undamaged = record {
    map = at_map;
    event = event;
    fits = here_fits fits;
    room = here_room size;
    end = here_end end;
    grammar = grammar;
    undamaged = subst (λ (c : CacheValue). own_damage c.rank (overlay (early_table c) (writes_of e)) ≡ None) (sym (ap (λ (v : RankValue). v.cache) is)) undamaged;
  }
