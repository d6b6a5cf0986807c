-- A mount sends its headers, takes their acknowledgements, and becomes a rank that serves.
use Rattle.std.proofs.Common.{◌≡◌, inl, inr, ℕ, ◌+◌, ◌-◌, ◌^◌, ◌<◌, ◌≤◌, true, false, List, [], ◌∷◌, ◌++◌, length, drop, Some, None, refl, sym, ap, subst, ◌∙◌, arith}
use Rattle.std.proofs.lemmas.List.{append-nil}
use Rattle.std.specs.Prelude.{nat_lt, is_none, if◌then◌else◌}
use Rattle.std.proofs.lemmas.Bool.{cond_both, ltb-true}
use Rattle.std.proofs.Math.Seq.{drop-append_seam}
use Rattle.mj_tree.specs.State.{new_state}
use Rattle.mj_store.specs.State.{StoreState, submitted}
use Rattle.mj_store.specs.Causes.{In}
use Rattle.mj_layout.specs.declared.Header.{Header}
use Rattle.mj_layout.specs.declared.Phase.{Phase}
use Rattle.mj_cells.specs.Table.{overlay}
use Rattle.mj_entry.specs.Entry.{entry_bytes, entry_length}
use Rattle.mj_event.specs.declared.Event.{Event}
use Rattle.mj_event.specs.Event.{event_bytes}
use Rattle.mj_cache.specs.Cached.{early_table}
use Rattle.mj_machine.specs.Machine.{LogMachine}
use Rattle.mj_delta.specs.Histories.{Turn, events, all_writes, Carries}
use Rattle.mj_delta.specs.Fresh.{fresh_table}
use Rattle.mj_delta.proofs.Fronts.{carries_on, writes-append}
use Rattle.mj_facts.specs.Journalled.{Journalled, IsCarried, entry_of, size_of, end_of}
use Rattle.mj_facts.specs.Headers.{HeadSent, may_stand, newest, IsBounded}
use Rattle.mj_facts.specs.Ranks as facts
use Rattle.mj_facts.specs.Ranks.{safe_of, tail_of}
use Rattle.mj_facts.specs.Mounts.{Mounts, MountInOrder, serving}
use Rattle.mj_facts.specs.Serves.{Serves}
use Rattle.mj_facts.specs.Calls as calls
use Rattle.mj_facts.specs.Calls.{appended, wanted_more, with_event, IsBuffer, MayAppend, entry_ends, MaySendHeader, mount_headed, with_head}
use Rattle.mj_facts.proofs.Entries.{size_some, ends_append, ends_kept, place_last, place_above}
use Rattle.mj_facts.proofs.Heads.{may_more}
use Rattle.mj_facts.proofs.Few.{few_submitted}
use Rattle.mj_facts.proofs.Uncommitted.{uncommitted_header}
use Rattle.mj_facts.proofs.Computed.{may_append, buffer_event}
use Rattle.mj_facts.proofs.WhileServing.{serves_appended}
use Rattle.mj_facts.proofs.WhileMounting.{mounts_headed, in_order, mount_serves}
use Rattle.mj_rank.specs.declared.mounting.Stage.{Stage}
use Rattle.mj_journaler.specs.Journal as stream
use Rattle.mj_journaler.specs.Journal.{Journal}
use Rattle.mj_journaler.specs.Calls.{append_refusal}
use Rattle.mj_journaler.specs.declared.AppendRefusal.TheVariants.{Full, Spent}
use Rattle.mj_rank.specs.Cutting.{near_end, cuttings}
use Rattle.mj_rank.specs.Log.{entry_end, with_entry}
use Rattle.mj_rank.specs.Mount.{subtree_map, empty_log, map_fits}
use Rattle.mj_rank.specs.Mounts.{MountValue, header_op}
use Rattle.mj_rank.specs.History.{IsHistory}
use Rattle.mj_rank.specs.Live.{IsNewStore, HasCut, IsLogOf, Lives, Mounted}
use Rattle.mj_rank.proofs.Asking.{map_carried}
use Rattle.mj_rank.proofs.Cuts.{near_below}
use Rattle.mj_rank.proofs.FirstLogs.{none_of}
use Rattle.mj_rank.proofs.Living.{room_for}
use Rattle.mj_rank.proofs.MountLives.{mounted_with, cut_same}
use Rattle.mj_rank.proofs.Members.{events_append}
use Rattle.mj_rank.proofs.Turns.{all_events}

-- ---- headers

newest_in : (stood : Header) (heads : List HeadSent) → In (newest stood heads) (may_stand stood heads)
newest_in stood [] = inl refl
newest_in stood (h ∷ hs) = inr (newest_in h.header hs)

new_headed : (rank : ℕ) (s : StoreState) (op : ℕ) (h : Header) → IsNewStore rank s → IsNewStore rank (submitted (header_op rank h) op s)
new_headed rank s op h n = record {
  base = n.base;
  new = n.new;
  uncommitted = uncommitted_header rank n.base s op h n.new.keys n.new.header n.uncommitted;
  names = (header_op rank h).name ∷ n.names;
  few = few_submitted n.names s (header_op rank h) op n.few;
}

-- what is said of a header is said of it in each phase
bounded_phased : (j : Journalled) (count : ℕ) (h : Header) (phase : Phase) → IsBounded j count h → IsBounded j count (record h { phase = phase })
bounded_phased j count h phase b = record {
  sound = record { layout = b.sound.layout; format = b.sound.format; epoch = b.sound.epoch; order = b.sound.order };
  layout = b.layout;
  format = b.format;
  first = b.first;
  starts = b.starts;
  live = b.live;
  begins = b.begins;
  write = b.write;
}

module _ (v : MountValue) (m : LogMachine) (s : StoreState) (k : Mounted v m s) where
  pub mounted_phased : (phase : Phase) → Mounted (record v { header = record v.header { phase = phase } }) m s
  mounted_phased phase = record {
    facts = k.facts;
    mounts = k.mounts;
    first = k.first;
    end_is = k.end_is;
    seen = k.seen;
    out_is = k.out_is;
    cut = cut_same v.stage v (record v { header = record v.header { phase = phase } }) refl refl refl k.cut;
    turns = k.turns;
    history = k.history;
    layout_is = k.layout_is;
    tail_is = k.tail_is;
    early = k.early;
    table_is = k.table_is;
    log_is = k.log_is;
    bounded = bounded_phased k.facts.journal (length k.facts.journal.events) v.header phase k.bounded;
    from_start = k.from_start;
    whole = k.whole;
    new = k.new;
  }

  may_send : MaySendHeader k.facts.journal (length k.facts.journal.events) k.facts.stood k.facts.heads v.header
  may_send = record {
    bounded = k.bounded;
    rises = omega (arith, k.whole (newest k.facts.stood k.facts.heads) (newest_in k.facts.stood k.facts.heads), k.from_start);
  }

  -- its header is sent, and it goes on to another stage
  pub mounted_headed : (op next : ℕ) (stage : Stage) → s.next ≤ op → 1 ≤ next → ((index : ℕ) → index < next → index < v.next) → HasCut stage (record v { stage = stage; sent = op; next = next })
      → Mounted (record v { stage = stage; sent = op; next = next }) m (submitted (header_op v.number v.header) op s)
  mounted_headed op next stage fresh first before has =
      mounted_with v m s k (with_head op v.header k.facts.heads) k.facts.cut k.facts.out (submitted (header_op v.number v.header) op s) stage op next v.out v.fault
      (subst (λ (n : ℕ). Mounts (mount_headed op v.header k.facts) (submitted (calls.header_op n v.header) op s)) k.history.number (mounts_headed k.facts s op v.header k.mounts fresh may_send))
      first (λ index near less. k.seen index near (before index less)) k.out_is has
      (λ h i. elim (may_more k.facts.stood k.facts.heads (record { op = op; header = v.header }) h i) [ inl old ↦ k.whole h old | inr same ↦ ap (λ (x : Header). x.expire) (sym same) ∙ k.from_start ])
      (new_headed v.number s op v.header k.new)

-- ---- the rank begins

-- what is refused although few bytes are unsafe ends above the last position
late_of : (l : Journal) (payload : List ℕ) → stream.unsafe_of l + entry_length payload ≤ 8388608 → is_none (append_refusal l payload) ≡ false → 2 ^ 62 - 1 < entry_end l payload
late_of l payload few refused =
    let late = if nat_lt (2 ^ 62 - 1) (entry_end l payload) then Some (Spent (stream.end_of l)) else None in
    cond_both (nat_lt 8388608 (stream.unsafe_of l + entry_length payload)) (Some (Full (stream.unsafe_of l))) late (λ o. is_none o ≡ false → 2 ^ 62 - 1 < entry_end l payload)
    (λ b e. absurd (omega (arith, few, ltb-true 8388608 (stream.unsafe_of l + entry_length payload) b)))
    (λ b. cond_both (nat_lt (2 ^ 62 - 1) (entry_end l payload)) (Some (Spent (stream.end_of l))) None (λ o. is_none o ≡ false → 2 ^ 62 - 1 < entry_end l payload)
    (λ c e. ltb-true (2 ^ 62 - 1) (entry_end l payload) c) (λ c e. absurd cc))
    refused

module _ (v : MountValue) (m : LogMachine) (s : StoreState) (k : Mounted v m s) (ready : (v.out ≡ []) × (v.next ≡ v.end)) where
  abbrev j : Journalled
  j = k.facts.journal

  abbrev e : Event
  e = subtree_map v.number

  -- nothing is appended yet
  abbrev empty : Journal
  empty = empty_log v.found v.number v.tail

  -- and then the map
  abbrev l : Journal
  l = with_entry empty (event_bytes e)

  carried : IsCarried e
  carried = map_carried v.number k.history.small

  abbrev rank_facts : facts.Rank
  rank_facts = serving k.facts

  -- every object near the tail was seen to
  ordered : MountInOrder k.facts
  ordered = in_order k.facts k.mounts.journalled.layout (k.out_is ∙ ap cuttings ready.0) (λ index near. k.seen index near (below index (near_below k.facts index k.mounts.journalled.layout near)))
    where
      end_here : near_end j.layout (tail_of k.facts) ≡ v.next
      end_here = sym (λ i. near_end (k.layout_is i) (k.tail_is i)) ∙ (sym k.end_is ∙ sym ready.1)

      below : (index : ℕ) → index < near_end j.layout (tail_of k.facts) → index < v.next
      below index less = subst (λ (n : ℕ). index < n) end_here less

  serves : Serves rank_facts s
  serves = mount_serves k.facts s k.mounts ordered

  end_is : end_of j ≡ v.tail
  end_is = sym (k.tail_is ∙ place_last j (length j.events) (omega arith))

  none : IsBuffer j (tail_of k.facts) []
  none = record { wants = λ i less. absurd (omega (arith, less)); ends = omega (arith, end_is, k.tail_is) }

  -- ---- where the map fits

  module _ (room : end_of j + size_of e < 2 ^ 62) where
    abbrev want : ℕ → ℕ
    want = wanted_more j.want (end_of j) (entry_of (end_of j) e)

    abbrev facts_after : facts.Rank
    facts_after = appended (e ∷ []) want rank_facts

    may : MayAppend rank_facts (e ∷ []) want
    may = may_append rank_facts s e serves carried room (λ h i same. refl)

    abbrev newer : List Turn
    newer = (e, None) ∷ []

    history : IsHistory v.number facts_after.journal k.turns newer m
    history = record {
      number = k.history.number;
      small = k.history.small;
      events = ap (λ (es : List Event). es ++ e ∷ []) (k.history.events ∙ ap events (append-nil k.turns)) ∙ sym (events_append k.turns newer);
      carries = carries_on v.number (fresh_table v.number) (new_state v.number) k.turns newer
          (subst (Carries v.number (fresh_table v.number) (new_state v.number)) (append-nil k.turns) k.history.carries) ((carried.0, refl), tt);
      opening = k.history.opening;
      history = k.history.history;
      on_the_way = k.history.on_the_way;
    }

    log_opened : IsLogOf v.number l facts_after
    unfolding entry_of size_of
    log_opened =
        let end : stream.end_of empty ≡ end_of j = omega (arith, end_is) in
        let safe : safe_of facts_after ≡ v.tail = ends_kept j.start j.events (e ∷ []) (length j.events) (omega arith) ∙ sym k.tail_is in
        let left : drop (length j.events) (j.events ++ e ∷ []) ≡ e ∷ [] = drop-append_seam j.events (e ∷ []) in
        let last : entry_end empty (event_bytes e) ≡ v.tail + size_of e = omega arith in
        record {
          number = refl;
          layout = k.layout_is;
          safe = sym safe;
          flushed = k.tail_is;
          buffer = subst (λ (n : ℕ). IsBuffer (with_event e j) (tail_of k.facts) ([] ++ entry_bytes n (event_bytes e))) (sym end) (buffer_event j e (tail_of k.facts) [] none);
          ends = (λ z. last z ∷ []) ∙ sym (λ z. entry_ends (safe z) (left z));
          writes = refl;
        }

    opened_mapped : Lives v.number l (early_table v.cache) m s
    opened_mapped = record {
      facts = facts_after;
      serves = serves_appended rank_facts s (e ∷ []) want serves may;
      log = log_opened;
      newest = record { sent = λ w i. absurd i; heads = λ w i. absurd i; removals = λ w i. absurd i };
      older = k.turns;
      newer = newer;
      history = history;
      count = omega (arith, all_events v.number j k.turns [] m k.history);
      table_is = k.table_is ∙ sym (ap (overlay (fresh_table v.number)) (writes-append k.turns newer ∙ append-nil (all_writes k.turns)));
      whole = k.whole;
      begun = omega (arith, ends_append j.start j.events (e ∷ []), size_some e, place_above j (length j.events), place_last j (length j.events) (omega arith));
      new = k.new;
    }

  -- ---- where it does not

  module _ (late : 2 ^ 62 - 1 < entry_end empty (event_bytes e)) where
    log_empty : IsLogOf v.number empty rank_facts
    log_empty =
        let left : drop (length j.events) j.events ≡ [] = ap (drop (length j.events)) (sym (append-nil j.events)) ∙ drop-append_seam j.events [] in
        record {
          number = refl;
          layout = k.layout_is;
          safe = k.tail_is;
          flushed = k.tail_is;
          buffer = none;
          ends = sym (ap (entry_ends (safe_of rank_facts)) left);
          writes = refl;
        }

    opened_empty : Lives v.number empty (early_table v.cache) m s
    opened_empty = record {
      facts = rank_facts;
      serves = serves;
      log = log_empty;
      newest = record { sent = λ w i. absurd i; heads = λ w i. absurd i; removals = λ w i. absurd i };
      older = k.turns;
      newer = [];
      history = k.history;
      count = omega (arith, all_events v.number j k.turns [] m k.history);
      table_is = k.table_is ∙ sym (ap (λ (xs : List Turn). overlay (fresh_table v.number) (all_writes xs)) (append-nil k.turns));
      whole = k.whole;
      begun = let size : entry_length (event_bytes e) ≡ 44 = refl in omega (arith, late, size, end_is, k.early);
      new = k.new;
    }

  pub lives_opened : Lives v.number v.log (early_table v.cache) m s
  unfolding size_of
  lives_opened =
      let bytes = event_bytes e in
      let size : entry_length bytes ≡ 44 = refl in
      subst (λ (x : Journal). Lives v.number x (early_table v.cache) m s) (sym k.log_is)
      (elim (map_fits v.found v.number v.tail) as (λ b. map_fits v.found v.number v.tail ≡ b → Lives v.number (if b then l else empty) (early_table v.cache) m s) [
        | true ↦ λ fits. opened_mapped (omega (arith, end_is, room_for empty bytes (none_of (append_refusal empty bytes) fits)))
        | false ↦ λ spent. opened_empty (late_of empty bytes (omega (arith, size)) spent)
      ] refl)
