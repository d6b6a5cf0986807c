-- A mount begins on what rests: the machine is stopped at the tail that it found.
use Rattle.std.proofs.Common.{◌≡◌, inl, inr, ℕ, ◌+◌, ◌-◌, ◌/◌, ◌^◌, ◌<◌, ◌≤◌, Bool, true, false, List, [], ◌++◌, length, take, None, Result, Ok, Err, refl, sym, ap, subst, ◌∙◌, arith}
use Rattle.std.specs.Prelude.{nat_lt, nat_le, if◌then◌else◌}
use Rattle.std.proofs.lemmas.Bool.{and_from, eqb-true, le-leb, lt-ltb, ltb-true}
use Rattle.std.proofs.lemmas.Nat.{le-div, mul-le}
use Rattle.std.proofs.Math.Nat.{div-mul-le_self}
use Rattle.std.proofs.lemmas.List.{append-nil, take-append-drop, length-take-le}
use Rattle.mj_base.specs.Reading.{◌>>=◌}
use Rattle.mj_base.specs.declared.damage.Damage.{Damage}
use Rattle.mj_base.specs.declared.damage.Damage.TheVariants.{Unbuilt}
use Rattle.mj_tree.specs.State.{new_state}
use Rattle.mj_tree.specs.Answer.{after_all}
use Rattle.mj_store.specs.State.{StoreState, Quiet, contents}
use Rattle.mj_layout.specs.Striping.{period}
use Rattle.mj_layout.specs.Header.{IsHeader}
use Rattle.mj_layout.specs.declared.Header.{Header}
use Rattle.mj_layout.proofs.Striped.{sizes}
use Rattle.mj_cells.specs.Table.{overlay}
use Rattle.mj_recovery.specs.declared.journal.LiveJournal.{LiveJournal}
use Rattle.mj_recovery.specs.Recovered.{Recovery}
use Rattle.mj_machine.specs.Machine.{LogMachine, made_safe, stopped}
use Rattle.mj_delta.specs.Histories.{Turn, events, requests, all_writes, Carries}
use Rattle.mj_delta.specs.Fresh.{fresh_table}
use Rattle.mj_delta.specs.Recovering.{live_events}
use Rattle.mj_delta.proofs.Fronts.{carries_front}
use Rattle.mj_facts.specs.Journalled.{Journalled, IsJournalled, place_of, taken}
use Rattle.mj_facts.specs.Headers.{IsBounded}
use Rattle.mj_facts.specs.Ranks as facts
use Rattle.mj_facts.specs.Ranks.{tail_of}
use Rattle.mj_facts.specs.Mounts.{begun}
use Rattle.mj_facts.specs.Calls.{IsNear}
use Rattle.mj_facts.specs.Rests.{Rests, journal_of}
use Rattle.mj_facts.proofs.Entries.{place_above, place_back}
use Rattle.mj_facts.proofs.Laws.{ordered, stop_begins}
use Rattle.mj_facts.proofs.Quiet.{mounts_quiet}
use Rattle.mj_facts.proofs.Computed.{bounded_again}
use Rattle.mj_facts.proofs.Recovers.{rests_read}
use Rattle.mj_facts.proofs.WhileMounting.{place_taken, rests_taken, taken_header}
use Rattle.mj_replay.specs.Replayed.{is_served, replayed_of, replayed_in}
use Rattle.mj_replay.proofs.Rebuilt.{history_replayed, not_served}
use Rattle.mj_rank.specs.declared.found.Found.{Found}
use Rattle.mj_rank.specs.declared.mounting.Stage.TheVariants.{Announcing}
use Rattle.mj_rank.specs.Finding.{IsFound, IsFoundIn, below_end, found_in}
use Rattle.mj_rank.specs.Cutting.{near_from, near_end}
use Rattle.mj_rank.specs.Mount.{first_log, first_segment, next_header}
use Rattle.mj_rank.specs.Mounts.{MountValue}
use Rattle.mj_rank.specs.History.{IsHistory}
use Rattle.mj_rank.specs.Live.{Rested, Mounted, IsNewStore}
use Rattle.mj_rank.proofs.Crashes.{live_from, take_over}
use Rattle.mj_rank.proofs.Members.{events_take}
use Rattle.mj_rank.proofs.Turns.{history_safe, more_end}

-- a mount that has found this and has sent nothing, whatever number stands for its last header
abbrev pub begun_value : ℕ → Found → ℕ → MountValue
begun_value rank found sent = record {
  number = rank;
  header = next_header found.header found.tail;
  found = found.header;
  tail = found.tail;
  cache = found.cache;
  log = first_log found.header rank found.tail;
  segment = first_segment found.header rank found.tail;
  stage = Announcing;
  sent = sent;
  next = near_from found.header.layout found.tail;
  end = near_end found.header.layout found.tail;
  out = [];
  fault = None;
}

-- ---- a stop takes a front of the history

module _ (rank : ℕ) (j : Journalled) (older newer : List Turn) (m : LogMachine) (count p : ℕ) (h : IsHistory rank j older newer m) (enough : length older ≤ count) (at : p ≡ place_of j count) where
  abbrev front : List Turn
  front = older ++ take (count - length older) newer

  pub front_is : take count (older ++ newer) ≡ front
  front_is = take_over count older newer enough

  pub front_carries : Carries rank (fresh_table rank) (new_state rank) front
  front_carries = subst (Carries rank (fresh_table rank) (new_state rank)) front_is
      (carries_front rank (fresh_table rank) (new_state rank) (take count (older ++ newer)) _ (subst (Carries rank (fresh_table rank) (new_state rank)) (sym (take-append-drop count (older ++ newer))) h.carries))

  pub front_events : take count j.events ≡ events front
  front_events = ap (take count) h.events ∙ (events_take count (older ++ newer) ∙ ap events front_is)

  pub history_stopped : IsHistory rank (taken count j) front [] (stopped m p)
  history_stopped =
      let safe : IsHistory rank j front _ (made_safe m p) = history_safe rank j older newer m h (count - length older) p (at ∙ more_end rank j older newer m h count enough) in
      record {
        number = h.number;
        small = h.small;
        events = front_events ∙ ap events (sym (append-nil front));
        carries = subst (Carries rank (fresh_table rank) (new_state rank)) (sym (append-nil front)) front_carries;
        opening = h.opening;
        history = safe.history;
        on_the_way = refl;
      }

-- ---- the header that is sent next

pub next_sound : (h : Header) (tail : ℕ) → IsHeader h → h.expire ≤ tail → tail < 2 ^ 62 → IsHeader (next_header h tail)
next_sound h tail k up below =
    let o = ordered h k in
    let n = next_header h tail in
    let trimmed : nat_le (period h.layout) h.trimmed ≡ true = le-leb (period h.layout) h.trimmed o.trimmed in
    let expire : nat_le h.trimmed h.expire ≡ true = le-leb h.trimmed h.expire o.expire in
    let write : nat_le h.expire tail ≡ true = le-leb h.expire tail up in
    let under : nat_lt tail (2 ^ 62) ≡ true = lt-ltb tail (2 ^ 62) below in
    record { layout = k.layout; format = k.format; epoch = omega arith; order = and_from _ _ (and_from _ _ (and_from _ _ trimmed expire) write) under }

-- ---- the rank of the journal, as it is called

record Resting (rank : ℕ) (m : LogMachine) (s : StoreState) (j : Journalled) : Type 0 where
  journalled : IsJournalled j
  older : List Turn
  newer : List Turn
  history : IsHistory rank j older newer m
  count : ℕ
  enough : length older ≤ count
  rests : Rests j count (contents s)
  whole : rests.header.expire ≡ j.start

resting : (rank : ℕ) (m : LogMachine) (s : StoreState) (k : Rested rank m s) → Resting rank m s (record k.journal { rank = rank })
resting rank m s k = subst (Resting rank m s) (λ z. record k.journal { rank = k.history.number z })
    (record { journalled = k.journalled; older = k.older; newer = k.newer; history = k.history; count = k.count; enough = k.enough; rests = k.rests; whole = k.whole })

-- ---- a mount begins

-- what was found ends below the last position
found_below : (found : Found) (r : Recovery) (b : Bool) → IsFound found (if b then Ok r else Err Unbuilt) → (b ≡ true) × IsFoundIn found r
found_below found r true is = (refl, is)
found_below found r false is = absurd is

module _ (rank : ℕ) (m : LogMachine) (s : StoreState) (quiet : Quiet s) (new : IsNewStore rank s) (j0 : Journalled) (t : Resting rank m s (record j0 { rank = rank })) (found : Found) (is : IsFound found (found_in rank (contents s))) where
  small : rank ≤ 15
  small = t.history.small

  abbrev j : Journalled
  j = record j0 { rank = rank }

  abbrev h : Header
  h = t.rests.header

  abbrev end : ℕ
  end = place_of j t.count

  abbrev live : List Turn
  live = front rank j t.older t.newer m t.count end t.history t.enough refl

  carries : Carries rank (fresh_table rank) (new_state rank) live
  carries = front_carries rank j t.older t.newer m t.count end t.history t.enough refl

  start : t.rests.bounded.first ≡ 0
  start = omega (arith, place_back j t.rests.bounded.first 0 (omega (arith, t.rests.bounded.live, t.rests.within)) (omega (arith, t.rests.bounded.starts, t.whole)))

  -- ---- what is read

  abbrev read : LiveJournal
  read = journal_of j h t.rests.bounded.first t.count

  events_are : live_events read ≡ events live
  events_are = live_from j h t.rests.bounded.first t.count start ∙ front_events rank j t.older t.newer m t.count end t.history t.enough refl

  found_read : found_in rank (contents s) ≡ (replayed_of rank read >>= below_end)
  unfolding replayed_in
  found_read = ap (λ (r : Result LiveJournal Damage). (r >>= replayed_of rank) >>= below_end) (rests_read j t.count (contents s) t.journalled t.rests)

  -- nothing was expired
  served : is_served read ≡ true
  served = elim (is_served read) as (λ b. is_served read ≡ b → b ≡ true) [
    | true ↦ λ e. refl
    | false ↦ λ e. absurd (subst (IsFound found) (found_read ∙ ap (λ (x : Result Recovery Damage). x >>= below_end) (not_served rank read e)) is)
  ] refl

  expire_is : h.expire ≡ period h.layout
  expire_is = eqb-true h.expire (period h.layout) served

  abbrev r : Recovery
  r = record { journal = read; table = overlay (fresh_table rank) (all_writes live); tree = after_all (new_state rank) (requests live) }

  recovery_is : found_in rank (contents s) ≡ below_end r
  recovery_is = found_read ∙ ap (λ (x : Result Recovery Damage). x >>= below_end) (history_replayed rank read live small t.rests.bounded.sound.layout expire_is carries events_are)

  here : (nat_lt end (2 ^ 62) ≡ true) × IsFoundIn found r
  here = found_below found r (nat_lt end (2 ^ 62)) (subst (IsFound found) recovery_is is)

  -- ---- what was found

  header_is : found.header ≡ h
  header_is = here.1.header

  tail_at : found.tail ≡ place_of j t.count
  tail_at = here.1.tail

  low : found.tail < 2 ^ 62
  low = omega (arith, tail_at, ltb-true end (2 ^ 62) here.0)

  early : j.start < 2 ^ 61
  early = omega (arith, t.whole, expire_is, (sizes h.layout t.rests.bounded.sound.layout).period_most)

  -- ---- the facts

  abbrev facts_begun : facts.Mount
  facts_begun = begun (taken t.count j) (contents s) h

  length_is : length (taken t.count j).events ≡ t.count
  length_is = length-take-le t.count j.events t.rests.within

  tail_begun : tail_of facts_begun ≡ place_of j t.count
  tail_begun = ap (place_of (taken t.count j)) length_is ∙ place_taken j t.count t.count (omega arith)

  bounded : IsBounded (taken t.count j) (length (taken t.count j).events) (next_header found.header found.tail)
  bounded =
      let b : IsBounded (taken t.count j) (length (taken t.count j).events) h =
      subst (IsBounded (taken t.count j) (length (taken t.count j).events)) (taken_header j t.count (contents s) t.rests) (rests_taken j t.count (contents s) t.rests).bounded in
      subst (λ (x : Header). IsBounded (taken t.count j) (length (taken t.count j).events) (next_header x found.tail)) (sym header_is)
      (bounded_again (taken t.count j) (length (taken t.count j).events) h (next_header h found.tail) b
      (next_sound h found.tail b.sound (omega (arith, tail_at, b.starts, t.whole, low_start)) low) refl refl refl (omega (arith, tail_at, tail_begun)))
    where
      low_start : j.start ≤ place_of j t.count
      low_start = place_above j t.count

  -- ---- the objects near the tail

  layout_begun : found.header.layout ≡ j.layout
  layout_begun = ap (λ (x : Header). x.layout) header_is ∙ t.rests.bounded.layout

  tail_is : found.tail ≡ tail_of facts_begun
  tail_is = tail_at ∙ sym tail_begun

  near_first : near_from found.header.layout found.tail ≡ near_from j.layout (tail_of facts_begun)
  near_first = λ i. near_from (layout_begun i) (tail_is i)

  -- the first of them does not hold the header
  no_header : 1 ≤ near_from found.header.layout found.tail
  no_header =
      let z = sizes j.layout t.journalled.layout in
      let set : 1 ≤ tail_of facts_begun / period j.layout = le-div 1 (tail_of facts_begun) (period j.layout) (omega (arith, z.period_least)) (omega (arith, t.journalled.aligned, tail_begun, place_above j t.count)) in
      omega (arith, near_first, mul-le 1 1 (tail_of facts_begun / period j.layout) j.layout.sc set z.sc)

  none_near : (index : ℕ) → IsNear facts_begun index → index < near_from found.header.layout found.tail → ⊥
  none_near index near less =
      let z = sizes j.layout t.journalled.layout in
      omega (arith, near_first, less, near.from, div-mul-le_self index j.layout.sc, mul-le (tail_of facts_begun / period j.layout) j.layout.sc (index / j.layout.sc) j.layout.sc near.from (omega arith))

  mount_begun : (sent : ℕ) → Mounted (begun_value rank found sent) (stopped m found.tail) s
  mount_begun sent = record {
    facts = facts_begun;
    mounts = mounts_quiet facts_begun s quiet (stop_begins j t.count (contents s) s t.journalled t.rests);
    first = no_header;
    end_is = refl;
    seen = λ index near less. absurd (none_near index near less);
    out_is = refl;
    cut = refl;
    turns = live;
    history = history_stopped rank j t.older t.newer m t.count found.tail t.history t.enough tail_at;
    layout_is = layout_begun;
    tail_is = tail_is;
    early = early;
    table_is = here.1.table;
    log_is = refl;
    bounded = bounded;
    from_start = ap (λ (x : Header). x.expire) header_is ∙ t.whole;
    whole = λ x i. elim i [ inl same ↦ ap (λ (y : Header). y.expire) (sym same) ∙ t.whole | inr never ↦ absurd never ];
    new = new;
  }

pub begins_mounted : (rank : ℕ) (m : LogMachine) (s : StoreState) (found : Found) (sent : ℕ) (v : MountValue) → v ≡ begun_value rank found sent → Rested rank m s → IsFound found (found_in rank (contents s)) → Mounted v (stopped m found.tail) s
begins_mounted rank m s found sent v e rested is = subst (λ (x : MountValue). Mounted x (stopped m found.tail) s) (sym e)
    (mount_begun rank m s rested.quiet rested.new rested.journal (resting rank m s rested) found is sent)
