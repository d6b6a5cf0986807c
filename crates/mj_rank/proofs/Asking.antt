-- What a rank keeps when it answers a request.
use Rattle.std.proofs.Common.{◌≡◌, ℕ, ◌+◌, ◌<◌, ◌≤◌, ◌^◌, Bool, true, false, List, [], ◌∷◌, ◌++◌, append_assoc, drop, Option, Some, None, refl, sym, ap, subst, ◌∙◌, arith}
use Rattle.std.proofs.lemmas.List.{append-nil, drop-append-le}
use Rattle.std.proofs.lemmas.Bool.{and_from, lt-ltb}
use Rattle.std.specs.Prelude.{if◌then◌else◌, nat_lt}
use Rattle.mj_tree.specs.State.{PlainState, new_state}
use Rattle.mj_tree.specs.Answer.{after_all, changes}
use Rattle.mj_tree.specs.declared.request.ClientRequest.{ClientRequest}
use Rattle.mj_store.specs.State.{StoreState}
use Rattle.mj_cells.specs.Table.{Table, overlay}
use Rattle.mj_cells.proofs.Tables.{overlay-append}
use Rattle.mj_entry.specs.Entry.{IsPayload, entry_bytes}
use Rattle.mj_event.specs.declared.Event.{Event}
use Rattle.mj_event.specs.Event.{event_bytes}
use Rattle.mj_event.specs.Writes.{writes_of}
use Rattle.mj_recovery.specs.Tree.{tree_of}
use Rattle.mj_machine.specs.declared.kept.Kept.{Kept}
use Rattle.mj_machine.specs.Machine.{LogMachine, early_state, accepted}
use Rattle.mj_delta.specs.Steps.{GivesTree}
use Rattle.mj_delta.specs.Histories.{Turn, events, requests, all_writes, Carries}
use Rattle.mj_delta.specs.Fresh.{fresh_table}
use Rattle.mj_delta.proofs.Fresh.{fresh_tree}
use Rattle.mj_delta.proofs.Fronts.{carries_on, whole_tree, writes-append}
use Rattle.mj_delta.proofs.TreeIs.{tree_is}
use Rattle.mj_facts.specs.Journalled.{Journalled, IsCarried, entry_of, size_of, ends, end_of}
use Rattle.mj_facts.specs.Ranks as facts
use Rattle.mj_facts.specs.Ranks.{safe_of}
use Rattle.mj_facts.specs.Calls.{appended, wanted_more, with_event, IsBuffer, MayAppend, entry_ends}
use Rattle.mj_facts.proofs.Entries.{ends_append, ends_kept, place_rest}
use Rattle.mj_facts.proofs.Computed.{may_append, buffer_event, ends_more}
use Rattle.mj_facts.proofs.WhileServing.{serves_appended}
use Rattle.mj_journaler.specs.Journal as stream
use Rattle.mj_journaler.specs.Journal.{Journal}
use Rattle.mj_rank.specs.Log.{entry_end, with_entry}
use Rattle.mj_rank.specs.Mount.{subtree_map}
use Rattle.mj_rank.specs.History.{IsHistory, members, turns_end}
use Rattle.mj_rank.specs.Live.{IsLogOf, Lives}
use Rattle.mj_rank.proofs.Members.{members_append, events_append}
use Rattle.mj_rank.proofs.Turns.{early_is}

-- a subtree map is an event with a payload
pub map_carried : (rank : ℕ) → rank ≤ 15 → IsCarried (subtree_map rank)
map_carried rank small = ((refl, ((omega arith, (omega (arith, small), tt)), and_from (nat_lt 1 (0x100 + rank)) true (lt-ltb 1 (0x100 + rank) (omega arith)) refl)), refl)

module _ (rank : ℕ) (l : Journal) (cells : Table) (m : LogMachine) (s : StoreState) (k : Lives rank l cells m s) where
  abbrev all : List Turn
  all = k.older ++ k.newer

  abbrev t : Table
  t = overlay (fresh_table rank) (all_writes all)

  abbrev tree : PlainState
  tree = after_all (new_state rank) (requests all)

  abbrev j : Journalled
  j = k.facts.journal

  state_is : tree_of rank cells ≡ tree
  state_is = ap (tree_of rank) k.table_is ∙ tree_is rank t tree (whole_tree rank (fresh_table rank) (new_state rank) all (fresh_tree rank k.history.small) k.history.carries)

  -- the cells have the tree of all that the machine accepted
  pub tree_lives : tree_of rank cells ≡ early_state m
  tree_lives = state_is ∙ sym (early_is rank j k.older k.newer m k.history)

  log_ends : stream.end_of l ≡ end_of j
  log_ends = omega (arith, k.log.flushed, k.log.buffer.ends)

  -- ---- where nothing changes

  pub lives_answered : (r : ClientRequest) (end : ℕ) → changes (tree_of rank cells) r ≡ false → Lives rank l cells (accepted m r end) s
  lives_answered r end same =
      let none : changes (early_state m) r ≡ false = ap (λ (x : PlainState). changes x r) (sym tree_lives) ∙ same in
      subst (λ (n : LogMachine). Lives rank l cells n s) (sym (ap (λ (b : Bool). if b then record m { on_the_way = m.on_the_way ++ record { request = r; ends = end } ∷ [] } else m) none)) k

  -- ---- a turn more

  module _ (e : Event) (q : Option ClientRequest) (ks : List Kept) (carried : IsCarried e) (room : entry_end l (event_bytes e) < 2 ^ 62) (carries : Carries rank t tree ((e, q) ∷ [])) (are : ks ≡ members (end_of j) ((e, q) ∷ [])) where
    abbrev want : ℕ → ℕ
    want = wanted_more j.want (end_of j) (entry_of (end_of j) e)

    abbrev facts_after : facts.Rank
    facts_after = appended (e ∷ []) want k.facts

    fits_below : end_of j + size_of e < 2 ^ 62
    unfolding size_of
    fits_below = omega (arith, room, log_ends)

    may : MayAppend k.facts (e ∷ []) want
    may = may_append k.facts s e k.serves carried fits_below (λ h i same. absurd (omega (arith, k.whole h i, same, k.begun)))

    abbrev newer : List Turn
    newer = k.newer ++ (e, q) ∷ []

    turns : k.older ++ newer ≡ all ++ (e, q) ∷ []
    turns = sym (append_assoc k.older k.newer ((e, q) ∷ []))

    writes : overlay (fresh_table rank) (all_writes (k.older ++ newer)) ≡ overlay t (writes_of e)
    writes =
        ap (λ (xs : List Turn). overlay (fresh_table rank) (all_writes xs)) turns
        ∙ (ap (overlay (fresh_table rank)) (writes-append all ((e, q) ∷ []) ∙ ap (λ ws. all_writes all ++ ws) (append-nil (writes_of e))) ∙ overlay-append (fresh_table rank) (all_writes all) (writes_of e))

    place : end_of j ≡ turns_end (turns_end j.start k.older) k.newer
    place = ap (ends j.start) (k.history.events ∙ events_append k.older k.newer) ∙ ends_append j.start (events k.older) (events k.newer)

    abbrev machine : LogMachine
    machine = record m { on_the_way = m.on_the_way ++ ks }

    history : IsHistory rank facts_after.journal k.older newer machine
    history = record {
      number = k.history.number;
      small = k.history.small;
      events = ap (λ (es : List Event). es ++ e ∷ []) k.history.events ∙ (sym (events_append all ((e, q) ∷ [])) ∙ ap events (sym turns));
      carries = subst (Carries rank (fresh_table rank) (new_state rank)) (sym turns) (carries_on rank (fresh_table rank) (new_state rank) all ((e, q) ∷ []) k.history.carries carries);
      opening = k.history.opening;
      history = k.history.history;
      on_the_way =
          (λ z. k.history.on_the_way z ++ are z)
          ∙ (ap (λ (n : ℕ). members (turns_end j.start k.older) k.newer ++ members n ((e, q) ∷ [])) place
          ∙ sym (members_append (turns_end j.start k.older) k.newer ((e, q) ∷ [])));
    }

    log_with : IsLogOf rank (with_entry l (event_bytes e)) facts_after
    unfolding entry_of size_of
    log_with =
        let safe_same : safe_of facts_after ≡ safe_of k.facts = ends_kept j.start j.events (e ∷ []) k.facts.count k.serves.within in
        let left : drop k.facts.count (j.events ++ e ∷ []) ≡ drop k.facts.count j.events ++ e ∷ [] = drop-append-le k.facts.count j.events (e ∷ []) k.serves.within in
        let last : ends (safe_of k.facts) (drop k.facts.count j.events) + size_of e ≡ entry_end l (event_bytes e) = omega (arith, place_rest j k.facts.count, log_ends) in
        record {
          number = k.log.number;
          layout = k.log.layout;
          safe = k.log.safe ∙ sym safe_same;
          flushed = k.log.flushed;
          buffer = subst (λ (n : ℕ). IsBuffer (with_event e j) k.facts.flushed (l.buffer ++ entry_bytes n (event_bytes e))) (sym log_ends) (buffer_event j e k.facts.flushed l.buffer k.log.buffer);
          ends = (λ z. k.log.ends z ++ sym last z ∷ []) ∙ (sym (ends_more (safe_of k.facts) (drop k.facts.count j.events) e) ∙ (λ z. entry_ends (sym safe_same z) (sym left z)));
          writes = k.log.writes;
        }

    lives_more : Lives rank (with_entry l (event_bytes e)) (overlay cells (writes_of e)) machine s
    lives_more = record {
      facts = facts_after;
      serves = serves_appended k.facts s (e ∷ []) want k.serves may;
      log = log_with;
      newest = record { sent = k.newest.sent; heads = k.newest.heads; removals = k.newest.removals };
      older = k.older;
      newer = newer;
      history = history;
      count = k.count;
      table_is = ap (λ (x : Table). overlay x (writes_of e)) k.table_is ∙ sym writes;
      whole = k.whole;
      begun = omega (arith, k.begun, ends_append j.start j.events (e ∷ []));
      new = k.new;
    }

  -- ---- an event of a request

  pub lives_journalled : (r : ClientRequest) (e : Event) → changes (tree_of rank cells) r ≡ true → GivesTree rank cells (tree_of rank cells) r e → IsPayload (event_bytes e) → entry_end l (event_bytes e) < 2 ^ 62
      → Lives rank (with_entry l (event_bytes e)) (overlay cells (writes_of e)) (accepted m r (entry_end l (event_bytes e))) s
  unfolding size_of
  lives_journalled r e change gives payload room =
      let end = entry_end l (event_bytes e) in
      let yes : changes (early_state m) r ≡ true = ap (λ (x : PlainState). changes x r) (sym tree_lives) ∙ change in
      let at : end ≡ end_of j + size_of e = omega (arith, log_ends) in
      let here : GivesTree rank t tree r e = subst (λ (x : PlainState). GivesTree rank t x r e) state_is (subst (λ (x : Table). GivesTree rank x (tree_of rank cells) r e) k.table_is gives) in
      subst (λ (n : LogMachine). Lives rank (with_entry l (event_bytes e)) (overlay cells (writes_of e)) n s)
      (sym (ap (λ (b : Bool). if b then record m { on_the_way = m.on_the_way ++ record { request = r; ends = end } ∷ [] } else m) yes))
      (lives_more e (Some r) (record { request = r; ends = end } ∷ []) (gives.grammar, payload) room (here, tt) (λ z. record { request = r; ends = at z } ∷ []))

  -- ---- a map that begins a segment

  pub lives_mapped : entry_end l (event_bytes (subtree_map rank)) < 2 ^ 62 → Lives rank (with_entry l (event_bytes (subtree_map rank))) cells m s
  lives_mapped room =
      let e = subtree_map rank in
      let carried = map_carried rank k.history.small in
      subst (λ (ks : List Kept). Lives rank (with_entry l (event_bytes e)) cells (record m { on_the_way = ks }) s) (append-nil m.on_the_way) (lives_more e None [] carried room ((carried.0, refl), tt) refl)
