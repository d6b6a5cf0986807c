-- What a rank keeps when a write of its is acknowledged.
use Rattle.std.proofs.Common.{◌≡◌, ℕ, ◌-◌, ◌≤◌, true, List, ◌∷◌, ◌++◌, length, take, drop, refl, sym, ap, subst, ◌∙◌, arith, length-append}
use Rattle.std.proofs.lemmas.List.{length-take-le, drop-drop}
use Rattle.mj_event.specs.declared.Event.{Event}
use Rattle.mj_store.specs.Causes.{In}
use Rattle.mj_journaler.specs.Journal.{Journal, IsNew}
use Rattle.mj_journaler.specs.Outstanding.{without, last_end, ends_above}
use Rattle.mj_journaler.specs.Calls.{acked_to, acknowledged}
use Rattle.mj_journaler.proofs.Out.{without_less}
use Rattle.mj_store.specs.declared.answer.Ack.{Ack}
use Rattle.mj_store.specs.State.{StoreState, reported}
use Rattle.mj_cells.specs.Table.{Table, overlay}
use Rattle.mj_machine.specs.Machine.{LogMachine, made_safe}
use Rattle.mj_delta.specs.Histories.{Turn, all_writes}
use Rattle.mj_delta.specs.Fresh.{fresh_table}
use Rattle.mj_facts.specs.Journalled.{Journalled, ends, place_of}
use Rattle.mj_facts.specs.Ranks as facts
use Rattle.mj_facts.specs.Ranks.{Sent, safe_of}
use Rattle.mj_facts.specs.Calls.{entry_ends, ending_by, count_by, MayMakeSafe}
use Rattle.mj_facts.specs.Calls as calls
use Rattle.mj_facts.proofs.Entries.{place_from}
use Rattle.mj_facts.proofs.Computed.{may_make_safe}
use Rattle.mj_facts.proofs.WhileServing.{serves_reported, serves_done, serves_made_safe}
use Rattle.mj_rank.specs.History.{IsHistory}
use Rattle.mj_rank.specs.Live.{IsLogOf, Lives, writes_of}
use Rattle.mj_rank.proofs.Turns.{all_events, more_end, same_turns, history_safe}
use Rattle.mj_rank.proofs.Acknowledged.{Acknowledged, is_acknowledged, last_end_is, ends_above_is, sent_or_left}
use Rattle.mj_rank.proofs.Serving.{new_reported}

module _ (rank : ℕ) (l : Journal) (cells : Table) (m : LogMachine) (s : StoreState) (a : Ack) (k : Lives rank l cells m s) where
  abbrev r : facts.Rank
  r = k.facts

  abbrev j : Journalled
  j = k.facts.journal

  abbrev p : ℕ
  p = acked_to l a.op

  -- what is out afterwards
  abbrev left : List Sent
  left = writes_of (without a.op l.sent)

  known : Acknowledged (safe_of r) r.flushed left p
  known = subst (λ n. Acknowledged (safe_of r) n left p) k.log.flushed
      (is_acknowledged a.op (safe_of r) l.flushed l.sent (omega (arith, k.serves.covers, k.log.flushed))
      (subst (λ (ws : List Sent). (w : Sent) → In w ws → safe_of r ≤ w.from) k.log.writes k.serves.in_flight_known.outstanding))

  abbrev count : ℕ
  count = count_by p r

  may : MayMakeSafe r a.op count left
  may = may_make_safe r s a.op p left k.serves (λ w i. sent_or_left a.op l.sent w (subst (λ (ws : List Sent). In w ws) k.log.writes i)) known.above known.within known.below

  abbrev more : ℕ
  more = count - length k.older

  up : length k.older ≤ count
  up = omega (arith, k.count, may.rises)

  fits : more ≤ length k.newer
  fits = omega (arith, k.count, may.within, all_events rank j k.older k.newer m k.history)

  -- ---- the safe position

  abbrev es : List Event
  es = drop r.count j.events

  abbrev n : ℕ
  n = ending_by p (safe_of r) es

  place : place_of j count ≡ ends (safe_of r) (take n es)
  place = place_from j r.count n

  safe_is : (acknowledged a.op l).safe ≡ place_of j count
  safe_is = (λ z. last_end (k.log.safe z) (k.log.ends z) p) ∙ (last_end_is p (safe_of r) es ∙ sym place)

  log_acked : IsLogOf rank (acknowledged a.op l) (calls.made_safe count left r)
  log_acked = record {
    number = k.log.number;
    layout = k.log.layout;
    safe = safe_is;
    flushed = k.log.flushed;
    buffer = k.log.buffer;
    ends = (λ z. ends_above (k.log.ends z) p) ∙ (ends_above_is p (safe_of r) es ∙ (λ z. entry_ends (sym place z) (drop-drop n r.count j.events z)));
    writes = refl;
  }

  newest : IsNew (reported s).next (acknowledged a.op l)
  newest = record {
    sent = λ w i. k.newest.sent w (without_less a.op l.sent w i);
    heads = λ w i. k.newest.heads w (without_less a.op l.heads w i);
    removals = λ w i. k.newest.removals w (without_less a.op l.removals w i);
  }

  -- ---- the machine

  history : IsHistory rank j (k.older ++ take more k.newer) (drop more k.newer) (made_safe m (acknowledged a.op l).safe)
  history = history_safe rank j k.older k.newer m k.history more (acknowledged a.op l).safe (safe_is ∙ more_end rank j k.older k.newer m k.history count up)

  same : (k.older ++ take more k.newer) ++ drop more k.newer ≡ k.older ++ k.newer
  same = same_turns rank j k.older k.newer m k.history more

  pub lives_acked : s.completed ≡ a ∷ drop 1 s.completed → a.done ≡ true → Lives rank (acknowledged a.op l) cells (made_safe m (acknowledged a.op l).safe) (reported s)
  lives_acked first done = record {
    facts = calls.made_safe count left r;
    serves = serves_reported (calls.made_safe count left r) s
        (serves_made_safe r s a.op count left k.serves (serves_done r s a k.serves first done) may);
    log = log_acked;
    newest = newest;
    older = k.older ++ take more k.newer;
    newer = drop more k.newer;
    history = history;
    count = omega (arith, up, length-append k.older (take more k.newer), length-take-le more k.newer fits);
    table_is = k.table_is ∙ sym (ap (λ (xs : List Turn). overlay (fresh_table rank) (all_writes xs)) same);
    whole = k.whole;
    begun = k.begun;
    new = new_reported rank s k.new;
  }
