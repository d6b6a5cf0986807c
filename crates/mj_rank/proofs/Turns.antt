-- A history's turns, at the places of its journal.
use Rattle.std.proofs.Common.{◌≡◌, ℕ, ◌+◌, ◌-◌, ◌≤◌, List, ◌++◌, append_assoc, length, take, drop, sym, ap, subst, ◌∙◌, length-append}
use Rattle.std.proofs.lemmas.List.{take-append-drop, length-map}
use Rattle.std.proofs.Math.Seq.{take-append_seam, drop-append_seam}
use Rattle.std.specs.Prelude.{filter}
use Rattle.mj_tree.specs.State.{new_state}
use Rattle.mj_tree.specs.Answer.{after_all}
use Rattle.mj_machine.specs.declared.kept.Kept.{Kept}
use Rattle.mj_machine.specs.Machine.{LogMachine, all_kept, early_state, fold_of, made_safe, ends_by, ends_behind}
use Rattle.mj_delta.specs.Histories.{Turn, events, requests, Carries}
use Rattle.mj_delta.specs.Fresh.{fresh_table}
use Rattle.mj_facts.specs.Journalled.{Journalled, ends, place_of}
use Rattle.mj_facts.proofs.Entries.{ends_append, place_until}
use Rattle.mj_rank.specs.History.{IsHistory, members, turns_end}
use Rattle.mj_rank.proofs.Members.{members_append, members_requests, events_take, events_drop, events_append, front_by, rest_behind}

module _ (rank : ℕ) (j : Journalled) (older newer : List Turn) (m : LogMachine) (h : IsHistory rank j older newer m) where
  -- all requests of the machine, and its state after them
  pub kept_is : all_kept m ≡ members j.start (older ++ newer)
  kept_is = (λ z. h.history z ++ h.on_the_way z) ∙ sym (members_append j.start older newer)

  pub early_is : early_state m ≡ after_all (new_state rank) (requests (older ++ newer))
  early_is = (λ z. fold_of (h.opening z) (kept_is z)) ∙ ap (after_all (new_state rank)) (members_requests j.start (older ++ newer))

  pub all_events : length j.events ≡ length older + length newer
  all_events = ap length h.events ∙ (length-map (older ++ newer) (λ (x : Turn). x.0) ∙ length-append older newer)

  -- ---- where the older ones end

  older_events : take (length older) j.events ≡ events older
  older_events = ap (take (length older)) h.events ∙ (events_take (length older) (older ++ newer) ∙ ap events (take-append_seam older newer))

  newer_events : drop (length older) j.events ≡ events newer
  newer_events = ap (drop (length older)) h.events ∙ (events_drop (length older) (older ++ newer) ∙ ap events (drop-append_seam older newer))

  pub older_end : place_of j (length older) ≡ turns_end j.start older
  older_end = ap (ends j.start) older_events

  pub more_end : (count : ℕ) → length older ≤ count → place_of j count ≡ turns_end (turns_end j.start older) (take (count - length older) newer)
  more_end count up =
      place_until j (length older) count up
      ∙ ((λ z. ends (older_end z) (take (count - length older) (newer_events z))) ∙ ap (ends (turns_end j.start older)) (events_take (count - length older) newer))

  -- ---- more of them are safe

  module _ (k : ℕ) where
    abbrev front : List Turn
    front = take k newer

    abbrev rest : List Turn
    rest = drop k newer

    pub same_turns : (older ++ front) ++ rest ≡ older ++ newer
    same_turns = append_assoc older front rest ∙ ap (λ (xs : List Turn). older ++ xs) (take-append-drop k newer)

    longer_end : turns_end j.start (older ++ front) ≡ turns_end (turns_end j.start older) front
    longer_end = ap (ends j.start) (events_append older front) ∙ ends_append j.start (events older) (events front)

    parted : m.on_the_way ≡ members (turns_end j.start older) (front ++ rest)
    parted = h.on_the_way ∙ ap (members (turns_end j.start older)) (sym (take-append-drop k newer))

    pub history_safe : (p : ℕ) → p ≡ turns_end (turns_end j.start older) front → IsHistory rank j (older ++ front) rest (made_safe m p)
    history_safe p at = record {
      number = h.number;
      small = h.small;
      events = h.events ∙ ap events (sym same_turns);
      carries = subst (Carries rank (fresh_table rank) (new_state rank)) (sym same_turns) h.carries;
      opening = h.opening;
      history =
          (λ z. h.history z ++ filter (ends_by (at z)) (parted z))
          ∙ (ap (λ (ks : List Kept). members j.start older ++ ks) (front_by (turns_end j.start older) front rest) ∙ sym (members_append j.start older front));
      on_the_way =
          (λ z. filter (ends_behind (at z)) (parted z))
          ∙ (rest_behind (turns_end j.start older) front rest ∙ ap (λ (n : ℕ). members n rest) (sym longer_end));
    }
