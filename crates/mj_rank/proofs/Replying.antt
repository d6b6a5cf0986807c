-- A request against a machine: what is told of it, and what it leaves.
use Rattle.std.proofs.Common.{◌≡◌, ℕ, Bool, true, false, Option, Some, None, Result, Ok, Err, OnOk, refl, sym, ap, subst, ◌∙◌}
use Rattle.std.specs.Prelude.{IfOk, IsSome, IsTrue, is_some, unwrap_or}
use Rattle.mj_entry.specs.Entry.{IsPayload}
use Rattle.mj_store.specs.State.{StoreState}
use Rattle.mj_event.specs.declared.Event.{Event}
use Rattle.mj_event.specs.Event.{event_bytes}
use Rattle.mj_tree.specs.declared.request.ClientRequest.{ClientRequest}
use Rattle.mj_tree.specs.declared.request.Reply.{Reply}
use Rattle.mj_tree.specs.State.{PlainState}
use Rattle.mj_tree.specs.Answer.{answer, changes}
use Rattle.mj_cache.specs.Cached.{early_table, early_tree}
use Rattle.mj_delta.specs.Steps.{GivesTree}
use Rattle.mj_machine.specs.Machine.{LogMachine, early_state, reply_to}
use Rattle.mj_texts.specs.declared.steps.Early.{Early}
use Rattle.mj_rank.specs.declared.rank.Rank.{Rank}
use Rattle.mj_rank.specs.Log.{log_value}
use Rattle.mj_rank.specs.Live.{RankLives, after_early}
use Rattle.mj_rank.specs.Segment.{event_refusal}
use Rattle.mj_rank.specs.Request.{value_of, map_in, event_end, answered, with_event}
use Rattle.mj_rank.proofs.Living.{tree_of_lives, answered_lives, accepted_lives}

-- whether there is an event says whether the tree changes
pub no_change : (o : Option Event) (b : Bool) → o ≡ None → is_some o ≡ b → b ≡ false
no_change o b none there = sym there ∙ ap is_some none

pub has_change : (o : Option Event) (e : Event) (b : Bool) → o ≡ Some e → is_some o ≡ b → b ≡ true
has_change o e b some there = sym there ∙ ap is_some some

-- the reply is the machine's
pub replies : {S E : Type 0} (state : S → Option StoreState) (old : Rank S) (r : ClientRequest) (x : Reply) (o : Option ℕ) (n : ℕ) (result : Result Early E) → IfOk result (λ early. early ≡ record { reply = x; ends_at = o; place = n })
    → old.cache.rank ≡ old.number → x ≡ answer (early_tree old.cache) r → IfOk result (λ early. (m : LogMachine) → RankLives state old m → early.reply ≡ reply_to m r)
replies state old r x o n (Ok early) same own is = λ m t. ap (λ (y : Early). y.reply) same ∙ (is ∙ ap (λ (s : PlainState). answer s r) (tree_of_lives state old m t own))
replies state old r x o n (Err e) same own is = tt

-- ---- a request that changes nothing

unchanged : (s t : PlainState) (r : ClientRequest) → s ≡ t → changes s r ≡ false → IsTrue (changes t r) → ⊥
unchanged s t r same none change = let no : true ≡ false = sym change ∙ (ap (λ (u : PlainState). changes u r) (sym same) ∙ none) in absurd cc

module _ {S E : Type 0} (state : S → Option StoreState) (old new : Rank S) (r : ClientRequest) (result : Result Early E) (own : old.cache.rank ≡ old.number) (none : changes (early_tree old.cache) r ≡ false) where
  pub answered_ends : IfOk result (λ early. (m : LogMachine) → RankLives state old m → IsTrue (changes (early_state m) r) → IsSome early.ends_at)
  answered_ends = elim result as (λ y. IfOk y (λ early. (m : LogMachine) → RankLives state old m → IsTrue (changes (early_state m) r) → IsSome early.ends_at)) [
    | Ok early ↦ λ m t change. absurd (unchanged (early_tree old.cache) (early_state m) r (tree_of_lives state old m t own) none change)
    | Err e ↦ tt
  ]

  pub answered_live : (x : Reply) (o : Option ℕ) → new.store ≡ old.store → OnOk result (value_of new ≡ answered (value_of old) r x o)
      → IfOk result (λ early. (m : LogMachine) → RankLives state old m → RankLives state new (after_early m r early))
  answered_live x o same = elim result as (λ y. OnOk y (value_of new ≡ answered (value_of old) r x o) → IfOk y (λ early. (m : LogMachine) → RankLives state old m → RankLives state new (after_early m r early))) [
    | Ok early ↦ λ is m t. answered_lives state old new r same own none x o is (unwrap_or early.ends_at 0) m t
    | Err e ↦ λ is. tt
  ]

-- ---- and one with an event

pub accepted_ends : {S E : Type 0} (state : S → Option StoreState) (old : Rank S) (r : ClientRequest) (x : Reply) (end n : ℕ) (result : Result Early E) → IfOk result (λ early. early ≡ record { reply = x; ends_at = Some end; place = n })
    → IfOk result (λ early. (m : LogMachine) → RankLives state old m → IsTrue (changes (early_state m) r) → IsSome early.ends_at)
accepted_ends state old r x end n (Ok early) same = λ m t change. subst (λ (y : Early). IsSome y.ends_at) (sym same) refl
accepted_ends state old r x end n (Err e) same = tt

pub accepted_live : {S E : Type 0} (state : S → Option StoreState) (old new : Rank S) (r : ClientRequest) (x : Reply) (n : ℕ) (e : Event) (result : Result Early E) → new.store ≡ old.store → old.cache.rank ≡ old.number
    → changes (early_tree old.cache) r ≡ true → GivesTree old.cache.rank (early_table old.cache) (early_tree old.cache) r e → IsPayload (event_bytes e)
    → OnOk result (event_refusal (map_in (value_of old)) (log_value old.log) (event_bytes e) ≡ None) → OnOk result (value_of new ≡ answered (with_event (value_of old) e) r x (Some (event_end (value_of old) e)))
    → IfOk result (λ early. early ≡ record { reply = x; ends_at = Some (event_end (value_of old) e); place = n })
    → IfOk result (λ early. (m : LogMachine) → RankLives state old m → RankLives state new (after_early m r early))
accepted_live state old new r x n e (Ok early) same own change gives fits admitted value told = λ m t.
    subst (λ (y : Early). RankLives state new (after_early m r y)) (sym told) (accepted_lives state old new r same own e change gives fits admitted x (Some (event_end (value_of old) e)) value m t)
accepted_live state old new r x n e (Err y) same own change gives fits admitted value told = tt
