-- The log machine: an opening, the requests that are safe, and those that are on the way.
use Rattle.std.specs.Prelude.{ℕ, Bool, not, nat_le, List, [], ◌∷◌, ◌++◌, map, filter, if◌then◌else◌}
use Rattle.mj_tree.specs.State.{PlainState}
use Rattle.mj_tree.specs.Answer.{answer, after_all, changes}
use Rattle.mj_tree.specs.declared.request.ClientRequest.{ClientRequest}
use Rattle.mj_tree.specs.declared.request.Reply.{Reply}
use Rattle.mj_machine.specs.declared.kept.Kept.{Kept}

pub record LogMachine : Type 0 where
  pub opening : PlainState
  pub history : List Kept
  pub on_the_way : List Kept

abbrev pub opened : PlainState → LogMachine
opened s = record { opening = s; history = []; on_the_way = [] }

abbrev pub requests : List Kept → List ClientRequest
requests ks = map (λ (k : Kept). k.request) ks

abbrev pub all_kept : LogMachine → List Kept
all_kept w = w.history ++ w.on_the_way

-- the state after requests that were kept
abbrev pub fold_of : PlainState → List Kept → PlainState
fold_of s ks = after_all s (requests ks)

abbrev pub safe_state : LogMachine → PlainState
safe_state w = fold_of w.opening w.history

abbrev pub early_state : LogMachine → PlainState
early_state w = fold_of w.opening (all_kept w)

abbrev pub ends_by : ℕ → Kept → Bool
ends_by p k = nat_le k.ends p

abbrev pub ends_behind : ℕ → Kept → Bool
ends_behind p k = not (ends_by p k)

-- the state after those that end at or below a position, which is what a standby may show there
abbrev pub shown_state : LogMachine → ℕ → PlainState
shown_state w p = fold_of w.opening (filter (ends_by p) (all_kept w))

-- ---- steps

abbrev pub reply_to : LogMachine → ClientRequest → Reply
reply_to w r = answer (early_state w) r

-- A request that changes the state goes last among those on the way, with the end of its entry.
abbrev pub accepted : LogMachine → ClientRequest → ℕ → LogMachine
accepted w r ends = if changes (early_state w) r then record w { on_the_way = w.on_the_way ++ record { request = r; ends = ends } ∷ [] } else w

-- What ends at or below the position is safe.
abbrev pub made_safe : LogMachine → ℕ → LogMachine
made_safe w p = record w { history = w.history ++ filter (ends_by p) w.on_the_way; on_the_way = filter (ends_behind p) w.on_the_way }

-- So it is at a stop, and the others are lost.
abbrev pub stopped : LogMachine → ℕ → LogMachine
stopped w p = record w { history = w.history ++ filter (ends_by p) w.on_the_way; on_the_way = [] }

pub data Step : Type 0 where
  Accept : ClientRequest → (ends : ℕ) → Step
  Safe : ℕ → Step
  Stop : ℕ → Step
  Other : Step

abbrev pub stepped : LogMachine → Step → LogMachine
stepped w (Accept r ends) = accepted w r ends
stepped w (Safe p) = made_safe w p
stepped w (Stop p) = stopped w p
stepped w Other = w

abbrev pub run : LogMachine → List Step → LogMachine
run w [] = w
run w (s ∷ ss) = run (stepped w s) ss
