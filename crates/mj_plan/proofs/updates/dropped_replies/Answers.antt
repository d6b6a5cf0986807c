use Rattle.std.proofs.Common.{ℕ, Bool, nat_lt, filter, sym, ap, ◌∙◌}
use Rattle.std.specs.Prelude.{max}
use Rattle.mj_maps.specs.Map.{get}
use Rattle.mj_cache.specs.Cached.{early_tree}
use Rattle.mj_delta.specs.Events.{own_session, tids}
use Rattle.mj_cache.proofs.Replies.{nothing_kept}
use Rattle.mj_plan.proofs.Tids.{has_oldest, tids_pass}
use Rattle.mj_plan.proofs.updates.dropped_replies.Goals as goal

pub returns-in_ok-dropped-in-Some : goal.returns-in_ok-dropped-in-Some
returns-in_ok-dropped-in-Some c =
    let s = early_tree c.args.cache.now in
    let r = c.args.r.now in
    let own = own_session s r in
    let oldest = has_oldest (get s.sessions r.client) c.in-Some.oldest (sym c.requires.own ∙ c.in-Some.is) in
    let bound = c.later-bound.ensures ∙ ap (λ x. max x r.oldest) oldest in
    c.from_vec.ensures ∙ c.in_ok-dropped-in-Some.ensures ∙ (λ z. filter (λ tid. nat_lt tid (bound z)) (tids own.kept)) ∙ sym (tids_pass (λ tid. nat_lt tid (max own.oldest r.oldest)) own.kept)

pub returns-in-None : goal.returns-in-None
returns-in-None c =
    let s = early_tree c.args.cache.now in
    let r = c.args.r.now in
    let own = own_session s r in
    let below : ℕ → Bool = λ tid. nat_lt tid (max own.oldest r.oldest) in
    c.from_vec-in-None.ensures ∙ c.new.ensures.items ∙ ap (filter below) (nothing_kept s r.client (sym c.requires.own ∙ c.in-None.is)) ∙ sym (tids_pass below own.kept)
