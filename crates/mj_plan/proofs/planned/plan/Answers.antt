use Rattle.std.proofs.Common.{sym, ap, ◌∙◌}
use Rattle.std.specs.Prelude.{is_some}
use Rattle.mj_tree.specs.Answer.{reply_of}
use Rattle.mj_cache.specs.Cached.{early_table, early_tree}
use Rattle.mj_delta.specs.EventFor.{event_for}
use Rattle.mj_delta.proofs.EventIs.{event_there, event_gives, event_exact}
use Rattle.mj_delta.proofs.EventFits.{event_fits}
use Rattle.mj_tree.proofs.ByOldest.{answer_is}
use Rattle.mj_plan.proofs.planned.plan.Goals as goal

pub returns-clause-reply : goal.returns-clause-reply
returns-clause-reply c = c.into_reply.ensures ∙ ap reply_of c.in_ok-decision.ensures ∙ sym (answer_is (early_tree c.args.cache.now) c.args.r.now)

pub returns-clause-there : goal.returns-clause-there
returns-clause-there c =
    ap is_some ((c.in_ok-event.ensures ∙ ap (event_for c.args.cache.now.rank (early_table c.args.cache.now) (early_tree c.args.cache.now) c.args.r.now) c.in_ok-decision.ensures)) ∙ event_there c.args.cache.now.rank (early_table c.args.cache.now) (early_tree c.args.cache.now) c.args.r.now

pub returns-clause-event : goal.returns-clause-event
returns-clause-event c = λ e is.
    event_gives c.args.cache.now.rank (early_table c.args.cache.now) (early_tree c.args.cache.now) c.args.r.now e c.has_tree.ensures c.request_fits.ensures (sym ((c.in_ok-event.ensures ∙ ap (event_for c.args.cache.now.rank (early_table c.args.cache.now) (early_tree c.args.cache.now) c.args.r.now) c.in_ok-decision.ensures)) ∙ is)

pub returns-clause-exact : goal.returns-clause-exact
returns-clause-exact c = λ e is.
    event_exact c.args.cache.now.rank (early_table c.args.cache.now) (early_tree c.args.cache.now) c.args.r.now e c.has_tree.ensures c.request_fits.ensures (sym ((c.in_ok-event.ensures ∙ ap (event_for c.args.cache.now.rank (early_table c.args.cache.now) (early_tree c.args.cache.now) c.args.r.now) c.in_ok-decision.ensures)) ∙ is)

pub returns-clause-fits : goal.returns-clause-fits
returns-clause-fits c = λ e is.
    event_fits c.args.cache.now.rank (early_table c.args.cache.now) (early_tree c.args.cache.now) c.args.r.now e c.has_tree.ensures c.request_fits.ensures (sym ((c.in_ok-event.ensures ∙ ap (event_for c.args.cache.now.rank (early_table c.args.cache.now) (early_tree c.args.cache.now) c.args.r.now) c.in_ok-decision.ensures)) ∙ is)

pub returns-clause-planned : goal.returns-clause-planned
returns-clause-planned c = (c.in_ok-event.ensures ∙ ap (event_for c.args.cache.now.rank (early_table c.args.cache.now) (early_tree c.args.cache.now) c.args.r.now) c.in_ok-decision.ensures)
