use Rattle.std.proofs.Common.{ap, ◌∙◌}
use Rattle.mj_tree.specs.declared.change.Decision.TheVariants.{Accepted}
use Rattle.mj_cache.specs.Cached.{early_tree}
use Rattle.mj_plan.proofs.Allowed.{allowed, next_more}
use Rattle.mj_plan.proofs.events.change_event.Goals as goal

pub begin_event-requires-clause-next : goal.begin_event-requires-clause-next
begin_event-requires-clause-next c = (allowed (early_tree c.args.cache.now) c.args.r.now c.args.ino _ (c.requires.decided ∙ ap (Accepted c.args.ino) c.in-Begin.is)).0

pub begin_event-requires-clause-more : goal.begin_event-requires-clause-more
begin_event-requires-clause-more c =
    let s = early_tree c.args.cache.now in
    next_more s c.args.ino c.requires.tree.dentries.next_fits (allowed s c.args.r.now c.args.ino _ (c.requires.decided ∙ ap (Accepted c.args.ino) c.in-Begin.is))

pub link_event-requires-clause-room : goal.link_event-requires-clause-room
link_event-requires-clause-room c = allowed (early_tree c.args.cache.now) c.args.r.now c.args.ino _ (c.requires.decided ∙ ap (Accepted c.args.ino) c.in-Link.is)

pub unlink_event-requires-clause-link : goal.unlink_event-requires-clause-link
unlink_event-requires-clause-link c = allowed (early_tree c.args.cache.now) c.args.r.now c.args.ino _ (c.requires.decided ∙ ap (Accepted c.args.ino) c.in-Unlink.is)

pub replace_event-requires-clause-link : goal.replace_event-requires-clause-link
replace_event-requires-clause-link c = allowed (early_tree c.args.cache.now) c.args.r.now c.args.ino _ (c.requires.decided ∙ ap (Accepted c.args.ino) c.in-Replace.is)
