use Rattle.std.proofs.Common.{◌≡◌, List, None, ap, ◌∙◌, subst}
use Rattle.std.specs.Prelude.{IfOk}
use Rattle.mj_cache.specs.Cached.{early_tree}
use Rattle.mj_meta.specs.declared.DirLump.{DirLump}
use Rattle.mj_event.specs.declared.Event.{Event}
use Rattle.mj_event.specs.declared.Event.TheVariants as event
use Rattle.mj_delta.specs.Events.{update_of}
use Rattle.mj_plan.specs.declared.updates.Changed.{Changed}
use Rattle.mj_plan.proofs.events.set_event.Goals as goal

pub returns : goal.returns
returns c =
    let s = early_tree c.args.cache.now in
    let r = c.args.r.now in
    let changed = ap (λ (k : Changed). event.Update (update_of s r c.args.ino k.next k.opened k.released k.lumps.items)) c.of_lumps.ensures in
    let lumps = ap (λ (ls : List DirLump). event.Update (update_of s r c.args.ino None None None ls)) (c.in_ok-lumps.ensures r) in
    subst (λ (x : Event). IfOk c.update_of.result (λ e. e ≡ x)) (changed ∙ lumps) c.update_of.ensures
