use Rattle.std.proofs.Common.{sym, ap, ◌∙◌}
use Rattle.mj_tables.specs.Slots.{Slots, slots_of, altered, settling}
use Rattle.mj_tables.proofs.Laid.{all_settled-push}
use Rattle.mj_tables.proofs.settling.settle_all.Goals as goal

pub loop-w-preserved-in-Some : goal.loop-w-preserved-in-Some
loop-w-preserved-in-Some c = (
  tt,
  tt,
  c.settle.ensures ∙ ap (λ (m : Slots). altered m c.in-Some.w.key (settling c.in-Some.w.value c.args.ends)) c.loop-w.invariant.2 ∙ sym (all_settled-push c.args.ends (slots_of c.args.slots.now) c.loop-w.yielded c.in-Some.w),
)

pub loop-w-preserved-in-Some-2 : goal.loop-w-preserved-in-Some-2
loop-w-preserved-in-Some-2 c = (
  tt,
  tt,
  c.settle.ensures ∙ ap (λ (m : Slots). altered m c.in-Some.w.key (settling c.in-Some.w.value c.args.ends)) c.loop-w.invariant.2 ∙ sym (all_settled-push c.args.ends (slots_of c.args.slots.now) c.loop-w.yielded c.in-Some.w),
)

pub loop-w-preserved : goal.loop-w-preserved
loop-w-preserved c = (
  tt,
  tt,
  c.settle.ensures ∙ ap (λ (m : Slots). altered m c.in-Some.w.key (settling c.in-Some.w.value c.args.ends)) c.loop-w.invariant.2 ∙ sym (all_settled-push c.args.ends (slots_of c.args.slots.now) c.loop-w.yielded c.in-Some.w),
)
