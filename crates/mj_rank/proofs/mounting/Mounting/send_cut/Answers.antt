use Rattle.std.proofs.Common.{refl, ap, subst, sym, ◌∙◌, List, ◌++◌, ◌∷◌, []}
use Rattle.mj_base.specs.declared.object.ObjectName.{ObjectName}
use Rattle.mj_texts.specs.declared.steps.MountStep.TheVariants as step
use Rattle.mj_rank.specs.declared.cutting.Cut.{Cut}
use Rattle.mj_rank.specs.Mounts.{mount_value}
use Rattle.mj_rank.specs.Since.{OutAt}
use Rattle.mj_rank.proofs.MountSteps.{numbers_at, since_cut}
use Rattle.mj_rank.proofs.SinceLemmas.{mount_since_same}
use Rattle.mj_rank.proofs.mounting.Mounting.send_cut.Goals as goal

pub returns-in-Ok-clause-sent : goal.returns-in-Ok-clause-sent
returns-in-Ok-clause-sent g c = record {
  number = c.in-Ok.number;
  says = ap (λ (n : ObjectName). step.Sent n) c.journal_object.ensures;
  value = λ z. record (mount_value c.args.self.now) {
    next = c.sent.ensures.next z;
    end = (c.sent.ensures.end ∙ c.reserve.ensures.end) z;
    out = (c.sent.ensures.out ∙ ap (λ (out : List Cut). out ++ record { op = c.in-Ok.number; index = c.args.index } ∷ []) c.reserve.ensures.out) z;
  };
  submits = c.in-Ok.ensures.ok;
}

pub returns-in-Ok-clause-since : goal.returns-in-Ok-clause-since
unfolding returns-in-Ok-clause-sent
returns-in-Ok-clause-since g c = λ base h.
    since_cut base c.args.self.now _ c.submit.new.self refl c.submit.ensures.later h c.in-Ok.number c.args.index c.requires.cutting (returns-in-Ok-clause-sent g c).value c.in-Ok.ensures.listed c.in-Ok.ensures.newest

pub returns-in-Err-clause-since : goal.returns-in-Err-clause-since
returns-in-Err-clause-since g c = λ base h.
    mount_since_same base c.args.self.now _ c.submit.ensures.later
    (subst (λ (out : List Cut). OutAt c.args.self.now.stage out) (sym c.reserve.ensures.out) h.out) h c.in-Err.ensures.same_list refl
    (ap (λ (out : List Cut). numbers_at c.args.self.now.stage c.args.self.now.number c.args.self.now.sent out) c.reserve.ensures.out)
