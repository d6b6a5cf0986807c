use Rattle.std.proofs.Common.{refl, ap, ◌∙◌}
use Rattle.mj_app.specs.Status.{code_of}
use Rattle.mj_app.proofs.CallLemmas.{words_text}
use Rattle.mj_app.proofs.image.mdjournal_image_call.Goals as goal

pub returns-in-Some : goal.returns-in-Some
returns-in-Some g c = rw (← c.in-Some.ensures) c.over_image.ensures

pub returns-in-None : goal.returns-in-None
returns-in-None g c = rw (← c.in-None.ensures) (record {
  code_is = c.code.ensures ∙ ap code_of (c.refuse.ensures.fixed tt);
  unread = refl;
  text = words_text c.refuse.result _ _ (c.refuse.ensures.fixed tt) c.refuse.ensures.says;
})
