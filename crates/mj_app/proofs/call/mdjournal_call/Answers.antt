use Rattle.std.proofs.Common.{refl, sym, ap, ◌∙◌}
use Rattle.mj_app.specs.Status.{code_of}
use Rattle.mj_app.proofs.HeadlineLemmas.{none_play}
use Rattle.mj_app.proofs.CallLemmas.{words_text}
use Rattle.mj_app.proofs.call.mdjournal_call.Goals as goal

pub returns-in-Some-clause-words : goal.returns-in-Some-clause-words
returns-in-Some-clause-words g c = (λ two. absurd (c.carry_out-status.ensures.served (sym c.code.ensures ∙ two)), λ none. absurd (let is = c.in-Some.ensures in cc))

pub returns-in-Some-clause-says : goal.returns-in-Some-clause-says
returns-in-Some-clause-says g c = rw (← c.in-Some.ensures, c.code.ensures) c.carry_out-status.ensures.says

pub returns-in-Some-clause-headline : goal.returns-in-Some-clause-headline
returns-in-Some-clause-headline g c = rw (← c.in-Some.ensures, c.code.ensures) c.carry_out-status.ensures.headline

pub returns-in-Some-clause-first : goal.returns-in-Some-clause-first
returns-in-Some-clause-first g c = rw (← c.in-Some.ensures, c.code.ensures) c.carry_out-status.ensures.first

pub returns-in-None-clause-words : goal.returns-in-None-clause-words
returns-in-None-clause-words g c = (λ two. sym c.in-None.ensures, λ none. c.code-in-None.ensures ∙ ap code_of (c.refuse-status.ensures.fixed tt))

pub returns-in-None-clause-says : goal.returns-in-None-clause-says
returns-in-None-clause-says g c = rw (← c.in-None.ensures) (record {
  code_is = c.code-in-None.ensures ∙ ap code_of (c.refuse-status.ensures.fixed tt);
  text = words_text c.refuse-status.result _ _ (c.refuse-status.ensures.fixed tt) c.refuse-status.ensures.says;
  unread = refl;
  untouched = refl;
})

pub returns-in-None-clause-headline : goal.returns-in-None-clause-headline
returns-in-None-clause-headline g c = rw (← c.in-None.ensures) (none_play _)

pub returns-in-None-clause-first : goal.returns-in-None-clause-first
returns-in-None-clause-first g c = rw (← c.in-None.ensures) (none_play _)
