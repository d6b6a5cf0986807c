use Rattle.std.proofs.Common.{inl, inr}
use Rattle.mj_app.proofs.chronicle.answer_lines.Goals as goal

pub returns-in-Ok : goal.returns-in-Ok
returns-in-Ok g c = inl (record {
  restarted = record { told = c.in-Ok.ensures.ok; none = c.in-Ok.ensures.none_listed; later = c.restart.ensures.later };
  end = c.model-end.result;
  is = c.status_of.ensures;
  says = c.model-end.ensures.says;
})

pub returns-in-Err : goal.returns-in-Err
returns-in-Err g c =
    let counted = c.in-Err.ensures.cause in
    inr (record { stays = c.in-Err.ensures.err; rose = counted.rose; text = rw counted.count at c.fail_to_start-status.ensures })
