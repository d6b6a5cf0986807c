use Rattle.std.proofs.Common.{refl}
use Rattle.mj_app.specs.Formats.{why_not}
use Rattle.mj_app.proofs.formatting.format_store.Goals as goal

pub returns : goal.returns
returns g c = record {
  why = why_not c.restart_and_format-outcome.result;
  work = c.restart_and_format-outcome.ensures;
  status = c.tell-status.result;
  is = refl;
  ends = c.tell-status.ensures;
}
