use Rattle.std.proofs.Common.{inl, inr, ◌∙◌}
use Rattle.mj_app.specs.Call.{files_state}
use Rattle.mj_model.specs.Took.{sink_state}
use Rattle.mj_app.proofs.image.over_image.Goals as goal

pub returns-in-Ok : goal.returns-in-Ok
returns-in-Ok g c = inr (record {
  before = c.in-Ok.store;
  read = c.in-Ok.ensures.read;
  at_read = files_state g.F.Files.told g.F.Files.faults c.read_store.new.files;
  same = c.read_store.ensures.unwritten;
  read_later = c.read_store.ensures.later;
  after = c.mdjournal_call-code.result.1;
  at_end = files_state g.F.Files.told g.F.Files.faults c.mdjournal_call-code.new.files;
  unwritten = c.mdjournal_call-code.ensures.unwritten ∙ c.read_store.ensures.unwritten;
  call_later = c.mdjournal_call-code.ensures.later;
  middle = sink_state g.K.Sink.taken g.K.Sink.faults c.mdjournal_call-code.new.out;
  called = c.mdjournal_call-code.result.0;
  says = c.mdjournal_call-code.ensures.says;
  headline = c.mdjournal_call-code.ensures.headline;
  first = c.mdjournal_call-code.ensures.first;
  back = c.write_back.ensures.ends;
  back_later = c.write_back.ensures.later;
})

pub returns-in-Err : goal.returns-in-Err
returns-in-Err g c = inl (record {
  why = c.in-Err.unread;
  cause = c.in-Err.ensures.refused;
  unwritten = c.read_store.ensures.unwritten;
  status = c.tell_unread.result;
  is = c.code.ensures;
  ends = c.tell_unread.ensures;
})
