use Rattle.std.proofs.Common.{inl, inr, refl}
use Rattle.mj_memstore.specs.Store.{memory_state, memory_objects}
use Rattle.mj_app.proofs.ImageLemmas.{written_rests}
use Rattle.mj_app.proofs.image.write_back.Goals as goal

pub returns-in-Ok-clause-ends : goal.returns-in-Ok-clause-ends
returns-in-Ok-clause-ends g c = inl (record {
  written = c.in-Ok.ensures.written;
  code_is = refl;
  silent = refl;
  rests = λ rank m again. written_rests rank m (memory_state c.args.store.now) (memory_objects c.args.store.now) c.in-Ok.ensures.written.all again;
})

pub returns-in-Err-clause-ends : goal.returns-in-Err-clause-ends
returns-in-Err-clause-ends g c = inr (record { why = c.in-Err.refusal; unwritten = c.in-Err.ensures.unwritten; ends = c.tell_unwritten.ensures })
