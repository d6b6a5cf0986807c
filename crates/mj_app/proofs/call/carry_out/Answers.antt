use Rattle.std.proofs.Common.{inl, refl}
use Rattle.mj_app.specs.Call.{files_state}
use Rattle.mj_app.specs.Status.{code_of}
use Rattle.mj_app.proofs.CallLemmas.{formats_not_2, model_not_2, play_says}
use Rattle.mj_app.proofs.HeadlineLemmas.{formats_play, has_first, has_headline, models_play}
use Rattle.mj_app.proofs.call.carry_out.Goals as goal

pub returns-in-Format-clause-served : goal.returns-in-Format-clause-served
returns-in-Format-clause-served g c = let f = c.format_store.ensures in λ two. formats_not_2 c.in-Format.rank c.in-Format.layout f.why _ _ f.status _ f.is f.ends two

pub returns-in-Format-clause-says : goal.returns-in-Format-clause-says
returns-in-Format-clause-says g c = rw c.in-Format.is (record { formats = c.format_store.ensures; unread = refl })

pub returns-in-Format-clause-headline : goal.returns-in-Format-clause-headline
returns-in-Format-clause-headline g c = rw c.in-Format.is (formats_play _ c.in-Format.rank c.in-Format.layout)

pub returns-in-Format-clause-first : goal.returns-in-Format-clause-first
returns-in-Format-clause-first g c = rw c.in-Format.is (formats_play _ c.in-Format.rank c.in-Format.layout)

pub returns-in-Play-clause-served : goal.returns-in-Play-clause-served
returns-in-Play-clause-served g c = λ two. (play_says g.S.ObjectStore.state g.S.ObjectStore.faults g.S.ObjectStore.unreported _ _ _ (files_state g.F.Files.told g.F.Files.faults c.play_script.new.files) _ _ c.play_script.result.0 _ c.play_script.result.1 (code_of c.play_script.result.0) refl c.play_script.ensures.says c.play_script.ensures.exact).own (inl two)

pub returns-in-Play-clause-says : goal.returns-in-Play-clause-says
returns-in-Play-clause-says g c = rw c.in-Play.is (play_says g.S.ObjectStore.state g.S.ObjectStore.faults g.S.ObjectStore.unreported _ _ _ _ _ _ c.play_script.result.0 _ c.play_script.result.1 (code_of c.play_script.result.0) refl c.play_script.ensures.says c.play_script.ensures.exact)

pub returns-in-Play-clause-headline : goal.returns-in-Play-clause-headline
returns-in-Play-clause-headline g c = rw c.in-Play.is (has_headline g.S.ObjectStore.state g.S.ObjectStore.faults g.S.ObjectStore.unreported _ _ _ (files_state g.F.Files.told g.F.Files.faults c.play_script.new.files) _ _ _ _ _ c.play_script.result.0 refl c.play_script.ensures.says)

pub returns-in-Play-clause-first : goal.returns-in-Play-clause-first
returns-in-Play-clause-first g c = rw c.in-Play.is (has_first g.S.ObjectStore.state g.S.ObjectStore.faults g.S.ObjectStore.unreported _ _ _ (files_state g.F.Files.told g.F.Files.faults c.play_script.new.files) _ _ _ _ _ c.play_script.result.0 refl c.play_script.ensures.says c.play_script.ensures.small)

pub returns-in-Model-clause-served : goal.returns-in-Model-clause-served
returns-in-Model-clause-served g c = λ two. model_not_2 g.S.ObjectStore.state g.S.ObjectStore.faults g.S.ObjectStore.unreported _ _ _ _ _ _ _ _ _ (record { status = c.answer_chronicle.result.0; is = refl; ends = c.answer_chronicle.ensures.says; exact = c.answer_chronicle.ensures.exact }) two

pub returns-in-Model-clause-says : goal.returns-in-Model-clause-says
returns-in-Model-clause-says g c = rw c.in-Model.is (record { status = c.answer_chronicle.result.0; is = refl; ends = c.answer_chronicle.ensures.says; exact = c.answer_chronicle.ensures.exact })

pub returns-in-Model-clause-headline : goal.returns-in-Model-clause-headline
returns-in-Model-clause-headline g c = rw c.in-Model.is (models_play _ c.in-Model.rank c.in-Model.chronicle.now)

pub returns-in-Model-clause-first : goal.returns-in-Model-clause-first
returns-in-Model-clause-first g c = rw c.in-Model.is (models_play _ c.in-Model.rank c.in-Model.chronicle.now)
