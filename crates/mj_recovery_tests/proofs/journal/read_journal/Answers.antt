use Rattle.std.proofs.Common.{◌∙◌}
use Rattle.mj_recovery.specs.Listed.{image_of}
use Rattle.mj_recovery_tests.proofs.Parts.{live_fits, live_found, live_fails}
use Rattle.mj_recovery_tests.proofs.journal.read_journal.Goals as goal

pub read_live-requires : goal.read_live-requires
read_live-requires c =
    live_fits (image_of c.args.objects.now) c.args.rank c.in-Ok.header c.deref.result.now c.in-Ok.ensures.is (c.deref.ensures.value ∙ c.in_ok-bytes.ensures) c.in-Ok.ensures.expire

pub returns-in-Ok-read_live-clause-told : goal.returns-in-Ok-read_live-clause-told
returns-in-Ok-read_live-clause-told c =
    live_found (image_of c.args.objects.now) c.args.rank c.in-Ok.header c.deref.result.now c.in-Ok.ensures.is (c.deref.ensures.value ∙ c.in_ok-bytes.ensures) c.in-Ok-read_live.found c.in-Ok-read_live.ensures.told

pub returns-clause-told : goal.returns-clause-told
returns-clause-told c =
    live_fails (image_of c.args.objects.now) c.args.rank c.in-Ok.header c.deref.result.now c.in-Ok.ensures.is (c.deref.ensures.value ∙ c.in_ok-bytes.ensures) c.in-Err-read_live.why c.in-Err-read_live.ensures.told
