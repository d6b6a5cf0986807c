use Rattle.std.proofs.Common.{◌++◌, ap, ◌∙◌}
use Rattle.mj_recovery.specs.Damage.{lump_dirs}
use Rattle.mj_recovery_tests.proofs.Gathered.{lumps_more}
use Rattle.mj_recovery_tests.proofs.recover.live_lumps.Goals as goal

pub loop-e-preserved : goal.loop-e-preserved
loop-e-preserved c = lumps_more c.loop-e.found.items c.push_heads.new.found.items _ c.args.events.now c.loop-e.e-index c.e-item.result c.loop-e-test.true c.e-item.is
    (c.in_ok-push_heads.ensures ∙ ap (λ ws. c.loop-e.found.items ++ lump_dirs ws) (c.deref.ensures.value ∙ c.in_ok-writes.ensures.writes)) c.loop-e.invariant
