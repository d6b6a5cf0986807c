use Rattle.std.proofs.Common.{◌<◌, arith}
use Rattle.mj_world.specs.Steps.{left}
use Rattle.mj_app.proofs.MountActs.{begun, not_begun, comes_ready, comes_sent, comes_reaped, comes_waiting, comes_back, comes_down, refused}
use Rattle.mj_app.proofs.WorldsLemmas.{so_far_since}
use Rattle.mj_app.proofs.mount.carry_on.Goals as goal

pub returns-in-Err : goal.returns-in-Err
returns-in-Err g c = not_begun g.S.ObjectStore.state g.S.ObjectStore.faults g.S.ObjectStore.unreported _ c.in-Err.ensures.refused

pub carries-init : goal.carries-init
carries-init g c = begun g.S.ObjectStore.state g.S.ObjectStore.faults g.S.ObjectStore.unreported _ c.in-Ok.ensures.begun

pub returns-in-Ok-Ready : goal.returns-in-Ok-Ready
returns-in-Ok-Ready g c = comes_ready g.S.ObjectStore.state g.S.ObjectStore.faults g.S.ObjectStore.unreported _ _ _ c.carries.invariant (rw c.in-Ok-Ready.field-0-is at c.in-Ok-Ready.ensures.carried) c.mounted.ensures

pub carries-smaller-in-Ok-Sent : goal.carries-smaller-in-Ok-Sent
carries-smaller-in-Ok-Sent g c =
    let since = so_far_since g.S.ObjectStore.state g.S.ObjectStore.faults g.S.ObjectStore.unreported c.carries.invariant 0 c.requires in
    let less : left c.carry.new.world < left c.carries.world = rw c.in-Ok-Sent.field-0-is at (c.in-Ok-Sent.ensures.carried.leaves 0 since) in
    omega arith

pub carries-smaller-in-Ok-Reaped : goal.carries-smaller-in-Ok-Reaped
carries-smaller-in-Ok-Reaped g c =
    let since = so_far_since g.S.ObjectStore.state g.S.ObjectStore.faults g.S.ObjectStore.unreported c.carries.invariant 0 c.requires in
    let less : left c.carry.new.world < left c.carries.world = rw c.in-Ok-Reaped.field-0-is at (c.in-Ok-Reaped.ensures.carried.leaves 0 since) in
    omega arith

pub carries-preserved-in-Ok-Sent : goal.carries-preserved-in-Ok-Sent
carries-preserved-in-Ok-Sent g c = comes_sent g.S.ObjectStore.state g.S.ObjectStore.faults g.S.ObjectStore.unreported _ _ _ c.carries.invariant (rw c.in-Ok-Sent.field-0-is at c.in-Ok-Sent.ensures.carried)

pub carries-preserved-in-Ok-Reaped : goal.carries-preserved-in-Ok-Reaped
carries-preserved-in-Ok-Reaped g c = comes_reaped g.S.ObjectStore.state g.S.ObjectStore.faults g.S.ObjectStore.unreported _ _ _ c.carries.invariant (rw c.in-Ok-Reaped.field-0-is at c.in-Ok-Reaped.ensures.carried)

pub returns-in-Some : goal.returns-in-Some
returns-in-Some g c = comes_waiting g.S.ObjectStore.state g.S.ObjectStore.faults g.S.ObjectStore.unreported _ _ (rw c.in-Some.is at c.carries.invariant) (rw c.in-Ok-Waiting.field-0-is at c.in-Ok-Waiting.ensures.carried)

pub carries-preserved : goal.carries-preserved
carries-preserved g c = comes_back g.S.ObjectStore.state g.S.ObjectStore.faults g.S.ObjectStore.unreported _ _ _ (rw c.in-None.is at c.carries.invariant) (rw c.in-Ok-Waiting.field-0-is at c.in-Ok-Waiting.ensures.carried) c.in-Ok-try_oldest.ensures.tried.1

pub returns-in-Err-try_oldest : goal.returns-in-Err-try_oldest
returns-in-Err-try_oldest g c = comes_down g.S.ObjectStore.state g.S.ObjectStore.faults g.S.ObjectStore.unreported _ _ _ (rw c.in-None.is at c.carries.invariant) (rw c.in-Ok-Waiting.field-0-is at c.in-Ok-Waiting.ensures.carried) c.in-Err-try_oldest.ensures.refused.1

pub returns-in-Err-carry : goal.returns-in-Err-carry
returns-in-Err-carry g c = refused g.S.ObjectStore.state g.S.ObjectStore.faults g.S.ObjectStore.unreported _ _ _ c.carries.invariant c.in-Err-carry.ensures.refused
