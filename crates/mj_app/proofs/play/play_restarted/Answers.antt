use Rattle.std.proofs.Common.{◌≡◌, ℕ, arith}
use Rattle.mj_world.specs.declared.world.Phase.TheVariants.{Stopped}
use Rattle.mj_world.specs.declared.world.World.{World}
use Rattle.mj_app.specs.Worlds.{Opens}
use Rattle.mj_app.proofs.RunLemmas.{up_to_none, up_to_more, up_to_since, run_ends, run_done, line_at}
use Rattle.mj_app.proofs.WorldsLemmas.{opens_since, works_since}
use Rattle.mj_app.proofs.play.play_restarted.Goals as goal

pub loop-i-init : goal.loop-i-init
loop-i-init g c = up_to_none g.S.ObjectStore.state g.S.ObjectStore.faults g.S.ObjectStore.unreported _ _ _

first_opens : {S : Type 0} (store : S) (world : World S) (rank : ℕ) → world.phase ≡ Stopped store → world.number ≡ rank → Opens rank store world
first_opens store world rank phase number = record { phase = phase; number = number }

pub run_line-requires-clause-since : goal.run_line-requires-clause-since
run_line-requires-clause-since g c =
    up_to_since g.S.ObjectStore.state g.S.ObjectStore.faults g.S.ObjectStore.unreported c.loop-i.invariant 0
    (opens_since g.S.ObjectStore.faults g.S.ObjectStore.unreported c.args.store c.new-world.result (first_opens _ _ _ c.new-world.ensures.phase c.new-world.ensures.number) c.requires.restarted 0 (omega arith))

pub loop-i-preserved : goal.loop-i-preserved
loop-i-preserved g c =
    let line = line_at c.args.lines.now c.loop-i.i c.index-lines-i.result c.loop-i-test.true c.index-lines-i.is in
    let ran = c.in-Ok.ensures.runs in
    up_to_more g.S.ObjectStore.state g.S.ObjectStore.faults g.S.ObjectStore.unreported _ _ _ _ _ _ _ _ _ c.loop-i.invariant line ran.1 ran.2 ran.3 c.run_line.ensures.later

pub into_store-requires : goal.into_store-requires
into_store-requires g c =
    works_since g.S.ObjectStore.state g.S.ObjectStore.faults g.S.ObjectStore.unreported c.in-Err.ensures.runs.1 0 (up_to_since g.S.ObjectStore.state g.S.ObjectStore.faults g.S.ObjectStore.unreported c.loop-i.invariant 0
    (opens_since g.S.ObjectStore.faults g.S.ObjectStore.unreported c.args.store c.new-world.result (first_opens _ _ _ c.new-world.ensures.phase c.new-world.ensures.number) c.requires.restarted 0 (omega arith)))

pub returns-in-Err : goal.returns-in-Err
returns-in-Err g c =
    let line = line_at c.args.lines.now c.loop-i.i c.index-lines-i.result c.loop-i-test.true c.index-lines-i.is in
    let ran = c.in-Err.ensures.runs in
    record {
      first = c.new-world.result;
      last = c.run_line.new.world;
      opens = first_opens _ _ _ c.new-world.ensures.phase c.new-world.ensures.number;
      says = run_ends g.S.ObjectStore.state g.S.ObjectStore.faults g.S.ObjectStore.unreported _ _ _ _ _ _ _ _ _ _ c.loop-i.invariant line ran.1 ran.2;
      holds = c.into_store.ensures.holds;
    }

pub into_store-requires-2 : goal.into_store-requires-2
into_store-requires-2 g c =
    up_to_since g.S.ObjectStore.state g.S.ObjectStore.faults g.S.ObjectStore.unreported c.loop-i.invariant 0
    (opens_since g.S.ObjectStore.faults g.S.ObjectStore.unreported c.args.store c.new-world.result (first_opens _ _ _ c.new-world.ensures.phase c.new-world.ensures.number) c.requires.restarted 0 (omega arith))

pub returns : goal.returns
returns g c = record {
  first = c.new-world.result;
  last = c.loop-i.world;
  opens = first_opens _ _ _ c.new-world.ensures.phase c.new-world.ensures.number;
  says = run_done g.S.ObjectStore.state g.S.ObjectStore.faults g.S.ObjectStore.unreported _ _ _ _ _ _ c.loop-i.invariant c.loop-i-test.false;
  holds = c.into_store-2.ensures.holds;
}
