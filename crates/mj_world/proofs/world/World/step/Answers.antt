use Rattle.std.proofs.Common.{refl, sym, subst}
use Rattle.mj_world.specs.Made.{Made}
use Rattle.mj_world.proofs.Between.{stops_same}
use Rattle.mj_world.proofs.world.World.step.Goals as goal

pub returns-in-Ask : goal.returns-in-Ask
returns-in-Ask g c = record {
  made = subst (λ s. Made g.S.ObjectStore.state g.S.ObjectStore.faults g.S.ObjectStore.unreported s c.args.self.now c.ask.result c.ask.new.self) (sym c.in-Ask.is) (record {
    number = c.ask.ensures.number;
    since = c.ask.ensures.since;
    cause = c.ask.ensures.cause;
    answer = c.ask.ensures.answer;
    leaves = λ base h. c.ask.ensures.leaves;
    phase = c.ask.ensures.phase;
    tells = c.ask.ensures.tells;
    live = c.ask.ensures.live;
    stops = c.ask.ensures.stops;
    replies = c.ask.ensures.replies;
  });
}

pub returns-in-Flush : goal.returns-in-Flush
returns-in-Flush g c = record {
  made = subst (λ s. Made g.S.ObjectStore.state g.S.ObjectStore.faults g.S.ObjectStore.unreported s c.args.self.now c.flush.result c.flush.new.self) (sym c.in-Flush.is) (record {
    number = c.flush.ensures.number;
    since = c.flush.ensures.since;
    cause = c.flush.ensures.cause;
    answer = c.flush.ensures.answer;
    leaves = c.flush.ensures.leaves;
    phase = c.flush.ensures.phase;
    tells = c.flush.ensures.tells;
    live = c.flush.ensures.live;
    stops = c.flush.ensures.stops;
    replies = λ m h. tt;
  });
}

pub returns-in-Apply : goal.returns-in-Apply
returns-in-Apply g c = record {
  made = subst (λ s. Made g.S.ObjectStore.state g.S.ObjectStore.faults g.S.ObjectStore.unreported s c.args.self.now c.apply.result c.apply.new.self) (sym c.in-Apply.is) (record {
    number = c.apply.ensures.number;
    since = c.apply.ensures.since;
    cause = c.apply.ensures.cause;
    answer = c.apply.ensures.answer;
    leaves = c.apply.ensures.leaves;
    phase = c.apply.ensures.phase;
    tells = c.apply.ensures.tells;
    live = c.apply.ensures.live;
    stops = c.apply.ensures.stops;
    replies = λ m h. tt;
  });
}

pub returns-in-Reap : goal.returns-in-Reap
returns-in-Reap g c = record {
  made = subst (λ s. Made g.S.ObjectStore.state g.S.ObjectStore.faults g.S.ObjectStore.unreported s c.args.self.now c.reap.result c.reap.new.self) (sym c.in-Reap.is) (record {
    number = c.reap.ensures.number;
    since = c.reap.ensures.since;
    cause = c.reap.ensures.cause;
    answer = c.reap.ensures.answer;
    leaves = c.reap.ensures.leaves;
    phase = c.reap.ensures.phase;
    tells = c.reap.ensures.tells;
    live = c.reap.ensures.live;
    stops = c.reap.ensures.stops;
    replies = λ m h. tt;
  });
}

pub returns-in-Begin : goal.returns-in-Begin
returns-in-Begin g c = record {
  made = subst (λ s. Made g.S.ObjectStore.state g.S.ObjectStore.faults g.S.ObjectStore.unreported s c.args.self.now c.begin.result c.begin.new.self) (sym c.in-Begin.is) (record {
    number = c.begin.ensures.number;
    since = c.begin.ensures.since;
    cause = c.begin.ensures.cause;
    answer = c.begin.ensures.answer;
    leaves = c.begin.ensures.leaves;
    phase = c.begin.ensures.phase;
    tells = c.begin.ensures.tells;
    live = c.begin.ensures.live;
    stops = c.begin.ensures.stops;
    replies = λ m h. tt;
  });
}

pub returns-in-Carry : goal.returns-in-Carry
returns-in-Carry g c = record {
  made = subst (λ s. Made g.S.ObjectStore.state g.S.ObjectStore.faults g.S.ObjectStore.unreported s c.args.self.now c.carry.result c.carry.new.self) (sym c.in-Carry.is) (record {
    number = c.carry.ensures.number;
    since = c.carry.ensures.since;
    cause = c.carry.ensures.cause;
    answer = c.carry.ensures.answer;
    leaves = c.carry.ensures.leaves;
    phase = c.carry.ensures.phase;
    tells = c.carry.ensures.tells;
    live = c.carry.ensures.live;
    stops = c.carry.ensures.stops;
    replies = λ m h. tt;
  });
}

pub returns-in-Restart : goal.returns-in-Restart
returns-in-Restart g c = record {
  made = subst (λ s. Made g.S.ObjectStore.state g.S.ObjectStore.faults g.S.ObjectStore.unreported s c.args.self.now c.restart.result c.restart.new.self) (sym c.in-Restart.is) (record {
    number = c.restart.ensures.number;
    since = c.restart.ensures.since;
    cause = c.restart.ensures.cause;
    answer = c.restart.ensures.answer;
    leaves = c.restart.ensures.leaves;
    phase = c.restart.ensures.phase;
    tells = c.restart.ensures.tells;
    live = c.restart.ensures.live;
    stops = c.restart.ensures.stops;
    replies = λ m h. tt;
  });
}

pub returns-in-Tree : goal.returns-in-Tree
returns-in-Tree g c = record {
  made = subst (λ s. Made g.S.ObjectStore.state g.S.ObjectStore.faults g.S.ObjectStore.unreported s c.args.self.now c.list.result c.args.self.now) (sym c.in-Tree.is) (record {
    number = refl;
    since = λ base h. h;
    cause = λ base h. c.list.ensures.cause base;
    answer = c.list.ensures.answer;
    leaves = λ base h. c.list.ensures.leaves;
    phase = c.list.ensures.phase;
    tells = c.list.ensures.tells;
    live = λ m h. h;
    stops = stops_same g.S.ObjectStore.state c.args.self.now c.args.self.now refl;
    replies = c.list.ensures.replies;
  });
}

pub returns-in-State : goal.returns-in-State
returns-in-State g c = record {
  made = subst (λ s. Made g.S.ObjectStore.state g.S.ObjectStore.faults g.S.ObjectStore.unreported s c.args.self.now c.list-in-State.result c.args.self.now) (sym c.in-State.is) (record {
    number = refl;
    since = λ base h. h;
    cause = λ base h. c.list-in-State.ensures.cause base;
    answer = c.list-in-State.ensures.answer;
    leaves = λ base h. c.list-in-State.ensures.leaves;
    phase = c.list-in-State.ensures.phase;
    tells = c.list-in-State.ensures.tells;
    live = λ m h. h;
    stops = stops_same g.S.ObjectStore.state c.args.self.now c.args.self.now refl;
    replies = c.list-in-State.ensures.replies;
  });
}
