use Rattle.std.proofs.Common.{None, ap, ◌∙◌}
use Rattle.std.specs.Prelude.{map}
use Rattle.mj_store.specs.Causes.{Listed}
use Rattle.mj_store.proofs.Counts.{counted_same}
use Rattle.mj_rank.specs.declared.mounting.Stage.TheVariants.{Announcing}
use Rattle.mj_rank.proofs.MountCalls.{stop_stays, stop_stops, mount_begins}
use Rattle.mj_rank.proofs.mounting.Mounting.begin.Goals as goal

pub returns-in-Err-clause-live_refused : goal.returns-in-Err-clause-live_refused
returns-in-Err-clause-live_refused g c = λ m t. stop_stays g.S.ObjectStore.state c.args.store _ c.args.number m c.read_found.ensures.stays t

pub returns-in-Err-clause-stops_refused : goal.returns-in-Err-clause-stops_refused
returns-in-Err-clause-stops_refused g c = λ m t. stop_stops g.S.ObjectStore.state c.args.store _ c.args.number m c.read_found.ensures.stays t

pub returns-in-Err-log-clause-live_refused : goal.returns-in-Err-log-clause-live_refused
returns-in-Err-log-clause-live_refused g c = λ m t. stop_stays g.S.ObjectStore.state c.args.store _ c.args.number m c.read_found.ensures.stays t

pub returns-in-Err-log-clause-stops_refused : goal.returns-in-Err-log-clause-stops_refused
returns-in-Err-log-clause-stops_refused g c = λ m t. stop_stops g.S.ObjectStore.state c.args.store _ c.args.number m c.read_found.ensures.stays t

pub returns-clause-live : goal.returns-clause-live
returns-clause-live g c = λ m t. mount_begins g.S.ObjectStore.state c.args.store c.read_found.new.store c.args.number m c.in-Ok.found 0 _
    (λ z. record {
      number = c.args.number;
      header = c.next_header-header.ensures z;
      found = c.in-Ok.found.header;
      tail = c.in-Ok.found.tail;
      cache = c.in-Ok.found.cache;
      log = c.in-Ok-log.ensures.journal z;
      segment = c.in-Ok-log.ensures.segment z;
      stage = Announcing;
      sent = 0;
      next = c.new-cuts.ensures.next z;
      end = c.new-cuts.ensures.end z;
      out = c.new-cuts.ensures.out z;
      fault = None;
    }) c.read_found.ensures.stays c.in-Ok.ensures.told t

pub returns-clause-stops : goal.returns-clause-stops
returns-clause-stops g c = λ m t. stop_stops g.S.ObjectStore.state c.args.store _ c.args.number m c.read_found.ensures.stays t

pub returns-clause-since : goal.returns-clause-since
returns-clause-since g c = λ base none counted. record {
  counted = counted_same c.read_found.ensures.later c.read_found.ensures.same_list counted;
  down = tt;
  listed = λ up. record { same = ap (map (λ (l : Listed). l.op)) (c.read_found.ensures.same_list ∙ none); once = tt };
  out = c.new-cuts.ensures.out;
}
