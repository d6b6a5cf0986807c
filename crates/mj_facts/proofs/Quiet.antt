-- A store in which nothing is pending is at rest.
use Rattle.std.proofs.Common.{Option, List, sym, subst}
use Rattle.mj_base.specs.declared.object.ObjectName.{ObjectName}
use Rattle.mj_store.specs.Object.{Content}
use Rattle.mj_store.specs.State.{StoreState, Pending, Quiet, contents, at_rest}
use Rattle.mj_store.specs.Causes.{In}
use Rattle.mj_store.specs.Along.{Along, Always, HasOp, Once, Numbers}
use Rattle.mj_facts.specs.Ranks.{Mount}
use Rattle.mj_facts.specs.Mounts.{MountStands, Mounts}

pub always_quiet : (P : ObjectName → Option Content → List Pending → Type 0) (s : StoreState) → Quiet s → Always P (at_rest (contents s) s) → Always P s
always_quiet P s q a name = subst (λ ps. Along (P name) (s.objects name).held ps) (sym (q.pending name)) (a name)

pub numbers_quiet : (s : StoreState) → Quiet s → Numbers s
numbers_quiet s q = record {
  fresh = λ n o h. absurd (subst (HasOp o) (q.pending n) h);
  old = λ a i. absurd (subst (In a) q.completed i);
  done = λ a i d n h. absurd (subst (HasOp a.op) (q.pending n) h);
  home = λ m n o h i. absurd (subst (HasOp o) (q.pending m) h);
  once = λ n. subst Once (sym (q.pending n)) tt;
}

pub mounts_quiet : (k : Mount) (s : StoreState) → Quiet s → Mounts k (at_rest (contents s) s) → Mounts k s
mounts_quiet k s q mt = record {
  journalled = mt.journalled;
  stream_stands = always_quiet (MountStands k) s q mt.stream_stands;
  headers_bounded = mt.headers_bounded;
  numbers = numbers_quiet s q;
  part = mt.part;
  within_window = mt.within_window;
}
