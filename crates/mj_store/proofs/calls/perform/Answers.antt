use Rattle.std.proofs.Common.{◌≡◌, Some, None, Bool, true, inl, inr, ap, subst, sym, ◌∙◌}
use Rattle.mj_store.specs.Causes.{In, unlisted}
use Rattle.mj_store.proofs.Paths.{goes_then, goes_stays, goes_submits, goes_steps}
use Rattle.mj_store.proofs.Counts.{counted_same, counted_listed, listed_last, only_new}
use Rattle.mj_store.proofs.Rest.{tried_once, done_performed, unlisted_only}
use Rattle.mj_store.proofs.calls.perform.Goals as goal

pub returns-in_err-number-clause-goes : goal.returns-in_err-number-clause-goes
returns-in_err-number-clause-goes g c = inl (goes_stays c.in_err-number.ensures.err)

pub returns-in_err-number-clause-counted : goal.returns-in_err-number-clause-counted
returns-in_err-number-clause-counted g c base k = counted_same c.in_err-number.ensures.later c.in_err-number.ensures.same_list k

pub returns-in_err-step-clause-goes : goal.returns-in_err-step-clause-goes
returns-in_err-step-clause-goes g c = inr (goes_then (goes_submits c.args.op c.in_ok-number.number c.in_ok-number.ensures.ok) (goes_stays c.in_err-step.ensures.err))

pub returns-in_err-step-clause-counted : goal.returns-in_err-step-clause-counted
returns-in_err-step-clause-counted g c base k =
    counted_same c.in_err-step.ensures.later c.in_err-step.ensures.same_list
    (counted_listed c.in_ok-number.number c.in_ok-number.ensures.later c.in_ok-number.ensures.listed k)

pub returns-in-Some-true-clause-ok : goal.returns-in-Some-true-clause-ok
returns-in-Some-true-clause-ok g c s is quiet =
    let number = c.in_ok-number.number in
    let once = tried_once c.args.op number s c.in_ok-step.field-0 _ _ _ quiet is c.in_ok-number.ensures.ok c.in_ok-step.ensures.ok in
    let told = c.in-Some-true.ensures.told once.now once.is once.still once.ack once.completed once.this in
    let done : once.ack.done ≡ true = some_is once.ack.done true (sym told.0 ∙ ap (λ (b : Bool). Some b) c.in-Some-true.field-0-test) in
    record { now = _; is = told.1; holds = done_performed c.args.op number s once.now (once.done done) }
  where
    some_is : (a b : Bool) → Some a ≡ Some b → a ≡ b
    some_is a b e = cc

pub returns-in-Some-true-clause-none_listed : goal.returns-in-Some-true-clause-none_listed
returns-in-Some-true-clause-none_listed g c s is quiet none =
    let number = c.in_ok-number.number in
    let once = tried_once c.args.op number s c.in_ok-step.field-0 _ _ _ quiet is c.in_ok-number.ensures.ok c.in_ok-step.ensures.ok in
    let told = c.in-Some-true.ensures.told once.now once.is once.still once.ack once.completed once.this in
    unlisted_only number (g.S.ObjectStore.faults c.submit.new.self) (g.S.ObjectStore.unreported c.args.store.now) _ none
    (told.2 ∙ ap (unlisted number) (c.in_ok-step.ensures.same_list ∙ c.in_ok-number.ensures.listed))

pub returns-in-Some-true-clause-ok_by : goal.returns-in-Some-true-clause-ok_by
returns-in-Some-true-clause-ok_by g c =
    goes_then (goes_submits c.args.op c.in_ok-number.number c.in_ok-number.ensures.ok) (goes_then (goes_steps c.args.op.name c.in_ok-step.field-0 c.in_ok-step.ensures.ok) c.reported_done.ensures.goes)

pub returns-in-Some-true-clause-goes : goal.returns-in-Some-true-clause-goes
returns-in-Some-true-clause-goes g c =
    inr (goes_then (goes_submits c.args.op c.in_ok-number.number c.in_ok-number.ensures.ok) (goes_then (goes_steps c.args.op.name c.in_ok-step.field-0 c.in_ok-step.ensures.ok) c.reported_done.ensures.goes))

pub returns-in-Some-true-clause-counted : goal.returns-in-Some-true-clause-counted
returns-in-Some-true-clause-counted g c base k =
    c.reported_done.ensures.counted base (counted_same c.in_ok-step.ensures.later c.in_ok-step.ensures.same_list
    (counted_listed c.in_ok-number.number c.in_ok-number.ensures.later c.in_ok-number.ensures.listed k))

pub returns-in-Some-false-clause-goes : goal.returns-in-Some-false-clause-goes
returns-in-Some-false-clause-goes g c =
    inr (goes_then (goes_submits c.args.op c.in_ok-number.number c.in_ok-number.ensures.ok) (goes_then (goes_steps c.args.op.name c.in_ok-step.field-0 c.in_ok-step.ensures.ok) c.reported_done.ensures.goes))

pub returns-in-Some-false-clause-cause : goal.returns-in-Some-false-clause-cause
returns-in-Some-false-clause-cause g c =
    let number = c.in_ok-number.number in
    let before = g.S.ObjectStore.faults c.args.store.now in
    let listed = c.in_ok-step.ensures.same_list ∙ c.in_ok-number.ensures.listed in
    record {
      rose = c.in-Some-false.ensures.cause before
          (λ count i. only_new number (g.S.ObjectStore.faults c.submit.new.self) before (g.S.ObjectStore.unreported c.args.store.now) c.in_ok-number.ensures.newest c.in_ok-number.ensures.later count
          (subst (In (record { op = number; count = count })) listed i))
          (ap (λ (b : Bool). Some b) c.in-Some-false.field-0-test);
      count = c.faults.ensures;
    }

pub returns-in-Some-false-clause-counted : goal.returns-in-Some-false-clause-counted
returns-in-Some-false-clause-counted g c base k =
    c.reported_done.ensures.counted base (counted_same c.in_ok-step.ensures.later c.in_ok-step.ensures.same_list
    (counted_listed c.in_ok-number.number c.in_ok-number.ensures.later c.in_ok-number.ensures.listed k))

pub returns-in-None-clause-goes : goal.returns-in-None-clause-goes
returns-in-None-clause-goes g c =
    inr (goes_then (goes_submits c.args.op c.in_ok-number.number c.in_ok-number.ensures.ok) (goes_then (goes_steps c.args.op.name c.in_ok-step.field-0 c.in_ok-step.ensures.ok) c.reported_done.ensures.goes))

pub returns-in-None-clause-waiting : goal.returns-in-None-clause-waiting
returns-in-None-clause-waiting g c number s e is quiet =
    let once = tried_once c.args.op c.in_ok-number.number s c.in_ok-step.field-0 _ _ _ quiet is c.in_ok-number.ensures.ok c.in_ok-step.ensures.ok in
    let told = c.in-None.ensures.told once.now once.is once.still once.ack once.completed once.this in
    none_is once.ack.done told.0
  where
    none_is : (b : Bool) → None ≡ Some b → ⊥
    none_is b e = absurd cc

pub returns-in-None-clause-cause : goal.returns-in-None-clause-cause
returns-in-None-clause-cause g c =
    let number = c.in_ok-number.number in
    let count = g.S.ObjectStore.faults c.submit.new.self in
    let list = g.S.ObjectStore.unreported in (
      count,
      c.in-None.ensures.waits count (subst (In (record { op = number; count = count })) (sym (c.in_ok-step.ensures.same_list ∙ c.in_ok-number.ensures.listed)) (listed_last number count (list c.args.store.now))),
    )

pub returns-in-None-clause-counted : goal.returns-in-None-clause-counted
returns-in-None-clause-counted g c base k =
    c.reported_done.ensures.counted base (counted_same c.in_ok-step.ensures.later c.in_ok-step.ensures.same_list
    (counted_listed c.in_ok-number.number c.in_ok-number.ensures.later c.in_ok-number.ensures.listed k))
