use Rattle.std.proofs.Common.{◌≡◌, Result, Err, IfErr, ap, subst, sym, ◌∙◌}
use Rattle.std.proofs.lemmas.Result.{err_from_is_err_and}
use Rattle.mj_store.specs.declared.answer.PerformRefusal.{PerformRefusal}
use Rattle.mj_store.proofs.Counts.{counted_same}
use Rattle.mj_format.specs.Refusals.{of_perform, RefusesFormat}
use Rattle.mj_format.specs.declared.refusal.FormatRefusal.{FormatRefusal}
use Rattle.mj_format.specs.declared.refusal.FormatRefusal.TheVariants.{Waiting}
use Rattle.mj_format.proofs.Stops.{stops_unsent, some_there}
use Rattle.mj_format.proofs.Refused.{waits_performed, refused_performed}
use Rattle.mj_format.proofs.formatting.format.Goals as goal

pub returns-in_err-has_journal-clause-stops : goal.returns-in_err-has_journal-clause-stops
returns-in_err-has_journal-clause-stops g c s is quiet none = stops_unsent c.args.rank c.args.layout s quiet none _ _ is (c.in_err-has_journal.ensures.stays s is quiet)

pub returns-in_err-has_journal-clause-counted : goal.returns-in_err-has_journal-clause-counted
returns-in_err-has_journal-clause-counted g c base k = counted_same c.in_err-has_journal.ensures.later c.in_err-has_journal.ensures.same_list k

pub returns-then-branch-clause-refused : goal.returns-then-branch-clause-refused
returns-then-branch-clause-refused g c s e is quiet = some_there _ (sym c.if-branch.true ∙ c.in_ok-has_journal.ensures.told s is quiet)

pub returns-then-branch-clause-counted : goal.returns-then-branch-clause-counted
returns-then-branch-clause-counted g c base k = counted_same c.in_ok-has_journal.ensures.later c.in_ok-has_journal.ensures.same_list k

pub returns-in_err-write_objects-clause-waiting : goal.returns-in_err-write_objects-clause-waiting
returns-in_err-write_objects-clause-waiting g c number s e is quiet =
    let p = err_from_is_err_and c.from_residual-in_err-write_objects.result c.from_residual-in_err-write_objects.ensures.1 in
    let is_err = p.1 in
    let same = p.2 in
    let why : of_perform c.in_err-write_objects.field-0.0 ≡ Waiting number = cc in
    c.in_err-write_objects.ensures.waiting number s (ap (λ (w : PerformRefusal). Err w) (waits_performed _ number why)) (c.in_ok-has_journal.ensures.stays s is quiet) quiet

pub returns-in_err-write_objects-clause-cause : goal.returns-in_err-write_objects-clause-cause
returns-in_err-write_objects-clause-cause g c =
    let p = err_from_is_err_and c.from_residual-in_err-write_objects.result c.from_residual-in_err-write_objects.ensures.1 in
    let P : FormatRefusal → Type 0 = RefusesFormat (g.S.ObjectStore.faults c.args.store.now) (g.S.ObjectStore.faults c.write_objects.new.store) (g.S.ObjectStore.unreported c.write_objects.new.store) in
    subst (λ (r : Result (Unit {0}) FormatRefusal). IfErr r P) (sym p.1) (subst P (sym p.2) (refused_performed _ _ _ _ _ c.in_ok-has_journal.ensures.later c.in_err-write_objects.ensures.cause))

pub returns-in_err-write_objects-clause-counted : goal.returns-in_err-write_objects-clause-counted
returns-in_err-write_objects-clause-counted g c base k = c.in_err-write_objects.ensures.counted base (counted_same c.in_ok-has_journal.ensures.later c.in_ok-has_journal.ensures.same_list k)

pub returns-clause-counted : goal.returns-clause-counted
returns-clause-counted g c base k = c.in_ok-write_objects.ensures.counted base (counted_same c.in_ok-has_journal.ensures.later c.in_ok-has_journal.ensures.same_list k)
