use Rattle.std.proofs.Common.{◌≡◌, Err, ap}
use Rattle.std.proofs.lemmas.Result.{err_from_is_err_and}
use Rattle.mj_store.specs.declared.answer.PerformRefusal.{PerformRefusal}
use Rattle.mj_store.specs.declared.answer.PerformRefusal.TheVariants.{Waiting}
use Rattle.mj_format.proofs.Stops.{all_formatted, all_stops_well, all_stops_before, stops_unsent}
use Rattle.mj_format.proofs.formatting.write_objects.Goals as goal

pub returns-in_err-tables-clause-stops : goal.returns-in_err-tables-clause-stops
returns-in_err-tables-clause-stops g c s is quiet none = stops_unsent c.args.rank c.args.layout s quiet none _ _ is is

pub returns-in_err-header-clause-stops : goal.returns-in_err-header-clause-stops
returns-in_err-header-clause-stops g c s is quiet none = stops_unsent c.args.rank c.args.layout s quiet none _ _ is is

pub returns-in_err-perform_all-clause-stops : goal.returns-in_err-perform_all-clause-stops
returns-in_err-perform_all-clause-stops g c s is quiet none = all_stops_before c.args.rank c.args.layout _ c.in_ok-tables.ensures s quiet none _ _ is c.in_err-perform_all.ensures.goes

pub returns-in_err-perform-clause-stops : goal.returns-in_err-perform-clause-stops
returns-in_err-perform-clause-stops g c s is quiet none =
    all_stops_well c.args.rank c.args.layout _ _ c.in_ok-tables.ensures c.in_ok-header.ensures s quiet none _ _ _ is c.in_ok-perform_all.ensures.goes (c.in_ok-perform_all.ensures.ok s is quiet) c.in_err-perform.ensures.goes

pub returns-in_err-perform_all-clause-waiting : goal.returns-in_err-perform_all-clause-waiting
returns-in_err-perform_all-clause-waiting g c number s e is quiet =
    let p = err_from_is_err_and c.from_residual-in_err-perform_all.result c.from_residual-in_err-perform_all.ensures.1 in
    let is_err = p.1 in
    let same = p.2 in
    let why : c.in_err-perform_all.field-0.0 ≡ Waiting number = cc in
    c.in_err-perform_all.ensures.waiting number s (ap (λ (w : PerformRefusal). Err w) why) is quiet

pub returns-in_err-perform-clause-waiting : goal.returns-in_err-perform-clause-waiting
returns-in_err-perform-clause-waiting g c number s e is quiet =
    let t = c.in_ok-perform_all.ensures.ok s is quiet in
    let p = err_from_is_err_and c.from_residual-in_err-perform.result c.from_residual-in_err-perform.ensures.1 in
    let is_err = p.1 in
    let same = p.2 in
    let why : c.in_err-perform.field-0.0 ≡ Waiting number = cc in
    c.in_err-perform.ensures.waiting number t.now (ap (λ (w : PerformRefusal). Err w) why) t.is t.holds.quiet

pub returns-in_err-perform-clause-counted : goal.returns-in_err-perform-clause-counted
returns-in_err-perform-clause-counted g c base k = c.in_err-perform.ensures.counted base (c.in_ok-perform_all.ensures.counted base k)

pub returns-clause-ok : goal.returns-clause-ok
returns-clause-ok g c s is quiet = all_formatted c.args.rank c.args.layout _ _ c.in_ok-tables.ensures c.in_ok-header.ensures s quiet _ _ (c.in_ok-perform_all.ensures.ok s is quiet) c.in_ok-perform.ensures.ok

pub returns-clause-none_listed : goal.returns-clause-none_listed
returns-clause-none_listed g c s is quiet none = let t = c.in_ok-perform_all.ensures.ok s is quiet in c.in_ok-perform.ensures.none_listed t.now t.is t.holds.quiet (c.in_ok-perform_all.ensures.none_listed s is quiet none)

pub returns-clause-stops : goal.returns-clause-stops
returns-clause-stops g c s is quiet none =
    all_stops_well c.args.rank c.args.layout _ _ c.in_ok-tables.ensures c.in_ok-header.ensures s quiet none _ _ _ is c.in_ok-perform_all.ensures.goes (c.in_ok-perform_all.ensures.ok s is quiet) c.in_ok-perform.ensures.goes

pub returns-clause-counted : goal.returns-clause-counted
returns-clause-counted g c base k = c.in_ok-perform.ensures.counted base (c.in_ok-perform_all.ensures.counted base k)
