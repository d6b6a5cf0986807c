use Rattle.std.proofs.Common.{◌≡◌, ◌++◌, ◌∷◌, [], List, Err, sym, ap, ◌∙◌, append_assoc}
use Rattle.std.proofs.lemmas.Result.{err_from_is_err_and}
use Rattle.mj_store.specs.declared.act.ObjectOp.{ObjectOp}
use Rattle.mj_store.specs.declared.answer.PerformRefusal.{PerformRefusal}
use Rattle.mj_store.specs.declared.answer.PerformRefusal.TheVariants.{Waiting}
use Rattle.mj_format.proofs.Sent.{sends_more, front_more}
use Rattle.mj_format.proofs.sending.perform_all.Goals as goal

pub loop-op-preserved : goal.loop-op-preserved
loop-op-preserved g c =
    let xs = c.loop-op.yielded in
    let x = c.in-Some.op in
    let more = c.next.new.self.rest.items in
    let next : c.loop-op.op-iterator.rest.items ≡ x ∷ more = c.in-Some.ensures.steps.0 in
    let all : xs ++ x ∷ more ≡ c.args.ops.items = ap (λ (ys : List ObjectOp). xs ++ ys) (sym next) ∙ c.loop-op.invariant.rest in
    record {
      sends = sends_more xs _ _ _ _ _ _ _ _ _ c.loop-op.invariant.sends x c.in_ok-perform.ensures.ok c.in_ok-perform.ensures.none_listed c.in_ok-perform.ensures.ok_by c.in_ok-perform.ensures.counted c.in_ok-perform.ensures.later;
      rest = append_assoc xs (x ∷ []) more ∙ all;
    }

pub returns-in_err-perform-clause-goes : goal.returns-in_err-perform-clause-goes
returns-in_err-perform-clause-goes g c =
    let xs = c.loop-op.yielded in
    let x = c.in-Some.op in
    let more = c.next.new.self.rest.items in
    let next : c.loop-op.op-iterator.rest.items ≡ x ∷ more = c.in-Some.ensures.steps.0 in
    let all : xs ++ x ∷ more ≡ c.args.ops.items = ap (λ (ys : List ObjectOp). xs ++ ys) (sym next) ∙ c.loop-op.invariant.rest in
    front_more c.args.ops.items xs x more _ _ _ all c.loop-op.invariant.sends.goes c.in_err-perform.ensures.goes

pub returns-in_err-perform-clause-waiting : goal.returns-in_err-perform-clause-waiting
returns-in_err-perform-clause-waiting g c number s e is quiet =
    let t = c.loop-op.invariant.sends.ok s is quiet in
    let p = err_from_is_err_and c.from_residual.result c.from_residual.ensures.1 in
    let is_err = p.1 in
    let same = p.2 in
    let why : c.in_err-perform.field-0.0 ≡ Waiting number = cc in
    c.in_err-perform.ensures.waiting number t.now (ap (λ (w : PerformRefusal). Err w) why) t.is t.holds.quiet

pub returns-in_err-perform-clause-counted : goal.returns-in_err-perform-clause-counted
returns-in_err-perform-clause-counted g c base k = c.in_err-perform.ensures.counted base (c.loop-op.invariant.sends.counted base k)
