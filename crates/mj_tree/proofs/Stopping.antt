-- What stops a request is its refusal, or want of memory.
use Rattle.std.proofs.Common.{◌≡◌, ℕ, Result, Ok, Err, IfOk, sym, ap, subst, ◌∙◌}
use Rattle.std.specs.declared.alloc.AllocError.{AllocError}
use Rattle.mj_tree.specs.declared.change.Decision.{Decision}
use Rattle.mj_tree.specs.declared.errno.Stop.{Stop}
use Rattle.mj_tree.specs.declared.errno.Stop.TheVariants.{Memory, Refused}
use Rattle.mj_tree.specs.Walk.{Answer}
use Rattle.mj_tree.specs.Answer.{refused}
use Rattle.mj_tree.specs.Given.{Stops, IsStopAnswer}

pub stop_given : {A : Type 0} (h : Answer A → Decision) → ((code : ℕ) → h (Err code) ≡ refused code)
    → (stop : Stop) (r : Result Decision AllocError) (a : Answer A) → IsStopAnswer stop r → Stops stop a → IfOk r (λ d. d ≡ h a)
stop_given h same Memory (Ok d) a e s = cc
stop_given h same Memory (Err x) a e s = tt
stop_given h same (Refused code) r a e s = subst (λ r. IfOk r (λ d. d ≡ h a)) (sym e) (sym (ap h s ∙ same code))
