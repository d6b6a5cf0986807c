use Rattle.std.proofs.Common.{◌≡◌, ◌∙◌, ℕ, ◌≤◌, List, [], ◌∷◌, ◌++◌, length, drop, ap, sym, subst}
use Rattle.std.specs.Global.{Vec}
use Rattle.mj_journaler.specs.Buffered.{Buffered}
use Rattle.mj_journaler.proofs.Blocks.{moved_on, first_stays}
use Rattle.mj_journaler.proofs.buffer.Buffer.reserve.Goals as goal

pub invariant_of-self-2 : goal.invariant_of-self-2
invariant_of-self-2 c =
    let now : c.push_back_reserved.new.self.items ≡ c.self.inside.full.items ++ c.self.inside.last ∷ [] = cc in
    subst (λ (m : List ℕ). c.self.inside.taken ≤ length m) (sym (first_stays c.self.inside.full.items c.push_back_reserved.new.self.items c.self.inside.last c.replace-before.new.dest.items now)) c.self.invariant

pub returns-clause-bytes : goal.returns-clause-bytes
returns-clause-bytes c =
    let now : c.push_back_reserved.new.self.items ≡ c.self.inside.full.items ++ c.self.inside.last ∷ [] = cc in
    let none : c.replace-before.new.dest.items ≡ [] = ap (λ (v : Vec ℕ). v.items) c.replace-before.ensures.after ∙ c.in_ok-block.ensures.items in
    ap (drop c.self.inside.taken) (moved_on c.self.inside.full.items c.push_back_reserved.new.self.items c.self.inside.last c.replace-before.new.dest.items now none) ∙ ap (λ (b : Buffered). b.bytes) c.self.view_is
