use Rattle.std.proofs.Common.{arith, sym, ap, ◌∙◌, ◌∷◌, [], List, ℕ}
use Rattle.mj_base.specs.PathText.{onto, unescaped}
use Rattle.mj_base.proofs.UnescapeLemmas.{unescaped_step, onto_onto}
use Rattle.mj_base.proofs.escapes.unescape.Goals as goal

pub loop-rest-preserved : goal.loop-rest-preserved
loop-rest-preserved c =
    let byte = c.in-Some.byte in
    let after = c.in-Some.after.now in
    let had = c.loop-rest.bytes.items in
    let step = unescaped_step c.loop-rest.rest.now byte after (sym c.in-Some.ensures) in
    record {
      shorter = omega (arith, step.0, c.loop-rest.invariant.shorter);
      same = c.loop-rest.invariant.same ∙ ap (onto had) step.1 ∙ onto_onto had (byte ∷ []) (unescaped after)
          ∙ ap (λ (x : List ℕ). onto x (unescaped after)) (sym c.in_ok-push.ensures.items);
    }
