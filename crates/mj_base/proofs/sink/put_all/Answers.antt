use Rattle.std.proofs.Common.{◌∙◌, ap, arith, length-drop}
use Rattle.std.proofs.lemmas.List.{take_rest}
use Rattle.mj_base.specs.Sink.{then_taken}
use Rattle.mj_base.proofs.SinkLemmas.{then_taken-front}
use Rattle.mj_base.proofs.sink.put_all.Goals as goal

pub loop-at-preserved : goal.loop-at-preserved
loop-at-preserved g c =
    let put = rw (take_rest c.args.bytes.now c.loop-at.at) at c.in_ok-at.ensures.ok in
    record {
      within = grind (arith, length-drop);
      so_far = put ∙ (ap (then_taken _) c.loop-at.invariant.so_far ∙ then_taken-front _ _ _ _);
      later = omega arith;
    }
