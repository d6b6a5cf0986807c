use Rattle.std.proofs.Common.{◌≡◌, ℕ, ◌+◌, Bool, true, false, ◌||◌, List, drop, refl, sym, ap, ◌∙◌}
use Rattle.std.specs.Prelude.{nat_eq}
use Rattle.mj_recovery.specs.Tree.{is_among}
use Rattle.mj_judge.proofs.Passes.{among-insert_key}
use Rattle.mj_index.proofs.Writes.{next_item}
use Rattle.mj_index.proofs.turn.set_of.Goals as goal

or_swap : (a b c : Bool) → ((a || b) || c) ≡ (b || (a || c))
or_swap true true c = refl
or_swap true false c = refl
or_swap false b c = refl

pub loop-ino-preserved : goal.loop-ino-preserved
loop-ino-preserved c d =
    let rest = is_among (drop (c.loop-ino.ino-index + 1) c.args.inodes.now) d in
    ap (λ (ks : List ℕ). is_among ks d || rest) c.in_ok-insert.ensures.keys
    ∙ ap (λ b. b || rest) (among-insert_key c.loop-ino.set.keys c.ino-item.result d)
    ∙ or_swap (nat_eq c.ino-item.result d) (is_among c.loop-ino.set.keys d) rest
    ∙ ap (λ (ks : List ℕ). is_among c.loop-ino.set.keys d || is_among ks d) (sym (next_item c.args.inodes.now c.loop-ino.ino-index c.ino-item.result c.loop-ino-test.true c.ino-item.is))
    ∙ c.loop-ino.invariant d
