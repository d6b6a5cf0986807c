use Rattle.std.proofs.Common.{◌≡◌, ◌≤◌, length, ◌⊎◌, inl, inr, IfSome, subst, sym, ◌∙◌}
use Rattle.mj_texts.proofs.DigitsLemmas.{mode_of_digits, mode_of_small}
use Rattle.mj_texts.proofs.number.read_mode.Goals as goal
use Rattle.mj_texts.proofs.number.read_mode.Goals.{else-word-ne3-via-then-word-ne3+else-word-ne4, else-word-ne3-via-else-word-ne3}

pub returns-clause-mode : goal.returns-clause-mode
returns-clause-mode c =
    let len : (length c.args.word.now ≡ 3) ⊎ (length c.args.word.now ≡ 4) = elim c.else-word-ne3.branch [ else-word-ne3-via-then-word-ne3+else-word-ne4 w ↦ inr w.if-word-ne4.false | else-word-ne3-via-else-word-ne3 w ↦ inl w.if-word-ne3.false ] in
    c.ok.ensures.value ∙ mode_of_digits c.args.word.now c.in_ok-mode.mode c.try_from.result len (sym c.in_ok-mode.ensures) c.try_from.ensures

pub returns-clause-small : goal.returns-clause-small
returns-clause-small c = subst (λ mode. IfSome mode (λ m. m ≤ 0o7777)) (sym (returns-clause-mode c)) (mode_of_small c.args.word.now)
