use Rattle.std.proofs.Common.{◌≡◌, ◌++◌, ◌∷◌, ◌∙◌, sym, ap, ◌-◌, arith, take, drop, length, append_assoc}
use Rattle.std.specs.List.{flat_map}
use Rattle.std.proofs.lemmas.Grind.{common_steps}
use Rattle.mj_texts.specs.Text.{word_text}
use Rattle.mj_texts.proofs.TextLemmas.{words_first}
use Rattle.mj_texts.proofs.text.append_words.Goals as goal

pub returns-in_ok-append_spaced-in-len1-up : goal.returns-in_ok-append_spaced-in-len1-up
returns-in_ok-append_spaced-in-len1-up c =
    let all = words_first word_text c.args.parts.now c.first-item.result c.in-len1-up.len_at_least c.first-item.is in
    let rest : take (length c.args.parts.now - 1) (drop 1 c.args.parts.now) ≡ drop 1 c.args.parts.now = grind (arith, common_steps) in
    c.in_ok-append_spaced-in-len1-up.ensures ∙ ap (λ xs. c.append_word.new.out.items ++ flat_map (λ w. 32 ∷ word_text w) xs) rest
    ∙ ap (λ t. t ++ flat_map (λ w. 32 ∷ word_text w) (drop 1 c.args.parts.now)) c.in_ok-append_word-in-len1-up.ensures
    ∙ append_assoc c.args.out.now.items (word_text c.first-item.result) _ ∙ ap (λ t. c.args.out.now.items ++ t) (sym all)
