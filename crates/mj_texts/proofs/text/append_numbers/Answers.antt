use Rattle.std.proofs.Common.{◌≡◌, [], ◌++◌, ◌∷◌, ◌∙◌, sym, ap, map, append_assoc}
use Rattle.std.specs.Fmt.{decimal}
use Rattle.std.specs.List.{flat_map}
use Rattle.mj_tree.specs.Listing.{words}
use Rattle.mj_texts.proofs.TextLemmas.{words_behind}
use Rattle.mj_texts.proofs.text.append_numbers.Goals as goal

pub returns : goal.returns
returns c =
    let old = c.args.out.now.items in
    let word = c.args.word.now in
    let numbers = flat_map (λ n. 32 ∷ decimal n) c.args.numbers.now in
    let all : c.append_spaced_numbers.new.out.items ≡ old ++ words (word ∷ map decimal c.args.numbers.now) =
    c.in_ok-append_spaced_numbers.ensures ∙ ap (λ t. t ++ numbers) (c.in_ok-extend_from_slice.ensures.items ∙ ap (λ t. old ++ t) c.as_bytes.ensures.value)
    ∙ append_assoc old word numbers ∙ ap (λ t. old ++ t) (sym (words_behind decimal word c.args.numbers.now)) in
    c.in_ok-push.ensures.items ∙ ap (λ t. t ++ 10 ∷ []) all ∙ append_assoc old (words (word ∷ map decimal c.args.numbers.now)) (10 ∷ [])
