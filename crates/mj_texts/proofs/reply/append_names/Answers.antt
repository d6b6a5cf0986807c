use Rattle.std.proofs.Common.{◌++◌, ◌∷◌, ◌∙◌, sym, ap, codes, append_assoc}
use Rattle.std.specs.List.{flat_map}
use Rattle.mj_base.specs.Name.{escaped}
use Rattle.mj_texts.proofs.TextLemmas.{words_behind}
use Rattle.mj_texts.proofs.reply.append_names.Goals as goal

pub returns : goal.returns
returns c =
    let names = flat_map (λ n. 32 ∷ escaped n) c.args.names.now in
    c.in_ok-append_spaced_names.ensures ∙ ap (λ t. t ++ names) c.in_ok-extend_from_slice.ensures.items
    ∙ append_assoc c.args.out.now.items (codes "names") names ∙ ap (λ t. c.args.out.now.items ++ t) (sym (words_behind escaped (codes "names") c.args.names.now))
