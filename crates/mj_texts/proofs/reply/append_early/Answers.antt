use Rattle.std.proofs.Common.{[], ◌++◌, ◌∷◌, ◌∙◌, sym, ap, append_assoc}
use Rattle.std.specs.List.{flat_map}
use Rattle.mj_tree.specs.Listing.{words}
use Rattle.mj_texts.specs.Text.{reply_words}
use Rattle.mj_texts.proofs.TextLemmas.{reply_then}
use Rattle.mj_texts.specs.Text.{ends_words}
use Rattle.mj_texts.proofs.reply.append_early.Goals as goal

pub returns : goal.returns
returns c =
    let old = c.args.out.now.items in
    let reply = c.args.early.now.reply in
    let ends = ends_words c.args.early.now.ends_at in
    c.in_ok-push.ensures.items
    ∙ ap (λ t. t ++ 10 ∷ []) (c.in_ok-append_ends.ensures ∙ ap (λ t. t ++ flat_map (λ y. 32 ∷ y) ends) c.in_ok-append_reply.ensures
    ∙ append_assoc old (words (reply_words reply)) (flat_map (λ y. 32 ∷ y) ends) ∙ ap (λ t. old ++ t) (sym (reply_then reply ends)))
    ∙ append_assoc old (words (reply_words reply ++ ends)) (10 ∷ [])
