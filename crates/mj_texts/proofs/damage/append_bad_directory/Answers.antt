use Rattle.std.proofs.Common.{ℕ, List, [], ◌++◌, ◌∷◌, ◌∙◌, sym, ap, codes}
use Rattle.std.specs.Fmt.{decimal}
use Rattle.mj_base.specs.Name.{escaped}
use Rattle.mj_tree.specs.Listing.{words}
use Rattle.mj_texts.proofs.DamageLemmas.{some_key}
use Rattle.mj_texts.proofs.damage.append_bad_directory.Goals as goal

pub returns-in_ok-append_line : goal.returns-in_ok-append_line
returns-in_ok-append_line c =
    let text = λ (n : ℕ) (ws : List (List ℕ)). c.args.out.now.items ++ (codes "damage DirfragBad " ++ (words (decimal n ∷ ws) ++ 10 ∷ [])) in
    c.in_ok-append_line.ensures ∙ ap (λ n. text n (escaped c.as_slice.result.now ∷ [])) c.ino.view_is
    ∙ ap (λ k. text c.args.ino (escaped k ∷ [])) c.as_slice.ensures
    ∙ ap (text c.args.ino) (sym (some_key c.args.key.now (sym c.if-is_empty.ensures)))
