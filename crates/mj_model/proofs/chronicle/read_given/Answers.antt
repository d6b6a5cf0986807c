use Rattle.std.proofs.Common.{◌≡◌, ℕ, Bool, true, ◌&&◌, if◌then◌else◌, List, ◌∷◌, codes, Some, None, sym, ap, subst, ◌∙◌}
use Rattle.mj_base.specs.InOrder.{same_bytes}
use Rattle.mj_tree.specs.Listing.{words}
use Rattle.mj_texts.specs.Words.{words_of}
use Rattle.mj_texts.proofs.WordLemmas.{words_of_text}
use Rattle.mj_model.specs.Reply.{is_reply}
use Rattle.mj_model.specs.Chronicle.{given_of}
use Rattle.mj_model.proofs.chronicle.read_given.Goals as goal

given_here : (ws vs : List (List ℕ)) (word text item : List ℕ) → ws ≡ word ∷ vs → vs ≡ words_of text → same_bytes word (codes "=>") ≡ true → is_reply vs ≡ true → item ≡ text → Some (Some item) ≡ given_of ws
given_here ws vs word text item e v w r i =
    let t : words vs ≡ item = ap words v ∙ words_of_text text ∙ sym i in
    subst (λ x. Some (Some item) ≡ given_of x) (sym e)
    (sym (ap (λ (b : Bool). if b && is_reply vs then Some (Some (words vs)) else None) w ∙ ap (λ (b : Bool). if b then Some (Some (words vs)) else None) r ∙ ap (λ (y : List ℕ). Some (Some y)) t))

pub returns-in_ok-of_bytes : goal.returns-in_ok-of_bytes
returns-in_ok-of_bytes c =
    given_here c.args.words c.next.new.self c.in-Some.word.now c.in-Some-text.text.now c.in_ok-of_bytes.field-0 c.in-Some.ensures c.in-Some-text.ensures (sym c.is_word.ensures ∙ c.if-is_word.true)
    (sym c.in_ok-is_reply.ensures ∙ c.if-branch.true) c.in_ok-of_bytes.ensures
