use Rattle.std.proofs.Common.{◌≡◌, ℕ, ◌+◌, ◌<◌, ◌≤◌, List, [], ◌∷◌, drop, map, length, get_or, Option, Some, None, option_map, String, refl, sym, ap, subst, ◌∙◌}
use Rattle.std.proofs.lemmas.List.{drop_all, drop_more}
use Rattle.std.specs.Global.{Global}
use Rattle.std.specs.String.{string_bytes}
use Rattle.mj_texts.specs.Words.{◌>>=◌}
use Rattle.mj_app.specs.declared.words.Reading.{Reading}
use Rattle.mj_app.specs.Words.{GivenValue}
use Rattle.mj_app.specs.WordsRead.{ReadingValue, reading_value, after_word, at_last, behind_these}
use Rattle.mj_app.proofs.WordsLemmas.{one_word, no_word}
use Rattle.mj_app.proofs.words.read_given.Goals as goal

-- what is left, by its first word
from_here : (r : ReadingValue) (words : List (String Global)) (i : ℕ) (word : String Global) → i < length words → word ≡ get_or words i word
    → behind_these r (map string_bytes (drop i words)) ≡ (after_word r (string_bytes word) >>= λ s. behind_these s (map string_bytes (drop (i + 1) words)))
from_here r words i word lt is =
    ap (λ ws. behind_these r (map string_bytes ws)) (drop_more words i word lt ∙ ap (λ (w : String Global). w ∷ drop (i + 1) words) (sym is)) ∙ one_word r (string_bytes word) (map string_bytes (drop (i + 1) words))

past_here : (r : ReadingValue) (words : List (String Global)) (i : ℕ) → length words ≤ i → behind_these r (map string_bytes (drop i words)) ≡ at_last r
past_here r words i past = ap (λ ws. behind_these r (map string_bytes ws)) (drop_all i words past) ∙ no_word r

pub loop-word-preserved : goal.loop-word-preserved
loop-word-preserved c =
    let words = c.args.words.now in
    let i = c.loop-word.word-index in
    let before = reading_value c.loop-word.reading in
    let after = reading_value c.in_ok-reading.reading in
    let given : Some after ≡ after_word before c.as_str.result.now = c.in_ok-reading.ensures in
    let is : after_word before (string_bytes c.word-item.result) ≡ Some after = sym (given ∙ ap (after_word before) c.as_str.ensures.value) in
    let first = from_here before words i c.word-item.result c.loop-word-test.true c.word-item.is in
    sym (first ∙ ap (λ (o : Option ReadingValue). o >>= λ s. behind_these s (map string_bytes (drop (i + 1) words))) is) ∙ c.loop-word.invariant
