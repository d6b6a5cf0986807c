use Rattle.std.proofs.Common.{◌≡◌, [], List, ℕ, Bool, true, false, not, IsTrue, Option, Some, None, is_some, refl}
use Rattle.std.specs.Borrow.{Bor}
use Rattle.mj_texts.specs.Words.{words_left}
use Rattle.mj_texts.proofs.SplitLemmas.{slice_split_some}
use Rattle.mj_texts.proofs.words.Words.is_empty.Goals as goal

by_left : (left : Option (Bor (List ℕ))) (b : Bool) → is_some left ≡ not b → (IsTrue b → words_left left ≡ []) × (words_left left ≡ [] → IsTrue b)
by_left None true h = (λ _. refl, λ _. refl)
by_left None false h = absurd cc
by_left (Some line) true h = absurd cc
by_left (Some line) false h = (λ f. absurd cc, λ e. absurd (slice_split_some _ line.now e))

pub returns : goal.returns
returns c = rw (← c.self.view_is) (by_left c.self.inside.left c.is_none.result c.is_none.ensures)
