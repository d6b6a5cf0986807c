-- The reader of lines gives each line on its spellings, and on nothing else.
use Rattle.std.proofs.Common.{◌≡◌, ℕ, inl, inr, true, false, cond, List, [], ◌∷◌, ◌++◌, codes, Option, Some, None, refl, sym, ap, subst, ◌∙◌, append-nil}
use Rattle.std.specs.List.{list_all}
use Rattle.std.specs.Char.{is_ascii}
use Rattle.mj_base.proofs.Codec.{and_true}
use Rattle.mj_base.proofs.ObjectLemmas.{object_text-injective}
use Rattle.mj_base.specs.InOrder.{same_bytes}
use Rattle.mj_base.specs.ObjectName.{object_text, IsObjectName}
use Rattle.mj_base.specs.declared.object.ObjectName.{ObjectName}
use Rattle.mj_tree.specs.Listing.{words}
use Rattle.mj_tree.specs.Request.{IsRequest}
use Rattle.mj_tree.specs.declared.request.ClientRequest.{ClientRequest}
use Rattle.mj_texts.specs.Words.{words_of, ◌>>=◌, field, last}
use Rattle.mj_texts.specs.Object.{object_of}
use Rattle.mj_texts.specs.Request.{request_of}
use Rattle.mj_texts.specs.Spelling.{SpellsRequest, RequestInRange, is_plain_word, are_plain_words}
use Rattle.mj_texts.proofs.FieldLemmas.{chosen, passed, bound, read_field, ends_here, word_is}
use Rattle.mj_texts.proofs.ObjectLemmas.{object_of-text, object_of-names}
use Rattle.mj_texts.proofs.WordLemmas.{words_of_text, split_words, words_ascii, plain_object}
use Rattle.mj_texts.specs.declared.line.Line.{Line}
use Rattle.mj_texts.specs.declared.line.Line.TheVariants as line
use Rattle.mj_texts.specs.declared.steps.Step.TheVariants.{Apply, Ask, Begin, Carry, Flush, Reap, Restart, State, Tree}
use Rattle.mj_texts.specs.Line.{ask_of, step_of, of_words, is_blank, line_of}
use Rattle.mj_texts.specs.LineSpelling.{SpellsWords, IsSpelling, InRange}

-- some words are those of the line, and make a text that is no comment
record Reads (l : Line) (w : List ℕ) (ws : List (List ℕ)) : Type 0 where
  reads : of_words (w ∷ ws) ≡ Some l
  plain : are_plain_words (w ∷ ws) ≡ true
  begins : is_blank (words (w ∷ ws)) ≡ false

-- With what the reader of requests keeps.
module _ (request_takes : (ws : List (List ℕ)) (x : ClientRequest × List (List ℕ)) → request_of ws ≡ Some x → ((rws : List (List ℕ)) × SpellsRequest x.0 rws × (ws ≡ rws ++ x.1)) × IsRequest x.0) (request_again : (r : ClientRequest) (ws rest : List (List ℕ)) → RequestInRange r → SpellsRequest r ws → (request_of (ws ++ rest) ≡ Some (r, rest)) × (are_plain_words ws ≡ true)) where
  ask_takes : (ws : List (List ℕ)) (l : Line) → ask_of ws ≡ Some l → SpellsWords l (codes "req" ∷ ws)
  ask_takes ws l h =
      let r = bound (request_of ws) _ l h in
      let end = ends_here (line.One (Ask r.0.0)) r.0.1 l r.2 in
      let t = (request_takes ws r.0 r.1).0 in
      subst (λ x. SpellsWords x (codes "req" ∷ ws)) end.1 (t.0, t.1, ap (λ vs. codes "req" ∷ vs) (t.2 ∙ ap (λ vs. t.0 ++ vs) end.0 ∙ append-nil t.0))

  step_takes : (ws : List (List ℕ)) (l : Line) → step_of ws ≡ Some l → SpellsWords l (codes "step" ∷ ws)
  step_takes ws l h =
      let name = bound (field object_of ws) _ l h in
      let end = ends_here (line.One (Apply name.0.0)) name.0.1 l name.2 in
      let first = read_field object_of ws name.0 name.1 in
      let text = (object_of-names first.0 name.0.0 first.1).0 in
      subst (λ x. SpellsWords x (codes "step" ∷ ws)) end.1 (ap (λ vs. codes "step" ∷ vs) (first.2 ∙ ap (λ v. v ∷ name.0.1) text ∙ ap (λ vs. object_text name.0.0 ∷ vs) end.0))

  -- a word alone
  alone : (w wanted : List ℕ) (ws : List (List ℕ)) (x l : Line) → same_bytes w wanted ≡ true → last x ws ≡ Some l → SpellsWords x (wanted ∷ []) → SpellsWords l (w ∷ ws)
  alone w wanted ws x l same e spells =
      let end = ends_here x ws l e in
      subst (λ y. SpellsWords y (w ∷ ws)) end.1 (subst (λ vs. SpellsWords x (w ∷ vs)) (sym end.0) (subst (λ v. SpellsWords x (v ∷ [])) (sym (word_is w wanted same)) spells))

  -- of what the first word has left to be
  rest_state : List ℕ → List (List ℕ) → Option Line
  rest_state w ws = cond (same_bytes w (codes "state")) (last (line.One State) ws) None

  rest_tree : List ℕ → List (List ℕ) → Option Line
  rest_tree w ws = cond (same_bytes w (codes "tree")) (last (line.One Tree) ws) (rest_state w ws)

  rest_reap : List ℕ → List (List ℕ) → Option Line
  rest_reap w ws = cond (same_bytes w (codes "reap")) (last (line.One Reap) ws) (rest_tree w ws)

  rest_step : List ℕ → List (List ℕ) → Option Line
  rest_step w ws = cond (same_bytes w (codes "step")) (step_of ws) (rest_reap w ws)

  rest_flush : List ℕ → List (List ℕ) → Option Line
  rest_flush w ws = cond (same_bytes w (codes "flush")) (last (line.One Flush) ws) (rest_step w ws)

  rest_restart : List ℕ → List (List ℕ) → Option Line
  rest_restart w ws = cond (same_bytes w (codes "restart")) (last (line.One Restart) ws) (rest_flush w ws)

  rest_mount : List ℕ → List (List ℕ) → Option Line
  rest_mount w ws = cond (same_bytes w (codes "mount")) (last line.Mount ws) (rest_restart w ws)

  module _ (w : List ℕ) (ws : List (List ℕ)) (l : Line) where
    state_takes : rest_state w ws ≡ Some l → SpellsWords l (w ∷ ws)
    unfolding rest_state
    state_takes h = let p = passed (same_bytes w (codes "state")) (last (line.One State) ws) l h in alone w (codes "state") ws (line.One State) l p.0 p.1 refl

    tree_takes : rest_tree w ws ≡ Some l → SpellsWords l (w ∷ ws)
    unfolding rest_tree
    tree_takes h = elim (chosen (same_bytes w (codes "tree")) (last (line.One Tree) ws) (rest_state w ws) l h) [ inl e ↦ alone w (codes "tree") ws (line.One Tree) l e.0 e.1 refl | inr k ↦ state_takes k ]

    reap_takes : rest_reap w ws ≡ Some l → SpellsWords l (w ∷ ws)
    unfolding rest_reap
    reap_takes h = elim (chosen (same_bytes w (codes "reap")) (last (line.One Reap) ws) (rest_tree w ws) l h) [ inl e ↦ alone w (codes "reap") ws (line.One Reap) l e.0 e.1 refl | inr k ↦ tree_takes k ]

    step_words_take : rest_step w ws ≡ Some l → SpellsWords l (w ∷ ws)
    unfolding rest_step
    step_words_take h = elim (chosen (same_bytes w (codes "step")) (step_of ws) (rest_reap w ws) l h) [ inl e ↦ subst (λ v. SpellsWords l (v ∷ ws)) (sym (word_is w (codes "step") e.0)) (step_takes ws l e.1) | inr k ↦ reap_takes k ]

    flush_takes : rest_flush w ws ≡ Some l → SpellsWords l (w ∷ ws)
    unfolding rest_flush
    flush_takes h = elim (chosen (same_bytes w (codes "flush")) (last (line.One Flush) ws) (rest_step w ws) l h) [ inl e ↦ alone w (codes "flush") ws (line.One Flush) l e.0 e.1 refl | inr k ↦ step_words_take k ]

    restart_takes : rest_restart w ws ≡ Some l → SpellsWords l (w ∷ ws)
    unfolding rest_restart
    restart_takes h = elim (chosen (same_bytes w (codes "restart")) (last (line.One Restart) ws) (rest_flush w ws) l h) [ inl e ↦ alone w (codes "restart") ws (line.One Restart) l e.0 e.1 refl | inr k ↦ flush_takes k ]

    mount_takes : rest_mount w ws ≡ Some l → SpellsWords l (w ∷ ws)
    unfolding rest_mount
    mount_takes h = elim (chosen (same_bytes w (codes "mount")) (last line.Mount ws) (rest_restart w ws) l h) [ inl e ↦ alone w (codes "mount") ws line.Mount l e.0 e.1 refl | inr k ↦ restart_takes k ]

  words_take : (ws : List (List ℕ)) (l : Line) → of_words ws ≡ Some l → SpellsWords l ws
  unfolding rest_mount rest_restart rest_flush rest_step rest_reap rest_tree rest_state
  words_take [] l h = absurd cc
  words_take (w ∷ ws) l h = elim (chosen (same_bytes w (codes "req")) (ask_of ws) (rest_mount w ws) l h) [ inl e ↦ subst (λ v. SpellsWords l (v ∷ ws)) (sym (word_is w (codes "req") e.0)) (ask_takes ws l e.1) | inr k ↦ mount_takes w ws l k ]

  spelled : (l : Line) (ws : List (List ℕ)) (text : List ℕ) → SpellsWords l ws → text ≡ words ws → IsSpelling text l
  spelled line.Blank ws text h e = absurd h
  spelled (line.One s) ws text h e = (ws, h, e)
  spelled line.Mount ws text h e = (ws, h, e)

  pub line_takes : (text : List ℕ) (l : Line) → line_of text ≡ Some l → IsSpelling text l
  line_takes text l h =
      let p = passed (list_all is_ascii text) (cond (is_blank text) (Some line.Blank) (of_words (words_of text))) l h in
      elim (chosen (is_blank text) (Some line.Blank) (of_words (words_of text)) l p.1) [
        | inl e ↦ let same : line.Blank ≡ l = cc e.1 in subst (IsSpelling text) same (p.0, e.0)
        | inr k ↦ spelled l (words_of text) text (words_take (words_of text) l k) (sym (words_of_text text))
      ]

  -- ---- and back

  reads_again : (l : Line) (w : List ℕ) (ws : List (List ℕ)) (text : List ℕ) → text ≡ words (w ∷ ws) → Reads l w ws → line_of text ≡ Some l
  reads_again l w ws text e r =
      let ascii : list_all is_ascii (words (w ∷ ws)) ≡ true = words_ascii (w ∷ ws) r.plain in
      let cut : words_of (words (w ∷ ws)) ≡ w ∷ ws = split_words w ws r.plain in
      subst (λ t. line_of t ≡ Some l) (sym e)
      (ap (λ b. cond b (cond (is_blank (words (w ∷ ws))) (Some line.Blank) (of_words (words_of (words (w ∷ ws))))) None) ascii ∙ ap (λ b. cond b (Some line.Blank) (of_words (words_of (words (w ∷ ws))))) r.begins ∙ ap of_words cut ∙ r.reads)

  -- from the words that were found
  found_again : (l : Line) (ws : List (List ℕ)) (text w : List ℕ) (rest : List (List ℕ)) → text ≡ words ws → ws ≡ w ∷ rest → Reads l w rest → line_of text ≡ Some l
  found_again l ws text w rest e same r = reads_again l w rest text (e ∙ ap words same) r

  step_again : (name : ObjectName) → IsObjectName name → Reads (line.One (Apply name)) (codes "step") (object_text name ∷ [])
  step_again name range =
      let m = object_of-text name range in
      let found = object_of-names (object_text name) m.0 m.1 in
      let same : m.0 ≡ name = object_text-injective m.0 name found.1 range (sym found.0) in
      let read : object_of (object_text name) ≡ Some name = m.1 ∙ ap (λ n. Some n) same in
      record {
        reads = rw read refl;
        plain = and_true (is_plain_word (object_text name)) true (plain_object name range) refl;
        begins = refl;
      }

  ask_again : (r : ClientRequest) (ws : List (List ℕ)) (text : List ℕ) → RequestInRange r → SpellsWords (line.One (Ask r)) ws → text ≡ words ws → line_of text ≡ Some (line.One (Ask r))
  ask_again r ws text range h e =
      let none = request_again r h.0 [] range h.1 in
      let all : request_of h.0 ≡ Some (r, []) = ap request_of (sym (append-nil h.0)) ∙ none.0 in
      found_again (line.One (Ask r)) ws text (codes "req") h.0 e h.2 (record {
        reads = ap (λ (o : Option (ClientRequest × List (List ℕ))). o >>= λ x. last (line.One (Ask x.0)) x.1) all;
        plain = none.1;
        begins = refl;
      })

  pub line_again : (text : List ℕ) (l : Line) → InRange l → IsSpelling text l → line_of text ≡ Some l
  line_again text line.Blank range h = rw (h.0, h.1) refl
  line_again text line.Mount range h = found_again line.Mount h.0 text (codes "mount") [] h.2 h.1 (record { reads = refl; plain = refl; begins = refl })
  line_again text (line.One Restart) range h = found_again (line.One Restart) h.0 text (codes "restart") [] h.2 h.1 (record { reads = refl; plain = refl; begins = refl })
  line_again text (line.One Flush) range h = found_again (line.One Flush) h.0 text (codes "flush") [] h.2 h.1 (record { reads = refl; plain = refl; begins = refl })
  line_again text (line.One (Apply name)) range h = found_again (line.One (Apply name)) h.0 text (codes "step") (object_text name ∷ []) h.2 h.1 (step_again name range)
  line_again text (line.One Reap) range h = found_again (line.One Reap) h.0 text (codes "reap") [] h.2 h.1 (record { reads = refl; plain = refl; begins = refl })
  line_again text (line.One Tree) range h = found_again (line.One Tree) h.0 text (codes "tree") [] h.2 h.1 (record { reads = refl; plain = refl; begins = refl })
  line_again text (line.One State) range h = found_again (line.One State) h.0 text (codes "state") [] h.2 h.1 (record { reads = refl; plain = refl; begins = refl })
  line_again text (line.One (Ask r)) range h = ask_again r h.0 text range h.1 h.2
  line_again text (line.One Begin) range h = absurd h.1
  line_again text (line.One Carry) range h = absurd h.1
