-- Lines of a chronicle that were answered one after another.
use Rattle.std.proofs.Common.{◌≡◌, ℕ, ◌+◌, ◌<◌, ◌≤◌, Bool, true, false, if◌then◌else◌, List, [], ◌∷◌, ◌++◌, length, get_or, drop, Err, refl, sym, ap, subst, ◌∙◌, arith, append_assoc, append-nil}
use Rattle.std.proofs.lemmas.List.{drop_all, drop_more, length-append, take-append-le}
use Rattle.mj_base.specs.Sink.{then_taken}
use Rattle.mj_tree.specs.State.{PlainState}
use Rattle.mj_model.specs.declared.chronicle.ChronicleLine.{ChronicleLine}
use Rattle.mj_model.specs.declared.run.ModelEnd.{ModelEnd}
use Rattle.mj_model.specs.declared.run.ModelEnd.TheVariants.{Differs, Memory, Sink}
use Rattle.mj_model.specs.Took.{SinkState, TookAll, TookNone, FailedIn, TookOrFailed}
use Rattle.mj_model.specs.Model.{line_differs, line_text, after_line, model_differs, model_text, TookFront, LineSays, ModelSays}
use Rattle.mj_model.proofs.TookLemmas.{took_nothing, took_more, took_none, failed_more, took_or_failed}

-- it failed in a text, and so in that text with more behind it
more_behind : (xs ys : List ℕ) (old new : SinkState) → FailedIn xs old new → FailedIn (xs ++ ys) old new
more_behind xs ys old new f = record {
  front = record {
    count = f.front.count;
    short = omega (arith, f.front.short, length-append xs ys);
    taken = f.front.taken ∙ ap (λ t. then_taken t old.taken) (sym (take-append-le f.front.count xs ys (omega (arith, f.front.short))));
  };
  rose = f.rose;
}

-- the first i lines were answered
pub record UpTo (i : ℕ) (lines : List ChronicleLine) (s t : PlainState) (old new : SinkState) : Type 0 where
  pub done : List ℕ
  pub text : model_text 1 s lines ≡ done ++ model_text (i + 1) t (drop i lines)
  pub differs : model_differs s lines ≡ model_differs t (drop i lines)
  pub taken : TookAll done old new
  pub later : old.faults ≤ new.faults

pub up_to_none : (lines : List ChronicleLine) (s t : PlainState) (k : SinkState) → t ≡ s → UpTo 0 lines s t k k
up_to_none lines s t k e = subst (λ x. UpTo 0 lines s x k k) (sym e) (record { done = []; text = refl; differs = refl; taken = took_nothing k k refl; later = omega arith })

pub line_at : (lines : List ChronicleLine) (i : ℕ) (line : ChronicleLine) → i < length lines → line ≡ get_or lines i line → drop i lines ≡ line ∷ drop (i + 1) lines
line_at lines i line lt is = drop_more lines i line lt ∙ ap (λ x. x ∷ drop (i + 1) lines) (sym is)

module _ (i : ℕ) (lines : List ChronicleLine) (s t : PlainState) (old middle new : SinkState) (w : UpTo i lines s t old middle) where
  pub all_done : length lines ≤ i → (model_differs s lines ≡ false) × TookAll (model_text 1 s lines) old middle
  all_done past =
      let none : drop i lines ≡ [] = drop_all i lines past in
      let text : model_text 1 s lines ≡ w.done = w.text ∙ ap (λ ls. w.done ++ model_text (i + 1) t ls) none ∙ append-nil w.done in
      (w.differs ∙ ap (model_differs t) none, subst (λ x. TookAll x old middle) (sym text) w.taken)

  pub front_done : (k : SinkState) → TookNone middle k → TookFront (model_text 1 s lines) old k
  front_done k none = record { front = w.done; rest = model_text (i + 1) t (drop i lines); is = w.text; taken = took_none w.done old middle k w.taken none }

  module _ (line : ChronicleLine) (at : drop i lines ≡ line ∷ drop (i + 1) lines) where
    this : List ℕ
    this = line_text (i + 1) t line

    behind : Bool → PlainState → List ℕ
    behind b u = if b then [] else model_text (i + 1 + 1) u (drop (i + 1) lines)

    text_here : (b : Bool) → line_differs t line ≡ b → model_text 1 s lines ≡ (w.done ++ this) ++ behind b (after_line t line)
    unfolding this behind
    text_here b e = w.text ∙ ap (λ ls. w.done ++ model_text (i + 1) t ls) at ∙ ap (λ c. w.done ++ (line_text (i + 1) t line ++ (if c then [] else model_text (i + 1 + 1) (after_line t line) (drop (i + 1) lines)))) e ∙ sym (append_assoc w.done (line_text (i + 1) t line) _)

    differs_here : (b : Bool) → line_differs t line ≡ b → model_differs s lines ≡ (if b then true else model_differs (after_line t line) (drop (i + 1) lines))
    differs_here b e = w.differs ∙ ap (model_differs t) at ∙ ap (λ (c : Bool). if c then true else model_differs (after_line t line) (drop (i + 1) lines)) e

    pub one_more : (u : PlainState) → line_differs t line ≡ false → u ≡ after_line t line → TookAll (line_text (i + 1) t line) middle new → middle.faults ≤ new.faults → UpTo (i + 1) lines s u old new
    unfolding this behind
    one_more u same after took later = record {
      done = w.done ++ line_text (i + 1) t line;
      text = text_here false same ∙ ap (λ x. (w.done ++ line_text (i + 1) t line) ++ model_text (i + 1 + 1) x (drop (i + 1) lines)) (sym after);
      differs = differs_here false same ∙ ap (λ x. model_differs x (drop (i + 1) lines)) (sym after);
      taken = took_more w.done (line_text (i + 1) t line) old middle new w.taken took;
      later = omega (arith, w.later);
    }

    pub one_differs : line_differs t line ≡ true → TookOrFailed (line_text (i + 1) t line) middle new → (model_differs s lines ≡ true) × TookOrFailed (model_text 1 s lines) old new
    unfolding this behind
    one_differs other took =
        let text : model_text 1 s lines ≡ w.done ++ line_text (i + 1) t line = text_here true other ∙ append-nil (w.done ++ line_text (i + 1) t line) in
        (differs_here true other, subst (λ x. TookOrFailed x old new) (sym text) (took_or_failed w.done (line_text (i + 1) t line) old middle new w.taken w.later took))

    pub one_failed : line_differs t line ≡ false → FailedIn (line_text (i + 1) t line) middle new → FailedIn (model_text 1 s lines) old new
    unfolding this behind
    one_failed same failed =
        subst (λ x. FailedIn x old new) (sym (text_here false same)) (more_behind (w.done ++ line_text (i + 1) t line) (model_text (i + 1 + 1) (after_line t line) (drop (i + 1) lines)) old new (failed_more w.done (line_text (i + 1) t line) old middle new w.taken w.later failed))

    pub run_ends : (u : PlainState) (e : ModelEnd) → LineSays (i + 1) line t u middle new (Err e) → ModelSays s lines old new (Err e)
    run_ends u Differs h = one_differs h.0 h.1
    run_ends u Sink h = one_failed h.0 h.1
    run_ends u Memory h = front_done new h
