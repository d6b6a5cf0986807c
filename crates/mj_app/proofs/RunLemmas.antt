-- A run, one line after another.
use Rattle.std.proofs.Common.{◌≡◌, ℕ, ◌+◌, ◌≤◌, ◌<◌, List, [], ◌∷◌, ◌++◌, length, get_or, drop, Option, Some, None, refl, sym, ap, subst, ◌∙◌, arith, append_assoc, append-nil}
use Rattle.std.proofs.lemmas.List.{drop_all, drop_more, length_push, map-append}
use Rattle.mj_base.specs.Counts.{Rose}
use Rattle.mj_store.specs.Causes.{Listed}
use Rattle.mj_store.specs.State.{StoreState}
use Rattle.mj_world.specs.declared.world.World.{World}
use Rattle.mj_world.specs.World.{WorldSince}
use Rattle.mj_machine.specs.Legal.{text_from}
use Rattle.mj_texts.specs.AnswerText.{told_text}
use Rattle.mj_texts.specs.declared.line.Line.{Line}
use Rattle.mj_texts.specs.declared.answer.Answer.{Answer}
use Rattle.mj_texts.specs.declared.answer.Answer.TheVariants as answer
use Rattle.mj_app.specs.declared.status.Status.{Status}
use Rattle.mj_app.specs.declared.status.Status.TheVariants.{Done, Damage, Words, Refused, Memory, Store, Files, Grammar, Sink}
use Rattle.mj_app.specs.Answers.{GoesOn}
use Rattle.mj_model.specs.Took.{SinkState, TookAll}
use Rattle.mj_app.specs.LineActs.{LineActs}
use Rattle.mj_app.specs.Worlds.{world_after}
use Rattle.mj_app.specs.Run.{OverRestarted, Worked, Works, WorksTo, AllWorked, SaysAll, EndsAt, LineEnds, RunSays, lines_of, turns_of, world_behind}
use Rattle.mj_model.proofs.TookLemmas.{took_nothing, took_more}
use Rattle.mj_app.proofs.WorldsLemmas.{acts_since, opens_since, failed_held, works_failed}

-- ---- texts

pub said_more : {S : Type 0} (n : ℕ) (ws : List (Worked S)) (w : Worked S) → text_from n (turns_of (ws ++ w ∷ [])) ≡ text_from n (turns_of ws) ++ told_text (n + length ws) w.told
said_more n [] w = let same : n ≡ n + 0 = omega arith in append-nil (told_text n w.told) ∙ ap (λ k. told_text k w.told) same
said_more n (v ∷ ws) w =
    let same : n + 1 + length ws ≡ n + length (v ∷ ws) = omega arith in
    ap (λ t. told_text n v.told ++ t) (said_more (n + 1) ws w) ∙ sym (append_assoc (told_text n v.told) (text_from (n + 1) (turns_of ws)) (told_text (n + 1 + length ws) w.told))
    ∙ ap (λ k. (told_text n v.told ++ text_from (n + 1) (turns_of ws)) ++ told_text k w.told) same

-- ---- lines

-- the i-th line begins those that are left
pub line_at : (lines : List Line) (i : ℕ) (line : Line) → i < length lines → line ≡ get_or lines i line → drop i lines ≡ line ∷ drop (i + 1) lines
line_at lines i line lt is = drop_more lines i line lt ∙ ap (λ x. x ∷ drop (i + 1) lines) (sym is)

behind_more : {S : Type 0} (old : World S) (ws : List (Worked S)) (w : Worked S) (middle new : World S) → middle ≡ world_behind old ws → new ≡ world_after middle w.acts → new ≡ world_behind old (ws ++ w ∷ [])
behind_more old [] w middle new is e = e ∙ ap (λ x. world_after x w.acts) is
behind_more old (v ∷ ws) w middle new is e = behind_more (world_after old v.acts) ws w middle new is e

module _ {S : Type 0} (state : S → Option StoreState) (faults : S → ℕ) (unreported : S → List Listed) where
  -- the line with its acts
  abbrev pub worked_of : {line : Line} {old new : World S} {told : Option Answer} → WorksTo state faults unreported line old told new → Worked S
  worked_of {line} {told = told} w = record { line = line; acts = w.acts; told = told }

  pub works_of : {line : Line} {old new : World S} {told : Option Answer} (w : WorksTo state faults unreported line old told new) → Works state faults unreported old (worked_of w)
  works_of w = record { worlds = w.worlds; acts = w.steps }

  all_more : (old : World S) (ws : List (Worked S)) (w : Worked S) → AllWorked state faults unreported old ws → Works state faults unreported (world_behind old ws) w → GoesOn w.line w.told → AllWorked state faults unreported old (ws ++ w ∷ [])
  all_more old [] w all works goes = (works, goes, tt)
  all_more old (v ∷ ws) w all works goes = (all.0, all.1, all_more (world_after old v.acts) ws w all.2 works goes)

  pub behind_since : (old : World S) (ws : List (Worked S)) → AllWorked state faults unreported old ws → (base : ℕ) → WorldSince faults unreported base old → WorldSince faults unreported base (world_behind old ws)
  behind_since old [] all base h = h
  behind_since old (w ∷ ws) all base h = behind_since (world_after old w.acts) ws all.2 base (acts_since state faults unreported old w.acts all.0.worlds base h)

  -- ---- a run on its way

  -- the first i lines were worked
  pub record UpTo (i : ℕ) (lines : List Line) (old new : SinkState) (first last : World S) : Type 0 where
    pub worked : List (Worked S)
    pub lines_are : lines ≡ lines_of worked ++ drop i lines
    pub works : AllWorked state faults unreported first worked
    pub last_is : last ≡ world_behind first worked
    pub text : TookAll (text_from 1 (turns_of worked)) old new
    pub later : old.faults ≤ new.faults
    pub count : length worked ≡ i

  pub up_to_none : (lines : List Line) (sink : SinkState) (first : World S) → UpTo 0 lines sink sink first first
  up_to_none lines sink first = record { worked = []; lines_are = refl; works = tt; last_is = refl; text = took_nothing sink sink refl; later = omega arith; count = refl }

  -- what holds of its last world since the first
  pub up_to_since : {i : ℕ} {lines : List Line} {old new : SinkState} {first last : World S} → UpTo i lines old new first last → (base : ℕ) → WorldSince faults unreported base first → WorldSince faults unreported base last
  up_to_since {first = first} u base h = subst (WorldSince faults unreported base) (sym u.last_is) (behind_since first u.worked u.works base h)

  lines_more : (ws : List (Worked S)) (w : Worked S) (rest lines : List Line) → lines ≡ lines_of ws ++ w.line ∷ rest → lines ≡ lines_of (ws ++ w ∷ []) ++ rest
  lines_more ws w rest lines e =
      e ∙ sym (append_assoc (lines_of ws) (w.line ∷ []) rest) ∙ ap (λ ls. ls ++ rest) (sym (map-append (λ (v : Worked S). v.line) ws (w ∷ [])))

  pub up_to_more : (i : ℕ) (lines : List Line) (line : Line) {told : Option Answer} (old middle new : SinkState) (first at next : World S) → UpTo i lines old middle first at → drop i lines ≡ line ∷ drop (i + 1) lines
      → WorksTo state faults unreported line at told next → GoesOn line told → TookAll (told_text (i + 1) told) middle new → middle.faults ≤ new.faults → UpTo (i + 1) lines old new first next
  up_to_more i lines line {told} old middle new first at next u e w goes took later =
      let number : i + 1 ≡ 1 + length u.worked = omega (arith, u.count) in
      record {
        worked = u.worked ++ worked_of w ∷ [];
        lines_are = lines_more u.worked (worked_of w) (drop (i + 1) lines) lines (u.lines_are ∙ ap (λ ls. lines_of u.worked ++ ls) e);
        works = all_more first u.worked (worked_of w) u.works (subst (λ x. Works state faults unreported x (worked_of w)) u.last_is (works_of w)) goes;
        last_is = behind_more first u.worked (worked_of w) at next u.last_is w.last;
        text = subst (λ t. TookAll t old new) (sym (said_more 1 u.worked (worked_of w))) (took_more (text_from 1 (turns_of u.worked)) (told_text (1 + length u.worked) told) old middle new u.text (subst (λ n. TookAll (told_text n told) middle new) number took));
        later = omega (arith, u.later);
        count = omega (arith, u.count, length_push u.worked (worked_of w));
      }

  -- ---- ends

  ends_at : (s : Status) (i : ℕ) (lines : List Line) (line : Line) {told : Option Answer} (old middle new : SinkState) (first at last : World S) → UpTo i lines old middle first at → drop i lines ≡ line ∷ drop (i + 1) lines
      → WorksTo state faults unreported line at told last → LineEnds s (i + 1) told middle new → EndsAt state faults unreported s lines old new first last
  ends_at s i lines line {told} old middle new first at last u e w ends = record {
    worked = u.worked;
    ending = worked_of w;
    rest = drop (i + 1) lines;
    lines_are = u.lines_are ∙ ap (λ ls. lines_of u.worked ++ ls) e;
    works = u.works;
    ends_in = subst (λ x. Works state faults unreported x (worked_of w)) u.last_is (works_of w);
    last_is = w.last ∙ ap (λ x. world_after x w.acts) u.last_is;
    middle = middle;
    text = u.text;
    later = u.later;
    ends = subst (λ n. LineEnds s (n + 1) told middle new) (sym u.count) ends;
  }

  no_end : (s : Status) (n : ℕ) (told : Option Answer) (old new : SinkState) → LineEnds s n told old new → ((a : Answer) → LineEnds s n (Some a) old new → ⊥) → (LineEnds s n None old new → ⊥) → ⊥
  no_end s n None old new h some none = none h
  no_end s n (Some a) old new h some none = some a h

  -- the line behind the first i ends the run
  pub run_ends : (s : Status) (i : ℕ) (lines : List Line) (line : Line) {told : Option Answer} (old middle new : SinkState) (first at last : World S) → UpTo i lines old middle first at → drop i lines ≡ line ∷ drop (i + 1) lines
      → WorksTo state faults unreported line at told last → LineEnds s (i + 1) told middle new → RunSays state faults unreported s lines old new first last
  run_ends Done i lines line {told} old middle new first at last u e w ends = absurd (no_end Done (i + 1) told middle new ends (λ a h. h) (λ h. h))
  run_ends Damage i lines line old middle new first at last u e w ends = ends_at Damage i lines line old middle new first at last u e w ends
  run_ends Words i lines line {told} old middle new first at last u e w ends = absurd (no_end Words (i + 1) told middle new ends (λ a h. h) (λ h. h))
  run_ends Refused i lines line {told} old middle new first at last u e w ends = absurd (no_end Refused (i + 1) told middle new ends (λ a h. h) (λ h. h))
  run_ends Memory i lines line old middle new first at last u e w ends = ends_at Memory i lines line old middle new first at last u e w ends
  run_ends Store i lines line old middle new first at last u e w ends = ends_at Store i lines line old middle new first at last u e w ends
  run_ends Files i lines line {told} old middle new first at last u e w ends = absurd (no_end Files (i + 1) told middle new ends (λ a h. h) (λ h. h))
  run_ends Grammar i lines line {told} old middle new first at last u e w ends = absurd (no_end Grammar (i + 1) told middle new ends (λ a h. h) (λ h. h))
  run_ends Sink i lines line old middle new first at last u e w ends = ends_at Sink i lines line old middle new first at last u e w ends

  pub run_done : (i : ℕ) (lines : List Line) (old new : SinkState) (first last : World S) → UpTo i lines old new first last → length lines ≤ i → SaysAll state faults unreported lines old new first last
  run_done i lines old new first last u past = record {
    worked = u.worked;
    lines_are = u.lines_are ∙ ap (λ ls. lines_of u.worked ++ ls) (drop_all i lines past) ∙ append-nil (lines_of u.worked);
    works = u.works;
    last_is = u.last_is;
    text = u.text;
  }

  -- ---- a fault of the store

  -- a run that ends with one has seen the store's count rise
  pub run_failed : (rank : ℕ) (before after : S) (lines : List Line) (old new : SinkState) → OverRestarted state faults unreported rank before after (EndsAt state faults unreported Store lines old new) → Rose (faults before) (faults after)
  run_failed rank before after lines old new o = by o.over.says.ending.told refl o.over.says.ends
    where
      open_since : WorldSince faults unreported (faults before) (world_behind o.over.first o.over.says.worked)
      open_since = behind_since o.over.first o.over.says.worked o.over.says.works (faults before) (opens_since faults unreported o.store o.over.first o.over.opens o.restarted.none (faults before) o.restarted.later)

      ending : (told : Option Answer) → o.over.says.ending.told ≡ told → WorksTo state faults unreported o.over.says.ending.line (world_behind o.over.first o.over.says.worked) told o.over.last
      ending told is = record { acts = o.over.says.ending.acts; worlds = o.over.says.ends_in.worlds; steps = subst (λ t. LineActs o.over.says.ending.line o.over.says.ending.acts t) is o.over.says.ends_in.acts; last = o.over.says.last_is }

      by : (told : Option Answer) → o.over.says.ending.told ≡ told → LineEnds Store (length o.over.says.worked + 1) told o.over.says.middle new → Rose (faults before) (faults after)
      by None is h = absurd h
      by (Some (answer.StoreFault n)) is h = failed_held faults (faults before) after o.over.last.phase (works_failed state faults unreported n (ending (Some (answer.StoreFault n)) is) (faults before) open_since) o.over.holds
      by (Some _) is h = absurd h.0
