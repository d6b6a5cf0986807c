-- Lines one after another, read as turns of the machine.
use Rattle.std.proofs.Common.{◌≡◌, ℕ, List, [], ◌∷◌, ◌++◌, Option, Some, None, refl, sym, ap, subst, ◌∙◌}
use Rattle.mj_store.specs.Causes.{Listed}
use Rattle.mj_store.specs.State.{StoreState}
use Rattle.mj_machine.specs.Legal.{AllAgree, step_of, after_turns}
use Rattle.mj_machine.specs.Machine.{LogMachine, Step, stepped, run}
use Rattle.mj_world.specs.Live.{WorldLives}
use Rattle.mj_world.specs.declared.world.World.{World}
use Rattle.mj_texts.specs.declared.line.Line.{Line}
use Rattle.mj_texts.specs.declared.line.Line.TheVariants as line
use Rattle.mj_texts.specs.declared.answer.Answer.{Answer}
use Rattle.mj_app.specs.Answers.{GoesOn}
use Rattle.mj_app.specs.Headline.{StopsIn, StopsAmong, EachWorked, WorkedIf, acts_in, machine_by, machine_behind}
use Rattle.mj_app.specs.LineActs.{Stage, LineActs, AreNext}
use Rattle.mj_app.specs.Run.{Worked, Works, AllWorked, turn_of, turns_of, world_behind}
use Rattle.mj_app.specs.Worlds.{Act, world_after}
use Rattle.mj_app.proofs.ActReads.{acts_live, acts_number, acts_stop, line_reads}
use Rattle.mj_app.proofs.LineReads.{Turned, Comes, Reads}
use Rattle.mj_app.proofs.NeverWaits.{NotWaiting, line_never_waits}

-- ---- one line

-- A line with its text, or one that has none to have: its turn tells all that the machine makes of it.
record TurnedWhole {S : Type 0} (m : LogMachine) (w : Worked S) : Type 0 where
  turned : Turned m (turn_of w) (machine_by m w.acts)
  exact : stepped m (step_of (turn_of w)) ≡ machine_by m w.acts

abbrev pub with_told : {S : Type 0} → Line → List (Act S) → Option Answer → Worked S
with_told l acts told = record { line = l; acts = acts; told = told }

blank_acts : {S : Type 0} (m : LogMachine) (acts : List (Act S)) → AreNext (Stage.Ended None) acts → m ≡ machine_by m acts
blank_acts m [] next = refl
blank_acts m (a ∷ acts) next = absurd (let no = next.0 in cc)

goes_turned : {S : Type 0} (m : LogMachine) (l : Line) (acts : List (Act S)) (told : Option Answer) → LineActs l acts told → Reads l m told (machine_by m acts) → GoesOn l told → NotWaiting told → TurnedWhole m (with_told l acts told)
goes_turned m l acts (Some a) w t goes waits = record { turned = t.turned; exact = t.exact goes waits }
goes_turned m line.Blank acts None w t goes waits =
    let same : m ≡ machine_by m acts = blank_acts m acts w.steps in
    record { turned = record { fits = refl; agrees = tt; untold = []; comes = same }; exact = same }
goes_turned m (line.One s) acts None w t goes waits = absurd goes
goes_turned m line.Mount acts None w t goes waits = absurd goes

-- ---- lines

module _ {S : Type 0} (state : S → Option StoreState) (faults : S → ℕ) (unreported : S → List Listed) (rank : ℕ) where
  -- these lines have their texts, and one behind them may have none
  pub record Read (m : LogMachine) (old : World S) (ws : List (Worked S)) (unsaid : Option (Worked S)) : Type 0 where
    pub works : EachWorked state faults unreported old ws
    pub cut : WorkedIf state faults unreported (world_behind old ws) unsaid
    pub agree : AllAgree m (turns_of ws)
    pub stops : StopsAmong state rank old m ws
    pub stops_unsaid : StopsIn state rank (world_behind old ws) (after_turns m (turns_of ws)) (acts_in unsaid)
    pub untold : List Step
    pub machine : run (after_turns m (turns_of ws)) untold ≡ machine_by (machine_behind m ws) (acts_in unsaid)
    pub lives : WorldLives state (world_after (world_behind old ws) (acts_in unsaid)) (machine_by (machine_behind m ws) (acts_in unsaid))
    pub number : (world_after (world_behind old ws) (acts_in unsaid)).number ≡ rank

  pub read_none : (m : LogMachine) (old : World S) → WorldLives state old m → old.number ≡ rank → Read m old [] None
  read_none m old lives numbered = record { works = tt; cut = tt; agree = tt; stops = tt; stops_unsaid = tt; untold = []; machine = refl; lives = lives; number = numbered }

  -- the last line has its text
  pub read_said : (m : LogMachine) (old : World S) (l : Line) (acts : List (Act S)) (a : Answer) → Works state faults unreported old (with_told l acts (Some a)) → WorldLives state old m → old.number ≡ rank
      → Read m old (with_told l acts (Some a) ∷ []) None
  read_said m old l acts a w lives numbered =
      let t = (line_reads state faults unreported l m old acts (Some a) w.worlds w.acts lives).turned in
      record {
        works = (w, tt);
        cut = tt;
        agree = (t.fits, t.agrees, tt);
        stops = (acts_stop state faults unreported rank m old acts w.worlds numbered lives, tt);
        stops_unsaid = tt;
        untold = t.untold;
        machine = t.comes;
        lives = acts_live state faults unreported m old acts w.worlds lives;
        number = acts_number state faults unreported old acts w.worlds ∙ numbered;
      }

  -- it has none
  comes_of : (l : Line) (m now : LogMachine) (told : Option Answer) → Reads l m told now → Comes m now
  comes_of l m now (Some a) t = record { steps = step_of (l, Some a) ∷ t.turned.untold; comes = t.turned.comes }
  comes_of l m now None c = c

  pub read_unsaid : (m : LogMachine) (old : World S) (w : Worked S) → Works state faults unreported old w → WorldLives state old m → old.number ≡ rank → Read m old [] (Some w)
  read_unsaid m old w works lives numbered =
      let c = comes_of w.line m (machine_by m w.acts) w.told (line_reads state faults unreported w.line m old w.acts w.told works.worlds works.acts lives) in
      record {
        works = tt;
        cut = works;
        agree = tt;
        stops = tt;
        stops_unsaid = acts_stop state faults unreported rank m old w.acts works.worlds numbered lives;
        untold = c.steps;
        machine = c.comes;
        lives = acts_live state faults unreported m old w.acts works.worlds lives;
        number = acts_number state faults unreported old w.acts works.worlds ∙ numbered;
      }

  -- a line before, after which the script went on
  read_more : (m : LogMachine) (old : World S) (w : Worked S) (ws : List (Worked S)) (unsaid : Option (Worked S)) → Works state faults unreported old w → TurnedWhole m w → WorldLives state old m → old.number ≡ rank
      → Read (stepped m (step_of (turn_of w))) (world_after old w.acts) ws unsaid → Read m old (w ∷ ws) unsaid
  read_more m old w ws unsaid works t lives numbered r = record {
    works = (works, r.works);
    cut = r.cut;
    agree = (t.turned.fits, t.turned.agrees, r.agree);
    stops = (acts_stop state faults unreported rank m old w.acts works.worlds numbered lives, r.stops);
    stops_unsaid = r.stops_unsaid;
    untold = r.untold;
    machine = r.machine ∙ ap (λ x. machine_by (machine_behind x ws) (acts_in unsaid)) t.exact;
    lives = subst (λ x. WorldLives state (world_after (world_behind (world_after old w.acts) ws) (acts_in unsaid)) (machine_by (machine_behind x ws) (acts_in unsaid))) t.exact r.lives;
    number = r.number;
  }

  -- the lines after which the script went on, and what is read behind them
  pub reads : (m : LogMachine) (old : World S) (ws vs : List (Worked S)) (unsaid : Option (Worked S)) → AllWorked state faults unreported old ws → WorldLives state old m → old.number ≡ rank
      → ((m : LogMachine) → WorldLives state (world_behind old ws) m → (world_behind old ws).number ≡ rank → Read m (world_behind old ws) vs unsaid) → Read m old (ws ++ vs) unsaid
  reads m old [] vs unsaid all lives numbered ending = ending m lives numbered
  reads m old (w ∷ ws) vs unsaid all lives numbered ending =
      let t : TurnedWhole m w = goes_turned m w.line w.acts w.told all.0.acts (line_reads state faults unreported w.line m old w.acts w.told all.0.worlds all.0.acts lives) all.1 (line_never_waits state faults unreported w.line old w.acts m w.told all.0.worlds all.0.acts lives) in
      read_more m old w (ws ++ vs) unsaid all.0 t lives numbered
      (reads (stepped m (step_of (turn_of w))) (world_after old w.acts) ws vs unsaid all.2
      (subst (WorldLives state (world_after old w.acts)) (sym t.exact) (acts_live state faults unreported m old w.acts all.0.worlds lives))
      (acts_number state faults unreported old w.acts all.0.worlds ∙ numbered) ending)
