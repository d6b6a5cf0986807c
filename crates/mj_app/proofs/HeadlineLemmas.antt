-- The headline of a call, from what its lines did and said.
use Rattle.std.proofs.Common.{◌≡◌, inl, inr, ℕ, ◌+◌, ◌≤◌, List, [], ◌∷◌, ◌++◌, length, Option, Some, None, refl, sym, ap, subst, ◌∙◌, append_assoc, append-nil, arith}
use Rattle.std.proofs.lemmas.List.{map-append}
use Rattle.mj_store.specs.Causes.{Listed}
use Rattle.mj_store.specs.Events.{Tells}
use Rattle.mj_store.specs.State.{StoreState}
use Rattle.mj_rank.specs.Live.{LeavesFronts, Rested}
use Rattle.mj_machine.specs.Legal.{text_from}
use Rattle.mj_machine.specs.Machine.{LogMachine}
use Rattle.mj_rank.proofs.FormattedRests.{formatted_rested}
use Rattle.mj_world.specs.Live.{WorldLives}
use Rattle.mj_world.specs.declared.world.World.{World}
use Rattle.mj_layout.specs.Striping.{Striping}
use Rattle.mj_texts.specs.AnswerText.{turn_text}
use Rattle.mj_texts.specs.declared.line.Line.{Line}
use Rattle.mj_texts.specs.declared.answer.Answer.{Answer}
use Rattle.mj_app.specs.declared.status.Status.{Status}
use Rattle.mj_app.specs.declared.status.Status.TheVariants as status
use Rattle.mj_app.specs.Status.{code_of}
use Rattle.mj_app.specs.Call.{FilesState, EndSays}
use Rattle.mj_app.specs.Headline.{IsFormatted, Begun, Whole, NotBegun, Headline, HeadlineAt, HasHeadline, HasFirstHeadline, Playing, RestsAgain, new_machine, line_in, acts_in}
use Rattle.mj_app.specs.Words.{Format, Play, Model}
use Rattle.mj_app.specs.Run.{Worked, Works, SaysAll, EndsAt, OverRestarted, FailsToStart, LineEnds, lines_of, turns_of, world_behind}
use Rattle.mj_model.specs.Took.{SinkState, TookAll, TookNone, FailedIn, TookOrFailed}
use Rattle.mj_app.specs.Worlds.{IsRestarted, Opens, HoldsStore, world_after}
use Rattle.mj_app.proofs.Leaving.{world_leaves, world_rests, opens_lives, rested_again, rested_restarts, rested_stays, restart_stops, stay_stops, rested_tells, still_stops}
use Rattle.mj_app.proofs.LinesRead.{Read, with_told, read_none, read_said, read_unsaid, reads}
use Rattle.mj_app.proofs.RunLemmas.{said_more}
use Rattle.mj_model.proofs.TookLemmas.{took_none, took_or_failed, failed_more}

behind_said : {S : Type 0} (old : World S) (ws : List (Worked S)) (w : Worked S) → world_behind old (ws ++ w ∷ []) ≡ world_after (world_behind old ws) w.acts
behind_said old [] w = refl
behind_said old (v ∷ ws) w = behind_said (world_after old v.acts) ws w

module _ {S : Type 0} (state : S → Option StoreState) (faults : S → ℕ) (unreported : S → List Listed) (rank : ℕ) (m : LogMachine) (before after : S) (t : Tells (state before) (Rested rank m)) where
  -- ---- no line was worked

  pub untouched : {printed : Type 0} → after ≡ before → printed → NotBegun state faults unreported rank m before after printed
  untouched {printed} is text = subst (λ x. NotBegun state faults unreported rank m before x printed) (sym is) (record { stops = still_stops rank m (state before) t; leaves = rested_tells rank m t; rests = rested_again rank m t; text = text })

  pub not_started : {printed : Type 0} (s : Status) (old new : SinkState) → FailsToStart state faults unreported s before after old new → printed → NotBegun state faults unreported rank m before after printed
  not_started s old new f text = record { stops = stay_stops rank m t f.stays; leaves = rested_tells rank m (rested_stays rank m t f.stays); rests = rested_again rank m (rested_stays rank m t f.stays); text = text }

  -- ---- lines were worked

  abbrev begun : (Took : List ℕ → Type 0) (lines rest : List Line) (store : S) (first : World S) (ws : List (Worked S)) (unsaid : Option (Worked S)) → IsRestarted state faults unreported before store → Opens rank store first
      → Read state faults unreported rank m first ws unsaid → HoldsStore (world_after (world_behind first ws) (acts_in unsaid)) after → lines ≡ lines_of ws ++ line_in unsaid ++ rest → Took (text_from 1 (turns_of ws))
      → Begun state faults unreported rank m Took before after lines
  begun Took lines rest store first ws unsaid restarted opens r holds are took = record {
    store = store;
    first = first;
    worked = ws;
    unsaid = unsaid;
    restarted = restarted;
    opens = opens;
    works = r.works;
    cut = r.cut;
    holds = holds;
    rest = rest;
    lines_are = are;
    agree = r.agree;
    text = took;
    restart = restart_stops rank m t restarted.told;
    stops = r.stops;
    stops_unsaid = r.stops_unsaid;
    untold = r.untold;
    machine = r.machine;
    leaves = subst (λ k. Tells (state after) (LeavesFronts rank k)) (sym r.machine) (world_leaves state rank (world_after (world_behind first ws) (acts_in unsaid)) after _ r.number holds r.lives);
    rests = subst (λ k. Tells (state after) (RestsAgain rank k)) (sym r.machine) (world_rests state rank (world_after (world_behind first ws) (acts_in unsaid)) after _ r.number holds r.lives);
  }

  first_lives : (store : S) (first : World S) → IsRestarted state faults unreported before store → Opens rank store first → WorldLives state first m
  first_lives store first restarted opens = opens_lives state rank store first m opens (rested_restarts rank m t restarted.told)

  pub whole : (lines : List Line) (old new : SinkState) (o : OverRestarted state faults unreported rank before after (SaysAll state faults unreported lines old new)) → Whole state faults unreported rank m (λ text. TookAll text old new) before after lines
  whole lines old new o =
      let s = o.over.says in
      let lives = first_lives o.store o.over.first o.restarted o.over.opens in
      let r : Read state faults unreported rank m o.over.first (s.worked ++ []) None = reads state faults unreported rank m o.over.first s.worked [] None s.works lives o.over.opens.number (λ k l z. read_none state faults unreported rank k (world_behind o.over.first s.worked) l z) in
      record {
        begun = begun (λ text. TookAll text old new) lines [] o.store o.over.first s.worked None o.restarted o.over.opens (subst (λ ws. Read state faults unreported rank m o.over.first ws None) (append-nil s.worked) r)
            (subst (λ w. HoldsStore w after) s.last_is o.over.holds) (s.lines_are ∙ no_more (lines_of s.worked)) s.text;
        all = refl;
        said = refl;
      }
    where
      no_more : (xs : List Line) → xs ≡ xs ++ [] ++ []
      no_more xs = sym (append-nil (xs ++ []) ∙ append-nil xs)

  all_holds : (first last : World S) (ws : List (Worked S)) (w : Worked S) → last ≡ world_after (world_behind first ws) w.acts → HoldsStore last after → HoldsStore (world_behind first (ws ++ w ∷ [])) after
  all_holds first last ws w is holds = subst (λ x. HoldsStore x after) (is ∙ sym (behind_said first ws w)) holds

  all_lines : (ws : List (Worked S)) (w : Worked S) (rest lines : List Line) → lines ≡ lines_of ws ++ w.line ∷ rest → lines ≡ lines_of (ws ++ w ∷ []) ++ [] ++ rest
  all_lines ws w rest lines e =
      e ∙ sym (append_assoc (lines_of ws) (w.line ∷ []) rest) ∙ ap (λ ls. ls ++ rest) (sym (append-nil (lines_of ws ++ w.line ∷ [])) ∙ ap (λ ls. ls ++ []) (sym (map-append (λ (v : Worked S). v.line) ws (w ∷ []))))

  -- the last line has its text
  said_begun : (Took : List ℕ → Type 0) (s : Status) (lines : List Line) (old new : SinkState) (o : OverRestarted state faults unreported rank before after (EndsAt state faults unreported s lines old new)) (a : Answer) → o.over.says.ending.told ≡ Some a
      → Took (text_from 1 (turns_of o.over.says.worked) ++ turn_text (length o.over.says.worked + 1) a) → Begun state faults unreported rank m Took before after lines
  said_begun Took s lines old new o a is took =
      let e = o.over.says in
      let w : Worked S = with_told e.ending.line e.ending.acts (Some a) in
      let works : Works state faults unreported (world_behind o.over.first e.worked) w = subst (λ x. Works state faults unreported (world_behind o.over.first e.worked) (with_told e.ending.line e.ending.acts x)) is e.ends_in in
      let number : length e.worked + 1 ≡ 1 + length e.worked = omega arith in
      begun Took lines e.rest o.store o.over.first (e.worked ++ w ∷ []) None o.restarted o.over.opens
      (reads state faults unreported rank m o.over.first e.worked (w ∷ []) None e.works (first_lives o.store o.over.first o.restarted o.over.opens) o.over.opens.number
      (λ k l z. read_said state faults unreported rank k (world_behind o.over.first e.worked) e.ending.line e.ending.acts a works l z))
      (all_holds o.over.first o.over.last e.worked w e.last_is o.over.holds)
      (all_lines e.worked w e.rest lines e.lines_are)
      (subst Took (ap (λ n. text_from 1 (turns_of e.worked) ++ turn_text n a) number ∙ sym (said_more 1 e.worked w)) took)

  -- it has none
  unsaid_begun : (Took : List ℕ → Type 0) (s : Status) (lines : List Line) (old new : SinkState) (o : OverRestarted state faults unreported rank before after (EndsAt state faults unreported s lines old new))
      → Took (text_from 1 (turns_of o.over.says.worked)) → Begun state faults unreported rank m Took before after lines
  unsaid_begun Took s lines old new o took =
      let e = o.over.says in
      let r : Read state faults unreported rank m o.over.first (e.worked ++ []) (Some e.ending) = reads state faults unreported rank m o.over.first e.worked [] (Some e.ending) e.works (first_lives o.store o.over.first o.restarted o.over.opens) o.over.opens.number
      (λ k l z. read_unsaid state faults unreported rank k (world_behind o.over.first e.worked) e.ending e.ends_in l z) in
      begun Took lines e.rest o.store o.over.first e.worked (Some e.ending) o.restarted o.over.opens
      (subst (λ ws. Read state faults unreported rank m o.over.first ws (Some e.ending)) (append-nil e.worked) r)
      (subst (λ w. HoldsStore w after) e.last_is o.over.holds)
      (e.lines_are ∙ sym (append_assoc (lines_of e.worked) (e.ending.line ∷ []) e.rest))
      took

  -- ---- by the status

  damage_begun : (lines : List Line) (old new : SinkState) (o : OverRestarted state faults unreported rank before after (EndsAt state faults unreported status.Damage lines old new)) (told : Option Answer) → o.over.says.ending.told ≡ told
      → LineEnds status.Damage (length o.over.says.worked + 1) told o.over.says.middle new → Begun state faults unreported rank m (λ text. TookOrFailed text old new) before after lines
  damage_begun lines old new o None is h = absurd h
  damage_begun lines old new o (Some a) is h = said_begun (λ text. TookOrFailed text old new) status.Damage lines old new o a is (took_or_failed _ _ old o.over.says.middle new o.over.says.text o.over.says.later h.1)

  store_begun : (lines : List Line) (old new : SinkState) (o : OverRestarted state faults unreported rank before after (EndsAt state faults unreported status.Store lines old new)) (told : Option Answer) → o.over.says.ending.told ≡ told
      → LineEnds status.Store (length o.over.says.worked + 1) told o.over.says.middle new → Begun state faults unreported rank m (λ text. TookOrFailed text old new) before after lines
  store_begun lines old new o None is h = absurd h
  store_begun lines old new o (Some a) is h = said_begun (λ text. TookOrFailed text old new) status.Store lines old new o a is (took_or_failed _ _ old o.over.says.middle new o.over.says.text o.over.says.later h.1)

  sink_begun : (lines : List Line) (old new : SinkState) (o : OverRestarted state faults unreported rank before after (EndsAt state faults unreported status.Sink lines old new)) (told : Option Answer) → o.over.says.ending.told ≡ told
      → LineEnds status.Sink (length o.over.says.worked + 1) told o.over.says.middle new → Begun state faults unreported rank m (λ text. FailedIn text old new) before after lines
  sink_begun lines old new o None is h = absurd h
  sink_begun lines old new o (Some a) is h = said_begun (λ text. FailedIn text old new) status.Sink lines old new o a is (failed_more _ _ old o.over.says.middle new o.over.says.text o.over.says.later h.1)

  memory_none : (n : ℕ) (told : Option Answer) (middle new : SinkState) → LineEnds status.Memory n told middle new → TookNone middle new
  memory_none n None middle new h = h
  memory_none n (Some a) middle new h = h

  module _ (name : List ℕ) (files files_after : FilesState) (old new : SinkState) where
    pub headline_at : (s : Status) → EndSays state faults unreported rank name files files_after before after old new s → HeadlineAt state faults unreported rank m s name files before after old new
    headline_at status.Done h = (h.0, h.1, whole h.0 old new h.2)
    headline_at status.Damage h = (h.0, h.1, damage_begun h.0 old new h.2 h.2.over.says.ending.told refl h.2.over.says.ends)
    headline_at status.Words h = absurd h
    headline_at status.Refused h = absurd h
    headline_at status.Memory (inl h) = inl (untouched h.1 h.0)
    headline_at status.Memory (inr h) = elim h.2 [
      | inl o ↦ inr (h.0, h.1, unsaid_begun (λ text. TookAll text old new) status.Memory h.0 old new o (took_none _ old o.over.says.middle new o.over.says.text (memory_none (length o.over.says.worked + 1) o.over.says.ending.told o.over.says.middle new o.over.says.ends)))
      | inr f ↦ inl (not_started status.Memory old new f f.text)
    ]
    headline_at status.Store h = elim h.1.2 [
      | inl o ↦ inr (h.1.0, h.1.1, store_begun h.1.0 old new o o.over.says.ending.told refl o.over.says.ends)
      | inr f ↦ inl (not_started status.Store old new f tt)
    ]
    headline_at status.Files h = untouched h.2 tt
    headline_at status.Grammar h = untouched h.2 tt
    headline_at status.Sink h = (h.1.0, h.1.1, sink_begun h.1.0 old new h.1.2 h.1.2.over.says.ending.told refl h.1.2.over.says.ends)

-- a store that holds what formatting leaves rests
pub formatted_rests : (rank : ℕ) (layout : Striping) (s : StoreState) → rank ≤ 15 → IsFormatted rank layout s → Rested rank (new_machine rank) s
formatted_rests rank layout s small f = formatted_rested rank small layout f.sound s f.quiet f.held

pub headline_of : {S : Type 0} (state : S → Option StoreState) (faults : S → ℕ) (unreported : S → List Listed) (rank : ℕ) (m : LogMachine) (before after : S) (s : StoreState) → state before ≡ Some s → Rested rank m s
    → (name : List ℕ) (files files_after : FilesState) (old new : SinkState) (code : ℕ) (st : Status) → code ≡ code_of st → EndSays state faults unreported rank name files files_after before after old new st
    → Headline state faults unreported rank m name files before after old new code
headline_of state faults unreported rank m before after s is rested name files files_after old new code st is_code says =
    record { status = st; is = is_code; holds = headline_at state faults unreported rank m before after (record { now = s; is = is; holds = rested }) name files files_after old new st says }

-- ---- by the command

pub playing : (P : ℕ → List ℕ → Type 0) (rank : ℕ) (name : List ℕ) → P rank name → Playing (Some (Play rank name)) P
playing P rank name p r n same =
    let number : rank ≡ r = cc in
    let file : name ≡ n = cc in
    subst (λ x. P x n) number (subst (P rank) file p)

pub formats_play : (P : ℕ → List ℕ → Type 0) (rank : ℕ) (layout : Striping) → Playing (Some (Format rank layout)) P
formats_play P rank layout r n same = absurd cc

pub models_play : (P : ℕ → List ℕ → Type 0) (rank : ℕ) (chronicle : List ℕ) → Playing (Some (Model rank chronicle)) P
models_play P rank chronicle r n same = absurd cc

pub none_play : (P : ℕ → List ℕ → Type 0) → Playing None P
none_play P r n same = absurd cc

module _ {S : Type 0} (state : S → Option StoreState) (faults : S → ℕ) (unreported : S → List Listed) (rank : ℕ) (name : List ℕ) (files files_after : FilesState) (before after : S) (old new : SinkState) (code : ℕ) (st : Status) (is : code ≡ code_of st)
    (says : EndSays state faults unreported rank name files files_after before after old new st) where
  pub has_headline : HasHeadline state faults unreported (Some (Play rank name)) files before after old new code
  has_headline =
      playing (λ r n. (m : LogMachine) (s : StoreState) → state before ≡ Some s → Rested r m s → Headline state faults unreported r m n files before after old new code) rank name
      (λ m s told rested. headline_of state faults unreported rank m before after s told rested name files files_after old new code st is says)

  pub has_first : rank ≤ 15 → HasFirstHeadline state faults unreported (Some (Play rank name)) files before after old new code
  has_first small =
      playing (λ r n. (layout : Striping) (s : StoreState) → state before ≡ Some s → IsFormatted r layout s → Headline state faults unreported r (new_machine r) n files before after old new code) rank name
      (λ layout s told formatted. headline_of state faults unreported rank (new_machine rank) before after s told (formatted_rests rank layout s small formatted) name files files_after old new code st is says)
