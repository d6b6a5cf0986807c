-- What a call says, by its command and its status.
use Rattle.std.proofs.Common.{◌≡◌, ℕ, ◌≤◌, ◌⊎◌, inl, inr, ◌+◌, cond, eqb, List, [], length, Option, Some, None, IsSomeAnd, Result, Ok, Err, refl, sym, ap, subst, ◌∙◌, arith, append-nil}
use Rattle.mj_base.specs.Counts.{Rose}
use Rattle.mj_base.specs.Sink.{then_taken}
use Rattle.mj_base.specs.Files.{FilesByName}
use Rattle.mj_base.specs.declared.limits.TheConstants.{MAX_FILE_BYTES}
use Rattle.mj_store.specs.Causes.{Listed}
use Rattle.mj_store.specs.Moves.{Stays}
use Rattle.mj_store.specs.State.{StoreState}
use Rattle.mj_format.specs.declared.refusal.FormatRefusal.{FormatRefusal}
use Rattle.mj_format.specs.declared.refusal.FormatRefusal.TheVariants as format
use Rattle.mj_layout.specs.Striping.{Striping}
use Rattle.mj_texts.specs.Script.{script_of}
use Rattle.mj_texts.specs.declared.line.Line.{Line}
use Rattle.mj_texts.specs.declared.answer.Answer.{Answer}
use Rattle.mj_app.specs.declared.read.ReadRefusal.{ReadRefusal}
use Rattle.mj_app.specs.declared.read.ReadRefusal.TheVariants as read
use Rattle.mj_app.specs.declared.status.Status.{Status}
use Rattle.mj_app.specs.declared.status.Status.TheVariants.{Done, Damage, Words, Refused, Memory, Store, Files, Grammar, Sink}
use Rattle.mj_app.specs.Status.{code_of}
use Rattle.mj_app.specs.Read.{HasLines, IsScript, IsFileRefusal, KeepsFromLines}
use Rattle.mj_model.specs.Took.{SinkState, TookNone, TookOrFailed}
use Rattle.mj_model.specs.declared.run.ModelEnd.{ModelEnd}
use Rattle.mj_model.specs.declared.run.ModelEnd.TheVariants as model
use Rattle.mj_app.specs.Run.{OverRestarted, LineEnds, StartEnds, RunSays, PlaySays}
use Rattle.mj_app.specs.Say.{refusal_text}
use Rattle.mj_app.specs.Call.{FilesState, status_of, EndsWith, TellsMissing, TellsLong, TellsOutside, TellsExactly, RefusedSays, EndSays, IsExact, RefusalEnds, PlayCall, ModelEnds, ModelCall, model_status}
use Rattle.mj_app.specs.Formats.{FormatEnds, cut_status, format_status}
use Rattle.mj_app.proofs.RunLemmas.{run_failed}
use Rattle.mj_model.proofs.TookLemmas.{raised}

-- ---- codes

-- the status with this code
status_at : ℕ → Status
status_at n = cond (eqb n 0) Done (cond (eqb n 1) Damage (cond (eqb n 2) Words (cond (eqb n 3) Refused (cond (eqb n 4) Memory (cond (eqb n 5) Store (cond (eqb n 6) Files (cond (eqb n 7) Grammar Sink)))))))

status_at-code : (s : Status) → status_at (code_of s) ≡ s
unfolding status_at
status_at-code Done = refl
status_at-code Damage = refl
status_at-code Words = refl
status_at-code Refused = refl
status_at-code Memory = refl
status_at-code Store = refl
status_at-code Files = refl
status_at-code Grammar = refl
status_at-code Sink = refl

same_status : (s t : Status) → code_of s ≡ code_of t → s ≡ t
same_status s t e = sym (status_at-code s) ∙ ap status_at e ∙ status_at-code t

-- ---- a refusal

-- nothing keeps a call from the lines but what keeps it from their bytes, or one of them
pub keeps_from_lines : {L : Type 0} (grammar : List ℕ → Result (List L) ℕ) (told : Option FilesByName) (before now : ℕ) (name : List ℕ) (why : ReadRefusal) → IsFileRefusal told before now name why → KeepsFromLines grammar told before now name why
keeps_from_lines grammar told before now name (read.BadLine n) h = absurd h
keeps_from_lines grammar told before now name _ h = h

module _ {L : Type 0} (grammar : List ℕ → Result (List L) ℕ) (name : List ℕ) (files files_after : FilesState) (old new : SinkState) where
  pub refused : (s : Status) (why : ReadRefusal) → KeepsFromLines grammar files.told files.faults files_after.faults name why → RefusalEnds why old new s → RefusedSays grammar name files files_after old new s
  refused s why h (inr e) = subst (RefusedSays grammar name files files_after old new) (sym e.0) e.1
  refused s read.Words h (inl e) = absurd h
  refused s read.FileMissing h (inl e) = subst (RefusedSays grammar name files files_after old new) (sym e.0) (inl h, (read.FileMissing, refl, h, e.1))
  refused s (read.FileTooLong n) h (inl e) = subst (RefusedSays grammar name files files_after old new) (sym e.0) (inr (inl (n, h)), (read.FileTooLong n, refl, h, e.1))
  refused s read.FileFault h (inl e) = subst (RefusedSays grammar name files files_after old new) (sym e.0) (inr (inr h), (read.FileFault, refl, h, e.1))
  refused s (read.BadLine n) h (inl e) = subst (RefusedSays grammar name files files_after old new) (sym e.0) ((n, h), (read.BadLine n, refl, h, e.1))
  refused s read.Memory h (inl e) = subst (RefusedSays grammar name files files_after old new) (sym e.0) (by e.1)
    where
      nothing : (o : Option (List ℕ)) → then_taken [] o ≡ o
      nothing None = refl
      nothing (Some t) = ap Some (append-nil t)

      by : TookOrFailed [] old new → TookNone old new
      by (inl took) = took ∙ nothing old.taken
      by (inr failed) = absurd (omega (arith, failed.front.short))

-- ---- a play

-- what failed in an answer that goes on
cut_turn : (n : ℕ) (told : Option Answer) (old new : SinkState) → LineEnds Sink n told old new → Rose old.faults new.faults
cut_turn n None old new h = absurd h
cut_turn n (Some a) old new h = h.1.rose

module _ {S : Type 0} (state : S → Option StoreState) (faults : S → ℕ) (unreported : S → List Listed) (rank : ℕ) (before after : S) (old new : SinkState) where
  pub runs : (s : Status) (lines : List Line) → OverRestarted state faults unreported rank before after (RunSays state faults unreported s lines old new) → PlaySays state faults unreported rank s lines before after old new
  runs Done lines h = h
  runs Damage lines h = h
  runs Words lines h = h
  runs Refused lines h = h
  runs Memory lines h = inl h
  runs Store lines h = inl h
  runs Files lines h = h
  runs Grammar lines h = h
  runs Sink lines h = h

  pub fails_to_start : (s : Status) (lines : List Line) → Stays (state before) (state after) → Rose (faults before) (faults after) → StartEnds s (faults after) old new → PlaySays state faults unreported rank s lines before after old new
  fails_to_start Done lines stays rose h = absurd h
  fails_to_start Damage lines stays rose h = absurd h
  fails_to_start Words lines stays rose h = absurd h
  fails_to_start Refused lines stays rose h = absurd h
  fails_to_start Memory lines stays rose h = inr (record { stays = stays; rose = rose; text = h })
  fails_to_start Store lines stays rose h = inr (record { stays = stays; rose = rose; text = h })
  fails_to_start Files lines stays rose h = absurd h
  fails_to_start Grammar lines stays rose h = absurd h
  fails_to_start Sink lines stays rose h = absurd h

module _ {S : Type 0} (state : S → Option StoreState) (faults : S → ℕ) (unreported : S → List Listed) (rank : ℕ) (name : List ℕ) (files files_after : FilesState) (old new : SinkState) where
  pub played : (s : Status) (lines : List Line) (before after : S) → IsScript files.told name lines → PlaySays state faults unreported rank s lines before after old new → EndSays state faults unreported rank name files files_after before after old new s
  played Done lines before after script h = (lines, script, h)
  played Damage lines before after script h = (lines, script, h)
  played Words lines before after script h = absurd h.over.says
  played Refused lines before after script h = absurd h.over.says
  played Memory lines before after script h = inr (lines, script, h)
  played Store lines before after script (inl h) = (run_failed state faults unreported rank before after lines old new h, (lines, script, inl h))
  played Store lines before after script (inr h) = (h.rose, (lines, script, inr h))
  played Files lines before after script h = absurd h.over.says
  played Grammar lines before after script h = absurd h.over.says
  played Sink lines before after script h =
      let e = h.over.says in
      (raised old.faults e.middle.faults new.faults e.later (cut_turn (length e.worked + 1) e.ending.told e.middle new e.ends), (lines, script, h))

  pub refused_play : (s : Status) (store : S) → RefusedSays script_of name files files_after old new s → EndSays state faults unreported rank name files files_after store store old new s
  refused_play Memory store h = inl (h, refl)
  refused_play Files store h = (h.0, h.1, refl)
  refused_play Grammar store h = (h.0, h.1, refl)
  refused_play _ store h = absurd h

  -- ---- a call that plays

  pub play_says : (s : Status) (store store_after : S) (code : ℕ) → code ≡ code_of s → EndSays state faults unreported rank name files files_after store store_after old new s → IsExact name files files_after s → PlayCall state faults unreported rank name files files_after store store_after old new code
  play_says s store store_after code is h exact = let at : (t : Status) → code ≡ code_of t → EndSays state faults unreported rank name files files_after store store_after old new t = λ t e. subst (EndSays state faults unreported rank name files files_after store store_after old new) (same_status s t (sym is ∙ e)) h in record {
    done = at Done;
    damage = at Damage;
    memory = at Memory;
    store = λ e. (at Store e).0;
    store_text = λ e. (at Store e).1;
    files = λ e. (at Files e).0;
    files_text = λ e. (at Files e).1;
    missing = subst (TellsMissing name files files_after) (sym is) exact.missing;
    long = subst (TellsLong name files files_after) (sym is) exact.long;
    outside = λ e. (at Grammar e).0;
    outside_text = λ e. (at Grammar e).1;
    found = subst (TellsOutside name files files_after) (sym is) exact.outside;
    sink = λ e. (at Sink e).0;
    cut = λ e. (at Sink e).1;
    untouched = λ before. elim before [ inl e ↦ (at Files e).2 | inr e ↦ (at Grammar e).2 ];
    known = (s, is);
    own = λ other. elim other [ inl e ↦ at Words e | inr e ↦ at Refused e ];
  }

-- ---- a call that formats

-- its code is not 2
abbrev IsNotWords : Status → Type 0
IsNotWords Words = ⊥
IsNotWords s = Unit {0}

ends_not_words : (s : Status) (why : Option FormatRefusal) → (s ≡ format_status why) ⊎ ((s ≡ cut_status (format_status why)) ⊎ (s ≡ Memory)) → IsNotWords s
ends_not_words s why (inl e) = subst IsNotWords (sym e) (by why)
  where
    by : (w : Option FormatRefusal) → IsNotWords (format_status w)
    by None = tt
    by (Some format.Formatted) = tt
    by (Some (format.Store fault)) = tt
    by (Some (format.Waiting op)) = tt
    by (Some format.Memory) = tt
ends_not_words s why (inr (inl e)) = subst IsNotWords (sym e) (by why)
  where
    by : (w : Option FormatRefusal) → IsNotWords (cut_status (format_status w))
    by None = tt
    by (Some format.Formatted) = tt
    by (Some (format.Store fault)) = tt
    by (Some (format.Waiting op)) = tt
    by (Some format.Memory) = tt
ends_not_words s why (inr (inr e)) = subst IsNotWords (sym e) tt

pub formats_not_2 : (rank : ℕ) (layout : Striping) (why : Option FormatRefusal) (old new : SinkState) (s : Status) (code : ℕ) → code ≡ code_of s → FormatEnds rank layout why old new s → code ≡ 2 → ⊥
formats_not_2 rank layout why old new s code is ends two = subst IsNotWords (same_status s Words (sym is ∙ two)) (by ends)
  where
    by : FormatEnds rank layout why old new s → IsNotWords s
    by (inl e) = ends_not_words s why (inl e.0)
    by (inr (inl e)) = ends_not_words s why (inr (inl e.0))
    by (inr (inr e)) = ends_not_words s why (inr (inr e.0))

-- ---- a call that answers a chronicle

module _ {S : Type 0} (state : S → Option StoreState) (faults : S → ℕ) (unreported : S → List Listed) (rank : ℕ) (name : List ℕ) (files files_after : FilesState) (before after : S) (old new : SinkState) where
  model_not_words : ModelEnds state faults unreported rank name files files_after before after old new Words → ⊥
  model_not_words (inl h) = h.0
  model_not_words (inr (lines, read, inr f)) = f.text
  model_not_words (inr (lines, read, inl a)) = by a.end a.is
    where
      by : (end : Result (Unit {0}) ModelEnd) → Words ≡ model_status end → ⊥
      by (Ok done) e = cc
      by (Err model.Differs) e = cc
      by (Err model.Memory) e = cc
      by (Err model.Sink) e = cc

  -- its code is not 2
  pub model_not_2 : (code : ℕ) → ModelCall state faults unreported rank name files files_after before after old new code → code ≡ 2 → ⊥
  model_not_2 code h two = model_not_words (subst (ModelEnds state faults unreported rank name files files_after before after old new) (same_status h.status Words (sym h.is ∙ two)) h.ends)

-- ---- words that are refused

-- their text takes no memory
pub words_text : (s : Status) (old new : SinkState) → s ≡ Words → RefusalEnds read.Words old new s → TookOrFailed (refusal_text read.Words) old new
words_text s old new is (inl e) = e.1
words_text s old new is (inr e) = absurd (let no : Words ≡ Memory = sym is ∙ e.0 in cc)

-- ---- what must be told

pub read_exact : {L : Type 0} (grammar : List ℕ → Result (List L) ℕ) (name : List ℕ) (files files_after : FilesState) (s : Status) (lines : List L) → HasLines grammar files.told name lines → TellsExactly grammar name files files_after s
read_exact grammar name files files_after s lines has =
    let named = has.named in
    record {
      missing = λ held told none. absurd (let h = named.file held told in cc);
      long = λ held told bytes is many. absurd (let h = named.file held told in let same : has.bytes ≡ bytes = cc in many (subst (λ b. length b ≤ MAX_FILE_BYTES) same named.fits));
      outside = λ held told bytes n is fits bad. absurd (let h = named.file held told in let same : has.bytes ≡ bytes = cc in let both : Err n ≡ Ok lines = sym bad ∙ ap grammar (sym same) ∙ has.read in cc);
    }

module _ {L : Type 0} (grammar : List ℕ → Result (List L) ℕ) (name : List ℕ) (files files_after : FilesState) where
  tells_missing : (why : ReadRefusal) (held : FilesByName) → KeepsFromLines grammar files.told files.faults files_after.faults name why → files.told ≡ Some held → held name ≡ None → EndsWith 6 (code_of (status_of why)) files files_after
  tells_missing read.Words held h told none = absurd h
  tells_missing read.FileMissing held h told none = inl refl
  tells_missing (read.FileTooLong n) held h told none = inl refl
  tells_missing read.FileFault held h told none = inl refl
  tells_missing (read.BadLine n) held h told none = absurd (let e = h.named.file held told in cc)
  tells_missing read.Memory held h told none = inr (inl refl)

  tells_long : (why : ReadRefusal) (held : FilesByName) (bytes : List ℕ) → KeepsFromLines grammar files.told files.faults files_after.faults name why → files.told ≡ Some held → held name ≡ Some bytes → (length bytes ≤ MAX_FILE_BYTES → ⊥) → EndsWith 6 (code_of (status_of why)) files files_after
  tells_long read.Words held bytes h told is many = absurd h
  tells_long read.FileMissing held bytes h told is many = inl refl
  tells_long (read.FileTooLong n) held bytes h told is many = inl refl
  tells_long read.FileFault held bytes h told is many = inl refl
  tells_long (read.BadLine n) held bytes h told is many =
      let e = h.named.file held told in
      let same : h.bytes ≡ bytes = cc in
      absurd (many (subst (λ b. length b ≤ MAX_FILE_BYTES) same h.named.fits))
  tells_long read.Memory held bytes h told is many = inr (inl refl)

  -- the length that is too great is that of the bytes
  too_long : (o : Option (List ℕ)) (bytes : List ℕ) (n : ℕ) → o ≡ Some bytes → IsSomeAnd o (λ b. n ≡ length b) → n ≡ length bytes
  too_long o bytes n e h = subst (λ x. IsSomeAnd x (λ b. n ≡ length b)) e h

  tells_outside : (why : ReadRefusal) (held : FilesByName) (bytes : List ℕ) (n : ℕ) → KeepsFromLines grammar files.told files.faults files_after.faults name why → files.told ≡ Some held → held name ≡ Some bytes → length bytes ≤ MAX_FILE_BYTES → grammar bytes ≡ Err n → EndsWith 7 (code_of (status_of why)) files files_after
  tells_outside read.Words held bytes n h told is fits bad = absurd h
  tells_outside read.FileMissing held bytes n h told is fits bad = absurd (let none = h held told in cc)
  tells_outside (read.FileTooLong m) held bytes n h told is fits bad =
      let len = too_long (held name) bytes m is (h.file held told) in
      absurd (omega (arith, len, h.limit, fits))
  tells_outside read.FileFault held bytes n h told is fits bad = inr (inr h)
  tells_outside (read.BadLine m) held bytes n h told is fits bad = inl refl
  tells_outside read.Memory held bytes n h told is fits bad = inr (inl refl)

  -- want of memory may come in place of a text
  or_memory : (code : ℕ) (s : Status) (why : ReadRefusal) (old new : SinkState) → RefusalEnds why old new s → EndsWith code (code_of (status_of why)) files files_after → EndsWith code (code_of s) files files_after
  or_memory code s why old new (inl e) h = subst (λ t. EndsWith code (code_of t) files files_after) (sym e.0) h
  or_memory code s why old new (inr e) h = inr (inl (ap code_of e.0))

  pub refusal_exact : (s : Status) (why : ReadRefusal) (old new : SinkState) → KeepsFromLines grammar files.told files.faults files_after.faults name why → RefusalEnds why old new s → TellsExactly grammar name files files_after s
  refusal_exact s why old new h ends = record {
    missing = λ held told none. or_memory 6 s why old new ends (tells_missing why held h told none);
    long = λ held told bytes is many. or_memory 6 s why old new ends (tells_long why held bytes h told is many);
    outside = λ held told bytes n is fits bad. or_memory 7 s why old new ends (tells_outside why held bytes n h told is fits bad);
  }
