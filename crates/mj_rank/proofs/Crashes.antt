-- What every stop leaves recovers to a front of the machine's requests that has all safe ones.
use mathlib.Core.Path.{fun_ext}
use Rattle.std.proofs.Common.{◌≡◌, ℕ, ◌+◌, ◌-◌, ◌≤◌, List, [], ◌∷◌, ◌++◌, length, take, drop, map, Option, Some, None, Ok, refl, sym, ap, subst, ◌∙◌, arith, length-append}
use Rattle.std.proofs.lemmas.List.{take-append-drop}
use Rattle.std.proofs.Math.Seq.{take-append-add, take-append_seam}
use Rattle.std.specs.Prelude.{◌||◌, if◌then◌else◌}
use Rattle.std.specs.Option.{option_and_then}
use Rattle.mj_base.specs.declared.object.ObjectName.{ObjectName}
use Rattle.mj_base.specs.declared.object.ObjectName.TheVariants.{File, InoTable, SessionMap}
use Rattle.mj_base.specs.declared.damage.Damage.TheVariants as damage
use Rattle.mj_cells.specs.Table.{Table}
use Rattle.mj_maps.specs.Map.{get}
use Rattle.mj_tree.specs.State.{PlainState, new_state}
use Rattle.mj_tree.specs.Answer.{after_all}
use Rattle.mj_store.specs.Object.{Content, Contents, Pairs}
use Rattle.mj_store.specs.State.{StoreState, IsImage}
use Rattle.mj_store.specs.Causes.{In}
use Rattle.mj_layout.specs.declared.Header.{Header}
use Rattle.mj_event.specs.declared.Event.{Event}
use Rattle.mj_recovery.specs.Objects.{Holds}
use Rattle.mj_recovery.specs.Journal.{live_journal}
use Rattle.mj_recovery.specs.Stored.{bad_key}
use Rattle.mj_recovery.specs.Recovered.{merged_table, bad_table, bad_key_of, lacks_head, is_bad}
use Rattle.mj_recovery.specs.declared.journal.LiveEvent.{LiveEvent}
use Rattle.mj_machine.specs.Machine.{LogMachine, all_kept, fold_of}
use Rattle.mj_machine.specs.CrashSafe.{IsFrontState}
use Rattle.mj_delta.specs.Histories.{Turn, events, requests, Carries}
use Rattle.mj_delta.specs.Fresh.{fresh_table}
use Rattle.mj_delta.specs.Recovering.{live_events}
use Rattle.mj_delta.proofs.Fronts.{carries_front}
use Rattle.mj_facts.specs.Journalled.{Journalled, placed, size_of, place_of}
use Rattle.mj_facts.specs.Headers.{may_stand}
use Rattle.mj_facts.specs.Rests.{IsFront, journal_of}
use Rattle.mj_facts.specs.Few.{objects_among}
use Rattle.mj_facts.specs.Elsewhere.{keys_of}
use Rattle.mj_facts.proofs.Entries.{place_back}
use Rattle.mj_facts.proofs.Few.{few_image}
use Rattle.mj_facts.proofs.Uncommitted.{uncommitted_elsewhere, uncommitted_keys, uncommitted_table}
use Rattle.mj_facts.proofs.Laws.{serving_leaves}
use Rattle.mj_journaler.specs.Journal.{Journal}
use Rattle.mj_rank.specs.History.{IsHistory, members, turns_end}
use Rattle.mj_rank.specs.Live.{Recovers, LeavesFronts, IsNewStore, Lives}
use Rattle.mj_rank.proofs.FreshHistory.{StoresFresh, fresh_recovers}
use Rattle.mj_rank.proofs.Members.{members_append, members_requests, events_take}

-- ---- the objects that are none of the journal

abbrev bad_keys : ObjectName → Option (Option (List ℕ) × Pairs) → Option (List ℕ)
bad_keys name None = None
bad_keys name (Some x) = bad_key name (record { bytes = []; head = x.0; pairs = x.1 })

bad_by_keys : (name : ObjectName) (held : Option Content) → option_and_then (bad_key name) held ≡ bad_keys name (keys_of held)
bad_by_keys name None = refl
bad_by_keys name (Some o) = refl

module _ (rank : ℕ) (s : StoreState) (new : IsNewStore rank s) (image : Contents) (im : IsImage s image) where
  dirfrags_fine : (d : ℕ) → bad_key_of image d ≡ None
  dirfrags_fine d =
      bad_by_keys (File d 0) (image (File d 0))
      ∙ (ap (bad_keys (File d 0)) (uncommitted_keys rank new.base s image new.uncommitted im d) ∙ (sym (bad_by_keys (File d 0) (new.base (File d 0))) ∙ new.new.dirfrags d))

  tables_fine : bad_table image rank ≡ None
  tables_fine =
      let inodes : image (InoTable rank) ≡ new.base (InoTable rank) = uncommitted_elsewhere rank new.base s image new.uncommitted im (InoTable rank) (λ index e. cc) in
      let sessions : image (SessionMap rank) ≡ new.base (SessionMap rank) = uncommitted_elsewhere rank new.base s image new.uncommitted im (SessionMap rank) (λ index e. cc) in
      (λ z. if lacks_head (inodes z) || is_bad (InoTable rank) (inodes z) then Some (damage.TableBad (InoTable rank))
      else if is_bad (SessionMap rank) (sessions z) then Some (damage.TableBad (SessionMap rank)) else None)
      ∙ new.new.tables

-- ---- the live journal

placed_events : (at : ℕ) (es : List Event) → map (λ (e : LiveEvent). e.event) (placed at es) ≡ es
placed_events at [] = refl
placed_events at (e ∷ es) = ap (λ (xs : List Event). e ∷ xs) (placed_events (at + size_of e) es)

-- where all is live
pub live_from : (j : Journalled) (h : Header) (first count : ℕ) → first ≡ 0 → live_events (journal_of j h first count) ≡ take count j.events
live_from j h first count start =
    let whole : count - first ≡ count = omega (arith, start) in
    placed_events (place_of j first) (take (count - first) (drop first j.events)) ∙ (λ z. take (whole z) (drop (start z) j.events))

-- ---- a front of the turns

pub take_over : (n : ℕ) (xs ys : List Turn) → length xs ≤ n → take n (xs ++ ys) ≡ xs ++ take (n - length xs) ys
take_over n xs ys h =
    let e : n ≡ length xs + (n - length xs) = omega (arith, h) in
    ap (λ k. take k (xs ++ ys)) e ∙ take-append-add xs ys (n - length xs)

front_state : (rank : ℕ) (j : Journalled) (older newer : List Turn) (m : LogMachine) (count : ℕ) → IsHistory rank j older newer m → length older ≤ count
    → IsFrontState m (after_all (new_state rank) (requests (take count (older ++ newer))))
front_state rank j older newer m count h enough =
    let all = older ++ newer in
    let live = take count all in
    let rest = members (turns_end j.start live) (drop count all) in
    let kept : all_kept m ≡ members j.start live ++ rest =
    (λ z. h.history z ++ h.on_the_way z) ∙ (sym (members_append j.start older newer) ∙ (ap (members j.start) (sym (take-append-drop count all)) ∙ members_append j.start live (drop count all))) in
    let longer : members j.start live ≡ members j.start older ++ members (turns_end j.start older) (take (count - length older) newer) =
    ap (members j.start) (take_over count older newer enough) ∙ members_append j.start older (take (count - length older) newer) in
    let front : take (length (members j.start live)) (all_kept m) ≡ members j.start live = ap (take (length (members j.start live))) kept ∙ take-append_seam (members j.start live) rest in
    record {
      front = length (members j.start live);
      safe = omega (arith, ap length h.history, ap length longer, length-append (members j.start older) (members (turns_end j.start older) (take (count - length older) newer)));
      within = omega (arith, ap length kept, length-append (members j.start live) rest);
      state = ap (after_all (new_state rank)) (sym (members_requests j.start live)) ∙ (λ z. fold_of (sym h.opening z) (sym front z));
    }

-- ---- an image

pub front_recovers : (rank : ℕ) (j : Journalled) (older newer : List Turn) (m : LogMachine) (safe : ℕ) (headers : List Header) (image : Contents) (s : StoreState) → IsHistory rank j older newer m
    → length older ≤ safe → ((h : Header) → In h headers → h.expire ≡ j.start) → IsNewStore rank s → IsImage s image → IsFront j safe headers image
    → (t : PlainState) × Recovers rank image t × IsFrontState m t
front_recovers rank j older newer m safe headers image s h enough whole new im f =
    let objects = objects_among image new.names in
    let holds : Holds image objects = few_image new.names s image new.few im in
    let same : get objects ≡ image = fun_ext holds in
    let all = older ++ newer in
    let live = take f.count all in
    let start : f.first ≡ 0 = omega (arith, place_back j f.first 0 (omega (arith, f.live, f.within)) (omega (arith, f.starts, whole f.header f.standing))) in
    let read = journal_of j f.header f.first f.count in
    let carries : Carries rank (fresh_table rank) (new_state rank) live =
    carries_front rank (fresh_table rank) (new_state rank) live (drop f.count all) (subst (Carries rank (fresh_table rank) (new_state rank)) (sym (take-append-drop f.count all)) h.carries) in
    let fresh : StoresFresh rank objects = record {
      tables = ap (λ (c : Contents). bad_table c rank) same ∙ tables_fine rank s new image im;
      dirfrags = λ d. ap (λ (c : Contents). bad_key_of c d) same ∙ dirfrags_fine rank s new image im d;
      stored = uncommitted_table rank new.base s image objects new.new.objects new.uncommitted im holds new.new.holds ∙ new.new.stored;
    } in
    let events_are : live_events read ≡ events live = live_from j f.header f.first f.count start ∙ (ap (take f.count) h.events ∙ events_take f.count all) in
    let journal : live_journal (get objects) rank ≡ Ok read = ap (λ (c : Contents). live_journal c rank) same ∙ (ap (live_journal image) (sym h.number) ∙ f.read) in
    let tree = after_all (new_state rank) (requests live) in (
      tree,
      record {
        recovery = record { journal = read; table = merged_table rank objects read.events; tree = tree };
        recovers = record { objects = objects; holds = holds; recovers = fresh_recovers rank objects read live fresh events_are h.small carries journal };
        tree = refl;
      },
      front_state rank j older newer m f.count h (omega (arith, enough, f.enough)),
    )

-- of a rank
pub lives_leave : (rank : ℕ) (l : Journal) (cells : Table) (m : LogMachine) (s : StoreState) → Lives rank l cells m s → LeavesFronts rank m s
lives_leave rank l cells m s k image im =
    front_recovers rank k.facts.journal k.older k.newer m k.facts.count (may_stand k.facts.stood k.facts.heads) image s k.history (omega (arith, k.count)) k.whole k.new im
    (serving_leaves k.facts s image k.serves im)
