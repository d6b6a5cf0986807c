-- The facts of a mount through its calls.
use Rattle.std.proofs.Common.{◌≡◌, ◌⊎◌, inl, inr, ℕ, ◌+◌, ◌<◌, true, List, [], ◌∷◌, ◌++◌, Option, Some, None, Result, Ok, Err, refl, sym, ap, subst, ◌∙◌, arith}
use Rattle.std.specs.Prelude.{IsSome, unwrap_or, drop}
use Rattle.std.proofs.lemmas.Bool.{cases_lt}
use Rattle.mj_base.specs.declared.object.ObjectName.{ObjectName}
use Rattle.mj_tree.specs.State.{PlainState}
use Rattle.mj_store.specs.declared.act.ObjectOp.{ObjectOp}
use Rattle.mj_store.specs.declared.answer.Ack.{Ack}
use Rattle.mj_store.specs.declared.answer.StoreFault.{StoreFault}
use Rattle.mj_store.specs.State.{StoreState, contents, tried, reported}
use Rattle.mj_store.specs.Causes.{In}
use Rattle.mj_store.specs.Events.{Goes, Tells}
use Rattle.mj_store.specs.Moves.{HasSize, HasNoneCompleted, Stays, Still, Submits}
use Rattle.mj_store.proofs.Paths.{stays_keeps, submits_keeps, reaps_keeps, goes_itself, goes_stays, goes_submits, goes_reaps, goes_then, within_goes}
use Rattle.mj_store.proofs.Rest.{quiet_still}
use Rattle.mj_layout.specs.declared.Header.{Header}
use Rattle.mj_layout.specs.declared.Phase.{Phase}
use Rattle.mj_recovery.specs.Stream.{journal_object}
use Rattle.mj_cache.specs.Cached.{early_table}
use Rattle.mj_machine.specs.Machine.{LogMachine, stopped}
use Rattle.mj_machine.specs.CrashSafe.{IsFrontState}
use Rattle.mj_facts.specs.Calls.{cut_op}
use Rattle.mj_texts.specs.declared.steps.MountStep.{MountStep}
use Rattle.mj_texts.specs.declared.steps.MountStep.TheVariants as step
use Rattle.mj_rank.specs.declared.cutting.Cut.{Cut}
use Rattle.mj_rank.specs.declared.found.Found.{Found}
use Rattle.mj_rank.specs.declared.mounting.Mounting as mounting
use Rattle.mj_rank.specs.declared.mounting.Stage.{Stage}
use Rattle.mj_rank.specs.declared.mounting.Stage.TheVariants.{Announcing, Announced, Cutting, Opened, Ready}
use Rattle.mj_rank.specs.declared.rank.Rank.{Rank}
use Rattle.mj_rank.specs.declared.refusal.MountRefusal.{MountRefusal}
use Rattle.mj_rank.specs.Finding.{found_in, IsFound}
use Rattle.mj_journaler.specs.Cutting.{IsBelowTail}
use Rattle.mj_rank.specs.Cutting.{Passes, without_cut, sent_cuts}
use Rattle.mj_rank.specs.Request.{RankValue, value_of}
use Rattle.mj_rank.specs.Mounts.{MountValue, mount_value, header_op, first_value, sent_at, sent_of, LooksTo, HasLooked, SendsAt, AwaitsAt, phase_at, next_stage, acked_stage, acked_out, SendsHeader, SendsCut, TakesAck, AwaitsMore, NotDone, IsHeldUp, MountSteps}
use Rattle.mj_rank.specs.Flight.{AreOut}
use Rattle.mj_rank.specs.Live.{HasCut, Lives, Rested, OnItsWay, Recovers, RankLives, StopLives, MountLives, StopsSafely}
use Rattle.mj_rank.proofs.Cuts.{passes_up, passes_stays, passes_keep, finds_stays, left_out}
use Rattle.mj_rank.proofs.StillReads.{still_read, stays_itself}
use Rattle.mj_rank.proofs.Stopping.{rested_leaves, rested_tried}
use Rattle.mj_rank.proofs.Flight.{none_out, out_sent, out_reported}
use Rattle.mj_rank.proofs.MountLives.{way_tried, mounted_at, mounted_leaves, mounted_passed, mounted_cut, mounted_cut_done, mounted_reported, mount_stops_by, cut_same}
use Rattle.mj_rank.proofs.Opening.{mounted_phased, mounted_headed, lives_opened}
use Rattle.mj_rank.proofs.Beginning.{begun_value, begins_mounted}

-- ---- a mount begins

module _ {S : Type 0} (state : S → Option StoreState) (store new : S) (number : ℕ) (m : LogMachine) (stays : Stays (state store) (state new)) (t : StopLives state store number m) where
  pub stop_stays : StopLives state new number m
  stop_stays = stays_keeps (Rested number m) (λ _. Unit {0}) (λ name s k. rested_tried number m s k name) stays t

  pub stop_stops : StopsSafely number m (state store) (state new)
  stop_stops = within_goes (λ image. (s : PlainState) × Recovers number image s × IsFrontState m s) t.now t.is (goes_stays stays) (λ image may. rested_leaves number m t.now t.holds image may)

pub mount_begins : {S : Type 0} (state : S → Option StoreState) (store new : S) (number : ℕ) (m : LogMachine) (found : Found) (sent : ℕ) (v : MountValue) → v ≡ begun_value number found sent
    → Stays (state store) (state new) → ((s : StoreState) → state store ≡ Some s → Still s → IsFound found (found_in number (contents s))) → StopLives state store number m → Tells (state new) (OnItsWay v (stopped m found.tail))
mount_begins state store new number m found sent v e stays finds t =
    let still = quiet_still t.now t.holds.quiet in
    record {
      now = t.now;
      is = (still_read (λ _. Unit {0}) t.now (state store) (state new) t.is still stays).1;
      holds = record {
        mounted = begins_mounted number m t.now found sent v e t.holds (finds t.now t.is still);
        sent = λ up. subst (λ (x : MountValue). AreOut (sent_of x) t.now) (sym e) (none_out t.now t.holds.quiet);
      };
    }

-- ---- it looks at objects

-- so far
abbrev At : MountValue → LogMachine → ℕ → StoreState → Type 0
At v m next = OnItsWay (record v { next = next }) m

module _ {S : Type 0} (state : S → Option StoreState) (k : mounting.Mounting S) where
  looks_stays : (stage : Stage) (next : ℕ) (told : Option StoreState) → LooksTo stage state k next told → Stays (state k.store) told
  looks_stays Cutting next told looks = passes_stays k.number k.found.header.layout k.found.tail k.cuts.next next (state k.store) told looks
  looks_stays Announcing next told looks = subst (Stays (state k.store)) (sym looks.1) (stays_itself (state k.store))
  looks_stays Announced next told looks = subst (Stays (state k.store)) (sym looks.1) (stays_itself (state k.store))
  looks_stays Opened next told looks = subst (Stays (state k.store)) (sym looks.1) (stays_itself (state k.store))
  looks_stays Ready next told looks = subst (Stays (state k.store)) (sym looks.1) (stays_itself (state k.store))

  pub looked_stays : (next : ℕ) (told : Option StoreState) → LooksTo k.stage state k next told → Stays (state k.store) told
  looked_stays next told looks = looks_stays k.stage next told looks

module _ (v : MountValue) (m : LogMachine) (cutting : v.stage ≡ Cutting) where
  cut_free : (w : MountValue) → HasCut v.stage w
  cut_free w = subst (λ (stage : Stage). HasCut stage w) (sym cutting) tt

  passed_one : (i : ℕ) (s : StoreState) (size : Option ℕ) → HasSize (journal_object v.number i) size s → IsBelowTail v.found.layout v.tail i (unwrap_or size 0) → At v m i s → At v m (i + 1) s
  passed_one i s size is below h = record { mounted = mounted_passed (record v { next = i }) m s h.mounted size is below (cut_free (record v { next = i + 1 })); sent = h.sent }

  pub passed_way : (from to : ℕ) (old new : Option StoreState) → Passes v.number v.found.layout v.tail from to old new → Tells old (At v m from) → Tells new (At v m to)
  passed_way from to old new p t = passes_keep v.number v.found.layout v.tail (At v m) (λ i name s h. way_tried (record v { next = i }) m name s h) passed_one from to old new p t

module _ {S : Type 0} (state : S → Option StoreState) (k : mounting.Mounting S) (m : LogMachine) where
  abbrev v : MountValue
  v = mount_value k

  same_here : (next : ℕ) (told : Option StoreState) → next ≡ k.cuts.next → told ≡ state k.store → MountLives state k m → Tells told (At v m next)
  same_here next told a b t = subst (λ (p : ℕ × Option StoreState). Tells p.1 (At v m p.0)) (λ i. (sym a i, sym b i)) t

  looked_by : (stage : Stage) (next : ℕ) (told : Option StoreState) → k.stage ≡ stage → LooksTo stage state k next told → MountLives state k m → Tells told (At v m next)
  looked_by Cutting next told is looks t = passed_way v m is v.next next (state k.store) told looks t
  looked_by Announcing next told is looks t = same_here next told looks.0 looks.1 t
  looked_by Announced next told is looks t = same_here next told looks.0 looks.1 t
  looked_by Opened next told is looks t = same_here next told looks.0 looks.1 t
  looked_by Ready next told is looks t = same_here next told looks.0 looks.1 t

  pub looked_way : (next : ℕ) (told : Option StoreState) → LooksTo k.stage state k next told → MountLives state k m → Tells told (At v m next)
  looked_way next told looks t = looked_by k.stage next told refl looks t

-- ---- what a header's stage says

header_out : (stage : Stage) (v : MountValue) (op : ℕ) → SendsAt stage v → sent_at (next_stage stage) v.number op v.out ≡ (op, journal_object v.number 0) ∷ []
header_out Announcing v op may = refl
header_out Announced v op may = absurd may
header_out Cutting v op may = refl
header_out Opened v op may = absurd may
header_out Ready v op may = absurd may

header_cut : (stage : Stage) (v w : MountValue) (next : ℕ) → SendsAt stage v → HasLooked stage v next → HasCut stage v → w.out ≡ v.out → w.next ≡ next → w.end ≡ v.end → HasCut (next_stage stage) w
header_cut Announcing v w next may looked cut a b c = a ∙ cut
header_cut Announced v w next may looked cut a b c = absurd may
header_cut Cutting v w next may looked cut a b c = (a ∙ may, b ∙ (looked ∙ sym c))
header_cut Opened v w next may looked cut a b c = absurd may
header_cut Ready v w next may looked cut a b c = absurd may

-- ---- what an acknowledgement leaves

-- Whatever was sent before, what a stage awaits is acknowledged by the first report.
acked_at : (stage : Stage) (v u : MountValue) (m : LogMachine) (s : StoreState) (a : Ack) → v.stage ≡ stage → AwaitsAt stage u → s.completed ≡ a ∷ drop 1 s.completed → a.done ≡ true → OnItsWay v m s
    → OnItsWay (record v { stage = acked_stage stage; out = acked_out stage a.op v.out }) m (reported s)
acked_at Announcing v u m s a is awaits first done g = absurd awaits
acked_at Announced v u m s a is awaits first done g =
    let q = mounted_reported v m s g.mounted in
    let none : v.out ≡ [] = subst (λ (stage : Stage). HasCut stage v) is g.mounted.cut in
    record {
      mounted = mounted_at v m (reported s) q Cutting v.sent v.next v.fault q.first q.seen tt;
      sent = λ up. out_reported (sent_of v) s (g.sent up) a (sent_cuts v.number v.out) first done (λ x i. absurd (subst (λ (out : List Cut). In x (sent_cuts v.number out)) none i));
    }
acked_at Cutting v u m s a is awaits first done g =
    let q = mounted_cut_done v m s g.mounted a first done (subst (λ (stage : Stage). HasCut stage (record v { out = without_cut a.op v.out })) (sym is) tt) in
    record {
      mounted = mounted_at (record v { out = without_cut a.op v.out }) m (reported s) q Cutting v.sent v.next v.fault q.first q.seen tt;
      sent = λ up. out_reported (sent_of v) s (g.sent up) a (sent_cuts v.number (without_cut a.op v.out)) first done (λ x i.
          let h = left_out v.number a.op v.out x i in
          (subst (λ (stage : Stage). In x (sent_at stage v.number v.sent v.out)) (sym is) h.0, h.1));
    }
acked_at Opened v u m s a is awaits first done g =
    let q = mounted_reported v m s g.mounted in
    let cut : HasCut Opened v = subst (λ (stage : Stage). HasCut stage v) is g.mounted.cut in
    record {
      mounted = mounted_at v m (reported s) q Ready v.sent v.next v.fault q.first q.seen cut;
      sent = λ up. out_reported (sent_of v) s (g.sent up) a [] first done (λ x i. absurd i);
    }
acked_at Ready v u m s a is awaits first done g = absurd awaits

-- ---- a truncation more

cuts_more : (rank : ℕ) (out : List Cut) (c : Cut) (x : ℕ × ObjectName) → In x (sent_cuts rank (out ++ c ∷ [])) → In x (sent_cuts rank out) ⊎ (x ≡ (c.op, journal_object rank c.index))
cuts_more rank [] c x (inl e) = inr (sym e)
cuts_more rank [] c x (inr i) = absurd i
cuts_more rank (d ∷ ds) c x (inl e) = inl (inl e)
cuts_more rank (d ∷ ds) c x (inr i) = elim (cuts_more rank ds c x i) [ inl h ↦ inl (inr h) | inr e ↦ inr e ]

sent_more : (stage : Stage) (rank header : ℕ) (out : List Cut) (c : Cut) → stage ≡ Cutting → (x : ℕ × ObjectName) → In x (sent_at stage rank header (out ++ c ∷ [])) → In x (sent_at stage rank header out) ⊎ (x ≡ (c.op, journal_object rank c.index))
sent_more stage rank header out c is x i =
    elim (cuts_more rank out c x (subst (λ (st : Stage). In x (sent_at st rank header (out ++ c ∷ []))) is i)) [
      | inl h ↦ inl (subst (λ (st : Stage). In x (sent_at st rank header out)) (sym is) h)
      | inr e ↦ inr e
    ]

-- ---- its steps

some_none : {A : Type 0} (o : Option A) → IsSome o → o ≡ None → ⊥
some_none None h e = absurd cc
some_none (Some x) h e = absurd cc

module _ {S : Type 0} (state : S → Option StoreState) (k new : mounting.Mounting S) (m : LogMachine) where
  abbrev u : MountValue
  u = mount_value k

  abbrev fronts : (next : ℕ) (name : ObjectName) (s : StoreState) → At u m next s → At u m next (tried name s)
  fronts next name s g = way_tried (record u { next = next }) m name s g

  -- ---- a header

  abbrev head : Header
  head = record k.header { phase = phase_at k.stage k.header.phase }

  is_head : (told : Option StoreState) (name : ObjectName) → SendsHeader state told name k new → Submits (header_op k.number head) new.sent told (state new.store)
  is_head told name h = subst (λ (x : Header). Submits (header_op k.number x) new.sent told (state new.store)) (ap (λ (x : MountValue). x.header) h.value) h.submits

  header_way : (name : ObjectName) (told : Option StoreState) → LooksTo k.stage state k new.cuts.next told → SendsHeader state told name k new → MountLives state k m → MountLives state new m
  header_way name told looks h t =
      let next = new.cuts.next in
      let w : MountValue = record u { header = head; stage = next_stage k.stage; sent = new.sent; next = next } in
      let has : HasCut (next_stage k.stage) w = header_cut k.stage u w next h.may h.looked t.holds.mounted.cut refl refl refl in
      subst (λ (x : MountValue). Tells (state new.store) (OnItsWay x m)) (sym h.value)
      (submits_keeps (At u m next) (OnItsWay w m) (header_op k.number head) new.sent (fronts next) (λ s fresh g. record {
        mounted =
            let q = mounted_phased (record u { next = next }) m s g.mounted (phase_at k.stage k.header.phase) in
            mounted_headed (record u { header = head; next = next }) m s q new.sent next (next_stage k.stage) fresh q.first (λ i less. less) has;
        sent = λ up. out_sent (sent_of u) s (g.sent up) (header_op k.number head) new.sent (sent_of w) (λ x i.
            elim (subst (In x) (header_out k.stage u new.sent h.may) i) [ inl e ↦ inr (sym e) | inr none ↦ absurd none ]);
      }) (is_head told name h) (looked_way state k m next told looks t))

  header_stops : (name : ObjectName) (told : Option StoreState) → LooksTo k.stage state k new.cuts.next told → SendsHeader state told name k new → MountLives state k m → StopsSafely k.number m (state k.store) (state new.store)
  header_stops name told looks h t =
      let op = header_op k.number head in
      let q = mounted_phased u m t.now t.holds.mounted (phase_at k.stage k.header.phase) in
      let sent = mounted_headed (record u { header = head }) m t.now q t.now.next u.next k.stage (omega arith) q.first (λ i less. less)
      (cut_same k.stage u (record u { header = head; sent = t.now.next }) refl refl refl t.holds.mounted.cut) in
      within_goes (λ image. (s : PlainState) × Recovers k.number image s × IsFrontState m s) t.now t.is
      (goes_then (goes_stays (looked_stays state k new.cuts.next told looks)) (goes_submits op new.sent (is_head told name h)))
      (λ image may. mounted_leaves _ m _ sent image may)

  -- ---- a truncation

  cut_has : k.stage ≡ Cutting → (w : MountValue) → HasCut k.stage w
  cut_has is w = subst (λ (stage : Stage). HasCut stage w) (sym is) tt

  cut_way : (name : ObjectName) → SendsCut state name k new → MountLives state k m → MountLives state new m
  cut_way name h t =
      let i = h.index in
      let c : Cut = record { op = h.number; index = i } in
      let w : MountValue = record u { next = i + 1; out = k.cuts.out.items ++ c ∷ [] } in
      let len = h.finds.truncates.len in
      let is = h.finds.truncates.is in
      let up = passes_up k.number k.found.header.layout k.found.tail k.cuts.next i (state k.store) h.finds.mid h.finds.passes in
      let first = t.holds.mounted.first in
      let there : Tells h.finds.mid (At u m i) = passed_way u m h.cutting k.cuts.next i (state k.store) h.finds.mid h.finds.passes t in
      let asked : Tells h.told (At u m i) = stays_keeps (At u m i) (HasSize (journal_object k.number i) h.finds.size) (fronts i) h.finds.asked there in
      subst (λ (x : MountValue). Tells (state new.store) (OnItsWay x m)) (sym h.value)
      (submits_keeps (At u m i) (OnItsWay w m) (cut_op k.number i len) h.number (fronts i) (λ s fresh g. record {
        mounted = mounted_cut (record u { next = i }) m s g.mounted h.number i len (i + 1) fresh (omega (arith, up, first)) h.finds.truncates.cut (omega arith) (λ n less. before n i less) (cut_has h.cutting w);
        sent = λ fine. out_sent (sent_of u) s (g.sent fine) (cut_op k.number i len) h.number (sent_of w) (sent_more k.stage k.number k.sent k.cuts.out.items c h.cutting);
      }) (subst (λ (x : ObjectOp). Submits x h.number h.told (state new.store)) is h.submits) asked)
    where
      before : (n i : ℕ) → n < i + 1 → (n < i) ⊎ (n ≡ i)
      before n i less = elim (cases_lt n i) [ inl a ↦ inl a | inr b ↦ inr (omega (arith, less, b)) ]

  cut_stops : (name : ObjectName) → SendsCut state name k new → MountLives state k m → StopsSafely k.number m (state k.store) (state new.store)
  cut_stops name h t =
      let i = h.index in
      let len = h.finds.truncates.len in
      let is = h.finds.truncates.is in
      let up = passes_up k.number k.found.header.layout k.found.tail k.cuts.next i (state k.store) h.finds.mid h.finds.passes in
      let first = t.holds.mounted.first in
      let sent = mounted_cut u m t.now t.holds.mounted t.now.next i len k.cuts.next (omega arith) (omega (arith, up, first)) h.finds.truncates.cut first (λ n less. inl less) (cut_has h.cutting _) in
      within_goes (λ image. (s : PlainState) × Recovers k.number image s × IsFrontState m s) t.now t.is
      (goes_then (goes_stays (finds_stays k.number k.found.header.layout k.found.tail k.cuts.next k.cuts.end i h.op (state k.store) h.told h.finds))
      (goes_submits (cut_op k.number i len) h.number (subst (λ (x : ObjectOp). Submits x h.number h.told (state new.store)) is h.submits)))
      (λ image may. mounted_leaves _ m _ sent image may)

  -- ---- an acknowledgement

  ack_way : (op : ℕ) → TakesAck state op k new → MountLives state k m → MountLives state new m
  ack_way op h t =
      let next = new.cuts.next in
      let a : Ack = record { op = op; done = true } in
      subst (λ (x : MountValue). Tells (state new.store) (OnItsWay x m)) (sym h.value)
      (reaps_keeps (At u m next) (OnItsWay (record u { stage = acked_stage k.stage; next = next; out = acked_out k.stage op k.cuts.out.items }) m) a (fronts next)
      (λ s first g. acked_at k.stage (record u { next = next }) u m s a refl h.awaited first refl g) h.reaps (looked_way state k m next h.told h.looks t))

  more_way : AwaitsMore state k new → MountLives state k m → MountLives state new m
  more_way h t =
      let next = new.cuts.next in
      subst (λ (x : MountValue). Tells (state new.store) (OnItsWay x m)) (sym h.value)
      (stays_keeps (At u m next) HasNoneCompleted (fronts next) h.reaps (looked_way state k m next h.told h.looks t))

  -- ---- nothing

  abbrev held : Phase → Option StoreFault → MountValue
  held phase fault = record u { header = record k.header { phase = phase }; next = new.cuts.next; fault = fault }

  kept_way : (told : Option StoreState) → Stays told (state new.store) → Tells told (At u m new.cuts.next) → Tells (state new.store) (OnItsWay (held new.header.phase k.fault) m)
  kept_way told stays t =
      let after = stays_keeps (At u m new.cuts.next) (λ _. Unit {0}) (fronts new.cuts.next) stays t in
      record {
        now = after.now;
        is = after.is;
        holds = record { mounted = mounted_phased (record u { next = new.cuts.next }) m after.now after.holds.mounted new.header.phase; sent = after.holds.sent };
      }

  failed_way : (told : Option StoreState) → NotDone told (state new.store) new.fault → Tells told (At u m new.cuts.next) → Tells (state new.store) (OnItsWay (held new.header.phase new.fault) m)
  failed_way told n t =
      let next = new.cuts.next in
      let w : MountValue = record u { next = next; header = record k.header { phase = new.header.phase } } in
      reaps_keeps (At u m next) (OnItsWay (held new.header.phase new.fault) m) n.ack (fronts next) (λ s first g. record {
        mounted =
            let q = mounted_phased (record u { next = next }) m (reported s) (mounted_reported (record u { next = next }) m s g.mounted) new.header.phase in
            mounted_at w m (reported s) q k.stage k.sent next new.fault q.first q.seen (cut_same k.stage w (record w { fault = new.fault }) refl refl refl q.cut);
        sent = λ up. absurd (some_none new.fault n.kept up);
      }) n.reaps t

  held_way : IsHeldUp state k new → MountLives state k m → MountLives state new m
  held_way h t =
      let there = looked_way state k m new.cuts.next h.told h.looks t in
      subst (λ (x : MountValue). Tells (state new.store) (OnItsWay x m)) (sym h.value) (elim h.rest [
        | inl kept ↦ subst (λ (f : Option StoreFault). Tells (state new.store) (OnItsWay (held new.header.phase f) m)) (sym kept.1) (kept_way h.told kept.0 there)
        | inr failed ↦ failed_way h.told failed there
      ])

  rest_goes : (told : Option StoreState) → (Stays told (state new.store) × (new.fault ≡ k.fault)) ⊎ NotDone told (state new.store) new.fault → Goes told [] (state new.store)
  rest_goes told (inl kept) = goes_stays kept.0
  rest_goes told (inr failed) = goes_reaps (Some failed.ack) failed.reaps

  -- ---- whatever a step does

  pub steps_live : (result : Result MountStep MountRefusal) → MountSteps state result k new → MountLives state k m → MountLives state new m
  steps_live (Ok (step.Sent name)) (inl h) t = header_way name h.0 h.1 h.2 t
  steps_live (Ok (step.Sent name)) (inr h) t = cut_way name h t
  steps_live (Ok (step.Reaped op)) h t = ack_way op h t
  steps_live (Ok step.Waiting) h t = more_way h t
  steps_live (Ok step.Ready) h t = subst (λ (x : mounting.Mounting S). MountLives state x m) (sym h.1) t
  steps_live (Err e) h t = held_way h t

  pub steps_stop : (result : Result MountStep MountRefusal) → MountSteps state result k new → MountLives state k m → StopsSafely k.number m (state k.store) (state new.store)
  steps_stop (Ok (step.Sent name)) (inl h) t = header_stops name h.0 h.1 h.2 t
  steps_stop (Ok (step.Sent name)) (inr h) t = cut_stops name h t
  steps_stop (Ok (step.Reaped op)) h t = mount_stops_by state k m (goes_then (goes_stays (looked_stays state k new.cuts.next h.told h.looks)) (goes_reaps (Some (record { op = op; done = true })) h.reaps)) t
  steps_stop (Ok step.Waiting) h t = mount_stops_by state k m (goes_then (goes_stays (looked_stays state k new.cuts.next h.told h.looks)) (goes_reaps None h.reaps)) t
  steps_stop (Ok step.Ready) h t = subst (λ (x : mounting.Mounting S). StopsSafely k.number m (state k.store) (state x.store)) (sym h.1) (mount_stops_by state k m (goes_itself (state k.store)) t)
  steps_stop (Err e) h t = mount_stops_by state k m (goes_then (goes_stays (looked_stays state k new.cuts.next h.told h.looks)) (rest_goes h.told h.rest)) t

-- ---- its rank

pub mount_opened : {S : Type 0} (state : S → Option StoreState) (k : mounting.Mounting S) (r : Rank S) (m : LogMachine) → k.stage ≡ Ready → r.store ≡ k.store → value_of r ≡ first_value k → MountLives state k m → RankLives state r m
mount_opened state k r m ready same value t = record {
  now = t.now;
  is = ap state same ∙ t.is;
  holds = subst (λ (v : RankValue). Lives v.number v.log (early_table v.cache) m t.now) (sym value)
      (lives_opened (mount_value k) m t.now t.holds.mounted (subst (λ (stage : Stage). HasCut stage (mount_value k)) ready t.holds.mounted.cut));
}
