-- What a step of a mount keeps, whatever the store tells.
use Rattle.std.proofs.Common.{◌≡◌, inl, inr, ℕ, ◌+◌, ◌-◌, ◌<◌, ◌≤◌, List, [], ◌∷◌, ◌++◌, Option, None, Result, Ok, Err, OnOk, refl, sym, ap, subst, ◌∙◌, arith, length, length-append}
use Rattle.std.specs.Prelude.{IfOk, IsSome, map, filter, not, ◌==◌}
use Rattle.std.proofs.lemmas.Bool.{cases_eq, eq-eqb, ne_eqb, cond-true, cond-false}
use Rattle.mj_base.specs.declared.object.ObjectName.{ObjectName}
use Rattle.mj_store.specs.declared.answer.StoreFault.{StoreFault}
use Rattle.mj_store.specs.State.{StoreState}
use Rattle.mj_store.specs.declared.answer.Ack.{Ack}
use Rattle.mj_store.specs.Causes.{In, Listed, Reports, AllBelow, with_listed}
use Rattle.mj_store.specs.Events.{Tells}
use Rattle.mj_store.proofs.Paths.{stays_keeps}
use Rattle.mj_layout.specs.declared.Header.{Header}
use Rattle.mj_texts.specs.declared.steps.MountStep.{MountStep}
use Rattle.mj_texts.specs.declared.steps.MountStep.TheVariants as step
use Rattle.mj_rank.specs.declared.cutting.Cut.{Cut}
use Rattle.mj_rank.specs.declared.mounting.Mounting as mounting
use Rattle.mj_rank.specs.declared.mounting.Stage.{Stage}
use Rattle.mj_rank.specs.declared.mounting.Stage.TheVariants.{Announcing, Announced, Cutting, Opened, Ready}
use Rattle.mj_rank.specs.declared.refusal.MountRefusal.{MountRefusal}
use Rattle.mj_rank.specs.Cutting.{without_cut, sent_cuts}
use Rattle.mj_rank.specs.Flight.{HasCompleted}
use Rattle.mj_rank.specs.Mounts.{MountValue, mount_value, KeepsFound, sent_at, sent_of, first_of, AwaitsSent, LooksTo, SendsAt, AwaitsAt, next_stage, acked_stage, acked_out, MountSteps}
use Rattle.mj_rank.specs.Since.{MountSince, OutAt, numbers_of, steps_at, steps_left, Makes, IsReapedOf, IsWaiting}
use Rattle.mj_rank.proofs.Cuts.{passes_up}
use Rattle.mj_rank.proofs.Flight.{completed_more, completed_taken}
use Rattle.mj_rank.proofs.MountCalls.{looked_stays}
use Rattle.mj_rank.proofs.SinceLemmas.{mount_since_acked, mount_since_sent, reported_sent}

-- ---- numbers of truncations

cut_numbers : (rank : ℕ) (out : List Cut) → map (λ (x : ℕ × ObjectName). x.0) (sent_cuts rank out) ≡ map (λ (c : Cut). c.op) out
cut_numbers rank [] = refl
cut_numbers rank (c ∷ cs) = ap (λ (ns : List ℕ). c.op ∷ ns) (cut_numbers rank cs)

without_numbers : (op : ℕ) (out : List Cut) → map (λ (c : Cut). c.op) (without_cut op out) ≡ filter (λ n. not (n == op)) (map (λ (c : Cut). c.op) out)
without_numbers op [] = refl
without_numbers op (c ∷ cs) = elim (cases_eq c.op op) [
  | inl same ↦
      ap (map (λ (d : Cut). d.op)) (cond-false (not (c.op == op)) (c ∷ without_cut op cs) (without_cut op cs) (ap not (eq-eqb c.op op same)))
      ∙ (without_numbers op cs ∙ sym (cond-false (not (c.op == op)) (c.op ∷ filter (λ n. not (n == op)) (map (λ (d : Cut). d.op) cs)) (filter (λ n. not (n == op)) (map (λ (d : Cut). d.op) cs)) (ap not (eq-eqb c.op op same))))
  | inr other ↦
      ap (map (λ (d : Cut). d.op)) (cond-true (not (c.op == op)) (c ∷ without_cut op cs) (without_cut op cs) (ap not (ne_eqb c.op op other)))
      ∙ (ap (λ (ns : List ℕ). c.op ∷ ns) (without_numbers op cs) ∙ sym (cond-true (not (c.op == op)) (c.op ∷ filter (λ n. not (n == op)) (map (λ (d : Cut). d.op) cs)) (filter (λ n. not (n == op)) (map (λ (d : Cut). d.op) cs)) (ap not (ne_eqb c.op op other))))
]

fewer_or_same : (op : ℕ) (out : List Cut) → length (without_cut op out) ≤ length out
fewer_or_same op [] = omega arith
fewer_or_same op (c ∷ cs) = elim (cases_eq c.op op) [
  | inl same ↦ omega (arith, ap length (cond-false (not (c.op == op)) (c ∷ without_cut op cs) (without_cut op cs) (ap not (eq-eqb c.op op same))), fewer_or_same op cs)
  | inr other ↦ omega (arith, ap length (cond-true (not (c.op == op)) (c ∷ without_cut op cs) (without_cut op cs) (ap not (ne_eqb c.op op other))), fewer_or_same op cs)
]

fewer : (op : ℕ) (out : List Cut) → In op (map (λ (c : Cut). c.op) out) → length (without_cut op out) < length out
fewer op [] i = absurd i
fewer op (c ∷ cs) i = elim (cases_eq c.op op) [
  | inl same ↦ omega (arith, ap length (cond-false (not (c.op == op)) (c ∷ without_cut op cs) (without_cut op cs) (ap not (eq-eqb c.op op same))), fewer_or_same op cs)
  | inr other ↦ omega (arith, ap length (cond-true (not (c.op == op)) (c ∷ without_cut op cs) (without_cut op cs) (ap not (ne_eqb c.op op other))), fewer op cs (later i other))
]
  where
    later : In op (map (λ (d : Cut). d.op) (c ∷ cs)) → (c.op ≡ op → ⊥) → In op (map (λ (d : Cut). d.op) cs)
    later (inl e) other = absurd (other e)
    later (inr j) other = j

-- ---- numbers of a mount

abbrev pub numbers_at : Stage → ℕ → ℕ → List Cut → List ℕ
numbers_at stage rank header out = map (λ (x : ℕ × ObjectName). x.0) (sent_at stage rank header out)

-- a header is sent where nothing is out
pub header_numbers : (stage : Stage) (v : MountValue) (op : ℕ) → SendsAt stage v → numbers_at (next_stage stage) v.number op v.out ≡ numbers_at stage v.number v.sent v.out ++ op ∷ []
header_numbers Announcing v op may = refl
header_numbers Announced v op may = absurd may
header_numbers Cutting v op may = sym (ap (λ (out : List Cut). map (λ (x : ℕ × ObjectName). x.0) (sent_cuts v.number out) ++ op ∷ []) may)
header_numbers Opened v op may = absurd may
header_numbers Ready v op may = absurd may

pub header_alone : (stage : Stage) (v : MountValue) → SendsAt stage v → OutAt stage v.out → OutAt (next_stage stage) v.out
header_alone Announcing v may out = out
header_alone Announced v may out = absurd may
header_alone Cutting v may out = may
header_alone Opened v may out = absurd may
header_alone Ready v may out = absurd may

-- a truncation more
cut_more : (rank : ℕ) (out : List Cut) (c : Cut) → map (λ (x : ℕ × ObjectName). x.0) (sent_cuts rank (out ++ c ∷ [])) ≡ map (λ (x : ℕ × ObjectName). x.0) (sent_cuts rank out) ++ c.op ∷ []
cut_more rank [] c = refl
cut_more rank (d ∷ ds) c = ap (λ (ns : List ℕ). d.op ∷ ns) (cut_more rank ds c)

pub truncation_numbers : (stage : Stage) (rank header : ℕ) (out : List Cut) (c : Cut) → stage ≡ Cutting → numbers_at stage rank header (out ++ c ∷ []) ≡ numbers_at stage rank header out ++ c.op ∷ []
truncation_numbers stage rank header out c is = subst (λ (st : Stage). numbers_at st rank header (out ++ c ∷ []) ≡ numbers_at st rank header out ++ c.op ∷ []) (sym is) (cut_more rank out c)

pub cutting_out : (stage : Stage) (out : List Cut) → stage ≡ Cutting → OutAt stage out
cutting_out stage out is = subst (λ (st : Stage). OutAt st out) (sym is) tt

-- an acknowledgement of what was sent
header_gone : (op header : ℕ) → In op (header ∷ []) → [] ≡ filter (λ n. not (n == op)) (header ∷ [])
header_gone op header (inl e) = sym (cond-false (not (header == op)) (header ∷ []) [] (ap not (eq-eqb header op e)))
header_gone op header (inr i) = absurd i

pub acked_numbers : (stage : Stage) (v : MountValue) (op : ℕ) → AwaitsAt stage v → OutAt stage v.out → In op (numbers_at stage v.number v.sent v.out)
    → numbers_at (acked_stage stage) v.number v.sent (acked_out stage op v.out) ≡ filter (λ n. not (n == op)) (numbers_at stage v.number v.sent v.out)
acked_numbers Announcing v op awaits out i = absurd awaits
acked_numbers Announced v op awaits out i = ap (λ (cs : List Cut). map (λ (x : ℕ × ObjectName). x.0) (sent_cuts v.number cs)) out ∙ header_gone op v.sent i
acked_numbers Cutting v op awaits out i =
    cut_numbers v.number (without_cut op v.out) ∙ (without_numbers op v.out ∙ ap (filter (λ n. not (n == op))) (sym (cut_numbers v.number v.out)))
acked_numbers Opened v op awaits out i = header_gone op v.sent i
acked_numbers Ready v op awaits out i = absurd awaits

pub acked_alone : (stage : Stage) (v : MountValue) (op : ℕ) → AwaitsAt stage v → OutAt stage v.out → OutAt (acked_stage stage) (acked_out stage op v.out)
acked_alone Announcing v op awaits out = absurd awaits
acked_alone Announced v op awaits out = tt
acked_alone Cutting v op awaits out = tt
acked_alone Opened v op awaits out = out
acked_alone Ready v op awaits out = absurd awaits

-- ---- what it awaits

some_first : (rank : ℕ) (out : List Cut) → (out ≡ [] → ⊥) → IsSome (first_of (sent_cuts rank out))
some_first rank [] some = absurd (some refl)
some_first rank (c ∷ cs) some = refl

awaits_some : (stage : Stage) (v : MountValue) → AwaitsAt stage v → IsSome (first_of (sent_at stage v.number v.sent v.out))
awaits_some Announcing v awaits = absurd awaits
awaits_some Announced v awaits = refl
awaits_some Cutting v awaits = some_first v.number v.out awaits
awaits_some Opened v awaits = refl
awaits_some Ready v awaits = absurd awaits

-- ---- how much is left

abbrev left_of : MountValue → ℕ
left_of v = steps_at v.stage (v.end - v.next) (length v.out)

module _ {S : Type 0} (state : S → Option StoreState) (k new : mounting.Mounting S) where
  abbrev v : MountValue
  v = mount_value k

  same_left : (w : MountValue) → mount_value new ≡ w → left_of w ≡ steps_left new
  same_left w e = sym (ap left_of e)

  -- what it looks at is behind what it has looked at
  looks_on : (stage : Stage) (next : ℕ) (told : Option StoreState) → LooksTo stage state k next told → k.cuts.next ≤ next
  looks_on Cutting next told looks = passes_up k.number k.found.header.layout k.found.tail k.cuts.next next (state k.store) told looks
  looks_on Announcing next told looks = omega (arith, looks.0)
  looks_on Announced next told looks = omega (arith, looks.0)
  looks_on Opened next told looks = omega (arith, looks.0)
  looks_on Ready next told looks = omega (arith, looks.0)

  header_less : (stage : Stage) (next : ℕ) (told : Option StoreState) → SendsAt stage v → LooksTo stage state k next told → steps_at (next_stage stage) (v.end - next) (length v.out) < steps_at stage (v.end - v.next) (length v.out)
  header_less Announcing next told may looks = omega (arith, looks.0)
  header_less Announced next told may looks = absurd may
  header_less Cutting next told may looks = omega arith
  header_less Opened next told may looks = absurd may
  header_less Ready next told may looks = absurd may

  cut_less : (stage : Stage) (index : ℕ) (c : Cut) → stage ≡ Cutting → v.next ≤ index → index < v.end → steps_at stage (v.end - (index + 1)) (length (v.out ++ c ∷ [])) < steps_at stage (v.end - v.next) (length v.out)
  cut_less stage index c is up within = subst (λ (st : Stage). steps_at st (v.end - (index + 1)) (length (v.out ++ c ∷ [])) < steps_at st (v.end - v.next) (length v.out)) (sym is)
      (omega (arith, up, within, length-append v.out (c ∷ [])))

  ack_less : (stage : Stage) (next op : ℕ) (told : Option StoreState) → AwaitsAt stage v → LooksTo stage state k next told → In op (numbers_at stage v.number v.sent v.out)
      → steps_at (acked_stage stage) (v.end - next) (length (acked_out stage op v.out)) < steps_at stage (v.end - v.next) (length v.out)
  ack_less Announcing next op told awaits looks i = absurd awaits
  ack_less Announced next op told awaits looks i = omega (arith, looks.0)
  ack_less Cutting next op told awaits looks i = omega (arith, looks_on Cutting next told looks, fewer op v.out (subst (In op) (cut_numbers v.number v.out) i))
  ack_less Opened next op told awaits looks i = omega arith
  ack_less Ready next op told awaits looks i = absurd awaits

  wait_less : (stage : Stage) (next : ℕ) (told : Option StoreState) → LooksTo stage state k next told → steps_at stage (v.end - next) (length v.out) ≤ steps_at stage (v.end - v.next) (length v.out)
  wait_less Announcing next told looks = omega (arith, looks.0)
  wait_less Announced next told looks = omega (arith, looks.0)
  wait_less Cutting next told looks = omega (arith, looks_on Cutting next told looks)
  wait_less Opened next told looks = omega arith
  wait_less Ready next told looks = omega arith

  sent_less : (name : ObjectName) → MountSteps state (Ok (step.Sent name)) k new → steps_left new < steps_left k
  sent_less name (inl h) = subst (λ n. n < steps_left k) (same_left _ h.2.value) (header_less k.stage new.cuts.next h.0 h.2.may h.1)
  sent_less name (inr h) = subst (λ n. n < steps_left k) (same_left _ h.value)
      (cut_less k.stage h.index _ h.cutting (passes_up k.number k.found.header.layout k.found.tail k.cuts.next h.index (state k.store) h.finds.mid h.finds.passes) h.finds.within)

  -- a step that is not refused brings it on
  pub steps_move : (result : Result MountStep MountRefusal) → MountSteps state result k new → IfOk result (IsReapedOf (numbers_of k)) → IfOk result (λ s. Makes s (steps_left k) (steps_left new))
  steps_move (Ok (step.Sent name)) h i = sent_less name h
  steps_move (Ok (step.Reaped op)) h i = subst (λ n. n < steps_left k) (same_left _ h.value) (ack_less k.stage new.cuts.next op h.told h.awaited h.looks i)
  steps_move (Ok step.Waiting) h i = subst (λ n. n ≤ steps_left k) (same_left _ h.value) (wait_less k.stage new.cuts.next h.told h.looks)
  steps_move (Ok step.Ready) h i = ap (λ (x : mounting.Mounting S). steps_left x) h.1
  steps_move (Err e) h i = tt

  -- it waits only for what it has sent
  pub steps_wait : (result : Result MountStep MountRefusal) → MountSteps state result k new → IfOk result (λ s. IsWaiting s → AwaitsSent new)
  steps_wait (Ok (step.Sent name)) h = λ w. absurd w
  steps_wait (Ok (step.Reaped op)) h = λ w. absurd w
  steps_wait (Ok step.Waiting) h = λ w. subst (λ (x : MountValue). IsSome (first_of (sent_of x))) (sym h.value) (awaits_some k.stage v h.awaited)
  steps_wait (Ok step.Ready) h = λ w. absurd w
  steps_wait (Err e) h = tt

  -- and not where something is to be reported
  pub steps_never_wait : (result : Result MountStep MountRefusal) → MountSteps state result k new → Tells (state k.store) HasCompleted → IfOk result (λ s. IsWaiting s → ⊥)
  steps_never_wait (Ok (step.Sent name)) h t = λ w. absurd w
  steps_never_wait (Ok (step.Reaped op)) h t = λ w. absurd w
  steps_never_wait (Ok step.Waiting) h t = λ w. completed_taken h.reaps (stays_keeps HasCompleted (λ _. Unit {0}) (λ n s c. completed_more n s c) (looked_stays state k new.cuts.next h.told h.looks) t)
  steps_never_wait (Ok step.Ready) h t = λ w. absurd w
  steps_never_wait (Err e) h t = tt

  -- no fault comes where the step is not refused
  pub steps_up : (result : Result MountStep MountRefusal) → MountSteps state result k new → k.fault ≡ None → OnOk result (new.fault ≡ None)
  steps_up (Ok (step.Sent name)) h up = by h
    where
      by : MountSteps state (Ok (step.Sent name)) k new → new.fault ≡ None
      by (inl h) = ap (λ (x : MountValue). x.fault) h.2.value ∙ up
      by (inr h) = ap (λ (x : MountValue). x.fault) h.value ∙ up
  steps_up (Ok (step.Reaped op)) h up = ap (λ (x : MountValue). x.fault) h.value ∙ up
  steps_up (Ok step.Waiting) h up = ap (λ (x : MountValue). x.fault) h.value ∙ up
  steps_up (Ok step.Ready) h up = ap (λ (x : mounting.Mounting S). x.fault) h.1 ∙ up
  steps_up (Err e) h up = tt

  -- what was found stays
  keeps : (h : Header) (stage : Stage) (sent next : ℕ) (out : List Cut) (fault : Option StoreFault) → mount_value new ≡ record v { header = h; stage = stage; sent = sent; next = next; out = out; fault = fault } → h.epoch ≡ k.header.epoch → KeepsFound k new
  keeps h stage sent next out fault e epoch = record {
    number = ap (λ (x : MountValue). x.number) e;
    epoch = ap (λ (x : MountValue). x.header.epoch) e ∙ epoch;
    header = ap (λ (x : MountValue). x.found) e;
    tail = ap (λ (x : MountValue). x.tail) e;
    cache = ap (λ (x : MountValue). x.cache) e;
    log = ap (λ (x : MountValue). x.log) e;
    segment = ap (λ (x : MountValue). x.segment) e;
  }

  pub steps_keep : (result : Result MountStep MountRefusal) → MountSteps state result k new → KeepsFound k new
  steps_keep (Ok (step.Sent name)) (inl h) = keeps _ _ _ _ _ _ h.2.value refl
  steps_keep (Ok (step.Sent name)) (inr h) = keeps _ _ _ _ _ _ h.value refl
  steps_keep (Ok (step.Reaped op)) h = keeps _ _ _ _ _ _ h.value refl
  steps_keep (Ok step.Waiting) h = keeps _ _ _ _ _ _ h.value refl
  steps_keep (Ok step.Ready) h = subst (λ (x : mounting.Mounting S). KeepsFound k x) (sym h.1) (record { number = refl; epoch = refl; header = refl; tail = refl; cache = refl; log = refl; segment = refl })
  steps_keep (Err e) h = keeps _ _ _ _ _ _ h.value refl

-- ---- what is listed

module _ {S : Type 0} {faults : S → ℕ} {unreported : S → List Listed} (base : ℕ) (a b : mounting.Mounting S) (mid : S) (store : b.store ≡ mid) (le : faults a.store ≤ faults mid) (h : MountSince faults unreported base a) where
  le_there : faults a.store ≤ faults b.store
  le_there = subst (λ (s : S). faults a.store ≤ faults s) (sym store) le

  -- what was awaited is acknowledged
  pub since_acked : (ack : Ack) → a.fault ≡ None → AwaitsAt a.stage (mount_value a) → mount_value b ≡ record (mount_value a) { stage = acked_stage a.stage; out = acked_out a.stage ack.op a.cuts.out.items } → Reports ack (faults mid) (unreported a.store) (unreported mid) → MountSince faults unreported base b
  since_acked ack up awaits e reports =
      let v = mount_value a in
      let there : Reports ack (faults b.store) (unreported a.store) (unreported b.store) = subst (λ (s : S). Reports ack (faults s) (unreported a.store) (unreported s)) (sym store) reports in
      mount_since_acked base a b le_there (subst (λ (x : MountValue). OutAt x.stage x.out) (sym e) (acked_alone a.stage v ack.op awaits h.out)) h ack there (ap (λ (x : MountValue). x.fault) e)
      (ap (λ (x : MountValue). numbers_at x.stage x.number x.sent x.out) e ∙ acked_numbers a.stage v ack.op awaits h.out (reported_sent base (faults mid) a (unreported mid) ack up reports h))

  -- a truncation is sent
  pub since_cut : (number index : ℕ) → a.stage ≡ Cutting → mount_value b ≡ record (mount_value a) { next = index + 1; out = a.cuts.out.items ++ record { op = number; index = index } ∷ [] } → unreported mid ≡ with_listed number (faults mid) (unreported a.store) → AllBelow number (unreported a.store)
      → MountSince faults unreported base b
  since_cut number index cutting e listed below =
      let c : Cut = record { op = number; index = index } in
      mount_since_sent base a b le_there (subst (λ (x : MountValue). OutAt x.stage x.out) (sym e) (cutting_out a.stage (a.cuts.out.items ++ c ∷ []) cutting)) h number
      (subst (λ (s : S). unreported s ≡ with_listed number (faults s) (unreported a.store)) (sym store) listed) below (ap (λ (x : MountValue). x.fault) e)
      (ap (λ (x : MountValue). numbers_at x.stage x.number x.sent x.out) e ∙ truncation_numbers a.stage a.number a.sent a.cuts.out.items c cutting)
