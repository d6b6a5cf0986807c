-- What each call of a store does, as a path of events, and what such paths keep.
use Rattle.std.proofs.Common.{◌≡◌, inl, inr, ℕ, Option, Some, None, List, [], ◌∷◌, ◌++◌, refl, sym, ◌∙◌, ap, subst}
use Rattle.mj_base.specs.declared.object.ObjectName.{ObjectName}
use Rattle.mj_store.specs.declared.act.ObjectOp.{ObjectOp}
use Rattle.mj_store.specs.declared.answer.Ack.{Ack}
use Rattle.mj_store.specs.Object.{Contents}
use Rattle.mj_store.specs.State.{StoreState, MayHold, tried, failed}
use Rattle.mj_store.specs.Events.{Event, Added, Tried, Failed, Reaped, Restarted, happens, IsPossible, after_events, Possible, ops_of, Path, Goes, Within, Tells}
use Rattle.mj_store.specs.Moves.{Moved, Moves, Anything, IsReady, Stays, Submits, Reaps, Steps, Restarts, fronts_applied}

-- ---- paths

after-append : (xs ys : List Event) (s : StoreState) → after_events (xs ++ ys) s ≡ after_events ys (after_events xs s)
after-append [] ys s = refl
after-append (x ∷ xs) ys s = after-append xs ys (happens x s)

possible-append : (xs ys : List Event) (s : StoreState) → Possible xs s → Possible ys (after_events xs s) → Possible (xs ++ ys) s
possible-append [] ys s p q = q
possible-append (x ∷ xs) ys s p q = (p.0, possible-append xs ys (happens x s) p.1 q)

ops-append : (xs ys : List Event) → ops_of (xs ++ ys) ≡ ops_of xs ++ ops_of ys
ops-append [] ys = refl
ops-append (Added op number ∷ xs) ys = ap (λ os. op ∷ os) (ops-append xs ys)
ops-append (Tried n ∷ xs) ys = ops-append xs ys
ops-append (Failed n ∷ xs) ys = ops-append xs ys
ops-append (Reaped ack ∷ xs) ys = ops-append xs ys
ops-append (Restarted image ∷ xs) ys = ops-append xs ys

pub path_then : {s t u : StoreState} {os ps : List ObjectOp} → Path s os t → Path t ps u → Path s (os ++ ps) u
path_then {s = s} {os = os} p q = record {
  events = p.events ++ q.events;
  possible = possible-append p.events q.events s p.possible (subst (Possible q.events) (sym p.leads) q.possible);
  leads = after-append p.events q.events s ∙ (ap (after_events q.events) p.leads ∙ q.leads);
  submits = ops-append p.events q.events ∙ (ap (λ os. os ++ ops_of q.events) p.submits ∙ ap (λ ps. os ++ ps) q.submits);
}

pub path_itself : (s : StoreState) → Path s [] s
path_itself s = record { events = []; possible = tt; leads = refl; submits = refl }

pub path_fronts : (fronts : List ObjectName) (s : StoreState) → Path s [] (fronts_applied fronts s)
path_fronts [] s = path_itself s
path_fronts (n ∷ ns) s =
    let p = path_fronts ns (tried n s) in
    record { events = Tried n ∷ p.events; possible = (tt, p.possible); leads = p.leads; submits = p.submits }

-- what each event keeps, a path keeps
kept_events : (I : StoreState → Type 0) → ((e : Event) (s : StoreState) → IsPossible e s → I s → I (happens e s)) → (es : List Event) (s : StoreState) → Possible es s → I s → I (after_events es s)
kept_events I keeps [] s p i = i
kept_events I keeps (e ∷ es) s p i = kept_events I keeps es (happens e s) p.1 (keeps e s p.0 i)

pub kept_path : (I : StoreState → Type 0) → ((e : Event) (s : StoreState) → IsPossible e s → I s → I (happens e s)) → {s t : StoreState} {ops : List ObjectOp} → Path s ops t → I s → I t
kept_path I keeps {s = s} p i = subst I p.leads (kept_events I keeps p.events s p.possible i)

-- ---- what fronts keep, and then a call's events

pub kept_fronts : (I : StoreState → Type 0) → ((name : ObjectName) (s : StoreState) → I s → I (tried name s)) → (fronts : List ObjectName) (s : StoreState) → I s → I (fronts_applied fronts s)
kept_fronts I keeps [] s i = i
kept_fronts I keeps (n ∷ ns) s i = kept_fronts I keeps ns (tried n s) (keeps n s i)

pub moved_keeps : (I J : StoreState → Type 0) (P : StoreState → Type 0) (events : List Event) (s : StoreState) (new : Option StoreState)
    → ((name : ObjectName) (u : StoreState) → I u → I (tried name u)) → ((u : StoreState) → P u → Possible events u → I u → J (after_events events u))
    → Moved P events s new → I s → Tells new J
moved_keeps I J P events s new fronts then m i =
    let u = fronts_applied m.fronts s in
    record { now = after_events events u; is = m.leads; holds = then u m.found m.possible (kept_fronts I fronts m.fronts s i) }

-- A call of a store that tells its state: I is kept by fronts, and the call's events lead from I to J.
pub moves_keep : (I J : StoreState → Type 0) (P : StoreState → Type 0) (events : List Event) {old new : Option StoreState}
    → ((name : ObjectName) (s : StoreState) → I s → I (tried name s)) → ((s : StoreState) → P s → Possible events s → I s → J (after_events events s))
    → Moves P events old new → Tells old I → Tells new J
moves_keep I J P events {new = new} fronts then m t = moved_keeps I J P events t.now new fronts then (m t.now t.is) t.holds

-- the calls that change nothing
pub stays_keeps : (I : StoreState → Type 0) (P : StoreState → Type 0) {old new : Option StoreState} → ((name : ObjectName) (s : StoreState) → I s → I (tried name s)) → Moves P [] old new → Tells old I → Tells new I
stays_keeps I P fronts m t = moves_keep I I P [] fronts (λ s p q i. i) m t

pub submits_keeps : (I J : StoreState → Type 0) (op : ObjectOp) (number : ℕ) {old new : Option StoreState}
    → ((name : ObjectName) (s : StoreState) → I s → I (tried name s)) → ((s : StoreState) → IsPossible (Added op number) s → I s → J (happens (Added op number) s))
    → Submits op number old new → Tells old I → Tells new J
submits_keeps I J op number fronts then m t = moves_keep I J Anything (Added op number ∷ []) fronts (λ s p q i. then s q.0 i) m t

pub reaps_keeps : (I J : StoreState → Type 0) (ack : Ack) {old new : Option StoreState}
    → ((name : ObjectName) (s : StoreState) → I s → I (tried name s)) → ((s : StoreState) → IsPossible (Reaped ack) s → I s → J (happens (Reaped ack) s))
    → Reaps (Some ack) old new → Tells old I → Tells new J
reaps_keeps I J ack fronts then m t = moves_keep I J Anything (Reaped ack ∷ []) fronts (λ s p q i. then s q.0 i) m t

pub steps_keeps : (I : StoreState → Type 0) (name : ObjectName) (op : Option ℕ) {old new : Option StoreState}
    → ((name : ObjectName) (s : StoreState) → I s → I (tried name s)) → ((name : ObjectName) (s : StoreState) → I s → I (failed name s))
    → Steps name op old new → Tells old I → Tells new I
steps_keeps I name None fronts fails m t = moves_keep I I _ [] fronts (λ s p q i. i) m t
steps_keeps I name (Some op) {new = new} fronts fails m t = elim (m t.now t.is) [
  | inl done ↦ moved_keeps I I (IsReady name op) (Tried name ∷ []) t.now new fronts (λ u p q i. fronts name u i) done t.holds
  | inr not ↦ moved_keeps I I (IsReady name op) (Failed name ∷ []) t.now new fronts (λ u p q i. fails name u i) not t.holds
]

pub restarts_keeps : (I J : StoreState → Type 0) {old new : Option StoreState}
    → ((name : ObjectName) (s : StoreState) → I s → I (tried name s)) → ((image : Contents) (s : StoreState) → IsPossible (Restarted image) s → I s → J (happens (Restarted image) s))
    → Restarts old new → Tells old I → Tells new J
restarts_keeps I J {new = new} fronts then m t =
    let r = m t.now t.is in
    moved_keeps I J Anything (Restarted r.0 ∷ []) t.now new fronts (λ u p q i. then r.0 u q.0 i) r.1 t.holds

-- ---- the same as paths

path_moved : (P : StoreState → Type 0) (events : List Event) (s t : StoreState) (new : Option StoreState) (m : Moved P events s new) → Path s (ops_of events) (after_events events (fronts_applied m.fronts s))
path_moved P events s t new m = path_then (path_fronts m.fronts s) (record { events = events; possible = m.possible; leads = refl; submits = refl })

goes_moved : (P : StoreState → Type 0) (events : List Event) (s : StoreState) (new : Option StoreState) → Moved P events s new → (t : StoreState) × (new ≡ Some t) × Path s (ops_of events) t
goes_moved P events s new m = (after_events events (fronts_applied m.fronts s), m.leads, path_moved P events s s new m)

pub goes_moves : (P : StoreState → Type 0) (events : List Event) {old new : Option StoreState} → Moves P events old new → Goes old (ops_of events) new
goes_moves P events {new = new} m s e = goes_moved P events s new (m s e)

pub goes_stays : {old new : Option StoreState} → Stays old new → Goes old [] new
goes_stays m = goes_moves Anything [] m

pub goes_submits : (op : ObjectOp) (number : ℕ) {old new : Option StoreState} → Submits op number old new → Goes old (op ∷ []) new
goes_submits op number m = goes_moves Anything (Added op number ∷ []) m

pub goes_reaps : (ack : Option Ack) {old new : Option StoreState} → Reaps ack old new → Goes old [] new
goes_reaps None m = goes_moves _ [] m
goes_reaps (Some ack) m = goes_moves Anything (Reaped ack ∷ []) m

pub goes_steps : (name : ObjectName) (op : Option ℕ) {old new : Option StoreState} → Steps name op old new → Goes old [] new
goes_steps name None m s e = goes_moves _ [] m s e
goes_steps name (Some op) {new = new} m s e = elim (m s e) [
  | inl done ↦ goes_moved (IsReady name op) (Tried name ∷ []) s new done
  | inr not ↦ goes_moved (IsReady name op) (Failed name ∷ []) s new not
]

pub goes_restarts : {old new : Option StoreState} → Restarts old new → Goes old [] new
goes_restarts {new = new} m s e = let r = m s e in goes_moved Anything (Restarted r.0 ∷ []) s new r.1

pub goes_itself : (told : Option StoreState) → Goes told [] told
goes_itself told s e = (s, e, path_itself s)

pub goes_then : {a b c : Option StoreState} {os ps : List ObjectOp} → Goes a os b → Goes b ps c → Goes a (os ++ ps) c
goes_then f g s e = let p = f s e in let q = g p.0 p.1 in (q.0, q.1, path_then p.2 q.2)

pub within_goes : {old new : Option StoreState} {ops : List ObjectOp} (P : Contents → Type 0) (s : StoreState) → old ≡ Some s → Goes old ops new → ((image : Contents) → MayHold s ops image → P image) → Within old new P
within_goes {ops = ops} P s e f each = let g = f s e in record { now = s; told = e; later = g.0; told_later = g.1; ops = ops; path = g.2; each = each }
