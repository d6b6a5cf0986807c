-- What a stop may leave before and while the header is sent.
use Rattle.std.proofs.Common.{◌≡◌, ◌≢◌, ◌⊎◌, inl, inr, ℕ, zero, suc, true, Option, Some, None, List, [], ◌∷◌, ◌++◌, take, refl, sym, ◌∙◌, ap, subst, arith}
use Rattle.std.specs.Prelude.{is_some, option_map, length}
use Rattle.std.specs.List.{AllByRecursion}
use Rattle.mj_base.specs.ObjectName.{journal_ino, stray_ino}
use Rattle.mj_base.specs.declared.object.ObjectName.{ObjectName}
use Rattle.mj_store.specs.declared.act.ObjectOp.{ObjectOp}
use Rattle.mj_store.specs.Object.{Content, Contents, applied, put}
use Rattle.mj_store.specs.State.{StoreState, Object, Pending, Quiet, MayHold, applied_all, added, contents, submitted, with_op}
use Rattle.mj_store.specs.Events.{Goes, Within, Tells}
use Rattle.mj_store.specs.Moves.{Moves}
use Rattle.mj_store.specs.Calls.{GoesBy, Performed}
use Rattle.mj_store.proofs.Names.{put_all, put_same, put_other, cases_name}
use Rattle.mj_store.proofs.Paths.{within_goes, goes_itself}
use Rattle.mj_store.proofs.Rest.{quiet_still, still_fronts}
use Rattle.mj_layout.specs.Striping.{Striping}
use Rattle.mj_recovery.specs.Journal.{header_in}
use Rattle.mj_format.specs.Formatting.{header_object, IsFormatted, LacksHeader, LacksOrIsFormatted, StopsWell}
use Rattle.mj_format.specs.Sending.{PerformedAll, GoesByFront, after_ops, table_ops, header_op}
use Rattle.mj_format.proofs.Sent.{performed_more}
use Rattle.mj_format.proofs.Laid.{all_laid}

-- a call that looks at a quiet store
pub looked : (P : StoreState → Type 0) (s : StoreState) {old new : Option StoreState} → Moves P [] old new → old ≡ Some s → Quiet s → (new ≡ Some s) × P s
looked P s m is quiet =
    let w = m s is in
    let same = still_fronts w.fronts s (quiet_still s quiet) in
    (w.leads ∙ ap (λ (u : StoreState). Some u) same, subst P same w.found)

-- ---- operations beside an object

abbrev pub Avoid : ObjectName → List ObjectOp → Type 0
Avoid name ops = AllByRecursion (λ (op : ObjectOp). name ≢ op.name) ops

avoid_front : (name : ObjectName) (xs ys : List ObjectOp) → Avoid name (xs ++ ys) → Avoid name xs
avoid_front name [] ys all = tt
avoid_front name (x ∷ xs) ys all = (all.0, avoid_front name xs ys all.1)

added_beside : (name : ObjectName) (ops : List ObjectOp) (s : StoreState) → Avoid name ops → (added ops s).objects name ≡ s.objects name
added_beside name [] s all = refl
added_beside name (op ∷ ops) s all = added_beside name ops (submitted op s.next s) all.1 ∙ put_other s.objects op.name name (with_op (s.objects op.name) s.next op.act) all.0

after_beside : (name : ObjectName) (ops : List ObjectOp) (image : Contents) → Avoid name ops → after_ops ops image name ≡ image name
after_beside name [] image all = refl
after_beside name (op ∷ ops) image all = after_beside name ops (put image op.name (applied op.act (image op.name))) all.1 ∙ put_other image op.name name (applied op.act (image op.name)) all.0

tables_beside : (rank : ℕ) → Avoid (header_object rank) (table_ops rank)
tables_beside rank = (
  λ e. let same : journal_ino rank ≡ 1 = cc in omega arith,
  (λ e. let same : journal_ino rank ≡ stray_ino rank = cc in omega arith, (λ e. absurd cc, (λ e. absurd cc, tt))),
)

-- ---- images

none_applied : (k : ℕ) (held : Option Content) → applied_all (take k []) held ≡ held
none_applied zero held = refl
none_applied (suc k) held = refl

one_applied : (k : ℕ) (p : Pending) (held found : Option Content) → found ≡ applied_all (take k (p ∷ [])) held → (found ≡ held) ⊎ (found ≡ applied p.act held)
one_applied zero p held found e = inl e
one_applied (suc k) p held found e = inr (e ∙ none_applied k (applied p.act held))

-- the objects that nothing is sent to are as they were
image_beside : (name : ObjectName) (ops : List ObjectOp) (s : StoreState) (image : Contents) → Quiet s → Avoid name ops → MayHold s ops image → image name ≡ contents s name
image_beside name ops s image quiet all may =
    let at = may name in
    at.1 ∙ ap (λ (o : Object). applied_all (take at.0 o.pending) o.held) (added_beside name ops s all)
    ∙ ap (λ (ps : List Pending). applied_all (take at.0 ps) (contents s name)) (quiet.pending name) ∙ none_applied at.0 (contents s name)

-- one operation is applied or not
image_of_one : (op : ObjectOp) (s : StoreState) (image : Contents) → Quiet s → MayHold s (op ∷ []) image
    → ((name : ObjectName) → image name ≡ contents s name) ⊎ ((name : ObjectName) → image name ≡ put (contents s) op.name (applied op.act (contents s op.name)) name)
image_of_one op s image quiet may =
    let at = may op.name in
    let p : Pending = record { op = s.next; act = op.act } in
    let here : image op.name ≡ applied_all (take at.0 (p ∷ [])) (contents s op.name) =
    at.1 ∙ ap (λ (o : Object). applied_all (take at.0 o.pending) o.held) (put_same s.objects op.name (with_op (s.objects op.name) s.next op.act))
    ∙ ap (λ (ps : List Pending). applied_all (take at.0 (ps ++ p ∷ [])) (contents s op.name)) (quiet.pending op.name) in
    let others : (name : ObjectName) → name ≢ op.name → image name ≡ contents s name = λ name ne. image_beside name (op ∷ []) s image quiet (ne, tt) may in
    elim (one_applied at.0 p (contents s op.name) (image op.name) here) [
      | inl same ↦ inl (λ name. elim (cases_name name op.name) [ inl is ↦ subst (λ n. image n ≡ contents s n) (sym is) same | inr ne ↦ others name ne ])
      | inr new ↦ inr (put_all (contents s) op.name (applied op.act (contents s op.name)) (λ name o. image name ≡ o) new others)
    ]

-- ---- the whole call

module _ (rank : ℕ) (layout : Striping) (s : StoreState) (quiet : Quiet s) where
  pub formatted : (t u : StoreState) → PerformedAll (table_ops rank) s t → Performed (header_op rank layout) t u → IsFormatted rank layout (contents s) u
  formatted t u tables header =
      let all = performed_more (table_ops rank) (header_op rank layout) s t u tables header in
      record { quiet = all.quiet; held = λ name. all.held name ∙ all_laid rank layout (contents s) name }

  module _ (none : contents s (header_object rank) ≡ None) where
    -- before the header is sent
    pub stops_before : (old new : Option StoreState) → old ≡ Some s → GoesByFront (table_ops rank) old new → Within old new (LacksHeader rank)
    stops_before old new is g =
        let beside = avoid_front (header_object rank) g.front g.rest (subst (Avoid (header_object rank)) (sym g.all) (tables_beside rank)) in
        within_goes (LacksHeader rank) s is g.goes (λ image may. ap header_in (image_beside (header_object rank) g.front s image quiet beside may ∙ none))

    -- while it is sent, to a store in which all else is done
    while_sent : (between new : Option StoreState) → Tells between (PerformedAll (table_ops rank) s) → GoesBy (header_op rank layout) between new → Within between new (LacksOrIsFormatted rank layout (contents s))
    while_sent between new t g =
        let absent = t.holds.held (header_object rank) ∙ after_beside (header_object rank) (table_ops rank) (contents s) (tables_beside rank) ∙ none in
        let same : contents t.now ≡ after_ops (table_ops rank) (contents s) = λ i name. t.holds.held name i in
        elim g [
          | inl goes ↦ within_goes (LacksOrIsFormatted rank layout (contents s)) t.now t.is goes (λ image may. inl (ap header_in (image_beside (header_object rank) [] t.now image t.holds.quiet tt may ∙ absent)))
          | inr goes ↦ within_goes (LacksOrIsFormatted rank layout (contents s)) t.now t.is goes (λ image may. elim (image_of_one (header_op rank layout) t.now image t.holds.quiet may) [
            | inl old ↦ inl (ap header_in (old (header_object rank) ∙ absent))
            | inr put_there ↦ inr (λ name. put_there name ∙ ap (λ (f : Contents). after_ops (header_op rank layout ∷ []) f name) same ∙ all_laid rank layout (contents s) name)
          ])
        ]

    pub stops_well : (old between new : Option StoreState) → old ≡ Some s → GoesByFront (table_ops rank) old between → Tells between (PerformedAll (table_ops rank) s) → GoesBy (header_op rank layout) between new
        → StopsWell rank layout (contents s) old new
    stops_well old between new is g t h = inr (between, stops_before old between is g, while_sent between new t h)

-- ---- the same of what was made

module _ (rank : ℕ) (layout : Striping) (ops : List ObjectOp) (op : ObjectOp) (tables : ops ≡ table_ops rank) (header : op ≡ header_op rank layout) (s : StoreState) (quiet : Quiet s) where
  pub all_formatted : (between new : Option StoreState) → Tells between (PerformedAll ops s) → ((t : StoreState) → between ≡ Some t → Quiet t → Tells new (Performed op t)) → Tells new (IsFormatted rank layout (contents s))
  all_formatted between new t then =
      let u = then t.now t.is t.holds.quiet in
      record { now = u.now; is = u.is; holds = formatted rank layout s quiet t.now u.now (subst (λ os. PerformedAll os s t.now) tables t.holds) (subst (λ o. Performed o t.now u.now) header u.holds) }

  pub all_stops_well : contents s (header_object rank) ≡ None → (old between new : Option StoreState) → old ≡ Some s → GoesByFront ops old between → Tells between (PerformedAll ops s) → GoesBy op between new
      → StopsWell rank layout (contents s) old new
  all_stops_well none old between new is g t h = stops_well rank layout s quiet none old between new is (subst (λ os. GoesByFront os old between) tables g)
      (record { now = t.now; is = t.is; holds = subst (λ os. PerformedAll os s t.now) tables t.holds }) (subst (λ o. GoesBy o between new) header h)

pub all_stops_before : (rank : ℕ) (layout : Striping) (ops : List ObjectOp) → ops ≡ table_ops rank → (s : StoreState) → Quiet s → contents s (header_object rank) ≡ None → (old new : Option StoreState) → old ≡ Some s → GoesByFront ops old new
    → StopsWell rank layout (contents s) old new
all_stops_before rank layout ops tables s quiet none old new is g = inl (stops_before rank layout s quiet none old new is (subst (λ os. GoesByFront os old new) tables g))

-- nothing is sent
pub stops_unsent : (rank : ℕ) (layout : Striping) (s : StoreState) → Quiet s → contents s (header_object rank) ≡ None → (old new : Option StoreState) → old ≡ Some s → new ≡ Some s → StopsWell rank layout (contents s) old new
stops_unsent rank layout s quiet none old new is same =
    all_stops_before rank layout (table_ops rank) refl s quiet none old new is
    (record { front = []; rest = table_ops rank; all = refl; goes = subst (λ (o : Option StoreState). Goes old [] o) (is ∙ sym same) (goes_itself old) })

-- ---- whether the header is there

pub some_there : (o : Option Content) → true ≡ is_some o → (held : Content) × (o ≡ Some held)
some_there None e = absurd cc
some_there (Some held) e = (held, refl)

pub there_by_size : (o : Option Content) → is_some (option_map (λ (c : Content). length c.bytes) o) ≡ is_some o
there_by_size None = refl
there_by_size (Some held) = refl
