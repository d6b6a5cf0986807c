-- The event of a name that moves over another gives the tree after the request: first the other link ends, then the name moves.
use Rattle.std.proofs.Common.{◌≡◌, ℕ, ◌<◌, ◌^◌, true, false, cond, List, Option, Some, None, Ok, refl, sym, ap, subst, ◌∙◌, inl, inr, arith}
use Rattle.std.specs.Prelude.{◌==◌, IsTrue, if◌then◌else◌}
use Rattle.std.proofs.lemmas.Bool.{false≢true, eq-eqb, eqb-true, or_cases}
use Rattle.mj_base.specs.Name.{is_name}
use Rattle.mj_base.specs.ObjectName.{stray_ino}
use Rattle.mj_base.specs.declared.record.InodeRecord.{InodeRecord}
use Rattle.mj_maps.specs.Map.{get, insert, remove}
use Rattle.mj_maps.proofs.MapLaws.{exact_place, none_some, some_same, cases_key, insert_same, insert_other, remove_same, remove_other, count-remove, eq_false, apart}
use Rattle.mj_tree.specs.declared.change.Attributes.{Attributes}
use Rattle.mj_tree.specs.declared.change.Change.TheVariants as change
use Rattle.mj_tree.specs.declared.change.Decision.TheVariants.{Accepted}
use Rattle.mj_tree.specs.declared.request.ClientRequest.{ClientRequest}
use Rattle.mj_tree.specs.State.{PlainState, is_dir, is_kept, entry_count, attributes_of}
use Rattle.mj_tree.specs.Row.{most_entries}
use Rattle.mj_tree.specs.Change.{settled, changed, with_moved}
use Rattle.mj_tree.specs.Answer.{decision}
use Rattle.mj_cells.specs.Table.{Table}
use Rattle.mj_cells.specs.Table.Dentry.{Full as FullAt}
use Rattle.mj_recovery.specs.Orderly.{IsOwn}
use Rattle.mj_delta.specs.Reads.{Places, names, said_by, is_held}
use Rattle.mj_delta.specs.TreeOf.{IsReached, HasDentries, IsTreeOf}
use Rattle.mj_delta.specs.Fits.{IsSent}
use Rattle.mj_delta.specs.Events.{next_version, full_place}
use Rattle.mj_delta.specs.Plan.Naming.{Full}
use Rattle.mj_delta.specs.Plan.{Naming, naming, Plan, lumps_of, left_dentries, where_dir, with_dentry, replace_plan, replace_event}
use Rattle.mj_delta.specs.Steps.{GivesTree}
use Rattle.mj_delta.proofs.Facts.{ids, full_named, is_some_at, link_parent}
use Rattle.mj_delta.proofs.NewEntry.{own_dir}
use Rattle.mj_delta.proofs.Decided.{CanReplace, meant, effect_found}
use Rattle.mj_delta.proofs.Held.{HasRecord}
use Rattle.mj_delta.proofs.Placed.{place_is}
use Rattle.mj_delta.proofs.Updated.{IsPlan, update_gives}
use Rattle.mj_delta.proofs.Plans.{laid, laid_at, laid_other}
use Rattle.mj_delta.proofs.Planned.{NamingFits, PlanFits, PlanDoes, plan_is}
use Rattle.mj_delta.proofs.Laid.{laid_beside, two, three, three_gone, three_there, three_first, three_other, three_cases, three_few}
use Rattle.mj_delta.proofs.Ending.{Beside, IsLeft, held_own, primary_cut, cut_dentries}
use Rattle.mj_delta.proofs.Vanishing.{dir_gone, no_dir_gone, held_was, primary_gone, gone_dentries}
use Rattle.mj_delta.proofs.Unlinked.{its, less, left, lessened, kept_no_dir, no_entries, its_fits, its_above, lessened_fits, q_name, is_left, where_none, where_it}
use Rattle.mj_delta.proofs.Moves.{away_apart, reached_over, reached_over_file}
use Rattle.mj_delta.proofs.Moved.{moved_places, moved_dentries}
use Rattle.mj_delta.proofs.Renamed.{naming_written, no_root_link, one_dir_link, moving_fits}

module _ (rank : ℕ) (t : Table) (s : PlainState) (is : IsTreeOf rank t s) (q r : ℕ × List ℕ) (i j : ℕ) (can : CanReplace s q r i j) where
  abbrev m : HasDentries rank t s is.primary
  m = is.dentries

  abbrev it : HasRecord t s is.primary j
  it = its rank t s is.primary m r j can.target

  abbrev cut : PlainState
  cut = less rank t s is.primary m r j can.target

  abbrev gone : PlainState
  gone = record s { records = remove s.records j; links = remove s.links r }

  abbrev y : ℕ × List ℕ
  y = left rank t s is.primary m r j can.target

  abbrev full : InodeRecord
  full = lessened rank t s is.primary m r j can.target

  abbrev a : Attributes
  a = attributes_of it.inode

  abbrev n : Option Naming
  n = naming (get t.dentries q)

  q_dir : is_dir s q.0 ≡ true
  q_dir = (link_parent rank t s is.primary m q i can.link).0

  r_dir : is_dir s r.0 ≡ true
  r_dir = (link_parent rank t s is.primary m r j can.target).0

  q_not_r : q ≡ r → ⊥
  q_not_r e = can.other (some_same i j (sym can.link ∙ ap (get s.links) e ∙ can.target))

  r_not_q : r ≡ q → ⊥
  r_not_q e = q_not_r (sym e)

  -- what names the other inode does not stand at q
  not_named_q : (x : ℕ × List ℕ) → names (get t.dentries x) ≡ Some j → x ≡ q → ⊥
  not_named_q x e same = can.other (some_same i j (sym (link_parent rank t s is.primary m q i can.link).1 ∙ ap (λ x. names (get t.dentries x)) (sym same) ∙ e))

  r_name : IsTrue (is_name r.1)
  r_name = q_name rank t s is.primary m r j can.target

  no_names : (n : List ℕ) → get s.links (j, n) ≡ None
  no_names = no_entries rank t s is.primary m r j can.target (inr can.empty)

  cut_link : get cut.links q ≡ Some i
  cut_link = remove_other exact_place s.links r q (eq_false exact_place q r q_not_r) ∙ can.link

  cut_free : get cut.links r ≡ None
  cut_free = remove_same exact_place s.links r

  cut_room : (q.0 == r.0) ≡ false → entry_count cut r.0 < most_entries
  cut_room _ =
      let c = count-remove exact_place (λ (e : (ℕ × List ℕ) × ℕ). e.0.0 == r.0) s.links r j can.target in
      let one : cond (r.0 == r.0) 1 0 ≡ 1 = ap (λ b. cond {A = ℕ} b 1 0) (eq-eqb r.0 r.0 refl) in
      omega (arith, c, one, m.few_entries r.0)

  -- a link that stays is there after both
  stays_after : (x : ℕ × List ℕ) (k : ℕ) → (x ≡ q → ⊥) → get s.links x ≡ Some k → (k ≡ j → ⊥) → get (insert (remove cut.links q) r i) x ≡ Some k
  stays_after x k nq l nk =
      let nr : x ≡ r → ⊥ = λ e. nk (some_same k j (sym l ∙ ap (get s.links) e ∙ can.target)) in
      insert_other exact_place (remove cut.links q) r i x (eq_false exact_place x r nr) ∙ remove_other exact_place cut.links q x (eq_false exact_place x q nq) ∙ remove_other exact_place s.links r x (eq_false exact_place x r nr) ∙ l

  all_reached : (after : PlainState) → ((x : ℕ × List ℕ) (k : ℕ) → (x ≡ q → ⊥) → get s.links x ≡ Some k → (k ≡ j → ⊥) → get after.links x ≡ Some k)
      → ((k : ℕ) → (k ≡ j → ⊥) → is_dir after k ≡ is_dir s k) → get after.links r ≡ Some i → is_dir after j ≡ false → (d : ℕ) → is_dir after d ≡ true → IsReached after d
  all_reached after stay dirs here no_target = elim can.away [
    | inl no_dir ↦ reached_over_file s (no_root_link rank t s is.primary m) (one_dir_link rank t s is.primary m) q r i j can.link can.target can.other no_names after stay dirs here no_target no_dir is.reached
    | inr w ↦
        let u = away_apart s q r w in
        reached_over s (no_root_link rank t s is.primary m) (one_dir_link rank t s is.primary m) q r i j can.link can.target can.other no_names after stay dirs here no_target
        u.trail_to u.way u.trail_is u.way_is r_dir u.not_through is.reached
  ]

  -- ---- the other inode is kept

  module _ (stays : is_kept cut j ≡ true) where
    abbrev kept_after : PlainState
    kept_after = with_moved cut q r i

    abbrev kept_plan : Plan
    kept_plan = record { dentries = three y (Some (Full full)) r n q; removed = None }

    no_dir : is_dir s j ≡ false
    no_dir = kept_no_dir rank t s is.primary m r j can.target stays

    place_left : IsLeft rank t s r j it.place y
    place_left = is_left rank t s is.primary m r j can.target

    y_not_q : y ≡ q → ⊥
    y_not_q e = not_named_q y (place_left.link (ap (λ (x : ℕ × List ℕ). is_dir s x.0) e ∙ q_dir)) e

    kept_fits : PlanFits rank kept_after kept_plan
    kept_fits = record {
      few = three_few y (Some (Full full)) r n q;
      names = λ z o e. elim (three_cases y (Some (Full full)) r n q z o e) [
        | inl w ↦ subst (λ (z : ℕ × List ℕ). IsTrue (is_name z.1)) (sym w.0) (q_name rank t s is.primary m q i can.link)
        | inr u ↦ elim u [
          | inl w ↦ subst (λ (z : ℕ × List ℕ). IsTrue (is_name z.1)) (sym w.0) r_name
          | inr w ↦ subst (λ (z : ℕ × List ℕ). IsTrue (is_name z.1)) (sym w.0) place_left.name
        ]
      ];
      fit = λ z o e. elim (three_cases y (Some (Full full)) r n q z o e) [
        | inl w ↦ subst (λ o. NamingFits rank z o) (sym w.1) tt
        | inr u ↦ elim u [
          | inl w ↦ subst (λ o. NamingFits rank z o) (sym w.1) (subst (λ z. NamingFits rank z n) (sym w.0) (moving_fits rank t s is.primary m q r q_dir r_dir))
          | inr w ↦ subst (λ o. NamingFits rank z o) (sym w.1) (
            lessened_fits rank t s is.primary m r j can.target,
            its_above rank t s is.primary m r j can.target,
            λ st. ap (λ (z : ℕ × List ℕ). z.1) w.0 ∙ place_left.stray (ap (λ (z : ℕ × List ℕ). z.0) (sym w.0) ∙ st),
          )
        ]
      ];
      own = λ z o e. elim (three_cases y (Some (Full full)) r n q z o e) [
        | inl w ↦ subst (λ (z : ℕ × List ℕ). IsOwn rank s.next z.0) (sym w.0) (own_dir rank t s is.primary m q.0 q_dir)
        | inr u ↦ elim u [
          | inl w ↦ subst (λ (z : ℕ × List ℕ). IsOwn rank s.next z.0) (sym w.0) (own_dir rank t s is.primary m r.0 r_dir)
          | inr w ↦ subst (λ (z : ℕ × List ℕ). IsOwn rank s.next z.0) (sym w.0) (held_own rank t s is.primary m y.0 place_left.held)
        ]
      ];
      gone = λ d e. absurd (none_some d e);
      first = m.first_next;
      next = m.next_fits;
    }

    abbrev t1 : Table
    t1 = laid t kept_plan

    beside : Beside rank t kept_after t1
    beside = laid_beside rank t s is.primary m kept_plan kept_after refl kept_fits (λ d h. (h, λ e. none_some d e))

    -- the table once the other link has ended
    abbrev between : Table
    between = record t { dentries = remove (insert t.dentries y (FullAt (next_version t y.0) full)) r }

    between_r : get between.dentries r ≡ None
    between_r = remove_same exact_place (insert t.dentries y (FullAt (next_version t y.0) full)) r

    between_y : get between.dentries y ≡ Some (FullAt (next_version t y.0) full)
    between_y = remove_other exact_place (insert t.dentries y (FullAt (next_version t y.0) full)) r y (eq_false exact_place y r place_left.not_q) ∙ insert_same exact_place t.dentries y (FullAt (next_version t y.0) full)

    between_other : (x : ℕ × List ℕ) → (x ≡ r → ⊥) → (x ≡ y → ⊥) → get between.dentries x ≡ get t.dentries x
    between_other x nr ny = remove_other exact_place (insert t.dentries y (FullAt (next_version t y.0) full)) r x (eq_false exact_place x r nr) ∙ insert_other exact_place t.dentries y (FullAt (next_version t y.0) full) x (eq_false exact_place x y ny)

    beside_between : Beside rank t cut between
    beside_between = record { next = refl; opens = refl; heads = record { held = m.heads; own = m.own_heads } }

    abbrev primary_between : Places
    primary_between = primary_cut rank t s is.primary m r j can.target it.place it.stands stays no_dir a (ap said_by it.full) (lessened_fits rank t s is.primary m r j can.target) y place_left between (next_version t y.0) between_r between_y between_other beside_between

    dentries_between : HasDentries rank between cut primary_between
    dentries_between = cut_dentries rank t s is.primary m r j can.target it.place it.stands stays no_dir a (ap said_by it.full) (lessened_fits rank t s is.primary m r j can.target) y place_left between (next_version t y.0) between_r between_y between_other beside_between

    at_q : get t1.dentries q ≡ None
    at_q = laid_at t kept_plan q None (three_gone y (Some (Full full)) r n q)

    at_r : naming (get t1.dentries r) ≡ naming (get between.dentries q)
    at_r = ap naming (laid_at t kept_plan r n (three_there y (Some (Full full)) r n q r_not_q)) ∙ naming_written (next_version t r.0) n ∙ ap naming (sym (between_other q q_not_r (λ e. y_not_q (sym e))))

    at_other : (x : ℕ × List ℕ) → (x ≡ q → ⊥) → (x ≡ r → ⊥) → get t1.dentries x ≡ get between.dentries x
    at_other x nq nr = elim (cases_key exact_place x y) [
      | inl same ↦ subst (λ x. get t1.dentries x ≡ get between.dentries x) (sym same) (laid_at t kept_plan y (Some (Full full)) (three_first y (Some (Full full)) r n q y_not_q place_left.not_q) ∙ sym between_y)
      | inr ny ↦ let ny = apart exact_place x y ny in laid_other t kept_plan x (three_other y (Some (Full full)) r n q x nq nr ny) ∙ sym (between_other x nr ny)
    ]

    kept_does : PlanDoes rank t s kept_after kept_plan
    kept_does = record {
      primary = moved_places primary_between q r;
      dentries = moved_dentries rank between cut primary_between dentries_between q r i cut_link cut_free r_dir r_name cut_room t1 at_q at_r at_other (record { next = beside.next; opens = beside.opens; heads = beside.heads });
      reached = all_reached kept_after stays_after (λ k _. refl) (insert_same exact_place (remove cut.links q) r i) no_dir;
      sessions = refl;
      opens = refl;
      next = refl;
      fits = kept_fits;
    }

  -- ---- nothing keeps it

  module _ (goes : is_kept cut j ≡ false) where
    abbrev p : ℕ × List ℕ
    p = it.place

    abbrev gone_after : PlainState
    gone_after = with_moved gone q r i

    abbrev gone_plan : Plan
    gone_plan = record { dentries = three p None r n q; removed = where_dir s j }

    p_not_q : p ≡ q → ⊥
    p_not_q e = not_named_q p (full_named _ j (m.primary_full j p it.stands)) e

    gone_fits : PlanFits rank gone_after gone_plan
    gone_fits = record {
      few = three_few p None r n q;
      names = λ z o e. elim (three_cases p None r n q z o e) [
        | inl w ↦ subst (λ (z : ℕ × List ℕ). IsTrue (is_name z.1)) (sym w.0) (q_name rank t s is.primary m q i can.link)
        | inr u ↦ elim u [
          | inl w ↦ subst (λ (z : ℕ × List ℕ). IsTrue (is_name z.1)) (sym w.0) r_name
          | inr w ↦ subst (λ (z : ℕ × List ℕ). IsTrue (is_name z.1)) (sym w.0) (m.names_fit p (is_some_at _ (FullAt it.version it.inode) it.full))
        ]
      ];
      fit = λ z o e. elim (three_cases p None r n q z o e) [
        | inl w ↦ subst (λ o. NamingFits rank z o) (sym w.1) tt
        | inr u ↦ elim u [
          | inl w ↦ subst (λ o. NamingFits rank z o) (sym w.1) (subst (λ z. NamingFits rank z n) (sym w.0) (moving_fits rank t s is.primary m q r q_dir r_dir))
          | inr w ↦ subst (λ o. NamingFits rank z o) (sym w.1) tt
        ]
      ];
      own = λ z o e. elim (three_cases p None r n q z o e) [
        | inl w ↦ subst (λ (z : ℕ × List ℕ). IsOwn rank s.next z.0) (sym w.0) (own_dir rank t s is.primary m q.0 q_dir)
        | inr u ↦ elim u [
          | inl w ↦ subst (λ (z : ℕ × List ℕ). IsOwn rank s.next z.0) (sym w.0) (own_dir rank t s is.primary m r.0 r_dir)
          | inr w ↦ subst (λ (z : ℕ × List ℕ). IsOwn rank s.next z.0) (sym w.0) (held_own rank t s is.primary m p.0 (m.primary_held j p it.stands))
        ]
      ];
      gone = λ d e. subst (IsOwn rank s.next) (where_it rank t s is.primary m r j can.target d e) (inr (inr (its_above rank t s is.primary m r j can.target, m.beneath j p it.stands)));
      first = m.first_next;
      next = m.next_fits;
    }

    abbrev t2 : Table
    t2 = laid t gone_plan

    was_held : (d : ℕ) → is_held rank gone d ≡ true → is_held rank s d ≡ true
    was_held d h = held_was rank t s is.primary m r j can.target p it.stands d h

    not_held : (d : ℕ) → is_held rank gone d ≡ true → where_dir s j ≡ Some d → ⊥
    not_held d h e =
        let same = where_it rank t s is.primary m r j can.target d e in
        elim (or_cases (is_dir gone d) (d == stray_ino rank) h) [
          | inl dir ↦ false≢true (sym (no_dir_gone rank t s is.primary m r j can.target p it.stands) ∙ ap (is_dir gone) same ∙ dir)
          | inr st ↦ omega (arith, (ids rank).below, its_above rank t s is.primary m r j can.target, eqb-true d (stray_ino rank) st, same)
        ]

    gone_beside : Beside rank t gone_after t2
    gone_beside = laid_beside rank t s is.primary m gone_plan gone_after refl gone_fits (λ d h. (was_held d h, not_held d h))

    -- the table once the other link has ended
    abbrev without : Table
    without = record t { dentries = remove (remove t.dentries p) r }

    without_r : get without.dentries r ≡ None
    without_r = remove_same exact_place (remove t.dentries p) r

    without_p : get without.dentries p ≡ None
    without_p = elim (cases_key exact_place p r) [
      | inl same ↦ ap (get without.dentries) same ∙ without_r
      | inr ne ↦ remove_other exact_place (remove t.dentries p) r p ne ∙ remove_same exact_place t.dentries p
    ]

    without_other : (x : ℕ × List ℕ) → (x ≡ r → ⊥) → (x ≡ p → ⊥) → get without.dentries x ≡ get t.dentries x
    without_other x nr np = remove_other exact_place (remove t.dentries p) r x (eq_false exact_place x r nr) ∙ remove_other exact_place t.dentries p x (eq_false exact_place x p np)

    beside_without : Beside rank t gone without
    beside_without = record { next = refl; opens = refl; heads = record { held = λ d h. m.heads d (was_held d h); own = m.own_heads } }

    abbrev primary_without : Places
    primary_without = primary_gone rank t s is.primary m r j can.target p it.stands goes no_names a it.said without without_r without_p without_other beside_without

    dentries_without : HasDentries rank without gone primary_without
    dentries_without = gone_dentries rank t s is.primary m r j can.target p it.stands goes no_names a it.said without without_r without_p without_other beside_without

    r_not_j : r.0 ≡ j → ⊥
    r_not_j e = none_some j (sym (no_names r.1) ∙ ap (λ d. get s.links (d, r.1)) (sym e) ∙ can.target)

    gone_r_dir : is_dir gone r.0 ≡ true
    gone_r_dir = dir_gone rank t s is.primary m r j can.target p it.stands r.0 r_not_j ∙ r_dir

    gone_q : get t2.dentries q ≡ None
    gone_q = laid_at t gone_plan q None (three_gone p None r n q)

    gone_at_r : naming (get t2.dentries r) ≡ naming (get without.dentries q)
    gone_at_r = ap naming (laid_at t gone_plan r n (three_there p None r n q r_not_q)) ∙ naming_written (next_version t r.0) n ∙ ap naming (sym (without_other q q_not_r (λ e. p_not_q (sym e))))

    gone_other : (x : ℕ × List ℕ) → (x ≡ q → ⊥) → (x ≡ r → ⊥) → get t2.dentries x ≡ get without.dentries x
    gone_other x nq nr = elim (cases_key exact_place x p) [
      | inl same ↦ subst (λ x. get t2.dentries x ≡ get without.dentries x) (sym same) (laid_at t gone_plan p None (three_first p None r n q p_not_q (λ e. nr (same ∙ e))) ∙ sym without_p)
      | inr np ↦ let np = apart exact_place x p np in laid_other t gone_plan x (three_other p None r n q x nq nr np) ∙ sym (without_other x nr np)
    ]

    gone_does : PlanDoes rank t s gone_after gone_plan
    gone_does = record {
      primary = moved_places primary_without q r;
      dentries = moved_dentries rank without gone primary_without dentries_without q r i cut_link cut_free gone_r_dir r_name cut_room t2 gone_q gone_at_r gone_other (record { next = gone_beside.next; opens = gone_beside.opens; heads = gone_beside.heads });
      reached = all_reached gone_after stays_after (dir_gone rank t s is.primary m r j can.target p it.stands) (insert_same exact_place (remove cut.links q) r i) (no_dir_gone rank t s is.primary m r j can.target p it.stands);
      sessions = refl;
      opens = refl;
      next = refl;
      fits = gone_fits;
    }

  both_do : PlanDoes rank t s (with_moved (settled cut j) q r i) (record { dentries = with_dentry t q r (left_dentries rank s r j it.place (Some a)); removed = where_dir s j })
  both_do = elim (is_kept cut j) as (λ b. is_kept cut j ≡ b → PlanDoes rank t s (with_moved (if b then cut else gone) q r i) (record { dentries = with_dentry t q r (if b then two y (Some (Full full)) r else two it.place None r); removed = where_dir s j })) [
    | true ↦ λ stays. subst (λ o. PlanDoes rank t s (with_moved cut q r i) (record { dentries = three y (Some (Full full)) r n q; removed = o })) (sym (where_none rank t s is.primary m r j can.target (no_dir stays))) (kept_does stays)
    | false ↦ λ goes. gone_does goes
  ] refl

  pub replace_does : PlanDoes rank t s (with_moved (settled cut j) q r i) (replace_plan rank t s q r j it.place)
  replace_does = subst (λ o. PlanDoes rank t s (with_moved (settled cut j) q r i) (record { dentries = with_dentry t q r (left_dentries rank s r j it.place o); removed = where_dir s j })) (sym it.said) both_do

pub replace_gives : (rank : ℕ) (t : Table) (s : PlainState) (r : ClientRequest) (i k j : ℕ) (from to : ℕ × List ℕ) → IsTreeOf rank t s → IsSent r → decision s r ≡ Accepted i (change.Replace from to k j) → GivesTree rank t s r (replace_event rank t s r from to i j)
replace_gives rank t s r i k j from to is sent d =
    let change = change.Replace from to k j in
    let can = meant s r (Accepted i change) d in
    let found = effect_found s r sent is.dentries.next_fits (Ok (i, change)) can.done in
    let it = its rank t s is.primary is.dentries to j found.1.target in
    let plan : Plan = replace_plan rank t s from to j (full_place rank t r j) in
    let does : PlanDoes rank t s (changed s change) plan = subst (λ p. PlanDoes rank t s (changed s change) (replace_plan rank t s from to j p)) (sym (place_is rank t s is r j it.place it.stands)) (replace_does rank t s is from to k j found.1) in
    let fits : k < 2 ^ 64 = its_fits rank t s is.primary is.dentries from k found.1.link in
    let is_plan : IsPlan rank t s r i change None None None (lumps_of t plan) = subst (λ i. IsPlan rank t s r i change None None None (lumps_of t plan)) found.0 (plan_is rank t s is r k change plan fits does) in
    update_gives rank t s is r sent i change can None None None (lumps_of t plan) is_plan d
