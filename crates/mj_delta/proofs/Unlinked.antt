-- The event of a link that ends gives the tree after the request.
use Rattle.std.proofs.Common.{◌≡◌, ℕ, ◌+◌, ◌-◌, ◌<◌, ◌≤◌, ◌^◌, true, false, cond, List, Some, None, Ok, refl, sym, ap, subst, ◌∙◌, ◌⊎◌, inl, inr, arith}
use Rattle.std.specs.Prelude.{◌==◌, IsSome, IsTrue, if◌then◌else◌}
use Rattle.std.proofs.lemmas.Bool.{false≢true, cases_Bool, eq-eqb, eqb-true, or_right, or_cases, le-ltb}
use Rattle.mj_base.specs.Name.{is_name}
use Rattle.mj_base.specs.ObjectName.{hex, stray_ino, first_ino}
use Rattle.mj_base.specs.Record.{IsRecord, same_kind}
use Rattle.mj_base.specs.declared.record.Kind.{Kind}
use Rattle.mj_base.specs.declared.record.Kind.TheVariants.{Dir, File, Symlink}
use Rattle.mj_base.specs.declared.record.InodeRecord.{InodeRecord}
use Rattle.mj_maps.specs.Map.{get, remove}
use Rattle.mj_maps.proofs.MapLaws.{exact_place, exact_pair, none_some, some_same, cases_key, remove_same, remove_other, count_none, count_some, eq_true, apart}
use Rattle.mj_maps.proofs.Kept.{place_ties}
use Rattle.mj_tree.specs.declared.change.Attributes.{Attributes}
use Rattle.mj_tree.specs.declared.change.Change.TheVariants as change
use Rattle.mj_tree.specs.declared.change.Decision.TheVariants.{Accepted}
use Rattle.mj_tree.specs.declared.request.ClientRequest.{ClientRequest}
use Rattle.mj_tree.specs.State.{PlainState, is_dir, is_kind, is_kept, link_count, open_count, entry_count, record_of, attributes_of}
use Rattle.mj_tree.specs.Change.{settled, changed}
use Rattle.mj_tree.specs.Answer.{decision}
use Rattle.mj_cells.specs.Table.{Table}
use Rattle.mj_cells.specs.Table.Dentry.{Full as FullAt}
use Rattle.mj_recovery.specs.Orderly.{IsOwn}
use Rattle.mj_delta.specs.Reads.{Places, names, said_by, stored_links, is_held}
use Rattle.mj_delta.specs.TreeOf.{HasDentries, IsTreeOf}
use Rattle.mj_delta.specs.Fits.{IsSent}
use Rattle.mj_delta.specs.Events.{next_version, full_place}
use Rattle.mj_delta.specs.Plan.Naming.{Full}
use Rattle.mj_delta.specs.Plan.{Plan, lumps_of, is_place, left_place, left_dentries, where_dir, unlink_plan, unlink_event}
use Rattle.mj_delta.specs.Steps.{GivesTree}
use Rattle.mj_delta.proofs.Facts.{ids, cases_option, full_named, is_some_at, kind_record, link_parent, stray_no_dir, held_dir}
use Rattle.mj_delta.proofs.OneTree.{dir_link, subdir_full}
use Rattle.mj_delta.proofs.NewEntry.{own_dir}
use Rattle.mj_delta.proofs.Decided.{CanUnlink, meant, effect_found}
use Rattle.mj_delta.proofs.Held.{HasRecord, linked_record, linked_fits}
use Rattle.mj_delta.proofs.Placed.{place_is}
use Rattle.mj_delta.proofs.Updated.{IsPlan, update_gives}
use Rattle.mj_delta.proofs.HexNames.{hex_same, hex_name}
use Rattle.mj_delta.proofs.Plans.{laid, laid_at, laid_other}
use Rattle.mj_delta.proofs.Planned.{NamingFits, PlanFits, PlanDoes, plan_is}
use Rattle.mj_delta.proofs.Laid.{laid_beside, two, two_gone, two_there, two_other, two_cases, two_few, named_some}
use Rattle.mj_delta.proofs.Ending.{Beside, IsLeft, held_own, parent_is, not_root, p_own, primary_cut, cut_dentries, reached_cut}
use Rattle.mj_delta.proofs.Vanishing.{no_dir_gone, held_was, primary_gone, gone_dentries, reached_gone}

file_no_dir : (k : Kind) → same_kind k File ≡ true → same_kind k Dir ≡ false
file_no_dir Dir e = absurd (false≢true e)
file_no_dir File e = refl
file_no_dir Symlink e = refl

-- what holds of an inode and one of its links
module _ (rank : ℕ) (t : Table) (s : PlainState) (primary : Places) (m : HasDentries rank t s primary) (q : ℕ × List ℕ) (i : ℕ) (link : get s.links q ≡ Some i) where
  abbrev pub its : HasRecord t s primary i
  its = linked_record rank t s primary m i (record { place = q; link = link })

  abbrev p : ℕ × List ℕ
  p = its.place

  abbrev pub less : PlainState
  less = record s { links = remove s.links q }

  pub i_not_root : i ≡ 1 → ⊥
  i_not_root = not_root rank t s primary m q i link p its.stands

  -- a directory has one link
  pub dir_primary : (x : ℕ × List ℕ) → is_dir s i ≡ true → get s.links x ≡ Some i → get primary i ≡ Some x
  dir_primary x h l = m.each_primary i x (held_dir rank t s primary m x.0 (link_parent rank t s primary m x i l).0) (subdir_full _ i (dir_link rank t s primary m x i i_not_root l h)).0

  pub dir_once : (x : ℕ × List ℕ) → is_dir s i ≡ true → get s.links x ≡ Some i → x ≡ q
  dir_once x h l = some_same x q (sym (dir_primary x h l) ∙ dir_primary q h link)

  -- and no opens, so that nothing keeps it without this one
  pub dir_goes : is_dir s i ≡ true → is_kept less i ≡ false
  dir_goes h =
      let links : link_count less i ≡ 0 = count_none exact_place (λ (e : (ℕ × List ℕ) × ℕ). e.1 == i) less.links (λ x j e f. no_other x j e (eqb-true j i f)) in
      let opens : open_count s i ≡ 0 = count_none exact_pair (λ (e : (ℕ × ℕ) × Unit {0}). e.0.1 == i) s.opens (λ o u e f. no_open o.0 o.1 (is_some_at _ u e) (eqb-true o.1 i f)) in
      le-ltb 0 (link_count less i + open_count s i) (omega (arith, links, opens))
    where
      no_other : (x : ℕ × List ℕ) (j : ℕ) → get less.links x ≡ Some j → j ≡ i → ⊥
      no_other x j e same = elim (cases_key exact_place x q) [
        | inl at ↦ none_some j (sym (remove_same exact_place s.links q) ∙ ap (get less.links) (sym at) ∙ e)
        | inr ne ↦ apart exact_place x q ne (dir_once x h (sym (remove_other exact_place s.links q x ne) ∙ e ∙ ap Some same))
      ]

      no_open : (c j : ℕ) → IsSome (get s.opens (c, j)) → j ≡ i → ⊥
      no_open c j o same =
          let r = kind_record File (get s.records j) (m.open_files c j o) in
          let file = sym (ap (is_kind File) r.1) ∙ m.open_files c j o in
          let no = file_no_dir r.0.kind file in
          elim (or_cases (i == 1) (is_kind Dir (get s.records i)) h) [
            | inl e ↦ i_not_root (eqb-true i 1 e)
            | inr e ↦ false≢true (sym no ∙ sym (ap (is_kind Dir) r.1) ∙ ap (λ j. is_kind Dir (get s.records j)) same ∙ e)
          ]

  pub kept_no_dir : is_kept less i ≡ true → is_dir s i ≡ false
  kept_no_dir stays = elim (cases_Bool (is_dir s i)) [
    | inl h ↦ absurd (false≢true (sym (dir_goes h) ∙ stays))
    | inr h ↦ h
  ]

  pub no_entries : (is_dir s i ≡ false) ⊎ (entry_count s i ≡ 0) → (n : List ℕ) → get s.links (i, n) ≡ None
  no_entries (inl no_dir) n = m.links (i, n) ∙ ap (λ b. cond b (names (get t.dentries (i, n))) None) no_dir
  no_entries (inr none) n = elim (cases_option (get s.links (i, n))) [
    | inl e ↦ e
    | inr w ↦ absurd (omega (arith, none, count_some exact_place (λ (e : (ℕ × List ℕ) × ℕ). e.0.0 == i) s.links (i, n) w.0 w.1 (eq-eqb i i refl)))
  ]

  -- ---- where its full dentry is left

  abbrev pub left : ℕ × List ℕ
  left = left_place rank q i p

  abbrev pub lessened : InodeRecord
  lessened = record_of i (link_count s i - 1) (attributes_of its.inode)

  pub its_fits : i < 2 ^ 64
  its_fits = linked_fits rank t s primary m i (record { place = q; link = link })

  pub its_above : first_ino rank ≤ i
  its_above = m.above i p its.stands

  pub lessened_fits : IsRecord lessened
  lessened_fits =
      let old = m.records_fit p its.version its.inode its.full in
      let links : its.inode.links ≡ link_count s i = ap stored_links (sym its.full) ∙ m.counts i p its.stands in
      record { ino = its_fits; mode = old.mode; uid = old.uid; gid = old.gid; size = old.size; mtime = old.mtime; links = omega (arith, old.links, links); target = old.target }

  p_name : IsTrue (is_name p.1)
  p_name = m.names_fit p (is_some_at _ (FullAt its.version its.inode) its.full)

  pub q_name : IsTrue (is_name q.1)
  q_name = m.names_fit q (named_some _ i (link_parent rank t s primary m q i link).1)

  pub is_left : IsLeft rank t s q i p left
  is_left = elim (is_place p q) as (λ b. is_place p q ≡ b → IsLeft rank t s q i p (if b then (stray_ino rank, hex i) else p)) [
    | true ↦ λ e. record {
      not_q = λ z. false≢true (sym (stray_no_dir rank t s primary m) ∙ ap (λ (x : ℕ × List ℕ). is_dir s x.0) z ∙ parent_is rank t s primary m q i link p its.stands);
      moved = inr (eq_true exact_place p q (sym (place_ties p q) ∙ e));
      held = in_stray;
      own = λ j f. let b = m.beneath j (stray_ino rank, hex i) (m.each_primary j (stray_ino rank, hex i) in_stray f) in sym (hex_same i j its_fits (omega (arith, b, m.next_fits)) (m.stray_names (hex i) j (full_named _ j f)));
      link = λ h. absurd (false≢true (sym (stray_no_dir rank t s primary m) ∙ h));
      stray = λ _. refl;
      name = hex_name i its_fits;
    }
    | false ↦ λ e. record {
      not_q = apart exact_place p q (sym (place_ties p q) ∙ e);
      moved = inl refl;
      held = m.primary_held i p its.stands;
      own = p_own rank t s primary m q i link p its.stands;
      link = λ _. full_named _ i (m.primary_full i p its.stands);
      stray = λ z. m.stray_names p.1 i ((λ k. names (get t.dentries (sym z k, p.1))) ∙ full_named _ i (m.primary_full i p its.stands));
      name = p_name;
    }
  ] refl
    where
      in_stray : is_held rank s (stray_ino rank) ≡ true
      in_stray = or_right (is_dir s (stray_ino rank)) (stray_ino rank == stray_ino rank) (eq-eqb (stray_ino rank) (stray_ino rank) refl)

  pub where_none : is_dir s i ≡ false → where_dir s i ≡ None
  where_none h = ap (λ b. if b then Some i else None) h

  pub where_it : (d : ℕ) → where_dir s i ≡ Some d → i ≡ d
  where_it d = elim (is_dir s i) as (λ b. (if b then Some i else None) ≡ Some d → i ≡ d) [ true ↦ λ e. some_same i d e | false ↦ λ e. absurd (none_some d e) ]

-- ---- the plan

module _ (rank : ℕ) (t : Table) (s : PlainState) (is : IsTreeOf rank t s) (q : ℕ × List ℕ) (i : ℕ) (can : CanUnlink s q i) where
  abbrev m : HasDentries rank t s is.primary
  m = is.dentries

  abbrev it : HasRecord t s is.primary i
  it = its rank t s is.primary m q i can.link

  abbrev cut : PlainState
  cut = less rank t s is.primary m q i can.link

  abbrev gone : PlainState
  gone = record s { records = remove s.records i; links = remove s.links q }

  abbrev r : ℕ × List ℕ
  r = left rank t s is.primary m q i can.link

  abbrev y : InodeRecord
  y = lessened rank t s is.primary m q i can.link

  abbrev a : Attributes
  a = attributes_of it.inode

  place_left : IsLeft rank t s q i it.place r
  place_left = is_left rank t s is.primary m q i can.link

  parent : is_dir s q.0 ≡ true
  parent = parent_is rank t s is.primary m q i can.link it.place it.stands

  said : said_by (get t.dentries it.place) ≡ Some a
  said = ap said_by it.full

  module _ (stays : is_kept cut i ≡ true) where
    abbrev kept_plan : Plan
    kept_plan = record { dentries = two r (Some (Full y)) q; removed = None }

    no_dir : is_dir s i ≡ false
    no_dir = kept_no_dir rank t s is.primary m q i can.link stays

    kept_fits : PlanFits rank cut kept_plan
    kept_fits = record {
      few = two_few r (Some (Full y)) q;
      names = λ z n e. elim (two_cases r (Some (Full y)) q z n e) [
        | inl w ↦ subst (λ (z : ℕ × List ℕ). IsTrue (is_name z.1)) (sym w.0) (q_name rank t s is.primary m q i can.link)
        | inr w ↦ subst (λ (z : ℕ × List ℕ). IsTrue (is_name z.1)) (sym w.0) place_left.name
      ];
      fit = λ z n e. elim (two_cases r (Some (Full y)) q z n e) [
        | inl w ↦ subst (λ n. NamingFits rank z n) (sym w.1) tt
        | inr w ↦ subst (λ n. NamingFits rank z n) (sym w.1) (lessened_fits rank t s is.primary m q i can.link, its_above rank t s is.primary m q i can.link, λ st. ap (λ (z : ℕ × List ℕ). z.1) w.0 ∙ place_left.stray (ap (λ (z : ℕ × List ℕ). z.0) (sym w.0) ∙ st))
      ];
      own = λ z n e. elim (two_cases r (Some (Full y)) q z n e) [
        | inl w ↦ subst (λ (z : ℕ × List ℕ). IsOwn rank s.next z.0) (sym w.0) (own_dir rank t s is.primary m q.0 parent)
        | inr w ↦ subst (λ (z : ℕ × List ℕ). IsOwn rank s.next z.0) (sym w.0) (held_own rank t s is.primary m r.0 place_left.held)
      ];
      gone = λ d e. absurd (none_some d e);
      first = m.first_next;
      next = m.next_fits;
    }

    abbrev t1 : Table
    t1 = laid t kept_plan

    at_q : get t1.dentries q ≡ None
    at_q = laid_at t kept_plan q None (two_gone r (Some (Full y)) q)

    at_r : get t1.dentries r ≡ Some (FullAt (next_version t r.0) y)
    at_r = laid_at t kept_plan r (Some (Full y)) (two_there r (Some (Full y)) q place_left.not_q)

    at_other : (x : ℕ × List ℕ) → (x ≡ q → ⊥) → (x ≡ r → ⊥) → get t1.dentries x ≡ get t.dentries x
    at_other x nq nr = laid_other t kept_plan x (two_other r (Some (Full y)) q x nq nr)

    beside : Beside rank t cut t1
    beside = laid_beside rank t s is.primary m kept_plan cut refl kept_fits (λ d h. (h, λ e. none_some d e))

    kept_does : PlanDoes rank t s cut kept_plan
    kept_does = record {
      primary = primary_cut rank t s is.primary m q i can.link it.place it.stands stays no_dir a said (lessened_fits rank t s is.primary m q i can.link) r place_left t1 (next_version t r.0) at_q at_r at_other beside;
      dentries = cut_dentries rank t s is.primary m q i can.link it.place it.stands stays no_dir a said (lessened_fits rank t s is.primary m q i can.link) r place_left t1 (next_version t r.0) at_q at_r at_other beside;
      reached = reached_cut rank t s is.primary m q i can.link it.place it.stands stays no_dir a said (lessened_fits rank t s is.primary m q i can.link) r place_left t1 (next_version t r.0) at_q at_r at_other beside is.reached;
      sessions = refl;
      opens = refl;
      next = refl;
      fits = kept_fits;
    }

  module _ (goes : is_kept cut i ≡ false) where
    abbrev gone_plan : Plan
    gone_plan = record { dentries = two it.place None q; removed = where_dir s i }

    gone_fits : PlanFits rank gone gone_plan
    gone_fits = record {
      few = two_few it.place None q;
      names = λ z n e. elim (two_cases it.place None q z n e) [
        | inl w ↦ subst (λ (z : ℕ × List ℕ). IsTrue (is_name z.1)) (sym w.0) (q_name rank t s is.primary m q i can.link)
        | inr w ↦ subst (λ (z : ℕ × List ℕ). IsTrue (is_name z.1)) (sym w.0) (m.names_fit it.place (is_some_at _ (FullAt it.version it.inode) it.full))
      ];
      fit = λ z n e. elim (two_cases it.place None q z n e) [
        | inl w ↦ subst (λ n. NamingFits rank z n) (sym w.1) tt
        | inr w ↦ subst (λ n. NamingFits rank z n) (sym w.1) tt
      ];
      own = λ z n e. elim (two_cases it.place None q z n e) [
        | inl w ↦ subst (λ (z : ℕ × List ℕ). IsOwn rank s.next z.0) (sym w.0) (own_dir rank t s is.primary m q.0 parent)
        | inr w ↦ subst (λ (z : ℕ × List ℕ). IsOwn rank s.next z.0) (sym w.0) (held_own rank t s is.primary m it.place.0 (m.primary_held i it.place it.stands))
      ];
      gone = λ d e. subst (IsOwn rank s.next) (where_it rank t s is.primary m q i can.link d e) (inr (inr (its_above rank t s is.primary m q i can.link, m.beneath i it.place it.stands)));
      first = m.first_next;
      next = m.next_fits;
    }

    abbrev t2 : Table
    t2 = laid t gone_plan

    gone_q : get t2.dentries q ≡ None
    gone_q = laid_at t gone_plan q None (two_gone it.place None q)

    gone_p : get t2.dentries it.place ≡ None
    gone_p = elim (cases_key exact_place it.place q) [
      | inl same ↦ ap (get t2.dentries) same ∙ gone_q
      | inr ne ↦ laid_at t gone_plan it.place None (two_there it.place None q (apart exact_place it.place q ne))
    ]

    gone_other : (x : ℕ × List ℕ) → (x ≡ q → ⊥) → (x ≡ it.place → ⊥) → get t2.dentries x ≡ get t.dentries x
    gone_other x nq np = laid_other t gone_plan x (two_other it.place None q x nq np)

    not_held : (d : ℕ) → is_held rank gone d ≡ true → where_dir s i ≡ Some d → ⊥
    not_held d h e =
        let same = where_it rank t s is.primary m q i can.link d e in
        elim (or_cases (is_dir gone d) (d == stray_ino rank) h) [
          | inl dir ↦ false≢true (sym (no_dir_gone rank t s is.primary m q i can.link it.place it.stands) ∙ ap (is_dir gone) same ∙ dir)
          | inr st ↦ omega (arith, (ids rank).below, its_above rank t s is.primary m q i can.link, eqb-true d (stray_ino rank) st, same)
        ]

    gone_beside : Beside rank t gone t2
    gone_beside = laid_beside rank t s is.primary m gone_plan gone refl gone_fits (λ d h. (held_was rank t s is.primary m q i can.link it.place it.stands d h, not_held d h))

    no_names : (n : List ℕ) → get s.links (i, n) ≡ None
    no_names = no_entries rank t s is.primary m q i can.link can.empty

    gone_does : PlanDoes rank t s gone gone_plan
    gone_does = record {
      primary = primary_gone rank t s is.primary m q i can.link it.place it.stands goes no_names a it.said t2 gone_q gone_p gone_other gone_beside;
      dentries = gone_dentries rank t s is.primary m q i can.link it.place it.stands goes no_names a it.said t2 gone_q gone_p gone_other gone_beside;
      reached = reached_gone rank t s is.primary m q i can.link it.place it.stands goes no_names a it.said t2 gone_q gone_p gone_other gone_beside is.reached;
      sessions = refl;
      opens = refl;
      next = refl;
      fits = gone_fits;
    }

  both_do : PlanDoes rank t s (settled cut i) (record { dentries = left_dentries rank s q i it.place (Some a); removed = where_dir s i })
  both_do = elim (is_kept cut i) as (λ b. is_kept cut i ≡ b → PlanDoes rank t s (if b then cut else gone) (record { dentries = if b then two r (Some (Full y)) q else two it.place None q; removed = where_dir s i })) [
    | true ↦ λ stays. subst (λ o. PlanDoes rank t s cut (record { dentries = two r (Some (Full y)) q; removed = o })) (sym (where_none rank t s is.primary m q i can.link (no_dir stays))) (kept_does stays)
    | false ↦ λ goes. gone_does goes
  ] refl

  pub unlink_does : PlanDoes rank t s (settled cut i) (unlink_plan rank s q i it.place)
  unlink_does = subst (λ o. PlanDoes rank t s (settled cut i) (record { dentries = left_dentries rank s q i it.place o; removed = where_dir s i })) (sym it.said) both_do

pub unlink_gives : (rank : ℕ) (t : Table) (s : PlainState) (r : ClientRequest) (i j : ℕ) (q : ℕ × List ℕ) → IsTreeOf rank t s → IsSent r → decision s r ≡ Accepted i (change.Unlink q j) → GivesTree rank t s r (unlink_event rank t s r q i)
unlink_gives rank t s r i j q is sent d =
    let can = meant s r (Accepted i (change.Unlink q j)) d in
    let found = effect_found s r sent is.dentries.next_fits (Ok (i, change.Unlink q j)) can.done in
    let it = its rank t s is.primary is.dentries q j found.1.link in
    let plan : ℕ → Plan = λ k. unlink_plan rank s q k (full_place rank t r k) in
    let does : PlanDoes rank t s (changed s (change.Unlink q j)) (plan j) = subst (λ p. PlanDoes rank t s (changed s (change.Unlink q j)) (unlink_plan rank s q j p)) (sym (place_is rank t s is r j it.place it.stands)) (unlink_does rank t s is q j found.1) in
    let fits : j < 2 ^ 64 = its_fits rank t s is.primary is.dentries q j found.1.link in
    let is_plan : IsPlan rank t s r i (change.Unlink q j) None None None (lumps_of t (plan i)) = subst (λ k. IsPlan rank t s r k (change.Unlink q j) None None None (lumps_of t (plan k))) found.0 (plan_is rank t s is r j (change.Unlink q j) (plan j) fits does) in
    update_gives rank t s is r sent i (change.Unlink q j) can None None None (lumps_of t (plan i)) is_plan d
