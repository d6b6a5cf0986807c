-- The event of attributes that are set gives the tree after the request.
use Rattle.std.proofs.Common.{◌≡◌, ℕ, ◌<◌, ◌≤◌, ◌^◌, true, false, cond, ◌||◌, List, [], ◌∷◌, Option, Some, None, Ok, refl, sym, ap, subst, ◌∙◌, ◌⊎◌, inl, inr, arith}
use Rattle.std.specs.Prelude.{◌==◌, IsSome, is_some, if◌then◌else◌}
use Rattle.std.specs.Option.{option_and_then}
use Rattle.std.specs.List.{AllByRecursion}
use Rattle.std.specs.Ordering.{eq_by_cmp}
use Rattle.std.proofs.lemmas.Bool.{eqb-true, and_parts, and_from}
use Rattle.mj_base.specs.ObjectName.{hex, stray_ino, first_ino}
use Rattle.mj_base.specs.Record.{IsRecord}
use Rattle.mj_base.specs.declared.record.Kind.{Kind}
use Rattle.mj_base.specs.declared.record.Kind.TheVariants.{Dir, File}
use Rattle.mj_base.specs.declared.record.InodeRecord.{InodeRecord}
use Rattle.mj_maps.specs.Map.{get, insert}
use Rattle.mj_maps.specs.Orders.{place_cmp}
use Rattle.mj_maps.proofs.MapLaws.{exact_nat, exact_place, some_same, insert_same, insert_other, insert_again, cases_key, eq_false, apart, len-insert_over}
use Rattle.mj_tree.specs.declared.change.Attributes.{Attributes}
use Rattle.mj_tree.specs.declared.change.Settings.{Settings}
use Rattle.mj_tree.specs.declared.change.Change.TheVariants.{Set}
use Rattle.mj_tree.specs.declared.change.Decision.TheVariants.{Accepted}
use Rattle.mj_tree.specs.declared.request.ClientRequest.{ClientRequest}
use Rattle.mj_tree.specs.State.{PlainState, root, is_dir, is_kind, is_kept, link_count, record_of, attributes_of}
use Rattle.mj_tree.specs.Change.{set_in, with_set}
use Rattle.mj_tree.specs.Answer.{decision}
use Rattle.mj_cells.specs.Table.{Dentry, Table}
use Rattle.mj_cells.specs.Table.Dentry.{Full}
use Rattle.mj_meta.specs.declared.DirLump.{DirLump}
use Rattle.mj_recovery.specs.Orderly.{IsOwn}
use Rattle.mj_delta.specs.Reads.{names, full_of, said_by, stored_links, remote_of, cell_of, kind_of, is_held}
use Rattle.mj_delta.specs.TreeOf.{IsReached, HasDentries, IsTreeOf}
use Rattle.mj_delta.specs.TreeOf.IsReached.{at_root, below}
use Rattle.mj_delta.specs.Fits.{IsSent}
use Rattle.mj_delta.specs.Events.{next_version, says, set_lumps, set_event, full_lump, full_place}
use Rattle.mj_delta.specs.Steps.{GivesTree}
use Rattle.mj_delta.proofs.Facts.{ids, by_key, cases_option, is_some_at}
use Rattle.mj_delta.proofs.OneTree.{link_kept}
use Rattle.mj_delta.proofs.Decided.{CanSet, meant, effect_found}
use Rattle.mj_delta.proofs.Updated.{IsPlan, update_gives}
use Rattle.mj_delta.proofs.Held.{HasRecord, linked_record, linked_fits, same_plan}
use Rattle.mj_delta.proofs.Placed.{place_is}

module _ (rank : ℕ) (t : Table) (s : PlainState) (is : IsTreeOf rank t s) (i : ℕ) (x : Settings) (can : CanSet s i x) where
  abbrev m : HasDentries rank t s is.primary
  m = is.dentries

  abbrev pub its : HasRecord t s is.primary i
  its = linked_record rank t s is.primary m i can.linked

  abbrev p : ℕ × List ℕ
  p = its.place

  abbrev old : InodeRecord
  old = its.inode

  abbrev a : Attributes
  a = attributes_of old

  abbrev y : InodeRecord
  y = record_of i (link_count s i) (set_in x a)

  abbrev v : ℕ
  v = next_version t p.0

  abbrev s1 : PlainState
  s1 = record s { records = insert s.records i (set_in x a) }

  abbrev t1 : Table
  t1 = record t { heads = insert t.heads p.0 v; dentries = insert t.dentries p (Full v y) }

  state_is : with_set s i x (get s.records i) ≡ s1
  state_is = ap (with_set s i x) its.said

  -- ---- what stays

  kind_same : (kind : Kind) (j : ℕ) → is_kind kind (get s1.records j) ≡ is_kind kind (get s.records j)
  kind_same kind j = elim (cases_key exact_nat j i) [
    | inl same ↦ ap (λ j. is_kind kind (get s1.records j)) same ∙ ap (is_kind kind) (insert_same exact_nat s.records i (set_in x a)) ∙ sym (ap (λ j. is_kind kind (get s.records j)) same ∙ ap (is_kind kind) its.said)
    | inr ne ↦ ap (is_kind kind) (insert_other exact_nat s.records i (set_in x a) j ne)
  ]

  dir_same : (d : ℕ) → is_dir s1 d ≡ is_dir s d
  dir_same d = ap (λ b. (d == root) || b) (kind_same Dir d)

  held_same : (d : ℕ) → is_held rank s1 d ≡ is_held rank s d
  held_same d = ap (λ b. b || (d == stray_ino rank)) (dir_same d)

  here : get t1.dentries p ≡ Some (Full v y)
  here = insert_same exact_place t.dentries p (Full v y)

  there : (q : ℕ × List ℕ) → eq_by_cmp place_cmp q p ≡ false → get t1.dentries q ≡ get t.dentries q
  there q ne = insert_other exact_place t.dentries p (Full v y) q ne

  -- a view of cells that does not tell the two records apart
  view_same : {A : Type 0} (f : Option Dentry → A) → f (Some (Full v y)) ≡ f (Some (Full its.version old)) → (q : ℕ × List ℕ) → f (get t1.dentries q) ≡ f (get t.dentries q)
  view_same f e q = elim (cases_key exact_place q p) [
    | inl same ↦ ap (λ q. f (get t1.dentries q)) same ∙ ap f here ∙ e ∙ sym (ap (λ q. f (get t.dentries q)) same ∙ ap f its.full)
    | inr ne ↦ ap f (there q ne)
  ]

  names_same : (q : ℕ × List ℕ) → names (get t1.dentries q) ≡ names (get t.dentries q)
  names_same = view_same names (ap Some (sym its.ino))

  full_same : (q : ℕ × List ℕ) → full_of (get t1.dentries q) ≡ full_of (get t.dentries q)
  full_same = view_same full_of (ap Some (sym its.ino))

  links_same : (q : ℕ × List ℕ) → stored_links (get t1.dentries q) ≡ stored_links (get t.dentries q)
  links_same = view_same stored_links (sym (m.counts i p its.stands) ∙ ap stored_links its.full)

  remote_same : (q : ℕ × List ℕ) → remote_of (get t1.dentries q) ≡ remote_of (get t.dentries q)
  remote_same = view_same remote_of refl

  there_same : (q : ℕ × List ℕ) → is_some (get t1.dentries q) ≡ is_some (get t.dentries q)
  there_same = view_same is_some refl

  cell_kind : (j : ℕ) → kind_of (said_by (cell_of t1 is.primary j)) ≡ kind_of (said_by (cell_of t is.primary j))
  cell_kind j = elim (cases_option (get is.primary j)) [
    | inl none ↦ ap (λ o. kind_of (said_by (option_and_then (get t1.dentries) o))) none ∙ sym (ap (λ o. kind_of (said_by (option_and_then (get t.dentries) o))) none)
    | inr w ↦ ap (λ o. kind_of (said_by (option_and_then (get t1.dentries) o))) w.1 ∙ view_same (λ o. kind_of (said_by o)) refl w.0 ∙ sym (ap (λ o. kind_of (said_by (option_and_then (get t.dentries) o))) w.1)
  ]

  cell_other : (j : ℕ) → (j ≡ i → ⊥) → cell_of t1 is.primary j ≡ cell_of t is.primary j
  cell_other j ne = elim (cases_option (get is.primary j)) [
    | inl none ↦ ap (option_and_then (get t1.dentries)) none ∙ sym (ap (option_and_then (get t.dentries)) none)
    | inr w ↦ ap (option_and_then (get t1.dentries)) w.1
        ∙ there w.0 (eq_false exact_place w.0 p (λ same. ne (some_same j i (sym (m.primary_full j w.0 w.1) ∙ ap (λ q. full_of (get t.dentries q)) same ∙ m.primary_full i p its.stands))))
        ∙ sym (ap (option_and_then (get t.dentries)) w.1)
  ]

  old_fits : IsRecord old
  old_fits = m.records_fit p its.version old its.full

  links_fit : link_count s i < 2 ^ 32
  links_fit = subst (λ n. n < 2 ^ 32) (ap stored_links (sym its.full) ∙ m.counts i p its.stands) old_fits.links

  y_fits : IsRecord y
  y_fits = record { ino = linked_fits rank t s is.primary m i can.linked; mode = can.mode; uid = can.uid; gid = can.gid; size = can.size; mtime = can.mtime; links = links_fit; target = old_fits.target }

  held : is_held rank s p.0 ≡ true
  held = m.primary_held i p its.stands

  own : IsOwn rank s.next p.0
  own = m.own_cells p (is_some_at _ (Full its.version old) its.full)

  v_fits : v < 2 ^ 64
  v_fits = omega arith

  not_zero : 0 < v
  not_zero = omega arith

  head_cases : (d w : ℕ) → get t1.heads d ≡ Some w → (d ≡ p.0) ⊎ (get t.heads d ≡ Some w)
  head_cases d w e = elim (cases_key exact_nat d p.0) [
    | inl same ↦ inl same
    | inr ne ↦ inr (sym (insert_other exact_nat t.heads p.0 v d ne) ∙ e)
  ]

  set_dentries : HasDentries rank t1 s1 is.primary
  set_dentries = record {
    links = λ q. m.links q ∙ (λ z. cond (sym (dir_same q.0) z) (sym (names_same q) z) None);
    records = by_key exact_nat i (λ j. get s1.records j ≡ cond (is_kept s1 j) (said_by (cell_of t1 is.primary j)) None)
        (insert_same exact_nat s.records i (set_in x a) ∙ sym ((λ z. cond (link_kept rank t s is.primary m can.linked.place i can.linked.link z) (said_by (option_and_then (get t1.dentries) (its.stands z))) None) ∙ ap said_by here))
        (λ j ne. insert_other exact_nat s.records i (set_in x a) j ne ∙ m.records j ∙ ap (λ o. cond (is_kept s j) (said_by o) None) (sym (cell_other j (apart exact_nat j i ne))));
    primary_held = λ j q e. held_same q.0 ∙ m.primary_held j q e;
    primary_full = λ j q e. full_same q ∙ m.primary_full j q e;
    each_primary = λ j q h f. m.each_primary j q (sym (held_same q.0) ∙ h) (sym (full_same q) ∙ f);
    remote_kind = λ q j k d e. cell_kind j ∙ m.remote_kind q j k (sym (dir_same q.0) ∙ d) (sym (remote_same q) ∙ e);
    remote_no_dir = λ q j k d e. m.remote_no_dir q j k (sym (dir_same q.0) ∙ d) (sym (remote_same q) ∙ e);
    counts = λ j q e. links_same q ∙ m.counts j q e;
    next = m.next;
    first_next = m.first_next;
    next_fits = m.next_fits;
    above = m.above;
    beneath = m.beneath;
    own_cells = λ q h. m.own_cells q (sym (there_same q) ∙ h);
    stray_names = λ n j e. m.stray_names n j (sym (names_same (stray_ino rank, n)) ∙ e);
    heads = λ d h. elim (cases_key exact_nat d p.0) [
      | inl same ↦ is_some_at _ v (ap (get t1.heads) same ∙ insert_same exact_nat t.heads p.0 v)
      | inr ne ↦ subst (λ o. IsSome o) (sym (insert_other exact_nat t.heads p.0 v d ne)) (m.heads d (sym (held_same d) ∙ h))
    ];
    own_heads = λ d w e. elim (head_cases d w e) [ inl z ↦ subst (IsOwn rank s.next) (sym z) own | inr before ↦ m.own_heads d w before ];
    opens = m.opens;
    open_files = λ c j h. kind_same File j ∙ m.open_files c j h;
    few_entries = m.few_entries;
    few_inodes = omega (arith, len-insert_over exact_nat s.records i a (set_in x a) its.said, m.few_inodes);
    few_opens = m.few_opens;
    names_fit = λ q h. m.names_fit q (sym (there_same q) ∙ h);
    records_fit = λ q w z e. elim (cases_key exact_place q p) [
      | inl same ↦ subst IsRecord (one_record (some_same _ _ (sym here ∙ ap (get t1.dentries) (sym same) ∙ e))) y_fits
      | inr ne ↦ m.records_fit q w z (sym (there q ne) ∙ e)
    ];
  }
    where
      one_record : {b c : ℕ} {r z : InodeRecord} → Full b r ≡ Full c z → r ≡ z
      one_record f = cc

  set_reached : (d : ℕ) → IsReached s d → IsReached s1 d
  set_reached _ at_root = at_root
  set_reached _ (below d n j r l h) = below d n j (set_reached d r) l (dir_same j ∙ h)

  -- what is said already
  said_already : says x a ≡ true → set_in x a ≡ a
  said_already h =
      let b4 = and_parts _ _ h in
      let b3 = and_parts _ _ b4.0 in
      let b2 = and_parts _ _ b3.0 in
      let b1 = and_parts _ _ b2.0 in
      let mode = eqb-true x.mode a.mode b1.0 in
      let uid = eqb-true x.uid a.uid b1.1 in
      let gid = eqb-true x.gid a.gid b2.1 in
      let size = eqb-true x.size a.size b3.1 in
      let mtime = eqb-true x.mtime a.mtime b4.1 in
      λ z. record a { mode = mode z; uid = uid z; gid = gid z; size = size z; mtime = mtime z }

  set_plan_some : (r : ClientRequest) → IsPlan rank t s r i (Set i x) None None None (set_lumps t s p i x (Some a))
  set_plan_some r = elim (says x a) as (λ b. says x a ≡ b → IsPlan rank t s r i (Set i x) None None None (if b then [] else full_lump p.0 v p.1 y ∷ [])) [
    | true ↦ λ e. same_plan rank t s is r i (Set i x) (state_is ∙ (λ z. record s { records = (ap (insert s.records i) (said_already e) ∙ insert_again exact_nat s.records i a its.said) z })) (linked_fits rank t s is.primary m i can.linked)
    | false ↦ λ _. record {
      primary = is.primary;
      dentries = subst (λ z. HasDentries rank t1 z is.primary) (sym state_is) set_dentries;
      reached = subst (λ z. (d : ℕ) → is_dir z d ≡ true → IsReached z d) (sym state_is) (λ d h. set_reached d (is.reached d (sym (dir_same d) ∙ h)));
      sessions = ap (λ (z : PlainState). z.sessions) state_is;
      opens = subst (λ (z : PlainState). (client j : ℕ) → IsSome (get z.opens (client, j)) → IsSome (get s.sessions client)) (sym state_is) is.sessions.open_sessions;
      inode = linked_fits rank t s is.primary m i can.linked;
      optionals = (tt, tt, tt);
      blob = record {
        count = omega arith;
        lumps = (
          (
            record {
              dir = held_fits;
              head = v_fits;
              counts = (omega arith, omega arith, omega arith);
              full = (((v_fits, y_fits), tt), and_from _ _ (and_from _ _ (and_from _ _ (m.names_fit p (is_some_at _ (Full its.version old) its.full)) refl) refl) refl);
              remote = (tt, refl);
              null = (tt, refl);
            },
            tt,
          ),
          refl,
        );
      };
      own = subst (λ (z : PlainState). AllByRecursion (IsOwn rank z.next) (p.0 ∷ [])) (sym state_is) (own, tt);
      rises = subst (λ (z : PlainState). s.next ≤ z.next) (sym state_is) (omega arith);
      orderly = ((tt, tt, λ e. omega (arith, e, not_zero)), ((high, stray_named, tt), tt));
    }
  ] refl
    where
      held_fits : p.0 < 2 ^ 64
      held_fits = own_fits own
        where
          own_fits : IsOwn rank s.next p.0 → p.0 < 2 ^ 64
          own_fits (inl e) = omega (arith, e)
          own_fits (inr (inl e)) = omega (arith, e, (ids rank).below, m.first_next, m.next_fits)
          own_fits (inr (inr given)) = omega (arith, given.1, m.next_fits)

      high : first_ino rank ≤ i
      high = m.above i p its.stands

      stray_named : p.0 ≡ stray_ino rank → p.1 ≡ hex i
      stray_named e = m.stray_names p.1 i ((λ z. names (get t.dentries (sym e z, p.1))) ∙ ap names its.full ∙ ap Some its.ino)

  pub set_plan : (r : ClientRequest) → IsPlan rank t s r i (Set i x) None None None (set_lumps t s (full_place rank t r i) i x (get s.records i))
  set_plan r = subst (λ p. IsPlan rank t s r i (Set i x) None None None (set_lumps t s p i x (get s.records i))) (sym (place_is rank t s is r i p its.stands))
      (subst (λ o. IsPlan rank t s r i (Set i x) None None None (set_lumps t s p i x o)) (sym its.said) (set_plan_some r))

pub set_gives : (rank : ℕ) (t : Table) (s : PlainState) (r : ClientRequest) (i j : ℕ) (x : Settings) → IsTreeOf rank t s → IsSent r → decision s r ≡ Accepted i (Set j x) → GivesTree rank t s r (set_event rank t s r i x)
set_gives rank t s r i j x is sent d =
    let can = meant s r (Accepted i (Set j x)) d in
    let found = effect_found s r sent is.dentries.next_fits (Ok (i, Set j x)) can.done in
    let lumps : ℕ → List DirLump = λ k. set_lumps t s (full_place rank t r k) k x (get s.records k) in
    let plan : IsPlan rank t s r i (Set j x) None None None (lumps i) = subst (λ k. IsPlan rank t s r k (Set j x) None None None (lumps k)) found.0 (set_plan rank t s is j x found.1 r) in
    update_gives rank t s is r sent i (Set j x) can None None None (lumps i) plan d
