-- The event of a session that begins, and that of a new inode, give the tree after the request.
use Rattle.std.proofs.Common.{◌≡◌, ℕ, ◌+◌, ◌<◌, ◌≤◌, ◌^◌, Bool, true, false, ◌||◌, List, [], ◌∷◌, Some, None, Ok, refl, sym, ap, subst, ◌∙◌, ◌⊎◌, inl, inr, arith}
use Rattle.std.specs.Prelude.{◌==◌, if◌then◌else◌, IsSome}
use Rattle.std.specs.List.{flat_map}
use Rattle.std.proofs.lemmas.Bool.{false≢true, cases_eq, and_from, lt-ltb, or_cases, eqb-true}
use Rattle.mj_base.specs.ObjectName.{stray_ino}
use Rattle.mj_base.specs.Record.{same_kind}
use Rattle.mj_base.specs.declared.record.Kind.TheVariants.{Dir}
use Rattle.mj_maps.specs.Map.{Map, get, insert}
use Rattle.mj_maps.specs.Orders.{nat_cmp}
use Rattle.mj_maps.proofs.MapLaws.{exact_nat, insert_same, insert_other, cases_key, apart}
use Rattle.mj_tree.specs.declared.change.Attributes.{Attributes}
use Rattle.mj_tree.specs.declared.change.Change.TheVariants.{Begin}
use Rattle.mj_tree.specs.declared.change.Decision.TheVariants.{SessionBegins, Accepted}
use Rattle.mj_tree.specs.declared.request.ClientRequest.{ClientRequest}
use Rattle.mj_tree.specs.State.{PlainState, root, is_dir, is_kind, record_of}
use Rattle.mj_tree.specs.Change.{with_new, with_session}
use Rattle.mj_tree.specs.Answer.{decision}
use Rattle.mj_cells.specs.Table.{Table, overlay}
use Rattle.mj_cells.specs.Table.Dentry.{Full}
use Rattle.mj_meta.specs.Blob.{IsBlob, IsLump}
use Rattle.mj_meta.specs.declared.DirLump.{DirLump}
use Rattle.mj_event.specs.Writes.{lump_writes, writes_of}
use Rattle.mj_recovery.specs.Orderly.{IsOwn}
use Rattle.mj_delta.specs.Reads.{is_held}
use Rattle.mj_delta.specs.TreeOf.{HasDentries, IsTreeOf}
use Rattle.mj_delta.specs.Fits.{IsSent}
use Rattle.mj_delta.specs.Events.{open_event, next_version, full_lump, empty_lump, begin_lumps, begin_event}
use Rattle.mj_delta.specs.Steps.{GivesTree}
use Rattle.mj_delta.proofs.Facts.{ids, is_some_at, dir_below}
use Rattle.mj_delta.proofs.NewEntry.{CanBegin, AreHeadsOf, own_more, own_dir, dir_other, table_new, primary_new, matches_new, reached_new}
use Rattle.mj_delta.proofs.Replied.{session_opened}
use Rattle.mj_delta.proofs.Again.{dentries_again, reached_again}
use Rattle.mj_delta.proofs.Decided.{CanOpen, CanChange, meant, effect_found}
use Rattle.std.specs.List.{AllByRecursion}
use Rattle.mj_base.specs.ObjectName.{hex}
use Rattle.mj_recovery.specs.Damage.{lump_dirs}
use Rattle.mj_delta.specs.Steps.{IsOrderlyWrite}
use Rattle.mj_delta.proofs.Facts.{stray_no_dir}
use Rattle.mj_delta.proofs.Accepted.{after_is}
use Rattle.mj_delta.proofs.Updated.{IsPlan, update_gives}

-- ---- a session begins

pub opened_tree : (rank : ℕ) (t : Table) (s : PlainState) (r : ClientRequest) → IsTreeOf rank t s → IsSent r → CanOpen s r → IsTreeOf rank (overlay t (writes_of (open_event r))) (with_session s r)
opened_tree rank t s r is sent can = record {
  primary = is.primary;
  dentries = dentries_again rank t s is.primary (insert t.sessions r.client r.oldest) (insert t.done (r.client, r.tid) 0) (with_session s r).sessions is.dentries;
  sessions = session_opened t s is.sessions r can.none can.room can.own sent.tid;
  reached = λ d h. reached_again s (with_session s r).sessions d (is.reached d h);
}

pub session_begins_gives : (rank : ℕ) (t : Table) (s : PlainState) (r : ClientRequest) → IsTreeOf rank t s → IsSent r → decision s r ≡ SessionBegins → GivesTree rank t s r (open_event r)
session_begins_gives rank t s r is sent d =
    let state = sym (after_is s r SessionBegins d) in
    record {
      grammar = record { ranges = (sent.client, sent.oldest, sent.tid); dropped = (refl, (tt, refl)) };
      tree = subst (IsTreeOf rank (overlay t (writes_of (open_event r)))) state (opened_tree rank t s r is sent (meant s r SessionBegins d));
      lumps = tt;
      next = subst (λ (x : PlainState). s.next ≤ x.next) state (omega arith);
      orderly = ((tt, tt, tt), ((tt, tt, tt), tt));
    }

-- ---- a new inode

module _ (rank : ℕ) (t : Table) (s : PlainState) (is : IsTreeOf rank t s) (q : ℕ × List ℕ) (a : Attributes) (can : CanBegin s q a) where
  abbrev m : HasDentries rank t s is.primary
  m = is.dentries

  abbrev v : ℕ
  v = next_version t q.0

  abbrev new : PlainState
  new = with_new s q a

  abbrev heads_in : Bool → Map nat_cmp ℕ
  heads_in dir = if dir then insert (insert t.heads q.0 v) s.next 1 else insert t.heads q.0 v

  abbrev pub new_heads : Map nat_cmp ℕ
  new_heads = heads_in (same_kind a.kind Dir)

  v_fits : v < 2 ^ 64
  v_fits = omega arith

  not_zero : 0 < v
  not_zero = omega arith

  new_dir : is_dir new s.next ≡ true → same_kind a.kind Dir ≡ true
  new_dir h = elim (or_cases (s.next == root) (is_kind Dir (get new.records s.next)) h) [
    | inl e ↦ absurd (omega (arith, eqb-true s.next root e, (ids rank).root, m.first_next))
    | inr e ↦ sym (ap (is_kind Dir) (insert_same exact_nat s.records s.next a)) ∙ e
  ]

  parent_head : (d : ℕ) → (d ≡ s.next → ⊥) → is_held rank new d ≡ true → IsSome (get (insert t.heads q.0 v) d)
  parent_head d ne held = elim (cases_key exact_nat d q.0) [
    | inl same ↦ is_some_at _ v (ap (get (insert t.heads q.0 v)) same ∙ insert_same exact_nat t.heads q.0 v)
    | inr far ↦ subst (λ o. IsSome o) (sym (insert_other exact_nat t.heads q.0 v d far)) (m.heads d (sym (ap (λ b. b || (d == stray_ino rank)) (dir_other rank t s is.primary m q a v new_heads can d ne)) ∙ held))
  ]

  parent_cases : (d w : ℕ) → get (insert t.heads q.0 v) d ≡ Some w → (d ≡ q.0) ⊎ (get t.heads d ≡ Some w)
  parent_cases d w e = elim (cases_key exact_nat d q.0) [
    | inl same ↦ inl same
    | inr far ↦ inr (sym (insert_other exact_nat t.heads q.0 v d far) ∙ e)
  ]

  head_cases : (dir : Bool) (d w : ℕ) → get (heads_in dir) d ≡ Some w → (d ≡ s.next) ⊎ (get (insert t.heads q.0 v) d ≡ Some w)
  head_cases true d w e = elim (cases_key exact_nat d s.next) [
    | inl same ↦ inl same
    | inr far ↦ inr (sym (insert_other exact_nat (insert t.heads q.0 v) s.next 1 d far) ∙ e)
  ]
  head_cases false d w e = inr e

  held_head : (dir : Bool) → same_kind a.kind Dir ≡ dir → (d : ℕ) → is_held rank new d ≡ true → IsSome (get (heads_in dir) d)
  held_head true e d held = elim (cases_key exact_nat d s.next) [
    | inl same ↦ is_some_at _ 1 (ap (get (heads_in true)) same ∙ insert_same exact_nat (insert t.heads q.0 v) s.next 1)
    | inr ne ↦ subst (λ o. IsSome o) (sym (insert_other exact_nat (insert t.heads q.0 v) s.next 1 d ne)) (parent_head d (apart exact_nat d s.next ne) held)
  ]
  held_head false e d held = elim (cases_eq d s.next) [
    | inl same ↦ absurd (elim (or_cases (is_dir new d) (d == stray_ino rank) held) [
      | inl dir ↦ false≢true (sym e ∙ new_dir (ap (is_dir new) (sym same) ∙ dir))
      | inr in_stray ↦ omega (arith, eqb-true d (stray_ino rank) in_stray, (ids rank).below, m.first_next, same)
    ])
    | inr ne ↦ parent_head d ne held
  ]

  pub are_heads : AreHeadsOf rank new new_heads
  are_heads = record {
    held = λ d held. held_head (same_kind a.kind Dir) refl d held;
    own = λ d w e. elim (head_cases (same_kind a.kind Dir) d w e) [
      | inl x ↦ inr (inr (omega (arith, x, m.first_next), omega (arith, x)))
      | inr old ↦ own_more rank s.next d (elim (parent_cases d w old) [ inl x ↦ subst (IsOwn rank s.next) (sym x) (own_dir rank t s is.primary m q.0 can.parent) | inr older ↦ m.own_heads d w older ])
    ];
  }

  lumps_overlay : (x : Table) → x.heads ≡ t.heads → overlay x (flat_map lump_writes (begin_lumps t s.next q a)) ≡ record x { heads = new_heads; dentries = insert x.dentries q (Full v (record_of s.next 1 a)) }
  lumps_overlay x e = elim (same_kind a.kind Dir) as (λ b. overlay x (flat_map lump_writes (full_lump q.0 v q.1 (record_of s.next 1 a) ∷ (if b then empty_lump s.next ∷ [] else []))) ≡ record x { heads = heads_in b; dentries = insert x.dentries q (Full v (record_of s.next 1 a)) }) [
    | true ↦ λ z. record x { heads = insert (insert (e z) q.0 v) s.next 1; dentries = insert x.dentries q (Full v (record_of s.next 1 a)) }
    | false ↦ λ z. record x { heads = insert (e z) q.0 v; dentries = insert x.dentries q (Full v (record_of s.next 1 a)) }
  ]

  parent_below : q.0 < s.next
  parent_below = dir_below rank t s is.primary m q.0 can.parent

  first_lump : IsLump (full_lump q.0 v q.1 (record_of s.next 1 a))
  first_lump = record {
    dir = omega (arith, parent_below, m.next_fits);
    head = v_fits;
    counts = (omega arith, omega arith, omega arith);
    full = (((v_fits, can.said), tt), and_from _ _ (and_from _ _ (and_from _ _ can.name refl) refl) refl);
    remote = (tt, refl);
    null = (tt, refl);
  }

  next_lump : IsLump (empty_lump s.next)
  next_lump = record { dir = m.next_fits; head = omega arith; counts = (omega arith, omega arith, omega arith); full = (tt, refl); remote = (tt, refl); null = (tt, refl) }

  abbrev lumps_in : Bool → List DirLump
  lumps_in b = full_lump q.0 v q.1 (record_of s.next 1 a) ∷ (if b then empty_lump s.next ∷ [] else [])

  lumps_fit : IsBlob (record { lumps = begin_lumps t s.next q a })
  lumps_fit = elim (same_kind a.kind Dir) as (λ b. IsBlob (record { lumps = lumps_in b })) [
    | true ↦ record { count = omega arith; lumps = ((first_lump, (next_lump, tt)), and_from _ _ refl (and_from _ _ (lt-ltb q.0 s.next parent_below) refl)) }
    | false ↦ record { count = omega arith; lumps = ((first_lump, tt), refl) }
  ]

  parent_own : IsOwn rank new.next q.0
  parent_own = own_more rank s.next q.0 (own_dir rank t s is.primary m q.0 can.parent)

  lumps_own : AllByRecursion (IsOwn rank new.next) (lump_dirs (flat_map lump_writes (begin_lumps t s.next q a)))
  lumps_own = elim (same_kind a.kind Dir) as (λ b. AllByRecursion (IsOwn rank new.next) (lump_dirs (flat_map lump_writes (lumps_in b)))) [
    | true ↦ (parent_own, (inr (inr (m.first_next, omega arith)), tt))
    | false ↦ (parent_own, tt)
  ]

  stray_no : q.0 ≡ stray_ino rank → q.1 ≡ hex s.next
  stray_no e = absurd (false≢true (sym (stray_no_dir rank t s is.primary m) ∙ ap (is_dir s) (sym e) ∙ can.parent))

  head_orderly : (n : ℕ) → 0 < n → n ≡ 0 → ⊥
  head_orderly n lt e = omega (arith, lt, e)

  lumps_orderly : AllByRecursion (IsOrderlyWrite rank) (flat_map lump_writes (begin_lumps t s.next q a))
  lumps_orderly = elim (same_kind a.kind Dir) as (λ b. AllByRecursion (IsOrderlyWrite rank) (flat_map lump_writes (lumps_in b))) [
    | true ↦ ((tt, tt, head_orderly v not_zero), ((m.first_next, stray_no, tt), ((tt, tt, head_orderly 1 (omega arith)), tt)))
    | false ↦ ((tt, tt, head_orderly v not_zero), ((m.first_next, stray_no, tt), tt))
  ]

  abbrev t1 : Table
  t1 = table_new rank t s is.primary m q a v new_heads can

  pub begin_plan : (r : ClientRequest) → IsPlan rank t s r s.next (Begin q a) (Some (s.next + 1)) None None (begin_lumps t s.next q a)
  begin_plan r = record {
    primary = primary_new rank t s is.primary m q a v new_heads can;
    dentries = subst (λ x. HasDentries rank x new (primary_new rank t s is.primary m q a v new_heads can)) (sym (lumps_overlay (record t { next = Some (s.next + 1) }) refl)) (matches_new rank t s is.primary m q a v new_heads can are_heads);
    reached = reached_new rank t s is.primary m q a v new_heads can is.reached;
    sessions = refl;
    opens = is.sessions.open_sessions;
    inode = m.next_fits;
    optionals = (can.next, tt, tt);
    blob = lumps_fit;
    own = lumps_own;
    rises = omega arith;
    orderly = lumps_orderly;
  }

pub inode_begins_gives : (rank : ℕ) (t : Table) (s : PlainState) (r : ClientRequest) (i : ℕ) (q : ℕ × List ℕ) (a : Attributes) → IsTreeOf rank t s → IsSent r → decision s r ≡ Accepted i (Begin q a) → GivesTree rank t s r (begin_event t s r q a)
inode_begins_gives rank t s r i q a is sent d =
    let change = meant s r (Accepted i (Begin q a)) d in
    let found = effect_found s r sent is.dentries.next_fits (Ok (i, Begin q a)) change.done in
    update_gives rank t s is r sent s.next (Begin q a) (subst (λ i. CanChange s r i (Begin q a)) found.0 change) (Some (s.next + 1)) None None (begin_lumps t s.next q a) (begin_plan rank t s is q a found.1 r) (d ∙ ap (λ i. Accepted i (Begin q a)) found.0)
