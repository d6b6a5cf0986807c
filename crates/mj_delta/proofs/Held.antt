-- The events of a rename that moves nothing and of a file that is opened give the tree after the request.
use Rattle.std.proofs.Common.{◌≡◌, ℕ, ◌+◌, ◌<◌, ◌≤◌, ◌^◌, Bool, true, false, cond, ◌||◌, List, [], Some, None, Ok, refl, sym, ap, subst, ◌∙◌, inl, inr, arith}
use Rattle.std.specs.Prelude.{◌==◌, nat_lt, IsSome, is_some, if◌then◌else◌}
use Rattle.std.specs.Option.{option_and_then}
use Rattle.std.proofs.lemmas.Bool.{false≢true, cases_eq, ne_eqb, lt-ltb, ltb-true}
use Rattle.mj_base.specs.Record.{same_kind}
use Rattle.mj_base.specs.declared.record.Kind.{Kind}
use Rattle.mj_base.specs.declared.record.Kind.TheVariants.{Dir, File, Symlink}
use Rattle.mj_base.specs.declared.record.InodeRecord.{InodeRecord}
use Rattle.mj_maps.specs.Map.{Set, get, insert}
use Rattle.mj_maps.specs.Orders.{pair_cmp}
use Rattle.mj_maps.proofs.MapLaws.{exact_pair, insert_other, insert_again, cases_key, count-insert_new, len-insert_new}
use Rattle.mj_tree.specs.declared.change.Change.{Change}
use Rattle.mj_tree.specs.declared.change.Change.TheVariants.{Nothing, Hold}
use Rattle.mj_tree.specs.declared.change.Decision.TheVariants.{Accepted}
use Rattle.mj_tree.specs.declared.request.ClientRequest.{ClientRequest}
use Rattle.mj_tree.specs.State.{PlainState, root, is_dir, is_file, is_symlink, is_kind, is_kept, link_count, open_count, attributes_of}
use Rattle.mj_tree.specs.Row.{is_open}
use Rattle.mj_tree.specs.Change.{changed, with_open}
use Rattle.mj_tree.specs.Answer.{decision}
use Rattle.mj_cells.specs.Table.{Table}
use Rattle.mj_cells.specs.Table.Dentry.{Full}
use Rattle.mj_delta.specs.Reads.{Places, said_by, cell_of}
use Rattle.mj_delta.specs.TreeOf.{IsReached, HasDentries, IsTreeOf}
use Rattle.mj_delta.specs.TreeOf.IsReached.{at_root, below}
use Rattle.mj_delta.specs.Fits.{IsSent}
use Rattle.mj_delta.specs.Events.{nothing_event, hold_event, update_of}
use Rattle.mj_event.specs.declared.Event.TheVariants as event
use Rattle.mj_delta.specs.Steps.{GivesTree}
use Rattle.mj_delta.proofs.Facts.{cases_option, is_some_at, full_cell, link_primary, link_range}
use Rattle.mj_delta.proofs.OneTree.{link_kept}
use Rattle.mj_delta.proofs.Decided.{CanHold, IsLinked, meant, effect_found}
use Rattle.mj_delta.proofs.Updated.{IsPlan, update_gives}

-- ---- what has a link has a record

pub record HasRecord (t : Table) (s : PlainState) (primary : Places) (i : ℕ) : Type 0 where
  pub place : ℕ × List ℕ
  pub version : ℕ
  pub inode : InodeRecord
  pub stands : get primary i ≡ Some place
  pub full : get t.dentries place ≡ Some (Full version inode)
  pub ino : inode.ino ≡ i
  pub said : get s.records i ≡ Some (attributes_of inode)

module _ (rank : ℕ) (t : Table) (s : PlainState) (primary : Places) (m : HasDentries rank t s primary) (i : ℕ) (linked : IsLinked s i) where
  pub linked_record : HasRecord t s primary i
  linked_record =
      let p = link_primary rank t s primary m linked.place i linked.link in
      let f = full_cell (get t.dentries p.0) i (m.primary_full i p.0 p.1) in
      record {
        place = p.0;
        version = f.0;
        inode = f.1;
        stands = p.1;
        full = f.2;
        ino = f.3;
        said = m.records i ∙ ap (λ b. cond b (said_by (cell_of t primary i)) None) (link_kept rank t s primary m linked.place i linked.link) ∙ ap said_by (ap (option_and_then (get t.dentries)) p.1 ∙ f.2);
      }

  pub linked_fits : i < 2 ^ 64
  linked_fits = let l = link_range rank t s primary m linked.place i linked.link in omega (arith, l.1, m.next_fits)

  -- it is a file, where it is no directory and no symlink
  pub linked_file : is_dir s i ≡ false → is_symlink s i ≡ false → is_file s i ≡ true
  linked_file no_dir no_symlink =
      let r = linked_record in
      ap (is_kind File) r.said ∙ file_kind r.inode.kind
      (or_none (i == root) _ (sym (ap (λ o. (i == root) || is_kind Dir o) r.said) ∙ no_dir))
      (sym (ap (is_kind Symlink) r.said) ∙ no_symlink)
    where
      or_none : (a b : Bool) → (a || b) ≡ false → b ≡ false
      or_none true b e = absurd (false≢true (sym e))
      or_none false b e = e

      file_kind : (k : Kind) → same_kind k Dir ≡ false → same_kind k Symlink ≡ false → same_kind k File ≡ true
      file_kind Dir d l = absurd (false≢true (sym d))
      file_kind File d l = refl
      file_kind Symlink d l = absurd (false≢true (sym l))

-- ---- a change that changes nothing

pub same_plan : (rank : ℕ) (t : Table) (s : PlainState) (is : IsTreeOf rank t s) (r : ClientRequest) (i : ℕ) (change : Change) → changed s change ≡ s → i < 2 ^ 64 → IsPlan rank t s r i change None None None []
same_plan rank t s is r i change same fits = record {
  primary = is.primary;
  dentries = subst (λ x. HasDentries rank t x is.primary) (sym same) is.dentries;
  reached = subst (λ x. (d : ℕ) → is_dir x d ≡ true → IsReached x d) (sym same) is.reached;
  sessions = ap (λ (x : PlainState). x.sessions) same;
  opens = subst (λ (x : PlainState). (client j : ℕ) → IsSome (get x.opens (client, j)) → IsSome (get s.sessions client)) (sym same) is.sessions.open_sessions;
  inode = fits;
  optionals = (tt, tt, tt);
  blob = record { count = omega arith; lumps = (tt, refl) };
  own = tt;
  rises = subst (λ (x : PlainState). s.next ≤ x.next) (sym same) (omega arith);
  orderly = tt;
}

pub nothing_gives : (rank : ℕ) (t : Table) (s : PlainState) (r : ClientRequest) (i : ℕ) → IsTreeOf rank t s → IsSent r → decision s r ≡ Accepted i Nothing → GivesTree rank t s r (nothing_event s r i)
nothing_gives rank t s r i is sent d =
    let can = meant s r (Accepted i Nothing) d in
    let linked = effect_found s r sent is.dentries.next_fits (Ok (i, Nothing)) can.done in
    update_gives rank t s is r sent i Nothing can None None None [] (same_plan rank t s is r i Nothing refl (linked_fits rank t s is.primary is.dentries i linked)) d

-- ---- a file is opened

module _ (rank : ℕ) (t : Table) (s : PlainState) (is : IsTreeOf rank t s) (client i : ℕ) (can : CanHold s client i) (session : IsSome (get s.sessions client)) where
  abbrev m : HasDentries rank t s is.primary
  m = is.dentries

  file : is_file s i ≡ true
  file = linked_file rank t s is.primary m i can.linked can.no_dir can.no_symlink

  already : is_open s client i ≡ true → with_open s client i ≡ s
  already h = elim (cases_option (get s.opens (client, i))) [
    | inl none ↦ absurd (false≢true (sym (ap is_some none) ∙ h))
    | inr w ↦ λ z. record s { opens = insert_again exact_pair s.opens (client, i) tt w.1 z }
  ]

  module _ (fresh : get s.opens (client, i) ≡ None) where
    abbrev held : PlainState
    held = with_open s client i

    abbrev counts_open : ℕ → (ℕ × ℕ) × Unit {0} → Bool
    counts_open j e = e.0.1 == j

    open_more : (j : ℕ) → open_count held j ≡ open_count s j + cond (i == j) 1 0
    open_more j = count-insert_new exact_pair (counts_open j) s.opens (client, i) tt fresh

    kept_same : (j : ℕ) → is_kept held j ≡ is_kept s j
    kept_same j = elim (cases_eq i j) [
      | inl same ↦ subst (λ j. is_kept held j ≡ is_kept s j) same (
          let kept = link_kept rank t s is.primary m can.linked.place i can.linked.link in
          let some = ltb-true 0 (link_count s i + open_count s i) kept in
          let more = open_more i in
          let grows : open_count s i ≤ open_count held i = omega (arith, more) in
          lt-ltb 0 (link_count s i + open_count held i) (omega (arith, some, grows)) ∙ sym kept)
      | inr ne ↦
          let none : cond (i == j) 1 0 ≡ 0 = ap (λ b. cond {A = ℕ} b 1 0) (ne_eqb i j ne) in
          let same : open_count held j ≡ open_count s j = omega (arith, open_more j, none) in
          ap (λ n. nat_lt 0 (link_count s j + n)) same
    ]

    held_dentries : HasDentries rank (record t { opens = insert t.opens (client, i) tt }) held is.primary
    held_dentries = record {
      links = m.links;
      records = λ j. m.records j ∙ ap (λ b. cond b (said_by (cell_of t is.primary j)) None) (sym (kept_same j));
      primary_held = m.primary_held;
      primary_full = m.primary_full;
      each_primary = m.each_primary;
      remote_kind = m.remote_kind;
      remote_no_dir = m.remote_no_dir;
      counts = m.counts;
      next = m.next;
      first_next = m.first_next;
      next_fits = m.next_fits;
      above = m.above;
      beneath = m.beneath;
      own_cells = m.own_cells;
      stray_names = m.stray_names;
      heads = m.heads;
      own_heads = m.own_heads;
      opens = ap (λ (x : Set pair_cmp). insert x (client, i) tt) m.opens;
      open_files = λ d j h. elim (cases_key exact_pair (d, j) (client, i)) [
        | inl same ↦ ap (is_file s) (ap (λ (k : ℕ × ℕ). k.1) same) ∙ file
        | inr ne ↦ m.open_files d j (subst (λ o. IsSome o) (insert_other exact_pair s.opens (client, i) tt (d, j) ne) h)
      ];
      few_entries = m.few_entries;
      few_inodes = m.few_inodes;
      few_opens = omega (arith, len-insert_new exact_pair s.opens (client, i) tt fresh, can.room (ap is_some fresh));
      names_fit = m.names_fit;
      records_fit = m.records_fit;
    }

    held_reached : (d : ℕ) → IsReached s d → IsReached held d
    held_reached _ at_root = at_root
    held_reached _ (below d n j r l h) = below d n j (held_reached d r) l h

    held_sessions : (d j : ℕ) → IsSome (get held.opens (d, j)) → IsSome (get s.sessions d)
    held_sessions d j h = elim (cases_key exact_pair (d, j) (client, i)) [
      | inl same ↦ subst (λ d. IsSome (get s.sessions d)) (ap (λ (k : ℕ × ℕ). k.0) (sym same)) session
      | inr ne ↦ is.sessions.open_sessions d j (subst (λ o. IsSome o) (insert_other exact_pair s.opens (client, i) tt (d, j) ne) h)
    ]

  pub hold_plan : (r : ClientRequest) → client ≡ r.client → IsPlan rank t s r i (Hold client i) None (if is_open s client i then None else Some i) None []
  hold_plan r whose = elim (is_open s client i) as (λ b. is_open s client i ≡ b → IsPlan rank t s r i (Hold client i) None (if b then None else Some i) None []) [
    | true ↦ λ e. same_plan rank t s is r i (Hold client i) (already e) (linked_fits rank t s is.primary m i can.linked)
    | false ↦ λ e. elim (cases_option (get s.opens (client, i))) [
      | inr w ↦ absurd (false≢true (sym e ∙ ap is_some w.1))
      | inl fresh ↦ record {
        primary = is.primary;
        dentries = subst (λ c. HasDentries rank (record t { opens = insert t.opens (c, i) tt }) (with_open s client i) is.primary) whose (held_dentries fresh);
        reached = λ d h. held_reached fresh d (is.reached d h);
        sessions = refl;
        opens = held_sessions fresh;
        inode = linked_fits rank t s is.primary m i can.linked;
        optionals = (tt, linked_fits rank t s is.primary m i can.linked, tt);
        blob = record { count = omega arith; lumps = (tt, refl) };
        own = tt;
        rises = omega arith;
        orderly = tt;
      }
    ]
  ] refl

pub hold_gives : (rank : ℕ) (t : Table) (s : PlainState) (r : ClientRequest) (i client j : ℕ) → IsTreeOf rank t s → IsSent r → decision s r ≡ Accepted i (Hold client j) → GivesTree rank t s r (hold_event s r i)
hold_gives rank t s r i client j is sent d =
    let can = meant s r (Accepted i (Hold client j)) d in
    let found = effect_found s r sent is.dentries.next_fits (Ok (i, Hold client j)) can.done in
    let session : IsSome (get s.sessions client) = is_some_at _ can.inside.session (ap (get s.sessions) found.1 ∙ can.inside.there) in
    let gives = update_gives rank t s is r sent i (Hold client j) can None (if is_open s client j then None else Some j) None []
    (subst (λ i. IsPlan rank t s r i (Hold client j) None (if is_open s client j then None else Some j) None []) found.0 (hold_plan rank t s is client j found.2 session r found.1)) d in
    subst (λ c. GivesTree rank t s r (event.Update (update_of s r i None (if is_open s c i then None else Some i) None []))) found.1
    (subst (λ k. GivesTree rank t s r (event.Update (update_of s r i None (if is_open s client k then None else Some k) None []))) found.0 gives)
