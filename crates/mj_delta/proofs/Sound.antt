-- A table with a tree has no damage.
use Rattle.std.proofs.Common.{◌≡◌, ℕ, ◌+◌, ◌<◌, ◌≤◌, Bool, true, false, cond, ◌||◌, ◌&&◌, T, List, [], ◌∷◌, ◌++◌, length, map, Option, Some, None, refl, sym, ap, subst, ◌∙◌, inl, inr, arith, not}
use Rattle.std.specs.Prelude.{◌==◌, nat_lt, if◌then◌else◌, unwrap_or, is_none}
use Rattle.std.specs.Option.{option_and_then, option_map, option_map_or}
use Rattle.std.specs.Cmp.{tied_itself}
use Rattle.std.specs.List.{filter, filter_map, cons_option, AllByRecursion}
use Rattle.std.specs.Ordering.{is_lt, ordering_then}
use Rattle.std.specs.FinMap.Entries.{is_sorted, below_all}
use Rattle.std.proofs.lemmas.Bool.{false≢true, eqb-true, eq-eqb, or_cases, and_from, ltb-true, lt-ltb, le-leb, le-ltb, cases_Bool}
use Rattle.std.proofs.lemmas.Cmp.{nat_list_eq_equiv}
use Rattle.std.specs.declared.cmp.Ordering.TheVariants.{Equal}
use Rattle.mj_base.specs.InOrder.{same_bytes}
use Rattle.mj_base.specs.ObjectName.{hex, stray_ino, first_ino}
use Rattle.mj_base.specs.Record.{same_kind}
use Rattle.mj_base.specs.declared.record.Kind.{Kind}
use Rattle.mj_base.specs.declared.record.InodeRecord.{InodeRecord}
use Rattle.mj_base.specs.declared.damage.Damage.{Damage}
use Rattle.mj_base.specs.declared.damage.Damage.TheVariants as damage
use Rattle.mj_maps.specs.Map.{Map, entries, entries_sorted, get, remove, len, count, passing, both_true, left_true, right_true}
use Rattle.mj_maps.specs.Orders.{nat_cmp, pair_cmp}
use Rattle.mj_maps.proofs.MapLaws.{exact_nat, exact_place, exact_pair, none_some, some_same, count_cases, count_none, count-remove, remove_same, remove_other, cases_key, len-from_entries}
use Rattle.mj_tree.specs.State.{PlainState, Session, root, is_file, link_count, entry_count}
use Rattle.mj_tree.specs.Sessions.{oldest_of}
use Rattle.mj_tree.specs.Row.{most_entries, most_inodes, most_opens}
use Rattle.mj_tree.specs.Answer.{most_sessions, most_kept, kept_reply}
use Rattle.mj_cells.specs.Table.{Dentry, Table}
use Rattle.mj_cells.specs.Table.Dentry.{Full, Remote}
use Rattle.mj_recovery.specs.Tree.{Entry, ino_of, is_among, reachable, holding, full_record, full_records, reply_of}
use Rattle.mj_recovery.specs.Damage.{first_some, least, times, inos, headless, twice, is_full_of, lone_remote, miscounted, is_given, misnamed, is_known, low_next, out_of_range, is_bad_open, bad_opens, first_open, replies, is_bad_reply, bad_replies, over, over_entries, over_limit, tree_damage, cell_dirs}
use Rattle.mj_recovery.specs.Orderly.{IsOwn}
use Rattle.mj_delta.specs.Reads.{names, full_of, said_by, stored_links, remote_of, kind_of}
use Rattle.mj_delta.specs.TreeOf.{HasDentries, IsTreeOf}
use Rattle.mj_delta.proofs.Facts.{ids, cases_option, cond_same, some_is, is_some_at, full_cell}
use Rattle.mj_delta.proofs.Lists.{Lies, no_items, all_lies, lies_all, in_append, in_map, in_filter, in_filter_map, to_any, lies_among, entry_at, passing_option}
use Rattle.mj_delta.proofs.TreeIs.{full_entry, among_dirs, among_held, fulls, listed_full, full_listed, tree_is, kept_are}

-- ---- counts of a list

not_true : (b : Bool) → not b ≡ true → b ≡ true → ⊥
not_true true e h = false≢true e
not_true false e h = false≢true h

pub times_passing : (i : ℕ) (rs : List InodeRecord) → times i (inos rs) ≡ passing (λ (r : InodeRecord). i == r.ino) rs
times_passing i [] = refl
times_passing i (r ∷ rs) = elim (i == r.ino) as (λ b. (if b then times i (inos rs) + 1 else times i (inos rs)) ≡ cond b 1 0 + passing (λ (r : InodeRecord). i == r.ino) rs) [
  | true ↦ let rest = times_passing i rs in omega (arith, rest)
  | false ↦ let rest = times_passing i rs in omega (arith, rest)
]

pub replies_passing : (client : ℕ) (es : List ((ℕ × ℕ) × ℕ)) → passing (λ (e : (ℕ × ℕ) × ℕ). e.0.0 == client) es ≡ length (filter_map (reply_of client) es)
replies_passing client [] = refl
replies_passing client (e ∷ es) = elim (e.0.0 == client) as (λ b. cond b 1 0 + passing (λ (e : (ℕ × ℕ) × ℕ). e.0.0 == client) es ≡ length (cons_option (if b then Some (e.0.1, e.1) else None) (filter_map (reply_of client) es))) [
  | true ↦ let rest = replies_passing client es in omega (arith, rest)
  | false ↦ let rest = replies_passing client es in omega (arith, rest)
]

module _ (client : ℕ) where
  below_replies : (k : ℕ × ℕ) (es : List ((ℕ × ℕ) × ℕ)) → k.0 ≡ client → T (below_all pair_cmp k es) → T (below_all nat_cmp k.1 (filter_map (reply_of client) es))
  below_replies k [] p h = tt
  below_replies k (e ∷ es) p h =
      let rest = below_replies k es p (right_true _ _ h) in
      elim (e.0.0 == client) as (λ b. (e.0.0 == client) ≡ b → T (below_all nat_cmp k.1 (cons_option (cond b (Some (e.0.1, e.1)) None) (filter_map (reply_of client) es)))) [
        | true ↦ λ q.
            let same : k.0 ≡ e.0.0 = p ∙ sym (eqb-true e.0.0 client q) in
            let ties = subst (λ n. nat_cmp k.0 n ≡ Equal) same (tied_itself exact_nat.total k.0) in
            both_true _ _ (subst (λ o. T (is_lt (ordering_then o (nat_cmp k.1 e.0.1)))) ties (left_true _ _ h)) rest
        | false ↦ λ q. rest
      ] refl

  pub sorted_in : (es : List ((ℕ × ℕ) × ℕ)) → T (is_sorted pair_cmp es) → T (is_sorted nat_cmp (filter_map (reply_of client) es))
  sorted_in [] h = tt
  sorted_in (e ∷ es) h =
      let rest = sorted_in es (right_true _ _ h) in
      elim (e.0.0 == client) as (λ b. (e.0.0 == client) ≡ b → T (is_sorted nat_cmp (cons_option (cond b (Some (e.0.1, e.1)) None) (filter_map (reply_of client) es)))) [
        | true ↦ λ q. both_true _ _ (below_replies e.0 es (eqb-true e.0.0 client q) (left_true _ _ h)) rest
        | false ↦ λ q. rest
      ] refl

no_least : (row : ℕ → Damage) (xs : List ℕ) → ((x : ℕ) → Lies x xs → ⊥) → option_map row (least xs) ≡ None
no_least row xs h = ap (λ ys. option_map row (least ys)) (no_items xs h)

module _ (rank : ℕ) (t : Table) (s : PlainState) (is : IsTreeOf rank t s) where
  abbrev m : HasDentries rank t s is.primary
  m = is.dentries

  abbrev es : List Entry
  es = entries t.dentries

  abbrev rs : List InodeRecord
  rs = fulls rank t s is

  -- ---- row by row

  headed : (d : ℕ) → Lies d (headless (get t.heads) (holding rank t)) → ⊥
  headed d l =
      let w = in_filter (λ d. is_none (get t.heads d)) (holding rank t) d l in
      let h = some_is (get t.heads d) (m.heads d (sym (among_held rank t s is d) ∙ lies_among (holding rank t) d w.0)) in
      false≢true (sym (ap is_none h.1) ∙ w.1)

  full_high : (r : InodeRecord) → Lies r rs → first_ino rank ≤ r.ino
  full_high r l = let f = listed_full rank t s is r l in m.above r.ino f.0 f.3

  abbrev is_of : ℕ → Entry → Bool
  is_of i e = option_map_or (λ (r : InodeRecord). i == r.ino) (full_record (holding rank t) e) false

  of_place : (i : ℕ) (q : ℕ × List ℕ) (d : Dentry) → get t.dentries q ≡ Some d → is_of i (q, d) ≡ true → get is.primary i ≡ Some q
  of_place i q d at h = elim (full_record (holding rank t) (q, d)) as (λ o. full_record (holding rank t) (q, d) ≡ o → option_map_or (λ (r : InodeRecord). i == r.ino) o false ≡ true → get is.primary i ≡ Some q) [
    | None ↦ λ e f. absurd (false≢true f)
    | Some r ↦ λ e f.
        let w = full_entry (holding rank t) q d r e in
        m.each_primary i q (sym (among_held rank t s is q.0) ∙ w.0) (ap full_of (at ∙ ap Some w.1.1) ∙ ap Some (sym (eqb-true i r.ino f)))
  ] refl h

  once : (i : ℕ) → times i (inos rs) ≤ 1
  once i =
      let counted = times_passing i rs ∙ passing_option (full_record (holding rank t)) (λ (r : InodeRecord). i == r.ino) es in
      elim (count_cases exact_place (is_of i) t.dentries) [
        | inl zero ↦ omega (arith, counted, zero)
        | inr w ↦
            let rest = count_none exact_place (is_of i) (remove t.dentries w.0) (λ k d e h.
            elim (cases_key exact_place k w.0) [
              | inl same ↦ none_some d (sym (remove_same exact_place t.dentries w.0) ∙ ap (get (remove t.dentries w.0)) (sym same) ∙ e)
              | inr ne ↦
                  let at = sym (remove_other exact_place t.dentries w.0 k ne) ∙ e in
                  let there = some_same k w.0 (sym (of_place i k d at h) ∙ of_place i w.0 w.1 w.2 w.3) in
                  none_some d (sym (remove_same exact_place t.dentries w.0) ∙ ap (get (remove t.dentries w.0)) (sym there) ∙ e)
            ]) in
            let less = count-remove exact_place (is_of i) t.dentries w.0 w.1 w.2 in
            omega (arith, counted, rest, ap (λ b. count (is_of i) (remove t.dentries w.0) + cond b 1 0) (sym w.3) ∙ less)
      ]

  alone : (i : ℕ) → Lies i (twice (inos rs)) → ⊥
  alone i l =
      let w = in_filter (λ i. (i == root) || nat_lt 1 (times i (inos rs))) (inos rs) i l in
      let back = in_map (λ (r : InodeRecord). r.ino) rs i w.0 in
      elim (or_cases (i == root) (nat_lt 1 (times i (inos rs))) w.1) [
        | inl e ↦ omega (arith, eqb-true i root e, back.2, full_high back.0 back.1, (ids rank).root)
        | inr more ↦ omega (arith, once i, ltb-true 1 (times i (inos rs)) more)
      ]

  remote_at : (q : ℕ × List ℕ) (d : Dentry) (i : ℕ) → get t.dentries q ≡ Some d → lone_remote (reachable t) rs (q, d) ≡ Some i → ⊥
  remote_at q (Full v r) i at h = none_some i (sym (cond_same (is_among (reachable t) q.0) None) ∙ h)
  remote_at q (Remote v j k) i at h = elim (cases_Bool (is_among (reachable t) q.0)) [
    | inr out ↦ none_some i (sym (ap (λ b. if b then (if is_full_of j k rs then None else Some j) else None) out) ∙ h)
    | inl dir ↦
        let kind = m.remote_kind q j k (sym (among_dirs rank t s is q.0) ∙ dir) (ap remote_of at) in
        elim (cases_option (get is.primary j)) [
          | inl none ↦ none_some k (ap (λ (o : Option (ℕ × List ℕ)). kind_of (said_by (option_and_then (get t.dentries) o))) (sym none) ∙ kind)
          | inr p ↦
              let f = full_cell (get t.dentries p.0) j (m.primary_full j p.0 p.1) in
              let its : f.1.kind ≡ k = some_same f.1.kind k (ap (λ o. kind_of (said_by o)) (sym (ap (option_and_then (get t.dentries)) p.1 ∙ f.2)) ∙ kind) in
              let there = to_any (λ (r : InodeRecord). (r.ino == j) && same_kind r.kind k) rs f.1 (full_listed rank t s is p.0 f.0 f.1 (m.primary_held j p.0 p.1) f.2)
              (and_from _ _ (eq-eqb f.1.ino j f.3) (ap (λ x. same_kind x k) its ∙ kind_itself k)) in
              none_some i (sym (λ z. if dir z then (if there z then None else Some j) else None) ∙ h)
        ]
  ]
    where
      kind_itself : (k : Kind) → same_kind k k ≡ true
      kind_itself k = eq-eqb _ _ refl

  not_lone : (i : ℕ) → Lies i (filter_map (lone_remote (reachable t) rs) es) → ⊥
  not_lone i l = let w = in_filter_map (lone_remote (reachable t) rs) es i l in remote_at w.0.0 w.0.1 i (entry_at exact_place t.dentries w.0 w.1) w.2

  counted : (i : ℕ) → Lies i (miscounted (link_count s) rs) → ⊥
  counted i l =
      let back = in_map (λ (r : InodeRecord). r.ino) (filter (λ (r : InodeRecord). not (r.links == link_count s r.ino)) rs) i l in
      let w = in_filter (λ (r : InodeRecord). not (r.links == link_count s r.ino)) rs back.0 back.1 in
      let f = listed_full rank t s is back.0 w.0 in
      not_true _ w.1 (eq-eqb back.0.links (link_count s back.0.ino) (ap stored_links (sym f.2) ∙ m.counts back.0.ino f.0 f.3))

  known : (d : ℕ) → IsOwn rank s.next d → is_known rank s.next d ≡ true
  known d (inl e) = ap (λ b. b || (d == stray_ino rank) || is_given rank s.next d) (eq-eqb d root e)
  known d (inr (inl e)) = elim (d == root) as (λ b. (b || (d == stray_ino rank) || is_given rank s.next d) ≡ true) [ true ↦ refl | false ↦ ap (λ b. b || is_given rank s.next d) (eq-eqb d (stray_ino rank) e) ]
  known d (inr (inr given)) =
      let there : is_given rank s.next d ≡ true = and_from _ _ (le-leb (first_ino rank) d given.0) (lt-ltb d s.next given.1) in
      elim (d == root) as (λ b. (b || (d == stray_ino rank) || is_given rank s.next d) ≡ true) [
        | true ↦ refl
        | false ↦ elim (d == stray_ino rank) as (λ b. (b || is_given rank s.next d) ≡ true) [ true ↦ refl | false ↦ there ]
      ]

  named : (q : ℕ × List ℕ) (d : Dentry) (i : ℕ) → get t.dentries q ≡ Some d → misnamed rank (q, d) ≡ Some i → ⊥
  named q d i at h = elim (cases_Bool (q.0 == stray_ino rank)) [
    | inr out ↦ none_some i (sym (ap (λ b. if b && not (same_bytes q.1 (hex (ino_of d))) then Some (ino_of d) else None) out) ∙ h)
    | inl in_stray ↦
        let place : (stray_ino rank, q.1) ≡ q = λ z. (sym (eqb-true q.0 (stray_ino rank) in_stray) z, q.1) in
        let name = m.stray_names q.1 (ino_of d) (ap (λ (q : ℕ × List ℕ). names (get t.dentries q)) place ∙ ap names at) in
        let same : same_bytes q.1 (hex (ino_of d)) ≡ true = subst (λ n. same_bytes q.1 n ≡ true) name (nat_list_eq_equiv.refl q.1) in
        none_some i (sym (λ z. if in_stray z && not (same z) then Some (ino_of d) else None) ∙ h)
  ]

  abbrev not_given : List ℕ
  not_given = filter (λ i. not (is_given rank s.next i)) (inos rs)

  abbrev not_known : List ℕ → List ℕ
  not_known lumps = filter (λ d. not (is_known rank s.next d)) lumps

  in_range : (lumps : List ℕ) → AllByRecursion (IsOwn rank s.next) lumps → (i : ℕ) → Lies i (out_of_range rank s.next (inos rs) lumps es) → ⊥
  in_range lumps all i l = elim (in_append (low_next rank s.next ++ not_given ++ not_known lumps) (filter_map (misnamed rank) es) i l) [
    | inr c ↦ let w = in_filter_map (misnamed rank) es i c in named w.0.0 w.0.1 i (entry_at exact_place t.dentries w.0 w.1) w.2
    | inl l ↦ elim (in_append (low_next rank s.next ++ not_given) (not_known lumps) i l) [
      | inr b ↦ let w = in_filter (λ d. not (is_known rank s.next d)) lumps i b in not_true _ w.1 (known i (all_lies (IsOwn rank s.next) lumps all i w.0))
      | inl l ↦ elim (in_append (low_next rank s.next) not_given i l) [
        | inl low ↦ no_low low
        | inr a ↦
            let w = in_filter (λ i. not (is_given rank s.next i)) (inos rs) i a in
            let back = in_map (λ (r : InodeRecord). r.ino) rs i w.0 in
            let f = listed_full rank t s is back.0 back.1 in
            not_true _ w.1 (and_from _ _ (le-leb (first_ino rank) i (subst (λ n. first_ino rank ≤ n) back.2 (full_high back.0 back.1))) (lt-ltb i s.next (subst (λ n. n < s.next) back.2 (m.beneath back.0.ino f.0 f.3))))
      ]
    ]
  ]
    where
      no_low : Lies i (low_next rank s.next) → ⊥
      no_low = subst (λ b. Lies i (if b then s.next ∷ [] else []) → ⊥) (sym (le-ltb s.next (first_ino rank) m.first_next)) (λ l. l)

  -- ---- opens and replies

  good_open : (o : ℕ × ℕ) → Lies o (bad_opens (get t.sessions) (is_file s) (map (λ (o : (ℕ × ℕ) × Unit {0}). o.0) (entries t.opens))) → ⊥
  good_open o l =
      let w = in_filter (is_bad_open (get t.sessions) (is_file s)) _ o l in
      let back = in_map (λ (o : (ℕ × ℕ) × Unit {0}). o.0) (entries t.opens) o w.0 in
      let at = is_some_at _ tt (ap (get s.opens) (sym back.2) ∙ ap (λ (x : Map pair_cmp (Unit {0})). get x back.0.0) (sym m.opens) ∙ entry_at exact_pair t.opens back.0 back.1) in
      let c = some_is (get s.sessions o.0) (is.sessions.open_sessions o.0 o.1 at) in
      let there = is.sessions.sessions o.0 ∙ ap oldest_of c.1 in
      false≢true (sym (λ z. is_none (there z) || not (m.open_files o.0 o.1 at z)) ∙ w.1)

  few : (client : ℕ) (x : Session) → get s.sessions client ≡ Some x → replies (entries t.done) client ≤ most_kept
  few client x e =
      let n = replies_passing client (entries t.done) in
      let sorted = sorted_in client (entries t.done) (entries_sorted t.done) in
      let l = len-from_entries exact_nat (filter_map (reply_of client) (entries t.done)) sorted in
      let same = ap len (kept_are rank t s is client x e) in
      omega (arith, n, l, same, is.sessions.few_replies client x e)

  good_reply_at : (client tid i : ℕ) (x : Session) → get s.sessions client ≡ Some x → get x.kept tid ≡ Some i → is_bad_reply (get t.sessions) (entries t.done) ((client, tid), i) ≡ false
  good_reply_at client tid i x e k =
      let oldest = is.sessions.sessions client ∙ ap oldest_of e in
      let above = is.sessions.not_below client x tid i e k in
      ap (λ o. by o) oldest ∙ (λ z. le-ltb tid x.oldest above z || le-ltb most_kept (replies (entries t.done) client) (few client x e) z)
    where
      by : Option ℕ → Bool
      by None = true
      by (Some first) = nat_lt tid first || nat_lt most_kept (replies (entries t.done) client)

  good_reply : (c : ℕ) → Lies c (bad_replies (get t.sessions) (entries t.done)) → ⊥
  good_reply c l =
      let back = in_map (λ (e : (ℕ × ℕ) × ℕ). e.0.0) (filter (is_bad_reply (get t.sessions) (entries t.done)) (entries t.done)) c l in
      let w = in_filter (is_bad_reply (get t.sessions) (entries t.done)) (entries t.done) back.0 back.1 in
      let e = back.0 in
      let kept : kept_reply s e.0.0 e.0.1 ≡ Some e.1 = sym (is.sessions.replies e.0.0 e.0.1) ∙ entry_at exact_pair t.done e w.0 in
      elim (cases_option (get s.sessions e.0.0)) [
        | inl none ↦ none_some e.1 (sym (ap (option_and_then (λ (c : Session). get c.kept e.0.1)) none) ∙ kept)
        | inr x ↦ false≢true (sym (good_reply_at e.0.0 e.0.1 e.1 x.0 x.1 (sym (ap (option_and_then (λ (c : Session). get c.kept e.0.1)) x.1) ∙ kept)) ∙ w.1)
      ]

  -- ---- limits

  not_over : (limit n : ℕ) → n ≤ limit → over limit n ≡ None
  not_over limit n h = ap (λ b. if b then Some n else None) (le-ltb limit n h)

  dirs_fit : (dirs : List ℕ) → over_entries (entry_count s) dirs ≡ None
  dirs_fit dirs = ap (λ ds. option_map (entry_count s) (least ds)) (no_items (filter (λ d. nat_lt most_entries (entry_count s d)) dirs) (λ d l.
      let w = in_filter (λ d. nat_lt most_entries (entry_count s d)) dirs d l in
      false≢true (sym (le-ltb most_entries (entry_count s d) (m.few_entries d)) ∙ w.1)))

  within : (dirs : List ℕ) → over_limit s dirs ≡ None
  within dirs = λ z. first_some (dirs_fit dirs z ∷ not_over most_inodes (len s.records) m.few_inodes z ∷ not_over most_sessions (len s.sessions) is.sessions.few_sessions z ∷ not_over most_opens (len s.opens) m.few_opens z ∷ [])

  abbrev rows : Table → PlainState → ℕ → List ℕ → List (Option Damage)
  rows t s next lumps =
      option_map damage.DirfragMissing (least (headless (get t.heads) (holding rank t)))
      ∷ option_map damage.TwoPrimaries (least (twice (inos (full_records (holding rank t) (entries t.dentries)))))
      ∷ option_map damage.NoPrimary (least (filter_map (lone_remote (reachable t) (full_records (holding rank t) (entries t.dentries))) (entries t.dentries)))
      ∷ option_map damage.BadLinks (least (miscounted (link_count s) (full_records (holding rank t) (entries t.dentries))))
      ∷ option_map damage.BadNext (least (out_of_range rank next (inos (full_records (holding rank t) (entries t.dentries))) lumps (entries t.dentries)))
      ∷ first_open (bad_opens (get t.sessions) (is_file s) (map (λ (o : (ℕ × ℕ) × Unit {0}). o.0) (entries t.opens)))
      ∷ option_map damage.BadSession (least (bad_replies (get t.sessions) (entries t.done)))
      ∷ option_map damage.OverLimit (over_limit s (reachable t))
      ∷ []

  no_rows : (lumps : List ℕ) → AllByRecursion (IsOwn rank s.next) lumps → first_some (rows t s s.next lumps) ≡ None
  no_rows lumps all = λ z. first_some (
      no_least damage.DirfragMissing (headless (get t.heads) (holding rank t)) headed z
      ∷ no_least damage.TwoPrimaries (twice (inos rs)) alone z
      ∷ no_least damage.NoPrimary (filter_map (lone_remote (reachable t) rs) es) not_lone z
      ∷ no_least damage.BadLinks (miscounted (link_count s) rs) counted z
      ∷ no_least damage.BadNext (out_of_range rank s.next (inos rs) lumps es) (in_range lumps all) z
      ∷ ap first_open (no_items _ good_open) z
      ∷ no_least damage.BadSession (bad_replies (get t.sessions) (entries t.done)) good_reply z
      ∷ ap (option_map damage.OverLimit) (within (reachable t)) z
      ∷ [])

  -- where the directories of lumps are the rank's own
  pub no_damage : (lumps : List ℕ) → AllByRecursion (IsOwn rank s.next) lumps → tree_damage rank t lumps ≡ None
  unfolding tree_damage
  no_damage lumps all = (λ z. first_some (rows t (tree_is rank t s is z) (ap (λ o. unwrap_or o 0) m.next z) lumps)) ∙ no_rows lumps all

  -- each directory with a cell is the rank's own
  pub own_cell_dirs : AllByRecursion (IsOwn rank s.next) (cell_dirs t)
  own_cell_dirs = lies_all (IsOwn rank s.next) (cell_dirs t) (λ d l. elim (in_append (map (λ (e : Entry). e.0.0) es) _ d l) [
    | inl a ↦ let w = in_map (λ (e : Entry). e.0.0) es d a in subst (IsOwn rank s.next) w.2 (m.own_cells w.0.0 (is_some_at _ w.0.1 (entry_at exact_place t.dentries w.0 w.1)))
    | inr b ↦ let w = in_map (λ (e : ℕ × ℕ). e.0) (entries t.heads) d b in subst (IsOwn rank s.next) w.2 (m.own_heads w.0.0 w.0.1 (entry_at exact_nat t.heads w.0 w.1))
  ])
