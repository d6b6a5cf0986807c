-- What it says of a table that no row of damage holds.
use Rattle.std.proofs.Common.{◌≡◌, ℕ, ◌<◌, ◌≤◌, Bool, true, false, cond, ◌||◌, ◌&&◌, not, List, [], ◌∷◌, ◌++◌, map, Option, Some, None, refl, sym, ap, subst, ◌∙◌, inl, inr, arith}
use Rattle.std.specs.Prelude.{◌==◌, nat_eq, nat_lt, nat_le, IsSome, is_none, min, unwrap_or, if◌then◌else◌}
use Rattle.std.specs.Option.{option_map, option_and_then}
use Rattle.std.specs.List.{filter, filter_map, AllByRecursion}
use Rattle.std.proofs.lemmas.Bool.{false≢true, cases_Bool, eqb-true, eq-eqb, and_parts, or_parts, or_cases, ltb-false, leb-true, leb-false, ltb-true}
use Rattle.mj_base.specs.InOrder.{same_bytes}
use Rattle.mj_base.specs.ObjectName.{hex, stray_ino, first_ino}
use Rattle.mj_base.specs.Record.{same_kind}
use Rattle.mj_base.specs.declared.record.Kind.{Kind}
use Rattle.mj_base.specs.declared.record.InodeRecord.{InodeRecord}
use Rattle.mj_base.specs.declared.damage.Damage.{Damage}
use Rattle.mj_base.specs.declared.damage.Damage.TheVariants as damage
use Rattle.mj_maps.specs.Map.{entries, get, len}
use Rattle.mj_maps.proofs.MapLaws.{exact_place, exact_pair, none_some}
use Rattle.mj_tree.specs.State.{PlainState, root, is_file, link_count, entry_count}
use Rattle.mj_tree.specs.Row.{most_entries, most_inodes, most_opens}
use Rattle.mj_tree.specs.Answer.{most_sessions, most_kept}
use Rattle.mj_cells.specs.Table.{Dentry, Table}
use Rattle.mj_cells.specs.Table.Dentry.{Remote}
use Rattle.mj_recovery.specs.Tree.{Entry, ino_of, is_among, full_records, reachable, holding, tree_of}
use Rattle.mj_recovery.specs.Damage.{first_some, or_less, least, times, inos, headless, twice, is_full_of, lone_remote, miscounted, is_given, misnamed, is_known, low_next, out_of_range, is_bad_open, bad_opens, client_of, opened_by, first_open, replies, is_bad_reply, bad_replies, over, over_entries, over_limit, tree_damage}
use Rattle.mj_recovery.specs.Orderly.{IsOwn}
use Rattle.mj_delta.specs.Cells.{next_of}
use Rattle.mj_delta.proofs.Facts.{cases_option, some_is}
use Rattle.mj_delta.proofs.Lists.{Lies, in_map, to_map, to_filter_map, at_entry}
use Rattle.mj_delta.proofs.Planned.{any_in, same_names}
use Rattle.mj_delta.proofs.Contents.{same_kind_is}

-- ---- empty lists

first_none : {A : Type 0} (os : List (Option A)) → first_some os ≡ None → AllByRecursion (λ (o : Option A). o ≡ None) os
first_none [] e = tt
first_none (None ∷ os) e = (refl, first_none os e)
first_none (Some x ∷ os) e = absurd (none_some x (sym e))

map_none : {A B : Type 0} (f : A → B) (o : Option A) → option_map f o ≡ None → o ≡ None
map_none f None e = refl
map_none f (Some x) e = absurd (none_some (f x) (sym e))

least_none : (xs : List ℕ) → least xs ≡ None → xs ≡ []
least_none [] e = refl
least_none (x ∷ xs) e = absurd (none_some _ (sym e))

no_item : {A : Type 0} (xs : List A) (x : A) → xs ≡ [] → Lies x xs → ⊥
no_item xs x e l = subst (λ ys. Lies x ys) e l

to_filter : {A : Type 0} (p : A → Bool) (xs : List A) (x : A) → Lies x xs → p x ≡ true → Lies x (filter p xs)
to_filter p [] x l e = absurd l
to_filter p (y ∷ ys) x (inl same) e = subst (λ b. Lies x (cond b (y ∷ filter p ys) (filter p ys))) (sym (ap p same ∙ e)) (inl same)
to_filter p (y ∷ ys) x (inr l) e = either (p y) (to_filter p ys x l e)
  where
    either : (b : Bool) → Lies x (filter p ys) → Lies x (cond b (y ∷ filter p ys) (filter p ys))
    either true m = inr m
    either false m = m

none_passes : {A : Type 0} (p : A → Bool) (xs : List A) (x : A) → filter p xs ≡ [] → Lies x xs → p x ≡ false
none_passes p xs x none l = elim (cases_Bool (p x)) [ inl h ↦ absurd (no_item (filter p xs) x none (to_filter p xs x l h)) | inr h ↦ h ]

none_given : {A B : Type 0} (f : A → Option B) (xs : List A) (x : A) → filter_map f xs ≡ [] → Lies x xs → f x ≡ None
none_given f xs x none l = elim (cases_option (f x)) [ inl e ↦ e | inr w ↦ absurd (no_item (filter_map f xs) w.0 none (to_filter_map f xs x w.0 l w.1)) ]

no_parts : {A : Type 0} (xs ys : List A) → xs ++ ys ≡ [] → (xs ≡ []) × (ys ≡ [])
no_parts [] ys e = (refl, e)
no_parts (x ∷ xs) ys e = absurd cc

pub among_lies : (dirs : List ℕ) (d : ℕ) → is_among dirs d ≡ true → Lies d dirs
among_lies dirs d h = let w = any_in (λ e. nat_eq e d) dirs h in subst (λ x. Lies x dirs) (eqb-true w.0 d w.2) w.1

not_not : (b : Bool) → not b ≡ false → b ≡ true
not_not true e = refl
not_not false e = absurd (false≢true (sym e))

-- an open with a damage, where one is bad
lower_is : (x m : ℕ) → nat_le x m ≡ true → min x m ≡ x
lower_is x m le = let l = leb-true x m le in omega (arith, l)

higher_is : (x m : ℕ) → nat_le x m ≡ false → min x m ≡ m
higher_is x m gt = let g = leb-false x m gt in omega (arith, g)

least_some : (x : ℕ) (xs : List ℕ) → (m : ℕ) × (least (x ∷ xs) ≡ Some m) × Lies m (x ∷ xs)
least_some x [] = (x, refl, inl refl)
least_some x (y ∷ ys) =
    let w = least_some y ys in
    elim (cases_Bool (nat_le x w.0)) [
      | inl le ↦ (x, ap (λ o. Some (or_less x o)) w.1 ∙ ap Some (lower_is x w.0 le), inl refl)
      | inr gt ↦ (w.0, ap (λ o. Some (or_less x o)) w.1 ∙ ap Some (higher_is x w.0 gt), inr w.2)
    ]

no_open : (os : List (ℕ × ℕ)) → first_open os ≡ None → os ≡ []
no_open [] e = refl
no_open (o ∷ os) e =
    let w = least_some o.1 (map (λ (o : ℕ × ℕ). o.1) os) in
    let back = in_map (λ (o : ℕ × ℕ). o.1) (o ∷ os) w.0 w.2 in
    let client = to_filter_map (client_of w.0) (o ∷ os) back.0 back.0.0 back.1 (ap (λ b. if b then Some back.0.0 else None) (eq-eqb back.0.1 w.0 back.2)) in
    absurd (has_least (filter_map (client_of w.0) (o ∷ os)) back.0.0 client (map_none (λ client. damage.BadOpen client w.0) (least (filter_map (client_of w.0) (o ∷ os))) (sym (ap (option_and_then (opened_by (o ∷ os))) w.1) ∙ e)))
  where
    has_least : (xs : List ℕ) (x : ℕ) → Lies x xs → least xs ≡ None → ⊥
    has_least xs x l f = no_item xs x (least_none xs f) l

not_over : (limit n : ℕ) → over limit n ≡ None → n ≤ limit
not_over limit n = elim (nat_lt limit n) as (λ b. nat_lt limit n ≡ b → (if b then Some n else None) ≡ None → n ≤ limit) [
  | true ↦ λ _ e. absurd (none_some n (sym e))
  | false ↦ λ h _. ltb-false limit n h
] refl

-- ---- the rows

module _ (rank : ℕ) (t : Table) (lumps : List ℕ) where
  abbrev s : PlainState
  s = tree_of rank t

  abbrev es : List Entry
  es = entries t.dentries

  abbrev pub rs : List InodeRecord
  rs = full_records (holding rank t) es

  abbrev rows : List (Option Damage)
  rows =
      option_map damage.DirfragMissing (least (headless (get t.heads) (holding rank t)))
      ∷ option_map damage.TwoPrimaries (least (twice (inos rs)))
      ∷ option_map damage.NoPrimary (least (filter_map (lone_remote (reachable t) rs) es))
      ∷ option_map damage.BadLinks (least (miscounted (link_count s) rs))
      ∷ option_map damage.BadNext (least (out_of_range rank (unwrap_or t.next 0) (inos rs) lumps es))
      ∷ first_open (bad_opens (get t.sessions) (is_file s) (map (λ (o : (ℕ × ℕ) × Unit {0}). o.0) (entries t.opens)))
      ∷ option_map damage.BadSession (least (bad_replies (get t.sessions) (entries t.done)))
      ∷ option_map damage.OverLimit (over_limit s (reachable t))
      ∷ []

  rows_of : tree_damage rank t lumps ≡ None → AllByRecursion (λ (o : Option Damage). o ≡ None) rows
  unfolding tree_damage
  rows_of e = first_none rows e

  module _ (none : tree_damage rank t lumps ≡ None) where
    all : AllByRecursion (λ (o : Option Damage). o ≡ None) rows
    all = rows_of none

    empty_row : (f : ℕ → Damage) (xs : List ℕ) → option_map f (least xs) ≡ None → xs ≡ []
    empty_row f xs e = least_none xs (map_none f (least xs) e)

    pub head_there : (d : ℕ) → is_among (holding rank t) d ≡ true → IsSome (get t.heads d)
    head_there d h =
        let none = none_passes (λ d. is_none (get t.heads d)) (holding rank t) d (empty_row damage.DirfragMissing (headless (get t.heads) (holding rank t)) all.0) (among_lies (holding rank t) d h) in
        some_there (get t.heads d) none
      where
        some_there : (o : Option ℕ) → is_none o ≡ false → IsSome o
        some_there None e = absurd (false≢true (sym e))
        some_there (Some x) e = refl

    alone : (r : InodeRecord) → Lies r rs → ((r.ino == root) || nat_lt 1 (times r.ino (inos rs))) ≡ false
    alone r l = none_passes (λ i. (i == root) || nat_lt 1 (times i (inos rs))) (inos rs) r.ino (empty_row damage.TwoPrimaries (twice (inos rs)) all.1.0) (to_map (λ (r : InodeRecord). r.ino) rs r l)

    pub not_the_root : (r : InodeRecord) → Lies r rs → r.ino ≡ root → ⊥
    not_the_root r l e = false≢true (sym (or_parts _ _ (alone r l)).0 ∙ eq-eqb r.ino root e)

    pub stands_once : (r : InodeRecord) → Lies r rs → times r.ino (inos rs) ≤ 1
    stands_once r l = ltb-false 1 (times r.ino (inos rs)) (or_parts _ _ (alone r l)).1

    pub full_of_remote : (q : ℕ × List ℕ) (v i : ℕ) (k : Kind) → is_among (reachable t) q.0 ≡ true → get t.dentries q ≡ Some (Remote v i k) → (r : InodeRecord) × Lies r rs × (r.ino ≡ i) × (r.kind ≡ k)
    full_of_remote q v i k dir e =
        let lone = none_given (lone_remote (reachable t) rs) es (q, Remote v i k) (empty_row damage.NoPrimary (filter_map (lone_remote (reachable t) rs) es) all.1.1.0) (at_entry exact_place t.dentries q (Remote v i k) e) in
        let is_full = found_full (is_full_of i k rs) (sym (ap (λ b. if b then (if is_full_of i k rs then None else Some i) else None) dir) ∙ lone) in
        let w = any_in (λ (r : InodeRecord). (r.ino == i) && same_kind r.kind k) rs is_full in
        let both = and_parts (w.0.ino == i) (same_kind w.0.kind k) w.2 in
        (w.0, w.1, eqb-true w.0.ino i both.0, same_kind_is w.0.kind k both.1)
      where
        found_full : (b : Bool) → (if b then None else Some i) ≡ None → b ≡ true
        found_full true f = refl
        found_full false f = absurd (none_some i (sym f))

    pub links_counted : (r : InodeRecord) → Lies r rs → r.links ≡ link_count s r.ino
    links_counted r l =
        let no_miscount = none_mapped (filter (λ (r : InodeRecord). not (r.links == link_count s r.ino)) rs) (empty_row damage.BadLinks (miscounted (link_count s) rs) all.1.1.1.0) in
        eqb-true r.links (link_count s r.ino) (not_not _ (none_passes (λ (r : InodeRecord). not (r.links == link_count s r.ino)) rs r no_miscount l))
      where
        none_mapped : (xs : List InodeRecord) → inos xs ≡ [] → xs ≡ []
        none_mapped [] e = refl
        none_mapped (x ∷ xs) e = absurd cc

    range : out_of_range rank (next_of t) (inos rs) lumps es ≡ []
    range = empty_row damage.BadNext (out_of_range rank (next_of t) (inos rs) lumps es) all.1.1.1.1.0

    range_parts : (low_next rank (next_of t) ≡ []) × (filter (λ i. not (is_given rank (next_of t) i)) (inos rs) ≡ []) × (filter (λ d. not (is_known rank (next_of t) d)) lumps ≡ []) × (filter_map (misnamed rank) es ≡ [])
    range_parts =
        let a = no_parts (low_next rank (next_of t) ++ filter (λ i. not (is_given rank (next_of t) i)) (inos rs) ++ filter (λ d. not (is_known rank (next_of t) d)) lumps) (filter_map (misnamed rank) es) range in
        let b = no_parts (low_next rank (next_of t) ++ filter (λ i. not (is_given rank (next_of t) i)) (inos rs)) (filter (λ d. not (is_known rank (next_of t) d)) lumps) a.0 in
        let c = no_parts (low_next rank (next_of t)) (filter (λ i. not (is_given rank (next_of t) i)) (inos rs)) b.0 in
        (c.0, c.1, b.1, a.1)

    -- each directory of a lump is the root, stray or given
    pub lumps_known : filter (λ d. not (is_known rank (next_of t) d)) lumps ≡ []
    lumps_known =
        let a = no_parts (low_next rank (next_of t) ++ filter (λ i. not (is_given rank (next_of t) i)) (inos rs) ++ filter (λ d. not (is_known rank (next_of t) d)) lumps) (filter_map (misnamed rank) es) range in
        (no_parts (low_next rank (next_of t) ++ filter (λ i. not (is_given rank (next_of t) i)) (inos rs)) (filter (λ d. not (is_known rank (next_of t) d)) lumps) a.0).1

    pub next_high : first_ino rank ≤ next_of t
    next_high = high (nat_lt (next_of t) (first_ino rank)) refl range_parts.0
      where
        high : (b : Bool) → nat_lt (next_of t) (first_ino rank) ≡ b → (if b then next_of t ∷ [] else []) ≡ [] → first_ino rank ≤ next_of t
        high true e f = absurd cc
        high false e f = ltb-false (next_of t) (first_ino rank) e

    pub full_given : (r : InodeRecord) → Lies r rs → (first_ino rank ≤ r.ino) × (r.ino < next_of t)
    full_given r l =
        let given = not_not _ (none_passes (λ i. not (is_given rank (next_of t) i)) (inos rs) r.ino range_parts.1 (to_map (λ (r : InodeRecord). r.ino) rs r l)) in
        (leb-true (first_ino rank) r.ino (and_parts _ _ given).0, ltb-true r.ino (next_of t) (and_parts _ _ given).1)

    -- each directory of a lump is the rank's own
    pub lump_own : (d : ℕ) → Lies d lumps → IsOwn rank (next_of t) d
    lump_own d l =
        let known : is_known rank (next_of t) d ≡ true = not_not _ (none_passes (λ d. not (is_known rank (next_of t) d)) lumps d range_parts.2 l) in
        elim (or_cases ((d == root) || (d == stray_ino rank)) (is_given rank (next_of t) d) known) [
          | inl named ↦ elim (or_cases (d == root) (d == stray_ino rank) named) [ inl e ↦ inl (eqb-true d root e) | inr e ↦ inr (inl (eqb-true d (stray_ino rank) e)) ]
          | inr given ↦ let both = and_parts _ _ given in inr (inr (leb-true (first_ino rank) d both.0, ltb-true d (next_of t) both.1))
        ]

    pub stray_named : (q : ℕ × List ℕ) (d : Dentry) → get t.dentries q ≡ Some d → q.0 ≡ stray_ino rank → q.1 ≡ hex (ino_of d)
    stray_named q d e st =
        let none = none_given (misnamed rank) es (q, d) range_parts.3 (at_entry exact_place t.dentries q d e) in
        same_names q.1 (hex (ino_of d)) (named (q.0 == stray_ino rank) (same_bytes q.1 (hex (ino_of d))) (eq-eqb q.0 (stray_ino rank) st) none)
      where
        named : (a b : Bool) → a ≡ true → (if a && not b then Some (ino_of d) else None) ≡ None → b ≡ true
        named a true h f = refl
        named true false h f = absurd (none_some (ino_of d) (sym f))
        named false false h f = absurd (false≢true h)

    pub open_good : (client i : ℕ) → IsSome (get t.opens (client, i)) → IsSome (get t.sessions client) × (is_file s i ≡ true)
    open_good client i h =
        let u = some_is (get t.opens (client, i)) h in
        let lies = to_map (λ (o : (ℕ × ℕ) × Unit {0}). o.0) (entries t.opens) ((client, i), u.0) (at_entry exact_pair t.opens (client, i) u.0 u.1) in
        let good = none_passes (is_bad_open (get t.sessions) (is_file s)) (map (λ (o : (ℕ × ℕ) × Unit {0}). o.0) (entries t.opens)) (client, i) (no_open _ all.1.1.1.1.1.0) lies in
        let parts = or_parts (is_none (get t.sessions client)) (not (is_file s i)) good in
        (there (get t.sessions client) parts.0, not_not _ parts.1)
      where
        there : (o : Option ℕ) → is_none o ≡ false → IsSome o
        there None e = absurd (false≢true (sym e))
        there (Some x) e = refl

    pub reply_good : (client tid i : ℕ) → get t.done (client, tid) ≡ Some i → (oldest : ℕ) × (get t.sessions client ≡ Some oldest) × (oldest ≤ tid) × (replies (entries t.done) client ≤ most_kept)
    reply_good client tid i e =
        let none_bad = none_mapped (filter (is_bad_reply (get t.sessions) (entries t.done)) (entries t.done)) (empty_row damage.BadSession (bad_replies (get t.sessions) (entries t.done)) all.1.1.1.1.1.1.0) in
        by_session (get t.sessions client) refl (none_passes (is_bad_reply (get t.sessions) (entries t.done)) (entries t.done) ((client, tid), i) none_bad (at_entry exact_pair t.done (client, tid) i e))
      where
        none_mapped : (xs : List ((ℕ × ℕ) × ℕ)) → map (λ (e : (ℕ × ℕ) × ℕ). e.0.0) xs ≡ [] → xs ≡ []
        none_mapped [] e = refl
        none_mapped (x ∷ xs) e = absurd cc

        good : (o : Option ℕ) → Bool
        good None = true
        good (Some first) = nat_lt tid first || nat_lt most_kept (replies (entries t.done) client)

        by_session : (o : Option ℕ) → get t.sessions client ≡ o → is_bad_reply (get t.sessions) (entries t.done) ((client, tid), i) ≡ false → (oldest : ℕ) × (get t.sessions client ≡ Some oldest) × (oldest ≤ tid) × (replies (entries t.done) client ≤ most_kept)
        by_session None at h = absurd (false≢true (sym h ∙ ap good at))
        by_session (Some oldest) at h = let parts = or_parts (nat_lt tid oldest) (nat_lt most_kept (replies (entries t.done) client)) (sym (ap good at) ∙ h) in (oldest, at, ltb-false tid oldest parts.0, ltb-false most_kept (replies (entries t.done) client) parts.1)

    limits : AllByRecursion (λ (o : Option ℕ). o ≡ None) (over_entries (entry_count s) (reachable t) ∷ over most_inodes (len s.records) ∷ over most_sessions (len s.sessions) ∷ over most_opens (len s.opens) ∷ [])
    limits = first_none (over_entries (entry_count s) (reachable t) ∷ over most_inodes (len s.records) ∷ over most_sessions (len s.sessions) ∷ over most_opens (len s.opens) ∷ []) (map_none damage.OverLimit (over_limit s (reachable t)) all.1.1.1.1.1.1.1.0)

    pub few_in : (d : ℕ) → is_among (reachable t) d ≡ true → entry_count s d ≤ most_entries
    few_in d h = ltb-false most_entries (entry_count s d) (none_passes (λ d. nat_lt most_entries (entry_count s d)) (reachable t) d (least_none _ (map_none (entry_count s) (least (filter (λ d. nat_lt most_entries (entry_count s d)) (reachable t))) limits.0)) (among_lies (reachable t) d h))

    pub few_records : len s.records ≤ most_inodes
    few_records = not_over most_inodes (len s.records) limits.1.0

    pub few_clients : len s.sessions ≤ most_sessions
    few_clients = not_over most_sessions (len s.sessions) limits.1.1.0

    pub few_held : len s.opens ≤ most_opens
    few_held = not_over most_opens (len s.opens) limits.1.1.1.0
