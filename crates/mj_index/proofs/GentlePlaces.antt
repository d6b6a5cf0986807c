-- In a table without damage one dentry of a reachable directory leads to a directory, and none leads to the root.
use Rattle.std.proofs.Common.{◌≡◌, ℕ, ◌+◌, ◌≤◌, Bool, true, false, cond, ◌||◌, List, [], ◌∷◌, Option, Some, None, refl, sym, ap, ◌∙◌, inl, inr, arith}
use Rattle.std.specs.Prelude.{◌==◌, nat_eq, nat_lt}
use Rattle.std.specs.Option.{option_map, option_and_then}
use Rattle.std.specs.List.{cons_option}
use Rattle.std.specs.Ordering.{eq_by_cmp}
use Rattle.std.specs.FinMap.Entries.{find}
use Rattle.std.proofs.lemmas.Bool.{true≢false}
use Rattle.mj_base.specs.ObjectName.{stray_ino}
use Rattle.mj_base.specs.Record.{same_kind}
use Rattle.mj_base.specs.declared.record.Kind.TheVariants.{Dir}
use Rattle.mj_base.specs.declared.record.InodeRecord.{InodeRecord}
use Rattle.mj_base.specs.declared.damage.Damage.TheVariants.{TwoPrimaries}
use Rattle.mj_maps.specs.Map.{entries}
use Rattle.mj_maps.specs.Orders.{place_cmp}
use Rattle.mj_maps.proofs.MapLaws.{exact_place, cases_key, eq_same, eq_true, get-entries, some_same, none_some}
use Rattle.mj_tree.specs.State.{root}
use Rattle.mj_cells.specs.Table.{Dentry, Table}
use Rattle.mj_cells.specs.Table.Dentry.{Full, Remote}
use Rattle.mj_recovery.specs.Tree.{Entry, subdir, is_among, full_record, full_records, holding, IsReachable}
use Rattle.mj_recovery.specs.Damage.{first_some, least, inos, times, twice, tree_damage}
use Rattle.mj_recovery.proofs.Reaching.{reached_complete}
use Rattle.mj_judge.specs.Own.{own_damage}
use Rattle.mj_judge.proofs.Alike.{least_none, among-filter, times_among}
use Rattle.mj_judge.proofs.Distinct.{distinct}
use Rattle.mj_index.specs.Gentle.{LeadsTo}

-- ---- the record of a dentry that leads to a directory

record IsFullOf (o : Option Dentry) (i : ℕ) : Type 0 where
  version : ℕ
  inode : InodeRecord
  is : o ≡ Some (Full version inode)
  of : inode.ino ≡ i

full_of : (o : Option Dentry) (i : ℕ) → option_and_then subdir o ≡ Some i → IsFullOf o i
full_of None i e = absurd (none_some i e)
full_of (Some (Remote v j kind)) i e = absurd (none_some i e)
full_of (Some (Full v r)) i e = elim (same_kind r.kind Dir) as (λ b. cond b (Some r.ino) None ≡ Some i → IsFullOf (Some (Full v r)) i) [
  | true ↦ λ is. record { version = v; inode = r; is = refl; of = some_same r.ino i is }
  | false ↦ λ is. absurd (none_some i is)
] e

-- ---- how often an inode stands among the full dentries of some directories

tied : (n : ℕ) → (n == n) ≡ true
tied n = grind arith

counted : (i : ℕ) (r : InodeRecord) (rs : List InodeRecord) → r.ino ≡ i → times i (inos (r ∷ rs)) ≡ times i (inos rs) + 1
counted i r rs of = ap (λ b. cond b (times i (inos rs) + 1) (times i (inos rs))) (ap (λ n. i == n) of ∙ tied i)

not_fewer : (i : ℕ) (o : Option InodeRecord) (rs : List InodeRecord) → times i (inos rs) ≤ times i (inos (cons_option o rs))
not_fewer i None rs = omega arith
not_fewer i (Some r) rs = elim (i == r.ino) as (λ b. times i (inos rs) ≤ cond b (times i (inos rs) + 1) (times i (inos rs))) [ true ↦ omega arith | false ↦ omega arith ]

record_here : (dirs : List ℕ) (q : ℕ × List ℕ) (d : Dentry) (v : ℕ) (r : InodeRecord) → is_among dirs q.0 ≡ true → d ≡ Full v r → full_record dirs (q, d) ≡ Some r
record_here dirs q d v r among is = ap (λ (x : Dentry). full_record dirs (q, x)) is ∙ ap (λ b. cond b (Some r) None) among

module _ (dirs : List ℕ) (i : ℕ) where
  abbrev count : List Entry → ℕ
  count es = times i (inos (full_records dirs es))

  -- a full dentry at a place of these directories
  abbrev StandsAt : Option Dentry → ℕ × List ℕ → Type 0
  StandsAt o q = IsFullOf o i × (is_among dirs q.0 ≡ true)

  first_counts : (x : Entry) (es : List Entry) (q : ℕ × List ℕ) → q ≡ x.0 → StandsAt (Some x.1) q → count (x ∷ es) ≡ count es + 1
  first_counts x es q same (full, among) =
      let here : full_record dirs x ≡ Some full.inode = record_here dirs x.0 x.1 full.version full.inode (ap (λ (p : ℕ × List ℕ). is_among dirs p.0) (sym same) ∙ among) (some_same x.1 (Full full.version full.inode) full.is) in
      ap (λ o. times i (inos (cons_option o (full_records dirs es)))) here ∙ counted i full.inode (full_records dirs es) full.of

  more : (x : Entry) (es : List Entry) → count es ≤ count (x ∷ es)
  more x es = not_fewer i (full_record dirs x) (full_records dirs es)

  once : (es : List Entry) (q : ℕ × List ℕ) → StandsAt (find place_cmp q es) q → 1 ≤ count es
  once [] q (full, among) = absurd (none_some _ full.is)
  once (x ∷ es) q stands = elim (eq_by_cmp place_cmp q x.0) as (λ b. eq_by_cmp place_cmp q x.0 ≡ b → StandsAt (cond b (Some x.1) (find place_cmp q es)) q → 1 ≤ count (x ∷ es)) [
    | true ↦ λ same at. let first = first_counts x es q (eq_true exact_place q x.0 same) at in omega (arith, first)
    | false ↦ λ _ at. let rest = once es q at in let grows = more x es in omega (arith, rest, grows)
  ] refl stands

  both : (es : List Entry) (q p : ℕ × List ℕ) → (q ≡ p → ⊥) → StandsAt (find place_cmp q es) q → StandsAt (find place_cmp p es) p → 2 ≤ count es
  both [] q p apart (full, among) other = absurd (none_some _ full.is)
  both (x ∷ es) q p apart one other =
      elim (eq_by_cmp place_cmp q x.0) as (λ b. eq_by_cmp place_cmp q x.0 ≡ b → StandsAt (cond b (Some x.1) (find place_cmp q es)) q → 2 ≤ count (x ∷ es)) [
        | true ↦ λ same at. elim (eq_by_cmp place_cmp p x.0) as (λ b. eq_by_cmp place_cmp p x.0 ≡ b → StandsAt (cond b (Some x.1) (find place_cmp p es)) p → 2 ≤ count (x ∷ es)) [
          | true ↦ λ tie _. absurd (apart (eq_true exact_place q x.0 same ∙ sym (eq_true exact_place p x.0 tie)))
          | false ↦ λ _ beside. let first = first_counts x es q (eq_true exact_place q x.0 same) at in let rest = once es p beside in omega (arith, first, rest)
        ] refl other
        | false ↦ λ _ at. elim (eq_by_cmp place_cmp p x.0) as (λ b. eq_by_cmp place_cmp p x.0 ≡ b → StandsAt (cond b (Some x.1) (find place_cmp p es)) p → 2 ≤ count (x ∷ es)) [
          | true ↦ λ tie beside. let first = first_counts x es p (eq_true exact_place p x.0 tie) beside in let rest = once es q at in omega (arith, first, rest)
          | false ↦ λ _ beside. let rest = both es q p apart at beside in let grows = more x es in omega (arith, rest, grows)
        ] refl other
      ] refl one

-- ---- where no damage is found

second_none : {A : Type 0} (a b : Option A) (os : List (Option A)) → first_some (a ∷ b ∷ os) ≡ None → b ≡ None
second_none None None os e = refl
second_none None (Some y) os e = absurd (none_some y (sym e))
second_none (Some x) b os e = absurd (none_some x (sym e))

map_none : (o : Option ℕ) → option_map TwoPrimaries o ≡ None → o ≡ None
map_none None e = refl
map_none (Some n) e = absurd (none_some _ (sym e))

-- the root is not among the inodes of which none stands there twice
no_root : (is : List ℕ) → twice is ≡ [] → is_among is root ≡ false
no_root is none = sym (among-filter (λ i. (i == root) || nat_lt 1 (times i is)) is root) ∙ ap (λ (ns : List ℕ). is_among ns root) none

stands_there : (n : ℕ) → 1 ≤ n → nat_lt 0 n ≡ true
stands_there n h = grind (arith, h)

module _ (rank : ℕ) (t : Table) (undamaged : own_damage rank t ≡ None) where
  abbrev fulls : List ℕ
  fulls = inos (full_records (holding rank t) (entries t.dentries))

  none_twice : least (twice fulls) ≡ None
  unfolding tree_damage
  none_twice = map_none _ (second_none _ _ _ undamaged)

  stands : (q : ℕ × List ℕ) (i : ℕ) → IsReachable t q.0 → LeadsTo t q i → StandsAt (holding rank t) i (find place_cmp q (entries t.dentries)) q
  stands q i reached leads = (
    full_of (find place_cmp q (entries t.dentries)) i (ap (option_and_then subdir) (sym (get-entries t.dentries q)) ∙ leads),
    ap (λ b. nat_eq (stray_ino rank) q.0 || b) (reached_complete t q.0 reached) ∙ or-true (nat_eq (stray_ino rank) q.0),
  )
    where
      or-true : (b : Bool) → (b || true) ≡ true
      or-true true = refl
      or-true false = refl

  pub one_place : (q p : ℕ × List ℕ) (i : ℕ) → IsReachable t q.0 → IsReachable t p.0 → LeadsTo t q i → LeadsTo t p i → q ≡ p
  one_place q p i q_reached p_reached q_leads p_leads = elim (cases_key exact_place q p) [
    | inl same ↦ same
    | inr not_tied ↦
        let apart : q ≡ p → ⊥ = λ e. true≢false (sym (eq_same exact_place p) ∙ sym (ap (λ (x : ℕ × List ℕ). eq_by_cmp place_cmp x p) e) ∙ not_tied) in
        let two = both (holding rank t) i (entries t.dentries) q p apart (stands q i q_reached q_leads) (stands p i p_reached p_leads) in
        let one = distinct fulls none_twice i in
        absurd (omega (arith, two, one))
  ]

  pub none_to_root : (q : ℕ × List ℕ) → IsReachable t q.0 → LeadsTo t q root → ⊥
  none_to_root q reached leads =
      let one = once (holding rank t) root (entries t.dentries) q (stands q root reached leads) in
      true≢false (sym (stands_there (times root fulls) one) ∙ times_among root fulls ∙ no_root fulls (least_none (twice fulls) none_twice))
