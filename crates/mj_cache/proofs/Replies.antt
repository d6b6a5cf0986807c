-- A client's kept replies, as the cells of their keys.
use Rattle.std.proofs.Common.{◌≡◌, ℕ, ◌+◌, ◌≤◌, Bool, true, false, not, cond, T, List, [], ◌∷◌, ◌++◌, length, map, Option, Some, None, refl, sym, ap, subst, ◌∙◌, ◌⊎◌, inl, inr, append_assoc, append-nil, arith}
use Rattle.std.specs.Prelude.{nat_lt, nat_le, ◌==◌, if◌then◌else◌, is_some, unwrap_or}
use Rattle.std.specs.declared.cmp.Ordering.{Ordering}
use Rattle.std.specs.declared.cmp.Ordering.TheVariants.{Less, Equal, Greater}
use Rattle.std.specs.List.{filter, AllByRecursion}
use Rattle.std.specs.Option.{option_and_then}
use Rattle.std.specs.Ordering.{is_ge, is_lt, nat_cmp, ordering_then}
use Rattle.std.specs.Cmp.{tied_itself}
use Rattle.std.specs.FinMap.Entries.{below_all, is_sorted}
use Rattle.std.proofs.lemmas.Bool.{false≢true, cases_Bool, eqb-true, eq-eqb, ltb-true, ltb-false}
use Rattle.std.proofs.lemmas.List.Elements.{filter-append}
use Rattle.mj_maps.specs.Map.{Map, entries, entries_sorted, get, remove, count, passing, empty, left_true, right_true}
use Rattle.mj_maps.proofs.MapLaws.{exact_nat, get_empty, entries-empty, len-entries, none_some, some_same, count_none, count-remove, remove_same}
use Rattle.mj_tree.specs.State.{PlainState, Session}
use Rattle.mj_tree.specs.Sessions.{oldest_of, kept_of}
use Rattle.mj_tree.specs.Answer.{kept_reply}
use Rattle.mj_cells.specs.declared.cell.CellKey.{CellKey}
use Rattle.mj_cells.specs.declared.cell.CellKey.TheVariants as key
use Rattle.mj_cells.specs.declared.cell.CellValue.{CellValue}
use Rattle.mj_cells.specs.declared.cell.CellValue.TheVariants as value
use Rattle.mj_cells.specs.Cell.{key_cmp, Fits, AllFit}
use Rattle.mj_cells.specs.Next.{first_of}
use Rattle.mj_cells.specs.Table.{number_of}
use Rattle.mj_tables.specs.Layered.{is_there, next_there}
use Rattle.mj_judge.proofs.PartMaps.{get-done}
use Rattle.mj_cache.specs.Cached.{CacheValue, early_cells, early_tree}
use Rattle.mj_delta.specs.Events.{tids}
use Rattle.mj_delta.proofs.Facts.{cases_option}
use Rattle.mj_delta.proofs.Lists.{Lies, in_map, to_map, entry_at, at_entry}
use Rattle.mj_cache.specs.HasTree.{HasTree}
use Rattle.mj_cache.specs.Reads.{next_tid, tid_in}
use Rattle.mj_cache.proofs.Ascending.{Ascends, IsOrder, above_none, above_least, above_next, above_end, all_above, own_above, from_item, all_items}
use Rattle.mj_cache.proofs.Nearest.{true_is, order_of, less_number, IsNext, next_is, next_none}

-- ---- orders

pub number_order : IsOrder nat_lt
number_order = record {
  irreflexive = λ a. sym (less_number a a) ∙ (order_of exact_nat).irreflexive a;
  transitive = λ a b c ab bc. sym (less_number a c) ∙ (order_of exact_nat).transitive a b c (less_number a b ∙ ab) (less_number b c ∙ bc);
}

pub then_less : (o : Ordering) → is_lt (ordering_then o Equal) ≡ is_lt o
then_less Less = refl
then_less Equal = refl
then_less Greater = refl

-- what is after one and not after another that agrees in the first part agrees in it too
pub agreeing : (o p q : Ordering) → is_lt (ordering_then o p) ≡ true → is_lt (ordering_then o q) ≡ false → o ≡ Equal
agreeing Less p q l n = absurd (false≢true (sym n))
agreeing Equal p q l n = refl
agreeing Greater p q l n = absurd (false≢true l)

-- what a test for at least says of the numbers
pub at_least : (a b : ℕ) (r : Bool) → r ≡ is_ge (nat_cmp a b) → nat_lt a b ≡ not r
at_least a b r = elim (nat_lt a b) as (λ x. r ≡ is_ge (cond x Less (cond (a == b) Equal Greater)) → x ≡ not r) [
  | true ↦ λ e. sym (ap not e)
  | false ↦ elim (a == b) as (λ y. r ≡ is_ge (cond y Equal Greater) → false ≡ not r) [ true ↦ λ e. sym (ap not e) | false ↦ λ e. sym (ap not e) ]
]

done_less : (client a b : ℕ) → is_lt (key_cmp (key.Done client a) (key.Done client b)) ≡ nat_lt a b
done_less client a b = ap (λ o. is_lt (ordering_then o (ordering_then (nat_cmp a b) Equal))) (tied_itself exact_nat.total client) ∙ then_less (nat_cmp a b) ∙ less_number a b

-- a key above one of a client's and not above another is of the client
done_between : (client a b : ℕ) (k : CellKey) → is_lt (key_cmp (key.Done client a) k) ≡ true → is_lt (key_cmp (key.Done client b) k) ≡ false → (x : ℕ) × (k ≡ key.Done client x)
done_between client a b (key.Dentry d n) l h = absurd (false≢true l)
done_between client a b (key.DirHead d) l h = absurd (false≢true l)
done_between client a b key.NextIno l h = absurd (false≢true l)
done_between client a b (key.Session d) l h = absurd (false≢true l)
done_between client a b (key.Done d x) l h = (x, ap (λ z. key.Done z x) (sym (exact_nat.same client d (agreeing (nat_cmp client d) _ _ l h))))
done_between client a b (key.OpenOf d i) l h = absurd (false≢true (sym h))

own_tid : (client : ℕ) (k : CellKey) → ((x : ℕ) × (k ≡ key.Done client x) × (tid_in client k ≡ Some x)) ⊎ ((tid_in client k ≡ None) × ((x : ℕ) → k ≡ key.Done client x → ⊥))
own_tid client (key.Done d x) = elim (cases_Bool (d == client)) [
  | inl e ↦ inl (x, ap (λ z. key.Done z x) (eqb-true d client e), ap (λ b. if b then Some x else None) e)
  | inr e ↦ inr (ap (λ b. if b then Some x else None) e, λ y same. false≢true (sym e ∙ eq-eqb d client cc))
]
own_tid client (key.Dentry d n) = inr (refl, λ x e. absurd cc)
own_tid client (key.DirHead d) = inr (refl, λ x e. absurd cc)
own_tid client key.NextIno = inr (refl, λ x e. absurd cc)
own_tid client (key.Session d) = inr (refl, λ x e. absurd cc)
own_tid client (key.OpenOf d i) = inr (refl, λ x e. absurd cc)

-- ---- keys of a map, ascending

below_keys : {X : Type 0} (k : ℕ) (es : List (ℕ × X)) → T (below_all nat_cmp k es) → AllByRecursion (λ x. nat_lt k x ≡ true) (map (λ (e : ℕ × X). e.0) es)
below_keys k [] h = tt
below_keys k (e ∷ es) h = (sym (less_number k e.0) ∙ true_is _ (left_true _ _ h), below_keys k es (right_true _ _ h))

keys_ascend : {X : Type 0} (es : List (ℕ × X)) → T (is_sorted nat_cmp es) → Ascends nat_lt (map (λ (e : ℕ × X). e.0) es)
keys_ascend [] h = tt
keys_ascend (e ∷ es) h = (below_keys e.0 es (left_true _ _ h), keys_ascend es (right_true _ _ h))

module _ (m : Map nat_cmp ℕ) where
  pub tids_ascend : Ascends nat_lt (tids m)
  tids_ascend = keys_ascend (entries m) (entries_sorted m)

  pub lies_tid : (tid : ℕ) → Lies tid (tids m) → (i : ℕ) × (get m tid ≡ Some i)
  lies_tid tid l =
      let w = in_map (λ (e : ℕ × ℕ). e.0) (entries m) tid l in
      (w.0.1, ap (get m) (sym w.2) ∙ entry_at exact_nat m w.0 w.1)

  pub tid_lies : (tid i : ℕ) → get m tid ≡ Some i → Lies tid (tids m)
  tid_lies tid i e = to_map (λ (e : ℕ × ℕ). e.0) (entries m) (tid, i) (at_entry exact_nat m tid i e)

-- ---- their cells

number_there : (client tid : ℕ) (v : CellValue) → Fits (key.Done client tid) v → is_there v ≡ true → (i : ℕ) × (number_of v ≡ Some i)
number_there client tid (value.Number i) fits h = (i, refl)
number_there client tid value.Gone fits h = absurd (false≢true h)
number_there client tid (value.Full v r) fits h = absurd fits
number_there client tid (value.Remote v i k) fits h = absurd fits
number_there client tid (value.Null v) fits h = absurd fits
number_there client tid value.Present fits h = absurd fits

there_number : (o : Option CellValue) (i : ℕ) → option_and_then number_of o ≡ Some i → (v : CellValue) × (o ≡ Some v) × (is_there v ≡ true)
there_number None i e = absurd (none_some i e)
there_number (Some (value.Number n)) i e = (value.Number n, refl, refl)
there_number (Some value.Gone) i e = absurd (none_some i e)
there_number (Some (value.Full v r)) i e = absurd (none_some i e)
there_number (Some (value.Remote v j k)) i e = absurd (none_some i e)
there_number (Some (value.Null v)) i e = absurd (none_some i e)
there_number (Some value.Present) i e = absurd (none_some i e)

pub kept_in : (tid : ℕ) (o : Option Session) → option_and_then (λ (c : Session). get c.kept tid) o ≡ get (unwrap_or o (record { oldest = 0; kept = empty })).kept tid
kept_in tid None = sym (get_empty nat_cmp tid)
kept_in tid (Some c) = refl

module _ (c : CacheValue) (is : HasTree c) (client : ℕ) where
  abbrev m : Map key_cmp CellValue
  m = early_cells c

  abbrev kept : Map nat_cmp ℕ
  kept = kept_of (early_tree c) client

  pub reply_is : (tid : ℕ) → option_and_then number_of (get m (key.Done client tid)) ≡ get kept tid
  reply_is tid = sym (get-done m (client, tid)) ∙ is.sessions.replies client tid ∙ kept_in tid (get (early_tree c).sessions client)

  module _ (fit : AllFit (early_cells c)) (after : ℕ) where
    cell_of : (tid : ℕ) → Lies tid (tids kept) → (v : CellValue) × (get m (key.Done client tid) ≡ Some v) × (is_there v ≡ true)
    cell_of tid l = let w = lies_tid kept tid l in there_number (get m (key.Done client tid)) w.0 (reply_is tid ∙ w.1)

    no_tid : next_there m (Some (key.Done client after)) ≡ None → next_tid (early_tree c) client after ≡ None
    no_tid f = ap first_of (above_none nat_lt number_order after (tids kept) (λ k l up.
        let w = cell_of k l in
        next_none m (key.Done client after) f (key.Done client k) w.0 w.1 (done_less client after k ∙ up) w.2))

    some_tid : (e : CellKey × CellValue) → IsNext m (key.Done client after) e → tid_in client e.0 ≡ next_tid (early_tree c) client after
    some_tid e n = elim (own_tid client e.0) [
      | inl w ↦
          let same = w.1 in
          let cell : get m (key.Done client w.0) ≡ Some e.1 = ap (get m) (sym same) ∙ n.cell in
          let i = number_there client w.0 e.1 (fit (key.Done client w.0) e.1 cell) n.there in
          let lies : Lies w.0 (tids kept) = tid_lies kept w.0 i.0 (sym (reply_is w.0) ∙ ap (option_and_then number_of) cell ∙ i.1) in
          w.2 ∙ sym (above_least nat_lt number_order after (tids kept) w.0 (tids_ascend kept) lies
          (sym (done_less client after w.0) ∙ ap (λ z. is_lt (key_cmp (key.Done client after) z)) (sym same) ∙ n.above)
          (λ k l up less.
          let v = cell_of k l in
          n.least (key.Done client k) v.0 v.1 (done_less client after k ∙ up) v.2 (ap (λ z. is_lt (key_cmp (key.Done client k) z)) same ∙ done_less client k w.0 ∙ less)))
      | inr w ↦ w.0 ∙ sym (ap first_of (above_none nat_lt number_order after (tids kept) (λ k l up.
          let v = cell_of k l in
          let not_before : is_lt (key_cmp (key.Done client k) e.0) ≡ false = elim (cases_Bool (is_lt (key_cmp (key.Done client k) e.0))) [
            | inl less ↦ absurd (n.least (key.Done client k) v.0 v.1 (done_less client after k ∙ up) v.2 less)
            | inr h ↦ h
          ] in
          let x = done_between client after k e.0 n.above not_before in
          w.1 x.0 x.1)))
    ]

    -- the next of the client's kept replies is the next cell, where that is the client's
    pub next_tid_is : option_and_then (λ (e : CellKey × CellValue). tid_in client e.0) (next_there m (Some (key.Done client after))) ≡ next_tid (early_tree c) client after
    next_tid_is = elim (cases_option (next_there m (Some (key.Done client after)))) [
      | inl none ↦ ap (option_and_then (λ (e : CellKey × CellValue). tid_in client e.0)) none ∙ sym (no_tid none)
      | inr w ↦ ap (option_and_then (λ (e : CellKey × CellValue). tid_in client e.0)) w.1 ∙ some_tid w.0 (next_is m (key.Done client after) w.0 w.1)
    ]

pub none_is : {A : Type 0} (o : Option A) → is_some o ≡ false → o ≡ None
none_is None e = refl
none_is (Some x) e = absurd (false≢true (sym e))

-- ---- from a number on

at_or_above : (a k : ℕ) → a ≤ k → (k ≡ a) ⊎ (nat_lt a k ≡ true)
at_or_above a k h = elim (cases_Bool (nat_lt a k)) [ inl e ↦ inr e | inr e ↦ let le = ltb-false a k e in inl (omega (arith, h, le)) ]

one_below : (b : Bool) (x bound : ℕ) → nat_lt x bound ≡ true → filter (λ tid. nat_lt tid bound) (cond b (x ∷ []) []) ≡ cond b (x ∷ []) []
one_below true x bound h = ap (λ b. cond b (x ∷ []) []) h
one_below false x bound h = refl

one_not_below : (b : Bool) (x bound : ℕ) → nat_lt x bound ≡ false → filter (λ tid. nat_lt tid bound) (cond b (x ∷ []) []) ≡ []
one_not_below true x bound h = ap (λ b. cond b (x ∷ []) []) h
one_not_below false x bound h = refl

not_below : (y k bound : ℕ) → bound ≤ y + 1 → nat_lt y k ≡ true → nat_lt k bound ≡ false
not_below y k bound h up = grind arith

near : (y bound : ℕ) → nat_lt y bound ≡ false → bound ≤ y + 1
near y bound h = let le = ltb-false y bound h in omega (arith, le)

-- what is above a number isn't below the number after it
none_below : (bound y : ℕ) (ks : List ℕ) → bound ≤ y + 1 → filter (λ tid. nat_lt tid bound) (filter (nat_lt y) ks) ≡ []
none_below bound y [] h = refl
none_below bound y (k ∷ ks) h = elim (nat_lt y k) as (λ b. nat_lt y k ≡ b → filter (λ tid. nat_lt tid bound) (cond b (k ∷ filter (nat_lt y) ks) (filter (nat_lt y) ks)) ≡ []) [
  | true ↦ λ up. ap (λ b. cond b (k ∷ filter (λ tid. nat_lt tid bound) (filter (nat_lt y) ks)) (filter (λ tid. nat_lt tid bound) (filter (nat_lt y) ks))) (not_below y k bound h up) ∙ none_below bound y ks h
  | false ↦ λ e. none_below bound y ks h
] refl

module _ (c : CacheValue) (is : HasTree c) (client oldest : ℕ) (own : oldest_of (get (early_tree c).sessions client) ≡ Some oldest) where
  abbrev all : List ℕ
  all = tids (kept_of (early_tree c) client)

  from_oldest : (k : ℕ) → Lies k all → (k ≡ oldest) ⊎ (nat_lt oldest k ≡ true)
  from_oldest k l = elim (cases_option (get (early_tree c).sessions client)) [
    | inl none ↦ absurd (none_some oldest (sym (ap oldest_of none) ∙ own))
    | inr w ↦
        let r = lies_tid (kept_of (early_tree c) client) k l in
        let at : get w.0.kept k ≡ Some r.0 = ap (λ (o : Option Session). get (unwrap_or o (record { oldest = 0; kept = empty })).kept k) (sym w.1) ∙ r.1 in
        let below = is.sessions.not_below client w.0 k r.0 w.1 at in
        let same = some_same w.0.oldest oldest (sym (ap oldest_of w.1) ∙ own) in
        at_or_above oldest k (subst (λ n. n ≤ k) same below)
  ]

  -- where the reply to the oldest number is kept, it is the first
  oldest_first : (i : ℕ) → kept_reply (early_tree c) client oldest ≡ Some i → oldest ∷ filter (nat_lt oldest) all ≡ all
  oldest_first i e = sym (from_item nat_lt number_order oldest all (tids_ascend (kept_of (early_tree c) client)) from_oldest
      (tid_lies (kept_of (early_tree c) client) oldest i (sym (kept_in oldest (get (early_tree c).sessions client)) ∙ e)))

  no_oldest : kept_reply (early_tree c) client oldest ≡ None → filter (nat_lt oldest) all ≡ all
  no_oldest none = all_items nat_lt number_order oldest all (λ k l. elim (from_oldest k l) [
    | inl same ↦
        let r = lies_tid (kept_of (early_tree c) client) k l in
        absurd (none_some r.0 (sym none ∙ kept_in oldest (get (early_tree c).sessions client) ∙ ap (get (kept_of (early_tree c) client)) (sym same) ∙ r.1))
    | inr up ↦ up
  ])

  -- the oldest number, where the reply to it is kept, and those above
  pub from_own : cond (is_some (kept_reply (early_tree c) client oldest)) (oldest ∷ []) [] ++ filter (nat_lt oldest) all ≡ all
  from_own = elim (cases_option (kept_reply (early_tree c) client oldest)) [
    | inl none ↦ ap (λ (o : Option ℕ). cond (is_some o) (oldest ∷ []) [] ++ filter (nat_lt oldest) all) none ∙ no_oldest none
    | inr w ↦ ap (λ (o : Option ℕ). cond (is_some o) (oldest ∷ []) [] ++ filter (nat_lt oldest) all) w.1 ∙ oldest_first w.0 w.1
  ]

  -- those of them that are below a bound
  pub own_below : (bound : ℕ) → nat_lt oldest bound ≡ true
      → cond (is_some (kept_reply (early_tree c) client oldest)) (oldest ∷ []) [] ++ filter (λ tid. nat_lt tid bound) (filter (nat_lt oldest) all) ≡ filter (λ tid. nat_lt tid bound) all
  own_below bound h =
      ap (λ xs. xs ++ filter (λ tid. nat_lt tid bound) (filter (nat_lt oldest) all)) (sym (one_below (is_some (kept_reply (early_tree c) client oldest)) oldest bound h))
      ∙ sym (filter-append (λ tid. nat_lt tid bound) (cond (is_some (kept_reply (early_tree c) client oldest)) (oldest ∷ []) []) (filter (nat_lt oldest) all))
      ∙ ap (filter (λ tid. nat_lt tid bound)) from_own

  -- none is below a bound that the oldest number isn't below
  pub no_own_below : (bound : ℕ) → nat_lt oldest bound ≡ false → [] ≡ filter (λ tid. nat_lt tid bound) all
  no_own_below bound h = sym (
      sym (ap (filter (λ tid. nat_lt tid bound)) from_own)
      ∙ filter-append (λ tid. nat_lt tid bound) (cond (is_some (kept_reply (early_tree c) client oldest)) (oldest ∷ []) []) (filter (nat_lt oldest) all)
      ∙ (λ i. one_not_below (is_some (kept_reply (early_tree c) client oldest)) oldest bound h i ++ none_below bound oldest all (near oldest bound h) i))

  -- only the oldest number is below the one after it
  pub own_alone : (bound : ℕ) → nat_lt oldest bound ≡ true → bound ≤ oldest + 1
      → cond (is_some (kept_reply (early_tree c) client oldest)) (oldest ∷ []) [] ≡ filter (λ tid. nat_lt tid bound) all
  own_alone bound h after =
      sym (append-nil (cond (is_some (kept_reply (early_tree c) client oldest)) (oldest ∷ []) []))
      ∙ ap (λ xs. cond (is_some (kept_reply (early_tree c) client oldest)) (oldest ∷ []) [] ++ xs) (sym (none_below bound oldest all after))
      ∙ own_below bound h

-- where a client has no session nothing is kept
pub nothing_kept : (s : PlainState) (client : ℕ) → oldest_of (get s.sessions client) ≡ None → [] ≡ tids (kept_of s client)
nothing_kept s client none = elim (cases_option (get s.sessions client)) [
  | inl e ↦ sym (ap (λ (o : Option Session). tids (unwrap_or o (record { oldest = 0; kept = empty })).kept) e ∙ ap (map (λ (x : ℕ × ℕ). x.0)) (entries-empty nat_cmp))
  | inr w ↦ absurd (none_some w.0.oldest (sym none ∙ ap oldest_of w.1))
]

-- ---- one after another

-- one more
pub tids_push : (s : PlainState) (client after y : ℕ) (found : List ℕ) → next_tid s client after ≡ Some y
    → found ++ filter (nat_lt after) (tids (kept_of s client)) ≡ tids (kept_of s client)
    → (found ++ y ∷ []) ++ filter (nat_lt y) (tids (kept_of s client)) ≡ tids (kept_of s client)
tids_push s client after y found f so_far =
    append_assoc found (y ∷ []) (filter (nat_lt y) (tids (kept_of s client)))
    ∙ ap (λ xs. found ++ xs) (sym (above_next nat_lt number_order after (tids (kept_of s client)) y (tids_ascend (kept_of s client)) f))
    ∙ so_far

pub tids_end : (s : PlainState) (client after : ℕ) → next_tid s client after ≡ None → filter (nat_lt after) (tids (kept_of s client)) ≡ []
tids_end s client after f = above_end nat_lt number_order after (tids (kept_of s client)) f

-- those of the rest that are below a bound: one more, where the next is
pub next_below : (s : PlainState) (client after y bound : ℕ) → next_tid s client after ≡ Some y → nat_lt y bound ≡ true
    → filter (λ tid. nat_lt tid bound) (filter (nat_lt after) (tids (kept_of s client))) ≡ y ∷ filter (λ tid. nat_lt tid bound) (filter (nat_lt y) (tids (kept_of s client)))
next_below s client after y bound f h =
    ap (filter (λ tid. nat_lt tid bound)) (above_next nat_lt number_order after (tids (kept_of s client)) y (tids_ascend (kept_of s client)) f)
    ∙ ap (λ b. cond b (y ∷ filter (λ tid. nat_lt tid bound) (filter (nat_lt y) (tids (kept_of s client)))) (filter (λ tid. nat_lt tid bound) (filter (nat_lt y) (tids (kept_of s client))))) h

-- and none, where the next isn't
pub next_not_below : (s : PlainState) (client after y bound : ℕ) → next_tid s client after ≡ Some y → nat_lt y bound ≡ false
    → filter (λ tid. nat_lt tid bound) (filter (nat_lt after) (tids (kept_of s client))) ≡ []
next_not_below s client after y bound f h =
    ap (filter (λ tid. nat_lt tid bound)) (above_next nat_lt number_order after (tids (kept_of s client)) y (tids_ascend (kept_of s client)) f)
    ∙ ap (λ b. cond b (y ∷ filter (λ tid. nat_lt tid bound) (filter (nat_lt y) (tids (kept_of s client)))) (filter (λ tid. nat_lt tid bound) (filter (nat_lt y) (tids (kept_of s client))))) h
    ∙ none_below bound y (tids (kept_of s client)) (near y bound h)

pub tids_fewer : (s : PlainState) (client after y : ℕ) → next_tid s client after ≡ Some y
    → length (filter (nat_lt after) (tids (kept_of s client))) ≡ length (filter (nat_lt y) (tids (kept_of s client))) + 1
tids_fewer s client after y f = let next = ap length (above_next nat_lt number_order after (tids (kept_of s client)) y (tids_ascend (kept_of s client)) f) in omega (arith, next)

-- ---- how many there are

length_cond : (b : Bool) (x : ℕ) (xs : List ℕ) → length (cond b (x ∷ xs) xs) ≡ cond b 1 0 + length xs
length_cond true x xs = omega arith
length_cond false x xs = omega arith

split_number : (o n : ℕ) → cond (nat_le o n) 1 0 ≡ cond (n == o) 1 0 + cond (nat_lt o n) 1 0
split_number o n = grind arith

both_counts : (o : ℕ) (es : List (ℕ × ℕ)) → passing (λ (e : ℕ × ℕ). nat_le o e.0) es ≡ passing (λ (e : ℕ × ℕ). e.0 == o) es + length (filter (nat_lt o) (map (λ (e : ℕ × ℕ). e.0) es))
both_counts o [] = refl
both_counts o (e ∷ es) =
    let one = split_number o e.0 in
    let rest = both_counts o es in
    let long = length_cond (nat_lt o e.0) e.0 (filter (nat_lt o) (map (λ (e : ℕ × ℕ). e.0) es)) in
    omega (arith, one, rest, long)

count_own : (m : Map nat_cmp ℕ) (o : ℕ) → count (λ (e : ℕ × ℕ). e.0 == o) m ≡ cond (is_some (get m o)) 1 0
count_own m o = elim (cases_option (get m o)) [
  | inl none ↦ count_none exact_nat _ m (λ k v at h. none_some v (sym none ∙ ap (get m) (sym (eqb-true k o h)) ∙ at)) ∙ sym (ap (λ (x : Option ℕ). cond (is_some x) 1 0) none)
  | inr w ↦
      let gone : count (λ (e : ℕ × ℕ). e.0 == o) (remove m o) ≡ 0 = count_none exact_nat _ (remove m o) (λ k v at h. none_some v (sym (remove_same exact_nat m o) ∙ ap (get (remove m o)) (sym (eqb-true k o h)) ∙ at)) in
      let here : cond (o == o) 1 0 ≡ 1 = ap (λ b. cond b 1 0) (eq-eqb o o refl) in
      let all = count-remove exact_nat (λ (e : ℕ × ℕ). e.0 == o) m o w.0 w.1 in
      sym all ∙ (λ i. gone i + here i) ∙ sym (ap (λ (x : Option ℕ). cond (is_some x) 1 0) w.1)
]

at_most_one : (b : Bool) → cond b 1 0 ≤ 1
at_most_one true = omega arith
at_most_one false = omega arith

-- those from a number on are the one of it, where it is kept, and those above
pub counted_from : (s : PlainState) (client oldest : ℕ)
    → cond (is_some (kept_reply s client oldest)) 1 0 + length (filter (nat_lt oldest) (tids (kept_of s client))) ≡ count (λ (e : ℕ × ℕ). nat_le oldest e.0) (kept_of s client)
counted_from s client oldest =
    ap (λ (o : Option ℕ). cond (is_some o) 1 0 + length (filter (nat_lt oldest) (tids (kept_of s client)))) (kept_in oldest (get s.sessions client))
    ∙ sym (both_counts oldest (entries (kept_of s client)) ∙ ap (λ n. n + length (filter (nat_lt oldest) (tids (kept_of s client)))) (count_own (kept_of s client) oldest))

-- numbers above one and none above another are no more than lie between
few_between : (a last : ℕ) (ks : List ℕ) → Ascends nat_lt ks → a ≤ last → filter (nat_lt last) ks ≡ [] → length (filter (nat_lt a) ks) + a ≤ last
few_between a last [] h le none = omega arith
few_between a last (k ∷ ks) h le none = elim (nat_lt last k) as (λ b. nat_lt last k ≡ b → cond b (k ∷ filter (nat_lt last) ks) (filter (nat_lt last) ks) ≡ [] → length (cond (nat_lt a k) (k ∷ filter (nat_lt a) ks) (filter (nat_lt a) ks)) + a ≤ last) [
  | true ↦ λ over none. absurd cc
  | false ↦ λ under none. elim (nat_lt a k) as (λ b. nat_lt a k ≡ b → length (cond b (k ∷ filter (nat_lt a) ks) (filter (nat_lt a) ks)) + a ≤ last) [
    | true ↦ λ up.
        let within = ltb-false last k under in
        let beyond = ltb-true a k up in
        let rest = few_between k last ks h.1 within none in
        let same = ap length (all_above nat_lt number_order a k up ks h.0 ∙ sym (own_above nat_lt number_order k ks h.0)) in
        omega (arith, rest, same, beyond)
    | false ↦ λ e. few_between a last ks h.1 le none
  ] refl
] refl none

-- kept replies from a number on, none above another
pub few_from : (s : PlainState) (client oldest last : ℕ) → oldest ≤ last → next_tid s client last ≡ None → count (λ (e : ℕ × ℕ). nat_le oldest e.0) (kept_of s client) + oldest ≤ last + 1
few_from s client oldest last le f =
    let all = counted_from s client oldest in
    let above = few_between oldest last (tids (kept_of s client)) (tids_ascend (kept_of s client)) le (tids_end s client last f) in
    let one = at_most_one (is_some (kept_reply s client oldest)) in
    omega (arith, all, above, one)

passing_most : (p : ℕ × ℕ → Bool) (es : List (ℕ × ℕ)) → passing p es ≤ length es
passing_most p [] = omega arith
passing_most p (e ∷ es) = let rest = passing_most p es in elim (p e) as (λ b. cond b 1 0 + passing p es ≤ length (e ∷ es)) [ true ↦ omega (arith, rest) | false ↦ omega (arith, rest) ]

-- at most 64
pub few_kept : (c : CacheValue) (is : HasTree c) (client : ℕ) (p : ℕ × ℕ → Bool) → count p (kept_of (early_tree c) client) ≤ 64
few_kept c is client p = elim (cases_option (get (early_tree c).sessions client)) [
  | inl none ↦
      let kept : kept_of (early_tree c) client ≡ empty = ap (λ (o : Option Session). (unwrap_or o (record { oldest = 0; kept = empty })).kept) none in
      subst (λ (m : Map nat_cmp ℕ). count p m ≤ 64) (sym kept) (subst (λ (es : List (ℕ × ℕ)). passing p es ≤ 64) (sym (entries-empty nat_cmp)) (omega arith))
  | inr w ↦
      let kept : kept_of (early_tree c) client ≡ w.0.kept = ap (λ (o : Option Session). (unwrap_or o (record { oldest = 0; kept = empty })).kept) w.1 in
      let few = is.sessions.few_replies client w.0 w.1 in
      let most = passing_most p (entries w.0.kept) in
      let len = len-entries w.0.kept in
      subst (λ (m : Map nat_cmp ℕ). count p m ≤ 64) (sym kept) (omega (arith, few, most, len))
]
