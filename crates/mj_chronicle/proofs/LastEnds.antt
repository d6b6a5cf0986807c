-- The last ends of a list with one more entry.
use Rattle.std.proofs.Common.{◌≡◌, ℕ, Bool, true, false, cond, List, [], ◌∷◌, ◌++◌, Option, None, Some, refl, sym, ap, ◌∙◌, arith}
use Rattle.std.specs.Prelude.{◌&&◌, ◌==◌, IsSome, is_some}
use Rattle.std.specs.Option.{option_or}
use Rattle.std.specs.BTreeMap.{BTreeMap, get, is_at}
use Rattle.std.proofs.lemmas.Bool.{eqb-true, eq-eqb, true≢false}
use Rattle.mj_maps.specs.Orders.{pair_cmp}
use Rattle.mj_maps.proofs.Kept.{pair_ties}
use Rattle.mj_machine.specs.declared.kept.ChronicleEntry.{ChronicleEntry}
use Rattle.mj_chronicle.specs.Ends.{is_of, own_end, last_end, IsIndexOf}

or_assoc : (a b c : Option ℕ) → option_or (option_or a b) c ≡ option_or a (option_or b c)
or_assoc None b c = refl
or_assoc (Some x) b c = refl

or_none : (a : Option ℕ) → a ≡ option_or a None
or_none None = refl
or_none (Some x) = refl

pub last_end-push : (client tid : ℕ) (es : List ChronicleEntry) (e : ChronicleEntry) → last_end client tid (es ++ e ∷ []) ≡ option_or (own_end client tid e) (last_end client tid es)
last_end-push client tid [] e = or_none (own_end client tid e)
last_end-push client tid (x ∷ es) e =
    ap (λ o. option_or o (own_end client tid x)) (last_end-push client tid es e)
    ∙ or_assoc (own_end client tid e) (last_end client tid es) (own_end client tid x)

own_none : (b : Bool) (o : Option ℕ) → o ≡ None → cond b o None ≡ None
own_none true o h = h
own_none false o h = refl

-- an entry without an end changes none
pub without_end : (es : List ChronicleEntry) (e : ChronicleEntry) (client tid : ℕ) → e.ends_at ≡ None → last_end client tid (es ++ e ∷ []) ≡ last_end client tid es
without_end es e client tid h = last_end-push client tid es e ∙ ap (λ o. option_or o (last_end client tid es)) (own_none (is_of client tid e) e.ends_at h)

by_own : (b : Bool) (own last : Option ℕ) (end : ℕ) → own ≡ Some end → option_or (cond b own None) last ≡ cond b (Some end) last
by_own true own last end h = ap (λ o. option_or o last) h
by_own false own last end h = refl

-- one with an end is the last of its client and number
pub with_end : (es : List ChronicleEntry) (e : ChronicleEntry) (client tid end : ℕ) → e.ends_at ≡ Some end → last_end client tid (es ++ e ∷ []) ≡ cond (is_of client tid e) (Some end) (last_end client tid es)
with_end es e client tid end h = last_end-push client tid es e ∙ by_own (is_of client tid e) e.ends_at (last_end client tid es) end h

both_equal : (a b c d : ℕ) → (a == b && c == d) ≡ true → (a ≡ b) × (c ≡ d)
both_equal a b c d h = grind (arith, eqb-true)

taken_back : (b : Bool) (own last here : Option ℕ) → (b ≡ true → here ≡ last) → cond b here (option_or (cond b own None) last) ≡ last
taken_back true own last here h = h refl
taken_back false own last here h = refl

-- without the last entry, an end is that of the others where it was that entry's
pub taken_back_is : (es : List ChronicleEntry) (e : ChronicleEntry) (client tid : ℕ) → cond (is_of client tid e) (last_end e.request.client e.request.tid es) (last_end client tid (es ++ e ∷ [])) ≡ last_end client tid es
taken_back_is es e client tid =
    ap (cond (is_of client tid e) (last_end e.request.client e.request.tid es)) (last_end-push client tid es e)
    ∙ taken_back (is_of client tid e) e.ends_at (last_end client tid es) (last_end e.request.client e.request.tid es)
    (λ h. let same = both_equal e.request.client client e.request.tid tid h in λ i. last_end (same.0 i) (same.1 i) es)

itself : (a b : ℕ) → (a == a && b == b) ≡ true
itself a b = grind (arith, eq-eqb a a refl, eq-eqb b b refl)

pub last_is : (es : List ChronicleEntry) (e : ChronicleEntry) (end : ℕ) → e.ends_at ≡ Some end → last_end e.request.client e.request.tid (es ++ e ∷ []) ≡ Some end
last_is es e end h =
    with_end es e e.request.client e.request.tid end h
    ∙ ap (λ b. cond b (Some end) (last_end e.request.client e.request.tid es)) (itself e.request.client e.request.tid)

other : (b : Bool) (own last : Option ℕ) → (b ≡ true → ⊥) → option_or (cond b own None) last ≡ last
other true own last h = absurd (h refl)
other false own last h = refl

pub others_stay : (es : List ChronicleEntry) (e : ChronicleEntry) (client tid : ℕ) → (e.request.client ≡ client → e.request.tid ≡ tid → ⊥) → last_end client tid (es ++ e ∷ []) ≡ last_end client tid es
others_stay es e client tid h =
    last_end-push client tid es e
    ∙ other (is_of client tid e) e.ends_at (last_end client tid es) (λ b. let same = both_equal e.request.client client e.request.tid tid b in h same.0 same.1)

-- ---- the index

-- an entry with an end, which is put into the index
pub index_more : (es : List ChronicleEntry) (e : ChronicleEntry) (old new : BTreeMap (ℕ × ℕ) ℕ) (k : ℕ × ℕ) (end : ℕ) → k ≡ (e.request.client, e.request.tid) → e.ends_at ≡ Some end
    → IsIndexOf es old → ((q : ℕ × ℕ) → get pair_cmp new q ≡ cond (is_at (pair_cmp k) q) (Some end) (get pair_cmp old q)) → IsIndexOf (es ++ e ∷ []) new
index_more es e old new k end is_k h index wrote pair =
    let test : is_at (pair_cmp k) pair ≡ is_of pair.0 pair.1 e = ap (λ (x : ℕ × ℕ). is_at (pair_cmp x) pair) is_k ∙ sym (pair_ties (e.request.client, e.request.tid) pair) in
    wrote pair ∙ (λ i. cond (test i) (Some end) (index pair i)) ∙ sym (with_end es e pair.0 pair.1 end h)

-- an entry without one, which is not
pub index_same : (es : List ChronicleEntry) (e : ChronicleEntry) (ends : BTreeMap (ℕ × ℕ) ℕ) → e.ends_at ≡ None → IsIndexOf es ends → IsIndexOf (es ++ e ∷ []) ends
index_same es e ends h index pair = index pair ∙ sym (without_end es e pair.0 pair.1 h)

pub index_back : (es : List ChronicleEntry) (e : ChronicleEntry) (ends : BTreeMap (ℕ × ℕ) ℕ) → e.ends_at ≡ None → IsIndexOf (es ++ e ∷ []) ends → IsIndexOf es ends
index_back es e ends h index pair = index pair ∙ without_end es e pair.0 pair.1 h

pub no_end : (o : Option ℕ) → is_some o ≡ false → o ≡ None
no_end None h = refl
no_end (Some x) h = absurd (true≢false h)

some_end : (o : Option ℕ) → is_some o ≡ true → (end : ℕ) × (o ≡ Some end)
some_end None h = absurd (true≢false (sym h))
some_end (Some x) h = (x, refl)

is_there : (o : Option ℕ) (end : ℕ) → o ≡ Some end → IsSome o
is_there o end h = ap is_some h

-- the index has the pair of an entry with an end
pub in_index : (es : List ChronicleEntry) (e : ChronicleEntry) (ends : BTreeMap (ℕ × ℕ) ℕ) (k : ℕ × ℕ) → k ≡ (e.request.client, e.request.tid) → is_some e.ends_at ≡ true
    → IsIndexOf (es ++ e ∷ []) ends → IsSome (get pair_cmp ends k)
in_index es e ends k is_k h index =
    let some = some_end e.ends_at h in
    is_there (get pair_cmp ends k) some.0 (index k ∙ ap (λ (x : ℕ × ℕ). last_end x.0 x.1 (es ++ e ∷ [])) is_k ∙ last_is es e some.0 some.1)

-- with the end of the others in its place, the index is theirs
pub index_without : (es : List ChronicleEntry) (e : ChronicleEntry) (old new : BTreeMap (ℕ × ℕ) ℕ) (k : ℕ × ℕ) (end : Option ℕ) → k ≡ (e.request.client, e.request.tid) → end ≡ last_end k.0 k.1 es
    → IsIndexOf (es ++ e ∷ []) old → ((q : ℕ × ℕ) → get pair_cmp new q ≡ cond ((k.0 == q.0) && (k.1 == q.1)) end (get pair_cmp old q)) → IsIndexOf es new
index_without es e old new k end is_k is_end index wrote q =
    let here : end ≡ last_end e.request.client e.request.tid es = is_end ∙ ap (λ (x : ℕ × ℕ). last_end x.0 x.1 es) is_k in
    wrote q ∙ (λ i. cond (((is_k i).0 == q.0) && ((is_k i).1 == q.1)) (here i) (index q i)) ∙ taken_back_is es e q.0 q.1
