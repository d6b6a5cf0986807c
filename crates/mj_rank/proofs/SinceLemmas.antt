-- What goes on to hold of a rank and of a mount.
use Rattle.std.proofs.Common.{◌≡◌, inl, inr, ℕ, ◌≤◌, List, [], ◌∷◌, ◌++◌, Option, Some, None, refl, subst, sym, ap, ◌∙◌, Bool, true, false, arith}
use Rattle.std.specs.Prelude.{IfSome, map, filter, not, ◌==◌}
use Rattle.std.proofs.lemmas.Bool.{cases_eq, eq-eqb, ne_eqb, cond-true, cond-false}
use Rattle.mj_base.specs.Counts.{Rose}
use Rattle.mj_store.specs.declared.answer.Ack.{Ack}
use Rattle.mj_store.specs.declared.answer.StoreFault.{StoreFault}
use Rattle.mj_store.specs.State.{StoreState}
use Rattle.mj_store.specs.Moves.{Reaps, Submits}
use Rattle.mj_store.specs.declared.act.ObjectAct.TheVariants.{Write}
use Rattle.mj_store.specs.declared.act.ObjectOp.{ObjectOp}
use Rattle.mj_base.specs.declared.object.ObjectName.{ObjectName}
use Rattle.mj_layout.specs.declared.Header.{Header}
use Rattle.mj_layout.specs.Header.{header_bytes}
use Rattle.mj_recovery.specs.Stream.{journal_object}
use Rattle.mj_rank.specs.Mounts.{header_op}
use Rattle.mj_store.specs.Causes.{Listed, Reports, In, AllBelow, with_listed, unlisted}
use Rattle.mj_store.proofs.Counts.{counted_same, counted_listed, counted_reported, cause_reported, rose_later, rose_since}
use Rattle.mj_store.proofs.Numbers.{in_append}
use Rattle.mj_rank.specs.Log.{log_value}
use Rattle.mj_rank.specs.Since.{RankSince, MountSince, AllListed, AreListed, AreOnce, OutIn, numbers_of}
use Rattle.mj_rank.specs.declared.mounting.Mounting.{Mounting}
use Rattle.mj_rank.specs.declared.refusal.Fault.{Fault}
use Rattle.mj_rank.specs.declared.rank.Rank.{Rank}
use Rattle.mj_rank.proofs.Out.{listed_same}

-- a fault that is kept goes on to be counted
pub down_later : {F : Type 0} (base before now : ℕ) (kept : Option F) → before ≤ now → IfSome kept (λ _. Rose base before) → IfSome kept (λ _. Rose base now)
down_later base before now None le h = h
down_later base before now (Some f) le h = rose_later base before now le h

none_is_some : {F : Type 0} (f : F) → None ≡ Some f → ⊥
none_is_some f e = cc

-- the store is as before, but for what it counts
pub rank_since_same : {S : Type 0} {faults : S → ℕ} {unreported : S → List Listed} (base : ℕ) (a b : Rank S) → faults a.store ≤ faults b.store → unreported b.store ≡ unreported a.store → b.fault ≡ a.fault → log_value b.log ≡ log_value a.log
    → RankSince faults unreported base a → RankSince faults unreported base b
rank_since_same {faults = faults} {unreported = unreported} base a b le same kept log h = record {
  counted = counted_same le same h.counted;
  down = down_later base (faults a.store) (faults b.store) b.fault le (subst (λ o. IfSome o (λ _. Rose base (faults a.store))) (sym kept) h.down);
  out = λ up. listed_same (unreported a.store) (unreported b.store) a.log b.log same log (h.out (sym kept ∙ up));
}

-- neither store nor fault has changed
pub rank_since_kept : {S : Type 0} {faults : S → ℕ} {unreported : S → List Listed} (base : ℕ) (a b : Rank S) → b.store ≡ a.store → b.fault ≡ a.fault → ((list : List Listed) → AllListed list a.log → AllListed list b.log)
    → RankSince faults unreported base a → RankSince faults unreported base b
rank_since_kept {faults = faults} {unreported = unreported} base a b is kept log h =
    let count = ap faults is in
    record {
      counted = counted_same (omega (arith, count)) (ap unreported is) h.counted;
      down = down_later base (faults a.store) (faults b.store) b.fault (omega (arith, count)) (subst (λ o. IfSome o (λ _. Rose base (faults a.store))) (sym kept) h.down);
      out = λ up. subst (λ (l : List Listed). AllListed l b.log) (sym (ap unreported is)) (log (unreported a.store) (h.out (sym kept ∙ up)));
    }

-- the store has failed, and the rank keeps the fault
pub rank_since_failed : {S : Type 0} {faults : S → ℕ} {unreported : S → List Listed} (base : ℕ) (a b : Rank S) (f : Fault) → Rose (faults a.store) (faults b.store) → faults a.store ≤ faults b.store → unreported b.store ≡ unreported a.store → b.fault ≡ Some f
    → RankSince faults unreported base a → RankSince faults unreported base b
rank_since_failed {faults = faults} base a b f rose le same kept h = record {
  counted = counted_same le same h.counted;
  down = subst (λ o. IfSome o (λ _. Rose base (faults b.store))) (sym kept) (rose_since base (faults a.store) (faults b.store) h.counted.later rose);
  out = λ up. absurd (none_is_some f (sym up ∙ kept));
}

-- an operation was submitted
pub rank_since_listed : {S : Type 0} {faults : S → ℕ} {unreported : S → List Listed} (base : ℕ) (a b : Rank S) (op : ℕ) → faults a.store ≤ faults b.store → unreported b.store ≡ with_listed op (faults b.store) (unreported a.store) → b.fault ≡ a.fault
    → (AllListed (unreported a.store) a.log → AllListed (unreported b.store) b.log) → RankSince faults unreported base a → RankSince faults unreported base b
rank_since_listed {faults = faults} base a b op le is kept out h = record {
  out = λ up. out (h.out (sym kept ∙ up));
  counted = counted_listed op le is h.counted;
  down = down_later base (faults a.store) (faults b.store) b.fault le (subst (λ o. IfSome o (λ _. Rose base (faults a.store))) (sym kept) h.down);
}

-- the same where the rank's store is told by itself
pub rank_since_sent : {S : Type 0} {faults : S → ℕ} {unreported : S → List Listed} (base : ℕ) (a b : Rank S) (store : S) (op : ℕ) → b.store ≡ store → faults a.store ≤ faults store → unreported store ≡ with_listed op (faults store) (unreported a.store)
    → b.fault ≡ a.fault → (AllListed (unreported a.store) a.log → AllListed (unreported store) b.log) → RankSince faults unreported base a → RankSince faults unreported base b
rank_since_sent {S = S} {faults = faults} {unreported = unreported} base a b store op is le listed kept out h = rank_since_listed {faults = faults} {unreported = unreported} base a b op
    (subst (λ (s : S). faults a.store ≤ faults s) (sym is) le) (subst (λ (s : S). unreported s ≡ with_listed op (faults s) (unreported a.store)) (sym is) listed) kept
    (λ all. subst (λ (s : S). AllListed (unreported s) b.log) (sym is) (out all)) h

-- an operation was reported
pub rank_since_reported : {S : Type 0} {faults : S → ℕ} {unreported : S → List Listed} (base : ℕ) (a b : Rank S) (ack : Ack) → faults a.store ≤ faults b.store → Reports ack (faults b.store) (unreported a.store) (unreported b.store) → b.fault ≡ a.fault
    → (AllListed (unreported a.store) a.log → AllListed (unreported b.store) b.log) → RankSince faults unreported base a → RankSince faults unreported base b
rank_since_reported {faults = faults} base a b ack le reports kept out h = record {
  out = λ up. out (h.out (sym kept ∙ up));
  counted = counted_reported ack le reports h.counted;
  down = down_later base (faults a.store) (faults b.store) b.fault le (subst (λ o. IfSome o (λ _. Rose base (faults a.store))) (sym kept) h.down);
}

-- an operation was reported as not done, and the rank keeps the fault
pub rank_since_not_done : {S : Type 0} {faults : S → ℕ} {unreported : S → List Listed} (base : ℕ) (a b : Rank S) (f : Fault) (ack : Ack) → faults a.store ≤ faults b.store → Reports ack (faults b.store) (unreported a.store) (unreported b.store) → ack.done ≡ false → b.fault ≡ Some f
    → RankSince faults unreported base a → RankSince faults unreported base b
rank_since_not_done {faults = faults} base a b f ack le reports not kept h = record {
  out = λ up. absurd (none_is_some f (sym up ∙ kept));
  counted = counted_reported ack le reports h.counted;
  down = subst (λ o. IfSome o (λ _. Rose base (faults b.store))) (sym kept) (cause_reported ack reports h.counted not);
}

-- the same where the rank is told by its store alone
module _ {S : Type 0} {faults : S → ℕ} {unreported : S → List Listed} (base : ℕ) (a b : Rank S) (store : S) (f : Fault) (is : b.store ≡ store) (kept : b.fault ≡ Some f) (le : faults a.store ≤ faults store) (h : RankSince faults unreported base a) where
  pub rank_since_down : Rose (faults a.store) (faults store) → unreported store ≡ unreported a.store → RankSince faults unreported base b
  rank_since_down rose same = rank_since_failed base a b f
      (subst (λ s. Rose (faults a.store) (faults s)) (sym is) rose) (subst (λ s. faults a.store ≤ faults s) (sym is) le) (subst (λ s. unreported s ≡ unreported a.store) (sym is) same) kept h

  pub rank_since_down_by : (ack : Ack) → Reports ack (faults store) (unreported a.store) (unreported store) → ack.done ≡ false → RankSince faults unreported base b
  rank_since_down_by ack reports not = rank_since_not_done base a b f ack
      (subst (λ s. faults a.store ≤ faults s) (sym is) le) (subst (λ s. Reports ack (faults s) (unreported a.store) (unreported s)) (sym is) reports) not kept h

-- ---- lists of numbers

in_map : (l : Listed) (list : List Listed) → In l list → In l.op (map (λ (x : Listed). x.op) list)
in_map l [] i = i
in_map l (x ∷ xs) (inl e) = inl (ap (λ (y : Listed). y.op) e)
in_map l (x ∷ xs) (inr i) = inr (in_map l xs i)

map_in : (op : ℕ) (list : List Listed) → In op (map (λ (x : Listed). x.op) list) → (l : Listed) × In l list × (l.op ≡ op)
map_in op [] i = absurd i
map_in op (x ∷ xs) (inl e) = (x, inl refl, e)
map_in op (x ∷ xs) (inr i) = let h = map_in op xs i in (h.0, inr h.1, h.2)

abbrev but : ℕ → ℕ → Bool
but op n = not (n == op)

-- what lacks a number stays as it is without it
lacks : (op : ℕ) (ops : List ℕ) → (In op ops → ⊥) → filter (but op) ops ≡ ops
lacks op [] h = refl
lacks op (x ∷ xs) h = cond-true (but op x) (x ∷ filter (but op) xs) (filter (but op) xs) (ap not (ne_eqb x op (λ e. h (inl e)))) ∙ ap (λ (ys : List ℕ). x ∷ ys) (lacks op xs (λ i. h (inr i)))

-- one is taken out of the list, and its number out of the numbers
unlisted_numbers : (op : ℕ) (list : List Listed) → AreOnce (map (λ (x : Listed). x.op) list) → map (λ (x : Listed). x.op) (unlisted op list) ≡ filter (but op) (map (λ (x : Listed). x.op) list)
unlisted_numbers op [] once = refl
unlisted_numbers op (x ∷ xs) once = elim (cases_eq x.op op) [
  | inl same ↦
      ap (map (λ (y : Listed). y.op)) (cond-true (x.op == op) xs (x ∷ unlisted op xs) (eq-eqb x.op op same))
      ∙ (sym (lacks op (map (λ (y : Listed). y.op) xs) (λ i. once.0 (subst (λ (n : ℕ). In n (map (λ (y : Listed). y.op) xs)) (sym same) i)))
      ∙ sym (cond-false (but op x.op) (x.op ∷ filter (but op) (map (λ (y : Listed). y.op) xs)) (filter (but op) (map (λ (y : Listed). y.op) xs)) (ap not (eq-eqb x.op op same))))
  | inr other ↦
      ap (map (λ (y : Listed). y.op)) (cond-false (x.op == op) xs (x ∷ unlisted op xs) (ne_eqb x.op op other))
      ∙ (ap (λ (ys : List ℕ). x.op ∷ ys) (unlisted_numbers op xs once.1)
      ∙ sym (cond-true (but op x.op) (x.op ∷ filter (but op) (map (λ (y : Listed). y.op) xs)) (filter (but op) (map (λ (y : Listed). y.op) xs)) (ap not (ne_eqb x.op op other))))
]

in_filter : (op n : ℕ) (ops : List ℕ) → In n (filter (but op) ops) → In n ops
in_filter op n [] i = i
in_filter op n (x ∷ xs) i = elim (cases_eq x op) [
  | inl same ↦ inr (in_filter op n xs (subst (In n) (cond-false (but op x) (x ∷ filter (but op) xs) (filter (but op) xs) (ap not (eq-eqb x op same))) i))
  | inr other ↦ elim (subst (In n) (cond-true (but op x) (x ∷ filter (but op) xs) (filter (but op) xs) (ap not (ne_eqb x op other))) i) [ inl e ↦ inl e | inr j ↦ inr (in_filter op n xs j) ]
]

once_filter : (op : ℕ) (ops : List ℕ) → AreOnce ops → AreOnce (filter (but op) ops)
once_filter op [] once = tt
once_filter op (x ∷ xs) once = elim (cases_eq x op) [
  | inl same ↦ subst AreOnce (sym (cond-false (but op x) (x ∷ filter (but op) xs) (filter (but op) xs) (ap not (eq-eqb x op same)))) (once_filter op xs once.1)
  | inr other ↦ subst AreOnce (sym (cond-true (but op x) (x ∷ filter (but op) xs) (filter (but op) xs) (ap not (ne_eqb x op other)))) (λ i. once.0 (in_filter op x xs i), once_filter op xs once.1)
]

numbers_more : (list : List Listed) (op count : ℕ) → map (λ (x : Listed). x.op) (with_listed op count list) ≡ map (λ (x : Listed). x.op) list ++ op ∷ []
numbers_more [] op count = refl
numbers_more (x ∷ xs) op count = ap (λ (ys : List ℕ). x.op ∷ ys) (numbers_more xs op count)

once_more : (ops : List ℕ) (op : ℕ) → (In op ops → ⊥) → AreOnce ops → AreOnce (ops ++ op ∷ [])
once_more [] op new once = (λ i. i, tt)
once_more (x ∷ xs) op new once = (
  λ i. elim (in_append x xs (op ∷ []) i) [ inl a ↦ once.0 a | inr b ↦ elim b [ inl e ↦ new (inl (sym e)) | inr n ↦ absurd n ] ],
  once_more xs op (λ i. new (inr i)) once.1,
)

-- ---- what is listed

numbers_same : (ops now : List ℕ) (list left : List Listed) → now ≡ ops → left ≡ list → AreListed ops list → AreListed now left
numbers_same ops now list left a b h = record { same = ap (map (λ (x : Listed). x.op)) b ∙ (h.same ∙ sym a); once = subst AreOnce (sym a) h.once }

numbers_sent : (ops now : List ℕ) (list left : List Listed) (op count : ℕ) → now ≡ ops ++ op ∷ [] → left ≡ with_listed op count list → AllBelow op list → AreListed ops list → AreListed now left
numbers_sent ops now list left op count a b below h =
    let new : In op ops → ⊥ = λ i. let at = map_in op list (subst (In op) (sym h.same) i) in omega (arith, below at.0 at.1, at.2) in
    record {
      same = ap (map (λ (x : Listed). x.op)) b ∙ (numbers_more list op count ∙ (ap (λ (ns : List ℕ). ns ++ op ∷ []) h.same ∙ sym a));
      once = subst AreOnce (sym a) (once_more ops op new h.once);
    }

numbers_reported : (ops now : List ℕ) (list left : List Listed) (ack : Ack) (count : ℕ) → now ≡ filter (but ack.op) ops → Reports ack count list left → AreListed ops list → AreListed now left
numbers_reported ops now list left ack count a r h = record {
  same = ap (map (λ (x : Listed). x.op)) r.rest ∙ (unlisted_numbers ack.op list (subst AreOnce (sym h.same) h.once) ∙ (ap (filter (but ack.op)) h.same ∙ sym a));
  once = subst AreOnce (sym a) (once_filter ack.op ops h.once);
}

-- ---- of a mount

module _ {S : Type 0} {faults : S → ℕ} {unreported : S → List Listed} (base : ℕ) (a b : Mounting S) (le : faults a.store ≤ faults b.store) (out : OutIn b) (h : MountSince faults unreported base a) where
  down_same : b.fault ≡ a.fault → IfSome b.fault (λ _. Rose base (faults b.store))
  down_same kept = down_later base (faults a.store) (faults b.store) b.fault le (subst (λ o. IfSome o (λ _. Rose base (faults a.store))) (sym kept) h.down)

  -- the store is as before, but for what it counts
  pub mount_since_same : unreported b.store ≡ unreported a.store → b.fault ≡ a.fault → numbers_of b ≡ numbers_of a → MountSince faults unreported base b
  mount_since_same same kept numbers = record {
    counted = counted_same le same h.counted;
    down = down_same kept;
    listed = λ up. numbers_same (numbers_of a) (numbers_of b) (unreported a.store) (unreported b.store) numbers same (h.listed (sym kept ∙ up));
    out = out;
  }

  -- an operation was submitted
  pub mount_since_sent : (op : ℕ) → unreported b.store ≡ with_listed op (faults b.store) (unreported a.store) → AllBelow op (unreported a.store) → b.fault ≡ a.fault → numbers_of b ≡ numbers_of a ++ op ∷ [] → MountSince faults unreported base b
  mount_since_sent op is below kept numbers = record {
    counted = counted_listed op le is h.counted;
    down = down_same kept;
    listed = λ up. numbers_sent (numbers_of a) (numbers_of b) (unreported a.store) (unreported b.store) op (faults b.store) numbers is below (h.listed (sym kept ∙ up));
    out = out;
  }

  -- one was reported as done
  pub mount_since_acked : (ack : Ack) → Reports ack (faults b.store) (unreported a.store) (unreported b.store) → b.fault ≡ a.fault → numbers_of b ≡ filter (λ n. not (n == ack.op)) (numbers_of a) → MountSince faults unreported base b
  mount_since_acked ack reports kept numbers = record {
    counted = counted_reported ack le reports h.counted;
    down = down_same kept;
    listed = λ up. numbers_reported (numbers_of a) (numbers_of b) (unreported a.store) (unreported b.store) ack (faults b.store) numbers reports (h.listed (sym kept ∙ up));
    out = out;
  }

  -- one was reported as not done, and the mount keeps the fault
  pub mount_since_not_done : (f : StoreFault) (ack : Ack) → Reports ack (faults b.store) (unreported a.store) (unreported b.store) → ack.done ≡ false → b.fault ≡ Some f → MountSince faults unreported base b
  mount_since_not_done f ack reports not kept = record {
    counted = counted_reported ack le reports h.counted;
    down = subst (λ o. IfSome o (λ _. Rose base (faults b.store))) (sym kept) (cause_reported ack reports h.counted not);
    listed = λ up. absurd (none_is_some f (sym up ∙ kept));
    out = out;
  }

-- what is reported was sent
pub reported_sent : {S : Type 0} {faults : S → ℕ} {unreported : S → List Listed} (base now : ℕ) (a : Mounting S) (left : List Listed) (ack : Ack) → a.fault ≡ None → Reports ack now (unreported a.store) left → MountSince faults unreported base a → In ack.op (numbers_of a)
reported_sent {unreported = unreported} base now a left ack up r h = subst (In ack.op) (h.listed up).same (in_map (record { op = ack.op; count = r.count }) (unreported a.store) r.was)

-- ---- of an acknowledgement

pub reaps_done : (ack : Ack) (old new : Option StoreState) → ack.done ≡ true → Reaps (Some ack) old new → Reaps (Some (record { op = ack.op; done = true })) old new
reaps_done ack old new done told = subst (λ d. Reaps (Some (record { op = ack.op; done = d })) old new) done told

-- ---- of a header

pub header_sent : (rank : ℕ) (h : Header) (op : ℕ) (old new : Option StoreState) (name : ObjectName) (bytes : List ℕ) → name ≡ journal_object rank 0 → bytes ≡ header_bytes h → Submits (record { name = name; act = Write 0 bytes }) op old new → Submits (header_op rank h) op old new
header_sent rank h op old new name bytes a b told = subst (λ (q : ObjectOp). Submits q op old new) (λ i. record { name = a i; act = Write 0 (b i) }) told
