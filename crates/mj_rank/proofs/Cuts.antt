-- What a mount looks at, and what it cuts off above the tail.
use Rattle.std.proofs.Common.{◌≡◌, ◌⊎◌, inl, inr, ℕ, ◌+◌, ◌*◌, ◌^◌, ◌<◌, ◌≤◌, max, List, [], ◌∷◌, Option, Some, None, refl, sym, ap, subst, ◌∙◌, arith}
use Rattle.std.specs.Prelude.{option_map, unwrap_or, ◌==◌, not, length}
use Rattle.std.proofs.lemmas.Bool.{cases_lt, cases_eq, eq-eqb, ne_eqb, cond-true, cond-false}
use Rattle.std.proofs.lemmas.Nat.{le-div, mul-le}
use Rattle.mj_base.specs.declared.object.ObjectName.{ObjectName}
use Rattle.mj_store.specs.declared.act.ObjectOp.{ObjectOp}
use Rattle.mj_store.specs.Object.{Content}
use Rattle.mj_store.specs.State.{StoreState, tried}
use Rattle.mj_store.specs.Causes.{In, Listed}
use Rattle.mj_store.specs.Events.{Tells}
use Rattle.mj_store.specs.Moves.{Moves, HasSize, Stays}
use Rattle.mj_store.proofs.Paths.{moves_keep}
use Rattle.mj_layout.specs.Striping.{Striping, IsStriping, period}
use Rattle.mj_layout.specs.Placing.{set_of}
use Rattle.mj_layout.proofs.Striped.{sizes}
use Rattle.mj_layout.proofs.Placed.{div_rises}
use Rattle.mj_recovery.specs.Stream.{journal_object}
use Rattle.mj_recovery.specs.Orderly.{window_end}
use Rattle.mj_facts.specs.Ranks.{Cutting, Mount, tail_of}
use Rattle.mj_facts.specs.Calls.{held_size, IsShort, IsNear}
use Rattle.mj_journaler.specs.Cutting.{IsBelowTail, Truncates}
use Rattle.mj_rank.specs.declared.cutting.Cut.{Cut}
use Rattle.mj_rank.specs.Cutting.{near_end, Passes, Finds, cuttings, cutting_of, sent_cuts, without_cut}
use Rattle.mj_rank.specs.Cutting.Passes.{Nothing, More}
use Rattle.mj_rank.proofs.StillReads.{stays_itself, stays_then}

-- ---- one object

size_is : (held : Option Content) → held_size held ≡ unwrap_or (option_map (λ (o : Content). length o.bytes) held) 0
size_is None = refl
size_is (Some o) = refl

-- as the facts of a mount say it
pub short_of : (k : Mount) (index : ℕ) (held : Option Content) (size : Option ℕ) → size ≡ option_map (λ (o : Content). length o.bytes) held → IsBelowTail k.journal.layout (tail_of k) index (unwrap_or size 0) → IsShort k index held
short_of k index held size is b = record {
  len = max b.len (unwrap_or size 0);
  cut = record { below = λ x e h. omega (arith, b.cut.below x e h); above = λ x e h. omega (arith, b.cut.above x e h, b.none x e h) };
  size = omega (arith, size_is held, ap (λ (o : Option ℕ). unwrap_or o 0) is);
}

-- ---- one after another

pub passes_up : (rank : ℕ) (l : Striping) (tail from to : ℕ) (old new : Option StoreState) → Passes rank l tail from to old new → from ≤ to
passes_up rank l tail _ _ _ _ (Nothing at told) = omega arith
passes_up rank l tail _ _ _ _ (More from to old mid new p one) = let up = passes_up rank l tail from to old mid p in omega (arith, up)

pub passes_stays : (rank : ℕ) (l : Striping) (tail from to : ℕ) (old new : Option StoreState) → Passes rank l tail from to old new → Stays old new
passes_stays rank l tail _ _ _ _ (Nothing at told) = stays_itself told
passes_stays rank l tail _ _ _ _ (More from to old mid new p one) = stays_then (passes_stays rank l tail from to old mid p) one.asked

pub passes_then : (rank : ℕ) (l : Striping) (tail a : ℕ) (old : Option StoreState) (b c : ℕ) (mid new : Option StoreState) → Passes rank l tail b c mid new → Passes rank l tail a b old mid → Passes rank l tail a c old new
passes_then rank l tail a old _ _ _ _ (Nothing at told) p = p
passes_then rank l tail a old _ _ _ _ (More b to mid next new q one) p = More a to old next new (passes_then rank l tail a old b to mid next q p) one

pub finds_stays : (rank : ℕ) (l : Striping) (tail from end index : ℕ) (op : ObjectOp) (old new : Option StoreState) → Finds rank l tail from end index op old new → Stays old new
finds_stays rank l tail from end index op old new f = stays_then (passes_stays rank l tail from index old f.mid f.passes) f.asked

-- what holds with each that was passed
module _ (rank : ℕ) (l : Striping) (tail : ℕ) (I : ℕ → StoreState → Type 0) (fronts : (i : ℕ) (name : ObjectName) (s : StoreState) → I i s → I i (tried name s))
    (one : (i : ℕ) (s : StoreState) (size : Option ℕ) → HasSize (journal_object rank i) size s → IsBelowTail l tail i (unwrap_or size 0) → I i s → I (i + 1) s) where
  pub passes_keep : (from to : ℕ) (old new : Option StoreState) → Passes rank l tail from to old new → Tells old (I from) → Tells new (I to)
  passes_keep _ _ _ _ (Nothing at told) t = t
  passes_keep _ _ _ _ (More from to old mid new p one_more) t =
      moves_keep (I to) (I (to + 1)) (HasSize (journal_object rank to) one_more.size) [] (fronts to) (λ s has q i. one to s one_more.size has one_more.below i) one_more.asked (passes_keep from to old mid p t)

-- ---- all near the tail

pub near_below : (k : Mount) (index : ℕ) → IsStriping k.journal.layout → IsNear k index → index < near_end k.journal.layout (tail_of k)
near_below k index ok n = elim (cases_lt index (near_end k.journal.layout (tail_of k))) as (λ _. index < near_end k.journal.layout (tail_of k)) [
  | inl less ↦ less
  | inr more ↦
      let l = k.journal.layout in
      let z = sizes l ok in
      absurd (omega (arith, n.to, le-div (set_of l (window_end l (tail_of k)) + 1) index l.sc (omega (arith, z.sc)) more))
]

-- their numbers fit, and are in order
pub near_fits : (l : Striping) (sets sc : ℕ) → IsStriping l → sc ≡ l.sc → sets < 2 ^ 46 → (sets + 1) * sc ≤ 2 ^ 50
near_fits l sets sc ok is low = let z = sizes l ok in omega (arith, mul-le (sets + 1) sc (2 ^ 46) 16 (omega (arith, low)) (omega (arith, is, z.sc_most)))

pub near_rises : (l : Striping) (tail last : ℕ) → IsStriping l → tail ≤ last → set_of l tail * l.sc ≤ (set_of l last + 1) * l.sc
near_rises l tail last ok up = let z = sizes l ok in
    mul-le (set_of l tail) l.sc (set_of l last + 1) l.sc (omega (arith, div_rises tail last (period l) (omega (arith, z.period_least)) up)) (omega arith)

-- ---- truncations that are out

pub in_cuttings : (c : Cut) (out : List Cut) → In c out → In (cutting_of c) (cuttings out)
in_cuttings c [] i = i
in_cuttings c (x ∷ xs) (inl e) = inl (ap cutting_of e)
in_cuttings c (x ∷ xs) (inr i) = inr (in_cuttings c xs i)

-- all but one of them are
pub others_out : (op : ℕ) (out : List Cut) (c : Cutting) → In c (cuttings out) → In c (cuttings (without_cut op out)) ⊎ (c.op ≡ op)
others_out op [] c i = absurd i
others_out op (x ∷ xs) c i = elim (cases_eq x.op op) [
  | inl same ↦
      let left : without_cut op (x ∷ xs) ≡ without_cut op xs = cond-false (not (x.op == op)) (x ∷ without_cut op xs) (without_cut op xs) (ap not (eq-eqb x.op op same)) in
      elim i [
        | inl is ↦ inr (sym (ap (λ (y : Cutting). y.op) is) ∙ same)
        | inr j ↦ elim (others_out op xs c j) [ inl h ↦ inl (subst (λ (ys : List Cut). In c (cuttings ys)) (sym left) h) | inr e ↦ inr e ]
      ]
  | inr other ↦
      let left : without_cut op (x ∷ xs) ≡ x ∷ without_cut op xs = cond-true (not (x.op == op)) (x ∷ without_cut op xs) (without_cut op xs) (ap not (ne_eqb x.op op other)) in
      elim i [
        | inl is ↦ inl (subst (λ (ys : List Cut). In c (cuttings ys)) (sym left) (inl is))
        | inr j ↦ elim (others_out op xs c j) [ inl h ↦ inl (subst (λ (ys : List Cut). In c (cuttings ys)) (sym left) (inr h)) | inr e ↦ inr e ]
      ]
]

-- those that are left were out, and none of them has this number
pub left_out : (rank op : ℕ) (out : List Cut) (x : ℕ × ObjectName) → In x (sent_cuts rank (without_cut op out)) → In x (sent_cuts rank out) × (x.0 ≡ op → ⊥)
left_out rank op [] x i = absurd i
left_out rank op (c ∷ cs) x i = elim (cases_eq c.op op) [
  | inl same ↦
      let left : without_cut op (c ∷ cs) ≡ without_cut op cs = cond-false (not (c.op == op)) (c ∷ without_cut op cs) (without_cut op cs) (ap not (eq-eqb c.op op same)) in
      let h = left_out rank op cs x (subst (λ (ys : List Cut). In x (sent_cuts rank ys)) left i) in
      (inr h.0, h.1)
  | inr other ↦
      let left : without_cut op (c ∷ cs) ≡ c ∷ without_cut op cs = cond-true (not (c.op == op)) (c ∷ without_cut op cs) (without_cut op cs) (ap not (ne_eqb c.op op other)) in
      elim (subst (λ (ys : List Cut). In x (sent_cuts rank ys)) left i) [
        | inl is ↦ (inl is, λ e. other (ap (λ (y : ℕ × ObjectName). y.0) is ∙ e))
        | inr j ↦ let h = left_out rank op cs x j in (inr h.0, h.1)
      ]
]

-- ---- asking for sizes

-- the objects from one number up to another were asked, and passed
pub record LookedTo (rank : ℕ) (l : Striping) (tail from index before now : ℕ) (list left : List Listed) (old new : Option StoreState) : Type 0 where
  pub same_list : left ≡ list
  pub later : before ≤ now
  pub passes : Passes rank l tail from index old new

pub looked_begins : (rank : ℕ) (l : Striping) (tail from faults : ℕ) (list : List Listed) (told : Option StoreState) → LookedTo rank l tail from from faults faults list list told told
looked_begins rank l tail from faults list told = record { same_list = refl; later = omega arith; passes = Nothing from told }

module _ (rank : ℕ) (l : Striping) (tail from index before now : ℕ) (list left : List Listed) (old mid new : Option StoreState) (c : LookedTo rank l tail from index before now list left old mid)
    (name : ObjectName) (size : Option ℕ) (at : name ≡ journal_object rank index) (moves : Moves (HasSize name size) [] mid new) where
  asked_here : Moves (HasSize (journal_object rank index) size) [] mid new
  asked_here = subst (λ (n : ObjectName). Moves (HasSize n size) [] mid new) at moves

  pub looked_stays : Stays old new
  looked_stays = stays_then (passes_stays rank l tail from index old mid c.passes) moves

  pub looked_more : (later : ℕ) (rest : List Listed) (n : ℕ) → rest ≡ left → now ≤ later → n ≡ unwrap_or size 0 → IsBelowTail l tail index n → LookedTo rank l tail from (index + 1) before later list rest old new
  looked_more later rest n same le is below = record {
    same_list = same ∙ c.same_list;
    later = omega (arith, c.later, le);
    passes = More from index old mid new c.passes (record { size = size; asked = asked_here; below = subst (IsBelowTail l tail index) is below });
  }

  pub looked_found : (end n : ℕ) (op : ObjectOp) → index < end → n ≡ unwrap_or size 0 → Truncates rank l tail index n op → Finds rank l tail from end index op old new
  looked_found end n op within is cut = record {
    within = within;
    mid = mid;
    passes = c.passes;
    size = size;
    asked = asked_here;
    truncates = subst (λ (k : ℕ). Truncates rank l tail index k op) is cut;
  }
