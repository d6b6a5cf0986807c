-- Whether anything names an inode once one of its links or opens is gone.
use Rattle.std.proofs.Common.{◌≡◌, ℕ, ◌+◌, ◌<◌, ◌≤◌, ◌==◌, ◌||◌, true, false, cond, nat_lt, List, Some, refl, sym, ap, ◌∙◌, inl, inr, arith}
use Rattle.std.specs.Prelude.{◌-◌, is_some}
use Rattle.std.proofs.lemmas.Bool.{cases_lt, lt-ltb, le-ltb, eq-eqb, false≢true}
use Rattle.mj_maps.specs.Map.{get, remove, count}
use Rattle.mj_maps.proofs.MapLaws.{exact_place, exact_pair, count-remove, absent_remove}
use Rattle.mj_tree.specs.State.{PlainState, link_count, open_count, is_kept}
use Rattle.mj_tree.specs.Row.{is_open}
use Rattle.mj_delta.proofs.Facts.{cases_option}

both_none : (a b : ℕ) → (nat_lt 0 a || nat_lt 0 b) ≡ nat_lt 0 (a + b)
both_none a b = elim (cases_lt 0 a) [
  | inl some ↦ ap (λ x. x || nat_lt 0 b) (lt-ltb 0 a some) ∙ sym (lt-ltb 0 (a + b) (omega arith))
  | inr none ↦ ap (λ x. x || nat_lt 0 b) (le-ltb 0 a none) ∙ ap (nat_lt 0) (omega arith)
]

one_less : (n a : ℕ) → a + 1 ≡ n → nat_lt 1 n ≡ nat_lt 0 a
one_less n a e = elim (cases_lt 0 a) [
  | inl some ↦ lt-ltb 1 n (omega arith) ∙ sym (lt-ltb 0 a some)
  | inr none ↦ le-ltb 1 n (omega arith) ∙ sym (le-ltb 0 a none)
]

pub link_gone : (s : PlainState) (q : ℕ × List ℕ) (i : ℕ) → get s.links q ≡ Some i → link_count (record s { links = remove s.links q }) i + 1 ≡ link_count s i
link_gone s q i l = ap (λ b. link_count (record s { links = remove s.links q }) i + cond b 1 0) (sym (eq-eqb i i refl)) ∙ count-remove exact_place (λ (e : (ℕ × List ℕ) × ℕ). e.1 == i) s.links q i l

-- of the links all but one
pub kept_without_link : (s : PlainState) (q : ℕ × List ℕ) (i links opens : ℕ) → get s.links q ≡ Some i → links ≡ link_count s i → opens ≡ open_count s i → (nat_lt 1 links || nat_lt 0 opens) ≡ is_kept (record s { links = remove s.links q }) i
kept_without_link s q i links opens l e f =
    let less : PlainState = record s { links = remove s.links q } in
    (λ z. one_less links (link_count less i) (link_gone s q i l ∙ sym e) z || nat_lt 0 (f z)) ∙ both_none (link_count less i) (open_count s i)

pub open_gone : (s : PlainState) (client i : ℕ) → is_open s client i ≡ true → open_count s i - 1 ≡ open_count (record s { opens = remove s.opens (client, i) }) i
open_gone s client i h = elim (cases_option (get s.opens (client, i))) [
  | inl none ↦ absurd (false≢true (sym (ap is_some none) ∙ h))
  | inr w ↦
      let less : PlainState = record s { opens = remove s.opens (client, i) } in
      let e : open_count less i + 1 ≡ open_count s i = ap (λ b. open_count less i + cond b 1 0) (sym (eq-eqb i i refl)) ∙ count-remove exact_pair (λ (e : (ℕ × ℕ) × Unit {0}). e.0.1 == i) s.opens (client, i) w.0 w.1 in
      omega (arith, e)
]

pub not_open : (s : PlainState) (client i : ℕ) → is_open s client i ≡ false → open_count s i ≡ open_count (record s { opens = remove s.opens (client, i) }) i
not_open s client i h = elim (cases_option (get s.opens (client, i))) [
  | inl none ↦ ap (count (λ (e : (ℕ × ℕ) × Unit {0}). e.0.1 == i)) (sym (absent_remove exact_pair s.opens (client, i) none))
  | inr w ↦ absurd (false≢true (sym h ∙ ap is_some w.1))
]

-- of the opens all but the client's
pub kept_without_open : (s : PlainState) (client i links opens : ℕ) → links ≡ link_count s i → opens ≡ open_count (record s { opens = remove s.opens (client, i) }) i
    → (nat_lt 0 links || nat_lt 0 opens) ≡ is_kept (record s { opens = remove s.opens (client, i) }) i
kept_without_open s client i links opens e f = (λ z. nat_lt 0 (e z) || nat_lt 0 (f z)) ∙ both_none (link_count s i) (open_count (record s { opens = remove s.opens (client, i) }) i)

-- a second link keeps it, and else an open has to
pub kept_by_links : (s : PlainState) (q : ℕ × List ℕ) (i links : ℕ) → get s.links q ≡ Some i → links ≡ link_count s i → 1 < links → nat_lt 1 links ≡ is_kept (record s { links = remove s.links q }) i
kept_by_links s q i links l e lt =
    let opens = open_count s i in
    lt-ltb 1 links lt ∙ sym (ap (λ x. x || nat_lt 0 opens) (lt-ltb 1 links lt)) ∙ kept_without_link s q i links opens l e refl

pub kept_by_opens : (s : PlainState) (q : ℕ × List ℕ) (i links opens : ℕ) → get s.links q ≡ Some i → links ≡ link_count s i → links ≤ 1 → opens ≡ open_count s i → nat_lt 0 opens ≡ is_kept (record s { links = remove s.links q }) i
kept_by_opens s q i links opens l e le f = sym (ap (λ x. x || nat_lt 0 opens) (le-ltb 1 links le)) ∙ kept_without_link s q i links opens l e f
