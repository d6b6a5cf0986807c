-- Counts of cells, before and after a write.
use Rattle.std.proofs.Common.{arith, ◌≡◌, ℕ, ◌+◌, ◌≤◌, Bool, true, false, cond, ◌&&◌, List, [], ◌∷◌, length, Option, Some, None, refl, sym, ap, ◌∙◌, inl, inr}
use Rattle.std.specs.Prelude.{is_some, filter_map, ◌==◌, ◌-◌}
use Rattle.std.specs.Option.{option_map, option_and_then}
use Rattle.std.specs.List.{cons_option}
use Rattle.std.proofs.lemmas.Bool.{true≢false}
use Rattle.mj_maps.specs.Map.{Map, get, insert, remove, count, passing}
use Rattle.mj_maps.proofs.MapLaws.{cases_key, remove_other, count-insert_new, count-insert_over, count-remove, count_some}
use Rattle.mj_cells.specs.declared.cell.CellKey.{CellKey}
use Rattle.mj_cells.specs.declared.cell.CellValue.{CellValue}
use Rattle.mj_cells.specs.declared.cell.CellValue.TheVariants.{Gone}
use Rattle.mj_cells.specs.Cell.{key_cmp}
use Rattle.mj_cells.proofs.Keys.{exact_key}
use Rattle.mj_recovery.specs.Tree.{Entry}
use Rattle.mj_recovery.specs.Damage.{times}
use Rattle.mj_judge.specs.Parts.{Cell, pair_of, dentry_at, session_at, open_at, dentry_entry, session_entry, open_entry}
use Rattle.mj_index.specs.Said.{is_the, is_dentry, is_dentry_in, is_open, is_open_of, is_session, value_or_gone, full_said, record_held}

-- ---- what is gone says nothing

none_pair : {K X : Type 0} (a : Option K) → pair_of {X = X} a None ≡ None
none_pair None = refl
none_pair (Some k) = refl

pub dentry_gone : (k : CellKey) → dentry_entry (k, Gone) ≡ None
dentry_gone k = none_pair (dentry_at k)

pub open_gone : (k : CellKey) → open_entry (k, Gone) ≡ None
open_gone k = none_pair (open_at k)

session_gone : (k : CellKey) → session_entry (k, Gone) ≡ None
session_gone k = none_pair (session_at k)

-- a test that no cell passes which is gone
abbrev pub FailsGone : (Cell → Bool) → Type 0
FailsGone p = (k : CellKey) → p (k, Gone) ≡ false

abbrev pub dir_of_entry : Option Entry → Option ℕ
dir_of_entry o = option_map (λ (e : Entry). e.0.0) o

abbrev pub inode_of_open : Option ((ℕ × ℕ) × Unit {0}) → Option ℕ
inode_of_open o = option_map (λ (x : ℕ × ℕ). x.1) (option_map (λ (x : (ℕ × ℕ) × Unit {0}). x.0) o)

pub dentry_fails : FailsGone is_dentry
dentry_fails k = ap (λ (o : Option Entry). is_some (dir_of_entry o)) (dentry_gone k)

pub dentry_in_fails : (d : ℕ) → FailsGone (is_dentry_in d)
dentry_in_fails d k = ap (λ (o : Option Entry). is_the d (dir_of_entry o)) (dentry_gone k)

pub open_fails : FailsGone is_open
open_fails k = ap (λ (o : Option ((ℕ × ℕ) × Unit {0})). is_some (inode_of_open o)) (open_gone k)

pub open_of_fails : (i : ℕ) → FailsGone (is_open_of i)
open_of_fails i k = ap (λ (o : Option ((ℕ × ℕ) × Unit {0})). is_the i (inode_of_open o)) (open_gone k)

pub session_fails : FailsGone is_session
session_fails k = ap is_some (session_gone k)

pub full_gone : (held : ℕ → Bool) (k : CellKey) → full_said held (k, Gone) ≡ None
full_gone held k = ap (option_and_then (record_held held)) (dentry_gone k)

-- ---- one write

module _ (p : Cell → Bool) (fails : FailsGone p) (m : Map key_cmp CellValue) (k : CellKey) where
  counted_once : (v : CellValue) → count p (insert m k v) + cond (p (k, value_or_gone (get m k))) 1 0 ≡ count p m + cond (p (k, v)) 1 0
  counted_once v = elim (get m k) as (λ o. get m k ≡ o → count p (insert m k v) + cond (p (k, value_or_gone o)) 1 0 ≡ count p m + cond (p (k, v)) 1 0) [
    | None ↦ λ none. let new = count-insert_new exact_key p m k v none in let out = ap (λ b. cond {A = ℕ} b 1 0) (fails k) in omega (arith, new, out)
    | Some w ↦ λ some. count-insert_over exact_key p m k w v some
  ] refl

  was_counted : cond (p (k, value_or_gone (get m k))) 1 0 ≤ count p m
  was_counted = elim (get m k) as (λ o. get m k ≡ o → cond {A = ℕ} (p (k, value_or_gone o)) 1 0 ≤ count p m) [
    | None ↦ λ none. let out = ap (λ b. cond {A = ℕ} b 1 0) (fails k) in omega (arith, out)
    | Some w ↦ λ some. let gone = count-remove exact_key p m k w some in omega (arith, gone)
  ] refl

  -- what the cell counted before goes, and what it counts now comes
  pub count_write : (v : CellValue) → count p (insert m k v) ≡ (count p m - cond (p (k, value_or_gone (get m k))) 1 0) + cond (p (k, v)) 1 0
  count_write v = let once = counted_once v in let was = was_counted in omega (arith, once, was)

at_most_one : (b : Bool) → cond {A = ℕ} b 1 0 ≤ 1
at_most_one true = omega arith
at_most_one false = omega arith

pub count_one_more : (p : Cell → Bool) → FailsGone p → (m : Map key_cmp CellValue) (k : CellKey) (v : CellValue) → count p (insert m k v) ≤ count p m + 1
count_one_more p fails m k v = let once = counted_once p fails m k v in let one = at_most_one (p (k, v)) in omega (arith, once, one)

-- ---- counts of more and of less

passing_less : (p q : Cell → Bool) (cs : List Cell) → ((c : Cell) → p c ≡ true → q c ≡ true) → passing p cs ≤ passing q cs
passing_less p q [] h = omega arith
passing_less p q (c ∷ cs) h =
    let rest = passing_less p q cs h in
    elim (p c) as (λ b. p c ≡ b → cond b 1 0 + passing p cs ≤ cond (q c) 1 0 + passing q cs) [
      | true ↦ λ t. let one = ap (λ b. cond {A = ℕ} b 1 0) (h c t) in omega (arith, rest, one)
      | false ↦ λ _. omega (arith, rest)
    ] refl

the_some : (i : ℕ) (o : Option ℕ) → is_the i o ≡ true → is_some o ≡ true
the_some i None e = absurd (true≢false (sym e))
the_some i (Some j) e = refl

pub dentries_less : (d : ℕ) (m : Map key_cmp CellValue) → count (is_dentry_in d) m ≤ count is_dentry m
dentries_less d m = passing_less (is_dentry_in d) is_dentry _ (λ c. the_some d _)

pub opens_less : (i : ℕ) (m : Map key_cmp CellValue) → count (is_open_of i) m ≤ count is_open m
opens_less i m = passing_less (is_open_of i) is_open _ (λ c. the_some i _)

-- ---- counts of lists that are made of cells

eq_sym : (a b : ℕ) → (a == b) ≡ (b == a)
eq_sym a b = grind arith

one_more : (b : Bool) (n : ℕ) → cond b (n + 1) n ≡ cond b 1 0 + n
one_more true n = omega arith
one_more false n = omega arith

pub times_the : (i : ℕ) (f : Cell → Option ℕ) (cs : List Cell) → times i (filter_map f cs) ≡ passing (λ c. is_the i (f c)) cs
times_the i f [] = refl
times_the i f (c ∷ cs) = elim (f c) as (λ o. times i (cons_option o (filter_map f cs)) ≡ cond (is_the i o) 1 0 + passing (λ c. is_the i (f c)) cs) [
  | None ↦ let rest = times_the i f cs in omega (arith, rest)
  | Some j ↦ one_more (i == j) (times i (filter_map f cs)) ∙ (λ z. cond (eq_sym i j z) 1 0 + times_the i f cs z)
]

pub length_some : {X : Type 0} (f : Cell → Option X) (cs : List Cell) → length (filter_map f cs) ≡ passing (λ c. is_some (f c)) cs
length_some f [] = refl
length_some f (c ∷ cs) = elim (f c) as (λ o. length (cons_option o (filter_map f cs)) ≡ cond (is_some o) 1 0 + passing (λ c. is_some (f c)) cs) [
  | None ↦ let rest = length_some f cs in omega (arith, rest)
  | Some x ↦ let rest = length_some f cs in omega (arith, rest)
]

pub passing_alike : (p q : Cell → Bool) → ((c : Cell) → p c ≡ q c) → (cs : List Cell) → passing p cs ≡ passing q cs
passing_alike p q h cs = λ i. passing (λ c. h c i) cs

pub passing_none : (cs : List Cell) → passing (λ (_ : Cell). false) cs ≡ 0
passing_none [] = refl
passing_none (c ∷ cs) = let rest = passing_none cs in omega (arith, rest)

pub passing_both : (b : Bool) (p : Cell → Bool) (cs : List Cell) → passing (λ c. b && p c) cs ≡ cond b (passing p cs) 0
passing_both true p cs = refl
passing_both false p cs = passing_none cs

-- two cells that pass are one, where no two pass
pub one_cell : (p : Cell → Bool) (m : Map key_cmp CellValue) → count p m ≤ 1 → (a b : CellKey) (v w : CellValue) → get m a ≡ Some v → get m b ≡ Some w → p (a, v) ≡ true → p (b, w) ≡ true → a ≡ b
one_cell p m most a b v w here there pass also = elim (cases_key exact_key b a) [
  | inl e ↦ sym e
  | inr other ↦
      let gone = count-remove exact_key p m a v here in
      let one = ap (λ c. cond {A = ℕ} c 1 0) pass in
      let left = count_some exact_key p (remove m a) b w (remove_other exact_key m a b other ∙ there) also in
      absurd (omega (arith, most, gone, one, left))
]
