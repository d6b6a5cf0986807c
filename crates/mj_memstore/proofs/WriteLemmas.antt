-- Bytes written over others, and behind them.
use Rattle.std.proofs.Common.{◌≡◌, ℕ, suc, ◌+◌, ◌-◌, ◌<◌, ◌≤◌, min, List, [], ◌∷◌, ◌++◌, length, take, drop, set, get_or, replicate, sym, ap, ◌∙◌, append_assoc, length-append, length-drop, arith, inl, inr}
use Rattle.std.proofs.Math.Seq.{drop-cons, take-length}
use Rattle.std.proofs.Math.ListN.{drop_of_length-le}
use Rattle.std.proofs.lemmas.List.{take_more, length-take-le, length-replicate, set-append_right, take-append-drop, append-nil}
use Rattle.std.proofs.lemmas.Bool.{cases_lt}
use Rattle.mj_store.specs.Object.{written}

set_first : (xs : List ℕ) (x y : ℕ) (ys : List ℕ) → xs ≡ y ∷ ys → set xs 0 x ≡ x ∷ ys
set_first xs x y ys e = ap (λ (l : List ℕ). set l 0 x) e

-- one byte more
pub overwrite_more : (b n : List ℕ) (at i x : ℕ) → i < length n → at + length n ≤ length b → x ≡ get_or n i x
    → set (take at b ++ take i n ++ drop (at + i) b) (at + i) x ≡ take at b ++ take (i + 1) n ++ drop (at + (i + 1)) b
overwrite_more b n at i x lt le e =
    let front = take at b ++ take i n in
    let len : length front ≡ at + i = length-append (take at b) (take i n) ∙ (λ k. length-take-le at b (omega arith) k + length-take-le i n (omega arith) k) in
    let next : suc (at + i) ≡ at + (i + 1) = omega arith in
    let rest : drop (at + i) b ≡ get_or b (at + i) 0 ∷ drop (at + (i + 1)) b = drop-cons b (at + i) 0 (omega arith) ∙ ap (λ k. get_or b (at + i) 0 ∷ drop k b) next in
    let there : (at + i) - (at + i) ≡ 0 = omega arith in
    set-append_right front (drop (at + i) b) (at + i) (at + i) x len (omega arith)
    ∙ ap (λ (k : ℕ). front ++ set (drop (at + i) b) k x) there
    ∙ ap (λ (l : List ℕ). front ++ l) (set_first (drop (at + i) b) x (get_or b (at + i) 0) (drop (at + (i + 1)) b) rest)
    ∙ sym (append_assoc front (x ∷ []) (drop (at + (i + 1)) b))
    ∙ ap (λ (l : List ℕ). l ++ drop (at + (i + 1)) b) (append_assoc (take at b) (take i n) (x ∷ []) ∙ ap (λ (l : List ℕ). take at b ++ l) (ap (λ y. take i n ++ y ∷ []) e ∙ sym (take_more n i x lt)))

-- nothing is written yet
pub overwrite_none : (b : List ℕ) (at : ℕ) → take at b ++ [] ++ drop (at + 0) b ≡ b
overwrite_none b at =
    let same : at + 0 ≡ at = omega arith in
    ap (λ (k : ℕ). take at b ++ [] ++ drop k b) same ∙ ap (λ (l : List ℕ). l ++ drop at b) (append-nil (take at b)) ∙ take-append-drop at b

-- the front up to `at`, filled with zeros
filled_front : (at : ℕ) (b : List ℕ) → take at (b ++ replicate (at - length b) 0) ≡ take at b ++ replicate (at - length b) 0
filled_front at b = elim (cases_lt (length b) at) [
  | inl lt ↦
      let f = b ++ replicate (at - length b) 0 in
      let len : length f ≡ at = length-append b (replicate (at - length b) 0) ∙ ap (λ k. length b + k) (length-replicate (at - length b) 0) ∙ omega arith in
      ap (λ k. take k f) (sym len) ∙ take-length f ∙ ap (λ (l : List ℕ). l ++ replicate (at - length b) 0) (sym (take_whole b at (omega arith)))
  | inr ge ↦
      let none : at - length b ≡ 0 = omega arith in
      ap (λ k. take at (b ++ replicate k 0)) none ∙ ap (λ (l : List ℕ). take at l) (append-nil b) ∙ sym (ap (λ k. take at b ++ replicate k 0) none ∙ append-nil (take at b))
]
  where
    take_whole : (xs : List ℕ) (n : ℕ) → length xs ≤ n → take n xs ≡ xs
    take_whole xs n le = sym (append-nil (take n xs)) ∙ ap (λ (l : List ℕ). take n xs ++ l) (sym (drop_of_length-le xs le)) ∙ take-append-drop n xs

-- what is behind the written bytes
filled_back : (end at : ℕ) (b : List ℕ) → at ≤ end → drop end (b ++ replicate (at - length b) 0) ≡ drop end b
filled_back end at b le = elim (cases_lt (length b) at) [
  | inl lt ↦
      let len : length (b ++ replicate (at - length b) 0) ≡ at = length-append b (replicate (at - length b) 0) ∙ ap (λ k. length b + k) (length-replicate (at - length b) 0) ∙ omega arith in
      drop_of_length-le (b ++ replicate (at - length b) 0) (omega (arith, len)) ∙ sym (drop_of_length-le b (omega arith))
  | inr ge ↦ let none : at - length b ≡ 0 = omega arith in ap (λ k. drop end (b ++ replicate k 0)) none ∙ ap (drop end) (append-nil b)
]

-- The first `kept` bytes stand over others, and the rest behind them.
pub written_is : (at kept : ℕ) (new b f : List ℕ) → f ≡ b ++ replicate (at - length b) 0 → kept ≡ min (length new) (length f - at)
    → (take at f ++ take kept new ++ drop (at + length (take kept new)) f) ++ drop kept new ≡ written at new b
written_is at kept new b f is k = elim (cases_lt (length new) (length f - at)) [
  | inl lt ↦
      let all : kept ≡ length new = omega (arith, k) in
      let whole : take kept new ≡ new = ap (λ n. take n new) all ∙ take-length new in
      let none : drop kept new ≡ [] = drop_of_length-le new (omega arith) in
      ap (λ (l : List ℕ). (take at f ++ take kept new ++ drop (at + length (take kept new)) f) ++ l) none
      ∙ append-nil (take at f ++ take kept new ++ drop (at + length (take kept new)) f)
      ∙ ap (λ (l : List ℕ). take at f ++ l ++ drop (at + length l) f) whole
      ∙ ap (λ (l : List ℕ). take at l ++ new ++ drop (at + length new) l) is
      ∙ (λ i. filled_front at b i ++ new ++ filled_back (at + length new) at b (omega arith) i)
  | inr ge ↦
      let some : kept ≡ length f - at = omega (arith, k) in
      let len : length (take kept new) ≡ kept = length-take-le kept new (omega arith) in
      let past : drop (at + length (take kept new)) f ≡ [] = drop_of_length-le f (omega (arith, len)) in
      let over : drop (at + length new) f ≡ [] = drop_of_length-le f (omega arith) in
      ap (λ (l : List ℕ). (take at f ++ take kept new ++ l) ++ drop kept new) past
      ∙ ap (λ (l : List ℕ). l ++ drop kept new) (append-nil (take at f ++ take kept new))
      ∙ append_assoc (take at f) (take kept new) (drop kept new)
      ∙ ap (λ (l : List ℕ). take at f ++ l) (take-append-drop kept new)
      ∙ sym (append-nil (take at f ++ new)) ∙ ap (λ (l : List ℕ). take at f ++ new ++ l) (sym over)
      ∙ ap (λ (l : List ℕ). take at l ++ new ++ drop (at + length new) l) is
      ∙ (λ i. filled_front at b i ++ new ++ filled_back (at + length new) at b (omega arith) i)
]

-- the slice from a place on
pub tail_is : (n : ℕ) (xs : List ℕ) → take (length xs - n) (drop n xs) ≡ drop n xs
tail_is n xs = ap (λ k. take k (drop n xs)) (sym (length-drop n xs)) ∙ take-length (drop n xs)
